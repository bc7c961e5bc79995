-- What the grammar reads.
--   mark_inside: a mark stands inside of the text
--   reads_in: what is read ends inside of it
use Prim.Native.Nat.{ℕ, ◌+◌, ◌<◌, ◌≤◌}
use mathlib.Core.Path.{◌≡◌, refl}
use mathlib.Core.Bool.{true}
use mathlib.Core.List.{List}
use native.Mathlib.Omega.{arith}
use lib.ListN.{length}
use Rattle.scope.specs.Bytes.{byte}
use Rattle.scope.specs.Text.Tree.{Tree}
use Rattle.scope.specs.Text.Grammar.{is_mark, Level, Reads, single, no_byte, no_word, in_group, one_atom, one_mark, one_factor, next_factor, one_branch, next_branch}
use Rattle.scope.proofs.Text.Grammar.{other}
use Rattle.scope.proofs.Text.Marks.{marks}
use Rattle.leaves.proofs.ByteByByte.{inside, single_in}

pub mark_inside : (s : List ℕ) (i : ℕ) → is_mark (byte s i) ≡ true → i < length s
unfolding is_mark
mark_inside s i h = inside s i (other is_mark h refl)

module _ {s : List ℕ} where
  pub reads_in : {l : Level} {i j : ℕ} {t : Tree} → Reads s l i j t → j ≤ length s
  reads_in (single x) = single_in x
  reads_in {i = i} (no_byte h k) = omega (arith, inside s (i + 1) (λ e. omega arith))
  reads_in {i = i} (no_word h k) = omega (arith, inside s (i + 1) (λ e. omega arith))
  reads_in (in_group {j = j} h r k) = omega (arith, inside s j (λ e. omega arith))
  reads_in (one_atom r) = reads_in r
  reads_in (one_mark {j = j} m r h) = omega (arith, mark_inside s j ((marks (byte s j)).full (m, h)))
  reads_in (one_factor r) = reads_in r
  reads_in (next_factor r q) = reads_in q
  reads_in (one_branch r) = reads_in r
  reads_in (next_branch r h q) = reads_in q
