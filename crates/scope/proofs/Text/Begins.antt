-- What the grammar reads begins with a byte that begins an atom.
--   starts_atom: those bytes
--   reads_begins: it begins with one of them
--   not_mark: and so with no mark
use Prim.Native.Nat.{ℕ}
use Prim.Native.Char.{code}
use mathlib.Core.Path.{◌≡◌, refl}
use mathlib.Core.Bool.{true, false, ◌||◌}
use mathlib.Core.List.{List}
use lib.Dec.{eqb}
use Rattle.scope.specs.Bytes.{ByteSet, byte}
use Rattle.scope.specs.Text.Tree.{Leaf, Tree}
use Rattle.scope.specs.Text.Grammar.{literal, is_mark, Single, a_dot, a_literal, an_escape, a_class, Level, Reads, single, no_byte, no_word, in_group, one_atom, one_mark, one_factor, next_factor, one_branch, next_branch}
use Rattle.scope.proofs.Text.Grammar.{escape_head}
use Rattle.scope.proofs.Text.Marks.{mark_other}

unfoldable pub starts_atom : ByteSet
unfolding literal
starts_atom b = literal b || (eqb b (code "(") || (eqb b (code ".") || (eqb b (code "[") || eqb b (code "\\"))))

module _ {s : List ℕ} where
  single_begins : {i j : ℕ} {x : Leaf} → Single s i j x → starts_atom (byte s i) ≡ true
  unfolding starts_atom
  single_begins (a_dot h) = rw h refl
  single_begins (a_literal h) = rw h refl
  single_begins (an_escape x) = rw (escape_head x) refl
  single_begins (a_class h l k) = rw h refl

  pub reads_begins : {l : Level} {i j : ℕ} {t : Tree} → Reads s l i j t → starts_atom (byte s i) ≡ true
  unfolding starts_atom
  reads_begins (single x) = single_begins x
  reads_begins (no_byte h k) = rw h refl
  reads_begins (no_word h k) = rw h refl
  reads_begins (in_group h r k) = rw h refl
  reads_begins (one_atom r) = reads_begins r
  reads_begins (one_mark m r h) = reads_begins r
  reads_begins (one_factor r) = reads_begins r
  reads_begins (next_factor r q) = reads_begins r
  reads_begins (one_branch r) = reads_begins r
  reads_begins (next_branch r h q) = reads_begins r

  pub not_mark : {l : Level} {i j : ℕ} {t : Tree} → Reads s l i j t → is_mark (byte s i) ≡ false
  unfolding starts_atom
  not_mark r = mark_other starts_atom (reads_begins r) refl refl refl
