-- Atoms: the first byte, and the one after a backslash, tell what an atom is.
--   answer: what is said of everything that can be read, with one thing that can be
--   leaf_empty, leaf_nothing: an atom without a position was read
--   leaf_some, leaf_room, leaf_single: one with a position can be read; there is room for it; it was read
use Prim.Native.Nat.{ℕ, ◌+◌, ◌<◌}
use Prim.Native.Char.{code}
use mathlib.Core.Path.{◌≡◌, refl, sym, ◌∙◌}
use mathlib.Core.Bool.{true, false}
use mathlib.Core.List.{List}
use native.Mathlib.Decide.{ℕ_discrete}
use native.Mathlib.Omega.{arith}
use Rattle.scope.specs.Bytes.{byte}
use Rattle.scope.specs.Text.Grammar.{escapable, Single, Level, atoms, Reads, single, no_byte, no_word, in_group}
use Rattle.scope.specs.Limits.{byte_values, position_limit}
use Rattle.scope.specs.Text.Tree.{Leaf, Tree, nothing, empty, position, set_of, expr}
use Rattle.scope.proofs.Text.Grammar.{single_on, reads_on, single_back}
use Rattle.fragments.specs.declared.Fragment.{Fragment}
use Rattle.leaves.specs.ReadAt.{Backslash, Some, EndsAt}
use Rattle.factors.specs.Tails.{WholeLevel}
use Rattle.fragments.specs.Shapes.{Alone, Blank}
use Rattle.factors.specs.Answer.{Readable, ReadTree, Answer}
use Rattle.factors.proofs.ReadsIn.{reads_in}
use Rattle.leaves.proofs.ByteByByte.{single_in}
use Rattle.leaves.proofs.ClassItems.{some}
use Rattle.factors.proofs.Rights.{right_alone, right_empty, right_nothing}

-- one thing that can be read tells how far every one goes
pub answer : {l : Level} {s : List ℕ} {i k : ℕ} {w w' : List ℕ} {g : Fragment} → Readable l k s i → ((j : ℕ) (t : Tree) → WholeLevel l s i j t → ReadTree t k w w' g j) → Answer l s i k w w' g
answer p f =
    let e = (f p.end p.tree p.whole).next in
    record { on = omega (arith, reads_on p.whole.0); inside = omega (arith, reads_in p.whole.0); says = f }

module _ {s : List ℕ} where
  -- ---- outside of parentheses

  is_empty : {i j : ℕ} {t : Tree} → byte s i ≡ code "\\" → byte s (i + 1) ≡ code "e" → Reads s atoms i j t → (i + 2 ≡ j) × (t ≡ empty)
  unfolding escapable
  is_empty h e (single x) = absurd (single_back x h (code "e") e refl (λ z. omega arith))
  is_empty h e (no_byte h' k) = (refl, refl)
  is_empty h e (no_word h' k) = absurd (omega arith)
  is_empty h e (in_group h' r k) = absurd (omega arith)

  is_nothing : {i j : ℕ} {t : Tree} → byte s i ≡ code "\\" → byte s (i + 1) ≡ code "0" → Reads s atoms i j t → (i + 2 ≡ j) × (t ≡ nothing)
  unfolding escapable
  is_nothing h e (single x) = absurd (single_back x h (code "0") e refl (λ z. omega arith))
  is_nothing h e (no_byte h' k) = absurd (omega arith)
  is_nothing h e (no_word h' k) = (refl, refl)
  is_nothing h e (in_group h' r k) = absurd (omega arith)

  is_single : {i j b : ℕ} {t : Tree} → (byte s i ≡ code "(" → ⊥) → Backslash s i b → (b ≡ code "e" → ⊥) → (b ≡ code "0" → ⊥) → Reads s atoms i j t → (x : Leaf) × Single s i j x × (t ≡ position i x)
  is_single n p e z (single x) = (_, x, refl)
  is_single n p e z (no_byte h k) = absurd (e (p.yes h ∙ k))
  is_single n p e z (no_word h k) = absurd (z (p.yes h ∙ k))
  is_single n p e z (in_group h r k) = absurd (n h)

  -- a byte after a backslash that is no 256
  behind : {i b c : ℕ} → Backslash s i b → b ≡ c → (c ≡ byte_values → ⊥) → (byte s i ≡ code "\\") × (byte s (i + 1) ≡ c)
  behind {i} p e n = elim (ℕ_discrete (byte s i) (code "\\")) [ yes h ↦ (h, sym (p.yes h) ∙ e) | no h ↦ absurd (n (sym e ∙ p.no h)) ]

  module _ {i k b : ℕ} (p : Readable atoms k s i) (q : Backslash s i b) where
    pub leaf_empty : {w : List ℕ} {g : Fragment} → b ≡ code "e" → Blank (i + 2) k true g → Answer atoms s i k w w g
    unfolding expr
    leaf_empty e m = answer p (λ j t r. let (h, d) = behind q e (λ z. omega arith) in let (o, u) = is_empty h d r.0 in record { next = m.nexts ∙ o; right = rw u (right_empty m) })

    pub leaf_nothing : {w : List ℕ} {g : Fragment} → b ≡ code "0" → Blank (i + 2) k false g → Answer atoms s i k w w g
    unfolding expr
    leaf_nothing e m = answer p (λ j t r. let (h, d) = behind q e (λ z. omega arith) in let (o, u) = is_nothing h d r.0 in record { next = m.nexts ∙ o; right = rw u (right_nothing m) })

    module _ (n : byte s i ≡ code "(" → ⊥) (e : b ≡ code "e" → ⊥) (z : b ≡ code "0" → ⊥) where
      pub leaf_some : Some Single s i
      leaf_some = let (x, r, d) = is_single n q e z p.whole.0 in some Single p.short r (single_on r) (single_in r)

      pub leaf_room : k < position_limit
      unfolding expr
      leaf_room = let (x, r, d) = is_single n q e z p.whole.0 in omega (arith, rw d at p.brief)

      pub leaf_single : {w w' : List ℕ} {r : ℕ} {g : Fragment} → EndsAt Single s i r → Alone r k w w' g → Answer atoms s i k w w' g
      unfolding expr
      leaf_single t m = answer p (λ j u v. let (x, r, d) = is_single n q e z v.0 in record { next = m.nexts ∙ t.says j x r; right = rw d (right_alone (set_of x) m) })
