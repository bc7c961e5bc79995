-- The line end in a word: the dot does not hold it and no literal is it, so that a class or an escape names it wherever a word has it.
--   held_named: a position that holds the line end stands where the text names it
--   line_end_leads: so from any set of positions a line end leads only to such positions
--   line_end_named: and each line end of a word is taken at one
--   accepted_named: so is each of a string that a compiled room accepts
use Prim.Native.Nat.{ℕ, ◌+◌, ◌-◌, ◌≤◌}
use mathlib.Core.Path.{◌≡◌, refl, ap, ◌∙◌}
use mathlib.Core.Bool.{true, false≢true}
use mathlib.Core.Logic.{◌⊎◌, inl, inr}
use mathlib.Core.List.{List, [], ◌∷◌, ◌++◌}
use native.Mathlib.Omega.{arith}
use lib.ListN.{length, get_or, get_or-append}
use lib.Seq.{get_or-append-add}
use Rattle.scope.specs.Answers.{DONE}
use Rattle.scope.specs.Bytes.{Bytes, byte}
use Rattle.scope.specs.Machines.Machine.{walk, Accepts}
use Rattle.scope.specs.Machines.Room.{machine}
use Rattle.scope.specs.Operations.Compile.{Compiles}
use Rattle.scope.specs.Positions.Bits.{has, move}
use Rattle.scope.specs.Positions.Sets.{At, Path, to}
use Rattle.scope.specs.Text.Grammar.{literal, Single, a_dot, a_literal, an_escape, a_class, Level, Reads, single, no_byte, no_word, in_group, one_atom, one_mark, one_factor, next_factor, one_branch, next_branch}
use Rattle.scope.specs.Text.Judge.{Pattern}
use Rattle.scope.specs.Text.Re.{Words, size}
use Rattle.scope.specs.Text.Tree.{Leaf, Tree, dot_set, set_of, expr, places}
use Rattle.scope.proofs.Counting.Tests.{equals}
use Rattle.scope.proofs.Operations.Compile.{compiled_exact}
use Rattle.scope.proofs.Positions.Glushkov.{PositionOf, at_in, glushkov}
use Rattle.scope.proofs.Positions.Marked.{at_marked}
use Rattle.scope.proofs.Positions.Moves.{move_is}
use Rattle.scope.proofs.Text.Grammar.{other}
use Rattle.pattern.specs.Named.{Names, in_class, as_escape, TakenAt}
use Rattle.pattern.proofs.Whole.{places_size}

-- ---- the place of a position

-- the position p, where k stand to the left of the tree
abbrev place : Tree → ℕ → ℕ → ℕ
place t k p = get_or (places t) (p - (k + 1)) 0

module _ (t u : Tree) (k p : ℕ) where
  left_place : PositionOf (expr t) k p → get_or (places t ++ places u) (p - (k + 1)) 0 ≡ place t k p
  left_place h = get_or-append (places t) (places u) 0 (p - (k + 1)) (omega (arith, h, places_size t))

  right_place : PositionOf (expr u) (k + size (expr t)) p → get_or (places t ++ places u) (p - (k + 1)) 0 ≡ place u (k + size (expr t)) p
  right_place h =
      let e : p - (k + 1) ≡ length (places t) + (p - (k + size (expr t) + 1)) = omega (arith, h, places_size t) in
      ap (λ (n : ℕ). get_or (places t ++ places u) n 0) e ∙ get_or-append-add (places t) (places u) (p - (k + size (expr t) + 1)) 0

-- ---- the line end

module _ {s : List ℕ} where
  leaf_named : {i j : ℕ} {x : Leaf} → Single s i j x → set_of x 0x0A ≡ true → Names s 0x0A i
  unfolding literal dot_set set_of
  leaf_named (a_dot h) e = absurd (false≢true e)
  leaf_named (a_literal {i = i} h) e = absurd (other literal h refl ((equals 0x0A (byte s i)).sound e))
  leaf_named (an_escape {b = b} x) e = as_escape (rw ((equals 0x0A b).sound e) at x)
  leaf_named (a_class h l m) e = in_class (a_class h l m) e

  -- one of two parts holds it
  part_named : (t u : Tree) (k p : ℕ) → (At (expr t) k p 0x0A → Names s 0x0A (place t k p)) → (At (expr u) (k + size (expr t)) p 0x0A → Names s 0x0A (place u (k + size (expr t)) p))
      → At (expr t) k p 0x0A ⊎ At (expr u) (k + size (expr t)) p 0x0A → Names s 0x0A (get_or (places t ++ places u) (p - (k + 1)) 0)
  part_named t u k p f g (inl a) = rw (left_place t u k p (at_in (expr t) k p 0x0A a)) (f a)
  part_named t u k p f g (inr a) = rw (right_place t u k p (at_in (expr u) (k + size (expr t)) p 0x0A a)) (g a)

  pub held_named : {l : Level} {i j : ℕ} {t : Tree} → Reads s l i j t → (k p : ℕ) → At (expr t) k p 0x0A → Names s 0x0A (place t k p)
  unfolding expr places
  held_named (single x) k p (e, h) = let z : p - (k + 1) ≡ 0 = omega arith in rw z (leaf_named x h)
  held_named (no_byte h e) k p a = absurd a
  held_named (no_word h e) k p a = absurd a
  held_named (in_group h r e) k p a = held_named r k p a
  held_named (one_atom r) k p a = held_named r k p a
  held_named (one_mark {t = t} m r h) k p a = held_named r k p (at_marked m (expr t) k p 0x0A a)
  held_named (one_factor r) k p a = held_named r k p a
  held_named (next_factor {t = t} {u = u} r x) k p a = part_named t u k p (λ b. held_named r k p b) (λ b. held_named x (k + size (expr t)) p b) a
  held_named (one_branch r) k p a = held_named r k p a
  held_named (next_branch {t = t} {u = u} r h x) k p a = part_named t u k p (λ b. held_named r k p b) (λ b. held_named x (k + size (expr t)) p b) a

  -- ---- sets and words

  module _ {t : Tree} (r : Pattern s t) where
    pub line_end_leads : (x q : ℕ) → has (move (expr t) x 0x0A) q ≡ true → Names s 0x0A (place t 0 q)
    line_end_leads x q h = held_named r 0 q ((move_is (expr t) x 0x0A q).sound h).1

    module _ (v : List ℕ) where
      -- where a path from p takes a line end: a set that has p leads there
      comes : (x p : ℕ) → p ≤ size (expr t) → has x p ≡ true → (u : List ℕ) → Path (expr t) p (u ++ 0x0A ∷ v)
          → (q : ℕ) × (has (walk (move (expr t)) x (u ++ 0x0A ∷ [])) q ≡ true) × At (expr t) 0 q 0x0A × Path (expr t) q v
      comes x p h y [] (to {q = q} g a w) = (q, (move_is (expr t) x 0x0A q).full ((p, h, y, g), a), a, w)
      comes x p h y (c ∷ u) (to {q = q} g a w) =
          comes (move (expr t) x c) q (omega (arith, at_in (expr t) 0 q c a)) ((move_is (expr t) x c q).full ((p, h, y, g), a)) u w

      pub line_end_named : (u : List ℕ) → Words (expr t) (u ++ 0x0A ∷ v) → (q : ℕ) × TakenAt s t u 0x0A v q
      line_end_named u w =
          let (q, y, a, z) = comes 1 0 (omega arith) refl u ((glushkov (expr t) (u ++ 0x0A ∷ v)).0 w) in
          (q, record { reached = y; onward = z; named = held_named r 0 q a })

      pub accepted_named : {room room' bytes bytes' words words' : List ℕ} → Compiles s room room' bytes bytes' words words' DONE 0 → (u : List ℕ) → Bytes (u ++ 0x0A ∷ v)
          → Accepts (machine room') (u ++ 0x0A ∷ v) → (q : ℕ) × TakenAt s t u 0x0A v q
      accepted_named x u g a = line_end_named u ((compiled_exact x t r (u ++ 0x0A ∷ v) g).0 a)
