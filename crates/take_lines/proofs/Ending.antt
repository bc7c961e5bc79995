-- The first and the second line of an input that goes on. By induction on what came before; the tests are on its line ends.
--   ends_join: line ends add up
--   first_on, first_over: the first line goes on while it is not ended, and then stays
--   second_before, second_on, second_over: so does the second, which is empty before
use Prim.Native.Nat.{ℕ, suc, ◌+◌, ◌-◌, ◌≤◌}
use mathlib.Core.Path.{◌≡◌, refl, sym, ap, ◌∙◌}
use mathlib.Core.Bool.{true, false}
use mathlib.Core.List.{List, [], ◌∷◌, ◌++◌, append-nil}
use mathlib.Core.Logic.{inl, inr}
use native.Mathlib.Omega.{arith}
use lib.Dec.{eqb}
use borrow.Author.Tests.{eq-eqb, ne_eqb}
use Rattle.scope.proofs.Counting.Tests.{which, split}
use Rattle.scope.specs.Lines.{first_line, second_line, further}
use Rattle.take_lines.specs.Taking.{line_ends}

-- the first byte is a line end, or not
ends_here : (b : ℕ) (s : List ℕ) → eqb b 0x0A ≡ true → line_ends (b ∷ s) ≡ suc (line_ends s)
unfolding line_ends
ends_here b s e = rw e

ends_past : (b : ℕ) (s : List ℕ) → eqb b 0x0A ≡ false → line_ends (b ∷ s) ≡ line_ends s
unfolding line_ends
ends_past b s e = rw e

first_here : (b : ℕ) (s : List ℕ) → eqb b 0x0A ≡ true → first_line (b ∷ s) ≡ []
unfolding first_line
first_here b s e = rw e

first_past : (b : ℕ) (s : List ℕ) → eqb b 0x0A ≡ false → first_line (b ∷ s) ≡ b ∷ first_line s
unfolding first_line
first_past b s e = rw e

further_here : (b : ℕ) (s : List ℕ) → eqb b 0x0A ≡ true → further (b ∷ s) ≡ s
unfolding further
further_here b s e = rw e

further_past : (b : ℕ) (s : List ℕ) → eqb b 0x0A ≡ false → further (b ∷ s) ≡ further s
unfolding further
further_past b s e = rw e

-- ---- going on

pub ends_join : (s t : List ℕ) → line_ends (s ++ t) ≡ line_ends s + line_ends t
unfolding line_ends
ends_join [] t = omega arith
ends_join (b ∷ s) t =
    elim (which (eqb b 0x0A)) [
      | inl e ↦ omega (arith, ends_here b (s ++ t) e, ends_here b s e, ends_join s t)
      | inr e ↦ omega (arith, ends_past b (s ++ t) e, ends_past b s e, ends_join s t)
    ]

pub first_on : (s t : List ℕ) → line_ends s ≡ 0 → first_line (s ++ t) ≡ first_line s ++ first_line t
unfolding first_line
first_on [] t h = refl
first_on (b ∷ s) t h =
    elim (which (eqb b 0x0A)) [
      | inl e ↦ absurd (omega (arith, ends_here b s e))
      | inr e ↦
          first_past b (s ++ t) e
          ∙ ap (λ l. b ∷ l) (first_on s t (omega (arith, ends_past b s e)))
          ∙ sym (ap (λ l. l ++ first_line t) (first_past b s e))
    ]

pub first_over : (s t : List ℕ) → 1 ≤ line_ends s → first_line (s ++ t) ≡ first_line s
unfolding line_ends
first_over [] t h = absurd (omega arith)
first_over (b ∷ s) t h =
    elim (which (eqb b 0x0A)) [
      | inl e ↦ first_here b (s ++ t) e ∙ sym (first_here b s e)
      | inr e ↦
          first_past b (s ++ t) e ∙ ap (λ l. b ∷ l) (first_over s t (omega (arith, ends_past b s e))) ∙ sym (first_past b s e)
    ]

further_before : (s t : List ℕ) → line_ends s ≡ 0 → further (s ++ t) ≡ further t
further_before [] t h = refl
further_before (b ∷ s) t h =
    elim (which (eqb b 0x0A)) [
      | inl e ↦ absurd (omega (arith, ends_here b s e))
      | inr e ↦ further_past b (s ++ t) e ∙ further_before s t (omega (arith, ends_past b s e))
    ]

further_on : (s t : List ℕ) → 1 ≤ line_ends s → further (s ++ t) ≡ further s ++ t
unfolding line_ends
further_on [] t h = absurd (omega arith)
further_on (b ∷ s) t h =
    elim (which (eqb b 0x0A)) [
      | inl e ↦ further_here b (s ++ t) e ∙ sym (ap (λ l. l ++ t) (further_here b s e))
      | inr e ↦
          further_past b (s ++ t) e ∙ further_on s t (omega (arith, ends_past b s e)) ∙ sym (ap (λ l. l ++ t) (further_past b s e))
    ]

further_ends : (s : List ℕ) → line_ends (further s) ≡ line_ends s - 1
unfolding line_ends further
further_ends [] = refl
further_ends (b ∷ s) =
    elim (which (eqb b 0x0A)) [
      | inl e ↦ omega (arith, ap line_ends (further_here b s e), ends_here b s e)
      | inr e ↦ omega (arith, ap line_ends (further_past b s e), ends_past b s e, further_ends s)
    ]

-- no line stands behind nothing, nor behind one byte
nothing : further [] ≡ []
unfolding further
nothing = refl

further_one : (b : ℕ) → further (b ∷ []) ≡ []
unfolding further
further_one b = elim (which (eqb b 0x0A)) [ inl e ↦ further_here b [] e | inr e ↦ further_past b [] e ]

pub second_before : (s : List ℕ) (b : ℕ) → line_ends s ≡ 0 → second_line (s ++ (b ∷ [])) ≡ second_line s
unfolding second_line
second_before s b h = ap first_line (further_before s (b ∷ []) h ∙ further_one b ∙ sym none)
  where
    none : further s ≡ []
    none = ap further (sym (append-nil s)) ∙ further_before s [] h ∙ nothing

pub second_on : (s t : List ℕ) → line_ends s ≡ 1 → second_line (s ++ t) ≡ second_line s ++ first_line t
unfolding second_line
second_on s t h = ap first_line (further_on s t (omega arith)) ∙ first_on (further s) t (omega (arith, further_ends s))

pub second_over : (s t : List ℕ) → 2 ≤ line_ends s → second_line (s ++ t) ≡ second_line s
unfolding second_line
second_over s t h = ap first_line (further_on s t (omega arith)) ∙ first_over (further s) t (omega (arith, further_ends s))

-- ---- one byte more

one_end : (b : ℕ) → b ≡ 0x0A → (line_ends (b ∷ []) ≡ 1) × (first_line (b ∷ []) ≡ [])
unfolding line_ends
one_end b e = (ends_here b [] (eq-eqb b 0x0A e), first_here b [] (eq-eqb b 0x0A e))

one_byte : (b : ℕ) → (b ≡ 0x0A → ⊥) → (line_ends (b ∷ []) ≡ 0) × (first_line (b ∷ []) ≡ b ∷ [])
unfolding line_ends first_line
one_byte b e = (ends_past b [] (ne_eqb b 0x0A e), first_past b [] (ne_eqb b 0x0A e))

pub ends_end : (s : List ℕ) (b : ℕ) → b ≡ 0x0A → line_ends (s ++ (b ∷ [])) ≡ line_ends s + 1
ends_end s b e = omega (arith, ends_join s (b ∷ []), one_end b e)

pub ends_byte : (s : List ℕ) (b : ℕ) → (b ≡ 0x0A → ⊥) → line_ends (s ++ (b ∷ [])) ≡ line_ends s
ends_byte s b e = omega (arith, ends_join s (b ∷ []), one_byte b e)

-- a line end is no part of a line
pub first_end : (s : List ℕ) (b : ℕ) → b ≡ 0x0A → first_line (s ++ (b ∷ [])) ≡ first_line s
first_end s b e =
    elim (split 0 (line_ends s)) [
      | inl some ↦ first_over s (b ∷ []) some
      | inr none ↦ first_on s (b ∷ []) (omega arith) ∙ ap (λ l. first_line s ++ l) (one_end b e).1 ∙ append-nil (first_line s)
    ]

pub second_end : (s : List ℕ) (b : ℕ) → b ≡ 0x0A → second_line (s ++ (b ∷ [])) ≡ second_line s
second_end s b e =
    elim (split 0 (line_ends s)) [
      | inr none ↦ second_before s b (omega arith)
      | inl some ↦
          elim (split 1 (line_ends s)) [
            | inl two ↦ second_over s (b ∷ []) two
            | inr one ↦ second_on s (b ∷ []) (omega arith) ∙ ap (λ l. second_line s ++ l) (one_end b e).1 ∙ append-nil (second_line s)
          ]
    ]

-- any other byte belongs to the line that is not ended
pub first_byte : (s : List ℕ) (b : ℕ) → (b ≡ 0x0A → ⊥) → line_ends s ≡ 0 → first_line (s ++ (b ∷ [])) ≡ first_line s ++ (b ∷ [])
first_byte s b e h = first_on s (b ∷ []) h ∙ ap (λ l. first_line s ++ l) (one_byte b e).1

pub second_byte : (s : List ℕ) (b : ℕ) → (b ≡ 0x0A → ⊥) → line_ends s ≡ 1 → second_line (s ++ (b ∷ [])) ≡ second_line s ++ (b ∷ [])
second_byte s b e h = second_on s (b ∷ []) h ∙ ap (λ l. second_line s ++ l) (one_byte b e).1
