-- What is carried over as more is read; the marks after an atom, turn by turn: there is one more exactly if the next byte is a mark.
--   carried_none, carried_more: nothing more was read; some more
--   mark_last: where the next byte is no mark, none is left
--   mark_fit, mark_turn: one more mark
use Prim.Native.Nat.{ℕ, ◌+◌, ◌<◌}
use Prim.Native.Char.{code}
use mathlib.Core.Path.{◌≡◌, refl, sym, subst, ◌∙◌}
use mathlib.Core.Bool.{Bool, true, not}
use mathlib.Core.List.{List}
use native.Mathlib.Omega.{arith}
use lib.Dec.{eqb}
use lib.ListN.{length}
use Rattle.scope.specs.Bytes.{byte}
use Rattle.scope.specs.Text.Grammar.{is_mark, mark_byte, factors}
use Rattle.scope.specs.Text.Tree.{Mark, many, some, maybe, Tree, marked, expr}
use Rattle.scope.proofs.Text.Marks.{marks, mark_one, unmarked}
use Rattle.scope.proofs.Positions.Marked.{repeats, skips}
use Rattle.sets.specs.Value.{set_bits}
use Rattle.fragments.specs.declared.Fragment.{Fragment}
use Rattle.fragments.specs.Shapes.{WithMark}
use Rattle.factors.specs.Tails.{EndsLevel, MarksLeft, done, a_mark}
use Rattle.factors.specs.Answer.{Fit, Carried}
use Rattle.factors.proofs.Rights.{right_marked}

pub carried_none : (s : List ℕ) (k : ℕ) (w : List ℕ) (g : Fragment) → Carried s k w g w g
carried_none s k w g = record { says = λ w₀ u j e q. q }

pub carried_more : {s : List ℕ} {k : ℕ} {w w' w'' : List ℕ} {g g' g'' : Fragment} → Carried s k w g w' g' → Carried s k w' g' w'' g'' → Carried s k w g w'' g''
carried_more a b = record { says = λ w₀ u j e q. b.says w₀ u j e (a.says w₀ u j e q) }

-- ---- marks

-- what a mark does, by its byte
mark_repeats : (m : Mark) {b : ℕ} → b ≡ mark_byte m → not (eqb b (code "?")) ≡ repeats m
mark_repeats many h = rw h refl
mark_repeats some h = rw h refl
mark_repeats maybe h = rw h refl

mark_skips : (m : Mark) {b : ℕ} → b ≡ mark_byte m → not (eqb b (code "+")) ≡ skips m
mark_skips many h = rw h refl
mark_skips some h = rw h refl
mark_skips maybe h = rw h refl

module _ {s : List ℕ} where
  mark_next : {n j : ℕ} {t u : Tree} (m : Mark) → MarksLeft s t n u j → EndsLevel factors (byte s j) → byte s n ≡ mark_byte m → MarksLeft s (marked m t) (n + 1) u j
  mark_next m done e h = absurd (unmarked m h e)
  mark_next {n} {j} {t} {u} m (a_mark k g r) e h = subst (λ (x : Mark). MarksLeft s (marked x t) (n + 1) u j) (mark_one k m (sym g ∙ h)) r

  pub mark_last : {n j : ℕ} {t u : Tree} → MarksLeft s t n u j → EndsLevel factors (byte s n) → (n ≡ j) × (t ≡ u)
  mark_last done e = (refl, refl)
  mark_last (a_mark m g r) e = absurd (unmarked m g e)

  pub mark_fit : {k : ℕ} {w w' : List ℕ} {g r : Fragment} {repeats skips : Bool} → Fit s k w g → g.next < length s → length w' ≡ length w → WithMark repeats skips k g (g.next + 1) w w' r → Fit s k w' r
  mark_fit f i e c = let m = c.moved in record { short = f.short; inside = omega (arith, m.nexts); words = omega (arith, f.words); some = omega (arith, f.some, m.counts); few = omega (arith, f.few, m.counts) }

  pub mark_turn : {b k : ℕ} {w w' : List ℕ} {g r : Fragment} → b ≡ byte s g.next → is_mark b ≡ true → g.count < set_bits → WithMark (not (eqb b (code "?"))) (not (eqb b (code "+"))) k g (g.next + 1) w w' r → Carried s k w g w' r
  unfolding expr
  mark_turn {b} p t o c =
      let (m, h) = (marks b).sound t in
      record {
        says = λ w₀ u j e q. record { tree = marked m q.tree; right = right_marked q.right m o (rw (mark_repeats m h, mark_skips m h) at c); left = rw c.moved.nexts (mark_next m q.left e (sym p ∙ h)) };
      }
