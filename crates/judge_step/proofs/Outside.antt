-- One law for each way that a byte is taken outside of classes and escapes, unless it computes. The byte's test, or its value, decides the next state and
-- the notes at once; x is the record before the byte, y the one after it.
--   nest_state: a parenthesis opens
--   begin-..: an atom may begin; mark_taken, bar_taken, close-..: after one
use Prim.Native.Nat.{ℕ, zero, suc, ◌+◌, ◌-◌, ◌<◌}
use Prim.Native.Char.{code}
use mathlib.Core.Path.{◌≡◌, refl, sym, ◌∙◌}
use mathlib.Core.Bool.{true}
use native.Mathlib.Omega.{arith}
use native.Mathlib.Numerals.{add-one}
use Rattle.scope.specs.Text.Grammar.{literal, is_mark}
use Rattle.modes.specs.Modes.{atom, await, stuck, at, after_atom, closes}
use Rattle.modes.proofs.MarkSteps.{mark_step, mark_notes}
use Rattle.judge_state.specs.Reading.{piece_of, state_of, standing, ReadAs}
use Rattle.judge_state.specs.declared.Stage.TheVariants.{Await, Done}
use Rattle.judge_state.specs.declared.Piece.{Piece}
use Rattle.judge_state.specs.declared.Piece.TheVariants.{Atom, Low}
use Rattle.judge_state.specs.declared.Reading.{Reading}
use Rattle.judge_state.proofs.Keeps.{kept_since}
use Rattle.judge_state.proofs.ByteTaken.{takes_stuck, moved, from_at}
use Rattle.judge_inside.specs.Steps.{Begins, Advances}
use Rattle.judge_step.specs.Nests.{Nests}

-- ---- a parenthesis opens

-- one parenthesis more is open
pub nest_state : (p : Piece) (n : ℕ) → p ≡ Atom → state_of Await (piece_of p) (n + 1) ≡ at (await atom) (suc n)
nest_state p n e = rw (e, add-one) refl

-- ---- an atom begins

module _ {x y : Reading} (b i : ℕ) (e : x.piece ≡ Atom) where
  -- a byte that stands for itself
  pub begin_literal : literal b ≡ true → ReadAs b (from_at i x) y → Begins atom x b i y
  begin_literal h t = record { state = t.state ∙ rw (e, h) refl; notes = λ _ n k. rw h (rw e at (t.notes refl _ (kept_since k i))) }

  -- `.`
  pub begin_dot : b ≡ code "." → ReadAs b (from_at i x) y → Begins atom x b i y
  unfolding literal
  begin_dot h t = record { state = t.state ∙ rw (e, h) refl; notes = λ _ n k. rw h (rw e at (t.notes refl _ (kept_since k i))) }

  -- `[`
  pub begin_class : b ≡ code "[" → ReadAs b (from_at i x) y → y.deep ≡ x.deep → Begins atom x b i (moved Await Low y.deep y)
  unfolding literal
  begin_class h t d = record { state = rw (d, h) refl; notes = λ _ n k. rw h (rw e at (t.notes refl _ (kept_since k i))) }

  -- `(`
  pub begin_group : b ≡ code "(" → Nests i (from_at i x) y → Begins atom x b i y
  unfolding literal
  begin_group h t = record { state = t.state ∙ rw h refl; notes = λ _ n k. rw h (t.notes refl _ (kept_since k i)) }

-- ---- after an atom

module _ {x : Reading} (b i : ℕ) (e : x.piece ≡ Atom) (d : x.stage ≡ Done) where
  -- a mark
  pub mark_taken : is_mark b ≡ true → Advances x b i x
  mark_taken h = record { state = rw (d, e) (sym (mark_step b h _)); notes = λ _ n k. rw (d, e, mark_notes b h _ i _ _) k }

  -- `|`
  pub bar_taken : b ≡ code "|" → Advances x b i (moved Await x.piece x.deep x)
  unfolding literal is_mark
  bar_taken h = record { state = rw (d, e, h) refl; notes = λ _ n k. rw (d, e, h) k }

  -- `)`
  pub close_taken : b ≡ code ")" → 0 < x.deep → Advances x b i (moved x.stage x.piece (x.deep - 1) x)
  unfolding literal is_mark
  close_taken h o = record { state = rw (d, e, h) (sym (less x.deep o)); notes = λ _ n k. rw (d, e, h) k }
    where
      less : (n : ℕ) → 0 < n → closes n ≡ at after_atom (n - 1)
      less zero o = absurd (omega arith)
      less (suc n) o = let z : suc n - 1 ≡ n = omega arith in rw z refl

  -- `)` where nothing is open
  pub close_none : {y : Reading} → b ≡ code ")" → x.deep ≡ 0 → standing y ≡ stuck → Advances x b i y
  unfolding literal is_mark
  close_none h z = takes_stuck (rw (d, e, h, z) refl)
