-- One law for each way that a byte inside an atom is taken. The byte's test, or its value, decides the next state and the notes at once; x is the record before
-- the byte, y the one after it.
--   class_closed, dash-..: what comes after a byte of a class
use Prim.Native.Nat.{ℕ}
use Prim.Native.Char.{code}
use mathlib.Core.Path.{◌≡◌, refl, sym}
use Rattle.scope.specs.Text.Grammar.{class_literal}
use Rattle.modes.specs.Modes.{done, stuck, at, after_atom, next}
use Rattle.modes.specs.Notes.{Notes, noted}
use Rattle.judge_state.specs.Reading.{piece_of, standing}
use Rattle.judge_state.specs.declared.Stage.TheVariants.{Await, Done}
use Rattle.judge_state.specs.declared.Piece.{Piece}
use Rattle.judge_state.specs.declared.Piece.TheVariants.{Atom, Low, High}
use Rattle.judge_state.specs.declared.Reading.{Reading}
use Rattle.judge_state.proofs.Keeps.{kept_since}
use Rattle.judge_state.proofs.ByteTaken.{takes_stuck, takes_same, moved, from_at}
use Rattle.judge_inside.specs.Steps.{Advances}

module _ {x : Reading} (b i : ℕ) (c : x.stage ≡ Done) where
  -- `]`
  pub class_closed : (x.piece ≡ Atom → ⊥) → b ≡ code "]" → Advances x b i (moved x.stage Atom x.deep x)
  unfolding class_literal
  class_closed f e = takes_same (rw c (sym (state x.piece f))) (λ m. rw c (notes x.piece f m)) (λ m k. k)
    where
      state : (p : Piece) → (p ≡ Atom → ⊥) → next (done (piece_of p)) x.deep b ≡ at after_atom x.deep
      state Atom f = absurd (f refl)
      state Low f = rw e refl
      state High f = rw e refl

      notes : (p : Piece) → (p ≡ Atom → ⊥) → (m : Notes) → noted (done (piece_of p)) x.deep b i m ≡ m
      notes Atom f m = absurd (f refl)
      notes Low f m = rw e refl
      notes High f m = rw e refl

  -- `-` after a byte, which is a low end then
  pub dash_taken : x.piece ≡ Low → b ≡ code "-" → Advances x b i (moved Await High x.deep (from_at i x))
  unfolding class_literal
  dash_taken d e = record { state = rw (c, d, e) refl; notes = λ _ n k. rw (c, d, e) (kept_since k i) }

  -- `-` after a range
  pub dash_none : {y : Reading} → x.piece ≡ High → b ≡ code "-" → standing y ≡ stuck → Advances x b i y
  unfolding class_literal
  dash_none h e = takes_stuck (rw (c, h, e) refl)
