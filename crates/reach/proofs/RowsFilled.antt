-- All rows. A row is filled from the union of the follow sets of its set; that union is the expression's, since the words hold its follow sets and a reached set
-- has positions of the expression alone.
--   union_of: the union of the follow sets in the words is that of the expression
--   RowsFilled: the loop over the rows
--   filled_none, filled_next, filled_many, filled_end: its turns, and what they answer
use Prim.Native.Nat.{ℕ, ◌+◌, ◌-◌, ◌*◌, ◌≤◌, ◌<◌}
use mathlib.Core.Path.{◌≡◌, sym, ap, ◌∙◌}
use mathlib.Core.Bool.{true, false}
use mathlib.Core.List.{List, [], ◌∷◌}
use mathlib.Core.Logic.{◌⊎◌, inl, inr}
use native.Mathlib.Nat.{suc-mul, zero-mul, mul-le-mul}
use native.Mathlib.Numerals.{add-one}
use native.Mathlib.Omega.{arith}
use Rattle.std.specs.Prelude.{Option, Some, None}
use Rattle.scope.specs.Limits.{state_limit, position_limit, cells_at, ways_at, set_words}
use Rattle.scope.specs.Text.Re.{Re, size}
use Rattle.scope.specs.Positions.Bits.{has, given, joined, after_position, move}
use Rattle.scope.specs.Machines.Machine.{walk}
use Rattle.scope.specs.Positions.Reached.{ReachedSet}
use Rattle.scope.proofs.Positions.Bits.{has_pow}
use Rattle.scope.proofs.Positions.Glushkov.{at_in}
use Rattle.scope.proofs.Positions.Moves.{move_is}
use Rattle.scope.proofs.Positions.Reached.{reached_start}
use Rattle.scope.proofs.Counting.Tests.{which, equals}
use Rattle.buffers.proofs.Numbered.{numbered_none}
use Rattle.sets.specs.Value.{set_bits, set_at}
use Rattle.byte_classes.proofs.Unions.{joined_skip, joined_same}
use Rattle.sets.specs.Layout.{sets_at}
use Rattle.seats.specs.SeatLayout.{reached_set, KeptOutside}
use Rattle.reach.specs.Reach.{follow_of, follows, cell_at, ReachedRows, RowFits, RowStart, RowAnswer, SetsOf, RowsAnswer}
use Rattle.seats.proofs.Kept.{kept_none, kept_wide, kept_join, kept_sets}
use Rattle.reach.proofs.Cells.{row_fits}

-- ---- the union of the follow sets

-- a set of positions of e
abbrev Inside : Re → ℕ → Type 0
Inside e s = (p : ℕ) → has s p ≡ true → p ≤ size e

walk_inside : (e : Re) (w : List ℕ) (s : ℕ) → Inside e s → Inside e (walk (move e) s w)
walk_inside e [] s h = h
walk_inside e (b ∷ w) s h = walk_inside e w (move e s b) (λ p x. omega (arith, at_in e 0 p b ((move_is e s b p).sound x).1))

reached_inside : (e : Re) (s : ℕ) → ReachedSet e s → Inside e s
reached_inside e s r = rw r.leads at (walk_inside e r.word 1 (λ p x. omega (arith, (equals 0 p).sound (sym (has_pow 0 p) ∙ x))))

-- positions past those of e are in no reached set
union_of : (e : Re) (w : List ℕ) (s : ℕ) → size e ≤ position_limit → ((p : ℕ) → p ≤ size e → set_at w p ≡ after_position e p) → ReachedSet e s
    → joined (follow_of w s) set_bits ≡ follows e s
union_of e w s small follow r =
    let l : set_bits ≡ size e + 1 + (set_bits - (size e + 1)) = omega arith in
    rw l (joined_skip (follow_of w s) (size e + 1) (set_bits - (size e + 1)) (λ j h. outside (size e + 1 + j) (omega arith) (which (has s (size e + 1 + j)))))
    ∙ joined_same (follow_of w s) (λ p. given (has s p) (after_position e p)) (size e + 1) (λ p h. ap (given (has s p)) (follow p (omega arith)))
  where
    outside : (p : ℕ) → size e < p → (has s p ≡ true) ⊎ (has s p ≡ false) → follow_of w s p ≡ 0
    outside p h (inl x) = absurd (omega (arith, reached_inside e s r p x))
    outside p h (inr x) = rw x

-- ---- the loop over the rows

-- o, w: image and words at the start, o₁, w₁: after the rows below q
pub record RowsFilled (o w m : List ℕ) (k : ℕ) (o₁ w₁ : List ℕ) (n q : ℕ) : Type 0 where
  pub row : q ≤ n
  pub few : n ≤ state_limit
  pub image : KeptOutside o o₁ cells_at (cells_at + q * k)
  pub words : KeptOutside w w₁ ((sets_at + 1) * set_words) ((sets_at + state_limit) * set_words)
  pub rows : (e : Re) → SetsOf e w m k → ReachedRows e k (set_at m) (reached_set w₁) (cell_at o₁) n (q * k)

-- {0} is there, and no row
pub filled_none : (o w m : List ℕ) (k : ℕ) → reached_set w 0 ≡ 1 → RowsFilled o w m k o w 1 0
filled_none o w m k h = record {
  row = omega arith;
  few = omega arith;
  image = kept_none o _ _;
  words = kept_none w _ _;
  rows = λ e s. record {
    begins = h;
    few = omega arith;
    reached = λ i l. (let z : i ≡ 0 = omega arith in rw (z, h) (reached_start e));
    within = omega (arith, zero-mul k);
    numbered = rw (zero-mul k) (numbered_none (omega arith));
  };
}

-- the row q is filled from the union u of the follow sets of its set s
module _ {o w m : List ℕ} {k : ℕ} {o₁ w₁ : List ℕ} {n q u s : ℕ} (t : RowFits o w m k 0 1) (f : RowsFilled o w m k o₁ w₁ n q)
    (hq : q < n) (es : s ≡ reached_set w₁ q) (eu : u ≡ joined (follow_of w₁ s) set_bits) where
  -- what the row is given, of an expression that the buffers hold
  row_given : (e : Re) → SetsOf e w m k → RowStart e o₁ w₁ m k q n u
  row_given e x = record {
    union = eu ∙ ap (λ (i : ℕ). joined (follow_of w₁ i) set_bits) es
        ∙ union_of e w₁ (reached_set w₁ q) x.small (λ p h. kept_sets f.words p (omega (arith, x.small)) ∙ x.follow p h) ((f.rows e x).reached q hq);
    masks = x.masks;
    rows = f.rows e x;
  }

  module _ {o₂ w₂ : List ℕ} {r : Option ℕ} (a : RowAnswer o₁ w₁ m k q n u o₂ w₂ r) where
    words_kept : KeptOutside w w₂ ((sets_at + 1) * set_words) ((sets_at + state_limit) * set_words)
    words_kept = kept_join f.words (kept_wide a.words _ _ (omega arith) (omega arith))

    image_kept : (to : ℕ) → cells_at + q * k + k ≤ to → KeptOutside o o₂ cells_at to
    image_kept to h = kept_join (kept_wide f.image _ to (omega arith) (omega arith)) (kept_wide a.image _ to (omega arith) h)

  -- a row more
  pub filled_next : {o₂ w₂ : List ℕ} {n₂ : ℕ} → RowAnswer o₁ w₁ m k q n u o₂ w₂ (Some n₂) → RowsFilled o w m k o₂ w₂ n₂ (q + 1)
  filled_next a =
      let l : q * k + k ≡ (q + 1) * k = rw (add-one q) (sym (suc-mul q k)) in
      record {
        row = omega (arith, a.rows.0);
        few = a.rows.1;
        image = image_kept a _ (omega arith);
        words = words_kept a;
        rows = λ e v. rw l at (a.rows.2 e (row_given e v));
      }

  -- too many sets
  pub filled_many : {o₂ w₂ : List ℕ} → RowAnswer o₁ w₁ m k q n u o₂ w₂ None → RowsAnswer o w m k o₂ w₂ None
  filled_many a = record {
    image = image_kept a ways_at (row_fits k q t.classes (omega (arith, f.few)));
    words = words_kept a;
    rows = λ e v. a.rows e (row_given e v);
  }

-- no row is left
pub filled_end : {o w m : List ℕ} {k : ℕ} {o₁ w₁ : List ℕ} {n q : ℕ} → RowFits o w m k 0 1 → RowsFilled o w m k o₁ w₁ n q → n ≤ q → RowsAnswer o w m k o₁ w₁ (Some n)
filled_end {k = k} {n = n} {q = q} t f h =
    let y : q ≡ n = omega (arith, f.row) in
    let l : q ≤ state_limit = omega (arith, f.few) in
    record {
      image = kept_wide f.image _ _ (omega arith) (omega (arith, mul-le-mul l t.classes));
      words = f.words;
      rows = (f.few, rw y at f.image, λ e x. rw y at (f.rows e x));
    }
