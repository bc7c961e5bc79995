-- Parts numbered while rows are read: order and number undo each other, and the places that are read number their parts on first arrival. A place stands in a row that has a
-- number, so each number is led to from a row before its own.
--   swept_none, swept_old, swept_new: nothing is read; one place more, that leads to a number or to none
--   none_of, some_of, given: an option that is None, or is not, or is below what it is without a value
--   swept_few, swept_fewer: no more numbers than states, fewer where a part has none
--   RowSweep, row_cell, row_lead, row_old, row_new, row_fewer, row_end: the same of a row, as it is read
--   numbers_front: the numbers of all states are those of the first of a list
use Prim.Native.Nat.{ℕ, ◌+◌, ◌*◌, ◌/◌, ◌≤◌, ◌<◌}
use mathlib.Core.Path.{◌≡◌, refl, sym, ap, ◌∙◌}
use mathlib.Core.Bool.{Bool, true, false, true≢false, false≢true}
use mathlib.Core.List.{List}
use native.Mathlib.Nat.{mul-le-mul_right, add-mul, div-lt_iff_lt-mul}
use native.Mathlib.Omega.{arith}
use native.Mathlib.Decide.{ℕ_discrete}
use borrow.Author.Count.{below_more}
use lib.ListN.{length, get_or, set, take, replicate, length-set, length-replicate, get_or-replicate}
use lib.Seq.{get_or-set_same, get_or-set_other}
use Rattle.std.specs.Option.{is_some}
use Rattle.std.specs.Prelude.{Option, Some, None, not, unwrap_or}
use Rattle.std.proofs.lemmas.List.{length-take, get_or-take}
use Rattle.scope.specs.Limits.{state_limit}
use Rattle.scope.specs.Machines.Room.{states_of, classes_of, cell_of, machine, SoundTable}
use Rattle.buffers.proofs.Numbered.{numbered_none, numbered_old, numbered_new, numbered_few, numbered_fewer}
use Rattle.refinement.specs.Refined.{PartsOf}
use Rattle.room.proofs.HeadAndParts.{cell_known}
use Rattle.smallest_plan.proofs.TableRows.{flat}
use Rattle.arrivals.specs.Swept.{leads, placed, number_of, Sweepable, Back, Forth, Earlier, PlacesSwept, Numbers}

-- ---- options

-- `is_none` answered true
pub none_of : (o : Option ℕ) {r : Bool} → is_some o ≡ not r → r ≡ true → o ≡ None
none_of (Some v) e t = let x = rw t at e in absurd (true≢false x)
none_of None e t = refl

-- it answered false
pub some_of : (o : Option ℕ) {r : Bool} → is_some o ≡ not r → r ≡ false → (v : ℕ) × (o ≡ Some v)
some_of (Some v) e t = (v, refl)
some_of None e t = let x = rw t at e in absurd (false≢true x)

-- below k, where k stands for none
pub given : (o : Option ℕ) (k : ℕ) → unwrap_or o k < k → o ≡ Some (unwrap_or o k)
given (Some v) k h = refl
given None k h = absurd (omega arith)

-- ---- how many numbers there are

module _ {a part column order : List ℕ} {number : List (Option ℕ)} {count e : ℕ} (s : SoundTable a) (w : PlacesSwept a part column order number count e) where
  -- no more numbers than states
  pub swept_few : count ≤ states_of a
  swept_few = numbered_few w.numbered (states_of a) (λ t. t) (λ v h. (w.back v h).inside) (λ v u g h z. z)

  -- a part with no number is none of theirs
  other : (t : ℕ) → get_or number t None ≡ None → (v : ℕ) → v < count → get_or order v 0 ≡ t → ⊥
  other t z v h y = let o = (w.back v h).own in let x = rw y at o in cc

  -- so where there is one, there are fewer: it could have the next
  pub swept_fewer : (t : ℕ) → t < states_of a → get_or number t None ≡ None → count < states_of a
  swept_fewer t h z = numbered_fewer w.numbered (states_of a) (λ t. t) (λ v l. (w.back v l).inside) (λ v u g l y. y) t h (other t z)

-- ---- one place more

module _ {a part column order : List ℕ} {number : List (Option ℕ)} {count q i : ℕ} (s : SoundTable a) (f : PartsOf (machine a) part) (w : PlacesSwept a part column order number count (q * length column + i))
    (h : q < count) (m : i < length column) (k : get_or column i 0 < classes_of a) where
  -- the place is that of the row q and the kind i
  is_place : (l : List ℕ) → placed a part column l (q * length column + i) ≡ leads a part l q (get_or column i 0)
  is_place l = rw ((flat (length column) q i m).0, (flat (length column) q i m).1) refl

  read_in : cell_of a (get_or order q 0) (get_or column i 0) < states_of a
  read_in = (cell_known s (get_or order q 0) (get_or column i 0) (w.back q h).inside k).1

  pub lead_in : leads a part order q (get_or column i 0) < states_of a
  lead_in = f.inside _ read_in

  -- the place leads to a part with a number
  pub swept_old : (v : ℕ) → get_or number (leads a part order q (get_or column i 0)) None ≡ Some v → PlacesSwept a part column order number count (q * length column + i + 1)
  swept_old v e = record {
    order_size = w.order_size;
    number_size = w.number_size;
    start = w.start;
    back = w.back;
    forth = w.forth;
    numbered = numbered_old w.numbered (placed a part column order) (λ x. number_of number (placed a part column order x)) (λ v. get_or order v 0)
        (λ x g. refl) (λ x g. refl) (λ v g. refl) (rw (is_place order, e) here.below) (rw (is_place order, e) here.back);
    above = w.above;
  }
    where
      here : Forth order count (leads a part order q (get_or column i 0)) v
      here = w.forth _ v lead_in e

  -- the place leads to a part without one: it takes the next
  pub swept_new : get_or number (leads a part order q (get_or column i 0)) None ≡ None
      → PlacesSwept a part column (set order count (leads a part order q (get_or column i 0))) (set number (leads a part order q (get_or column i 0)) (Some count)) (count + 1) (q * length column + i + 1)
  swept_new e = record {
    order_size = length-set order count t ∙ w.order_size;
    number_size = length-set number t (Some count) ∙ w.number_size;
    start = kept 0 (omega arith) ∙ w.start;
    back = below_more (λ (v : ℕ). Back a part order' number' v) count back (record { inside = rw at lead_in; name = rw at (f.name _ read_in); own = rw at new });
    forth = forth;
    numbered = numbered_new w.numbered (placed a part column order') (λ x. number_of number' (placed a part column order' x)) (λ v. get_or order' v 0)
        (λ x l. as_read x (row x l)) numbers kept (rw (this, new) refl) (at ∙ sym this) refl (λ v l z. other s w t e v l (z ∙ this));
    above = below_more (λ (v : ℕ). 0 < v → Earlier a part column order' v) count above
        (λ g. record { place = q * length column + i; row = omega (arith, mul-le-mul_right (length column) h); here = this ∙ sym at });
  }
    where
      t : ℕ
      t = leads a part order q (get_or column i 0)

      order' : List ℕ
      order' = set order count t

      number' : List (Option ℕ)
      number' = set number t (Some count)

      few : count < state_limit
      few = omega (arith, swept_fewer s w t lead_in e, s.few_states)

      at : get_or order' count 0 ≡ t
      at = get_or-set_same order count t 0 (omega (arith, few, w.order_size))

      kept : (v : ℕ) → v < count → get_or order' v 0 ≡ get_or order v 0
      kept v l = get_or-set_other order count v t 0 (λ z. omega arith)

      new : get_or number' t None ≡ Some count
      new = get_or-set_same number t (Some count) None (omega (arith, lead_in, s.few_states, w.number_size))

      same : (u : ℕ) → (u ≡ t → ⊥) → get_or number' u None ≡ get_or number u None
      same u n = get_or-set_other number t u (Some count) None n

      -- a part with a number is another one, and keeps its number
      numbered_still : (u : ℕ) → number_of number u < count → get_or number' u None ≡ get_or number u None
      numbered_still u l = same u (λ z. let y : number_of number t ≡ state_limit = rw e refl in omega (arith, ap (number_of number) z, y, few))

      forth : (u v : ℕ) → u < states_of a → get_or number' u None ≡ Some v → Forth order' (count + 1) u v
      forth u v l n = elim (ℕ_discrete u t) [
        | yes z ↦ (let y = rw (z, new) at n in let g : v ≡ count = cc in record { below = omega arith; back = rw (g, z) at })
        | no z ↦ (let g = w.forth u v l (sym (same u z) ∙ n) in record { below = omega (arith, g.below); back = kept v g.below ∙ g.back })
      ]

      some : 0 < length column
      some = omega arith

      -- a place that is read stands in a row with a number
      row : (x : ℕ) → x < q * length column + i → x / length column < count
      row x l =
          let y : x < (q + 1) * length column = omega (arith, add-mul q 1 (length column)) in
          let r : x / length column < q + 1 = (div-lt_iff_lt-mul some).1 y in
          omega arith

      as_read : (x : ℕ) → x / length column < count → placed a part column order' x ≡ placed a part column order x
      as_read x l = rw (kept (x / length column) l) refl

      this : placed a part column order' (q * length column + i) ≡ t
      this = is_place order' ∙ rw (kept q h) refl

      numbers : (x : ℕ) → x < q * length column + i → number_of number' (placed a part column order' x) ≡ number_of number (placed a part column order x)
      numbers x l = rw (as_read x (row x l), numbered_still (placed a part column order x) (w.numbered.below x l)) refl

      back : (v : ℕ) → v < count → Back a part order' number' v
      back v l = let b = w.back v l in record {
        inside = rw (kept v l) b.inside;
        name = rw (kept v l) b.name;
        own = rw (kept v l) (numbered_still (get_or order v 0) (rw b.own l) ∙ b.own);
      }

      above : (v : ℕ) → v < count → 0 < v → Earlier a part column order' v
      above v l g = let b = w.above v l g in
          let r : b.place / length column < v = (div-lt_iff_lt-mul some).1 b.row in
          record { place = b.place; row = b.row; here = as_read b.place (omega arith) ∙ b.here ∙ sym (kept v l) }

-- nothing is read, and the part of the state 0 has the number 0
pub swept_none : (a part column order : List ℕ) → SoundTable a → PartsOf (machine a) part → length order ≡ state_limit
    → PlacesSwept a part column (set order 0 (get_or part 0 0)) (set (replicate state_limit None) (get_or part 0 0) (Some 0)) 1 (0 * length column)
swept_none a part column order s f e = record {
  order_size = length-set order 0 p ∙ e;
  number_size = length-set none p (Some 0) ∙ size;
  start = at;
  back = λ v l. let z : v ≡ 0 = omega arith in rw z (record { inside = rw at inside; name = rw at (f.name 0 s.some_state); own = rw at new });
  forth = λ t v l n. elim (ℕ_discrete t p) [
    | yes z ↦ (let y = rw (z, new) at n in let g : v ≡ 0 = cc in record { below = omega arith; back = rw (g, z) at })
    | no z ↦ (let y = sym (get_or-set_other none p t (Some 0) None z ∙ get_or-replicate state_limit t None None (omega (arith, s.few_states))) ∙ n in cc)
  ];
  numbered = let z : 0 * length column ≡ 0 = omega arith in rw z (numbered_none (omega arith));
  above = λ v l g. absurd (omega arith);
}
  where
    p : ℕ
    p = get_or part 0 0

    none : List (Option ℕ)
    none = replicate state_limit None

    inside : p < states_of a
    inside = f.inside 0 s.some_state

    size : length none ≡ state_limit
    size = length-replicate {A = Option ℕ} state_limit None

    at : get_or (set order 0 p) 0 0 ≡ p
    at = get_or-set_same order 0 p 0 (omega (arith, e))

    new : get_or (set none p (Some 0)) p None ≡ Some 0
    new = get_or-set_same none p (Some 0) None (omega (arith, inside, s.few_states, size))

-- ---- a row, as it is read: it is that of the state `state` of the room

pub record RowSweep (a part column order : List ℕ) (number : List (Option ℕ)) (count q i state : ℕ) : Type 0 where
  pub in_rows : q < count
  pub is_state : state ≡ get_or order q 0
  pub swept : PlacesSwept a part column order number count (q * length column + i)

module _ {a part column order : List ℕ} {number : List (Option ℕ)} {count q i state : ℕ} (d : Sweepable a part column) (r : RowSweep a part column order number count q i state) where
  -- the row ends
  pub row_end : i ≡ length column → PlacesSwept a part column order number count ((q + 1) * length column)
  row_end z = let y : q * length column + i ≡ (q + 1) * length column = omega (arith, add-mul q 1 (length column)) in rw y at (r.swept)

  -- the cell of the kind i, in the row
  pub row_cell : (row : List ℕ) → ((u : ℕ) → u < classes_of a → get_or row u 0 ≡ cell_of a state u) → i < length column → get_or row (get_or column i 0) 0 ≡ cell_of a state (get_or column i 0)
  row_cell row f h = f (get_or column i 0) (d.columns i h (omega arith))

  -- p: the state to which the kind i leads
  module _ (h : i < length column) {p : ℕ} (e : p ≡ cell_of a state (get_or column i 0)) where
    next : q * length column + i + 1 ≡ q * length column + (i + 1)
    next = omega arith

    column_in : get_or column i 0 < classes_of a
    column_in = d.columns i h (omega arith)

    is_lead : leads a part order q (get_or column i 0) ≡ get_or part p 0
    is_lead = rw (e, r.is_state) refl

    pub row_lead : get_or part p 0 < state_limit
    row_lead = omega (arith, is_lead, lead_in d.sound d.parts r.swept r.in_rows h column_in, d.sound.few_states)

    pub row_old : (v : ℕ) → get_or number (get_or part p 0) None ≡ Some v → RowSweep a part column order number count q (i + 1) state
    row_old v n = record { in_rows = r.in_rows; is_state = r.is_state; swept = rw next at (swept_old d.sound d.parts r.swept r.in_rows h column_in v (rw is_lead n)) }

    module _ (n : get_or number (get_or part p 0) None ≡ None) where
      pub row_fewer : count < state_limit
      row_fewer = omega (arith, swept_fewer d.sound r.swept (get_or part p 0) (rw (← is_lead) (lead_in d.sound d.parts r.swept r.in_rows h column_in)) n, d.sound.few_states)

      pub row_new : RowSweep a part column (set order count (get_or part p 0)) (set number (get_or part p 0) (Some count)) (count + 1) q (i + 1) state
      row_new = record {
        in_rows = omega (arith, r.in_rows);
        is_state = r.is_state ∙ sym (get_or-set_other order count q (get_or part p 0) 0 (λ z. omega (arith, r.in_rows)));
        swept = rw next at (rw is_lead at (swept_new d.sound d.parts r.swept r.in_rows h column_in (rw is_lead n)));
      }

-- ---- the numbers of the states

-- the first n of all states
pub numbers_front : (part : List ℕ) {number : List (Option ℕ)} {into : List ℕ} (n : ℕ) → n ≤ length part → Numbers (take n part) number into (length (take n part)) → Numbers part number into n
numbers_front part n l s = record { size = s.size; inside = λ t v h z. s.inside t v (omega (arith, length-take n part)) (rw (get_or-take n part t 0 h) z) }
