-- Rows of an image, one cell at a time. A cell leads to the set that one union and one mask have in common; that set is among the reached ones, or is the next
-- of them. Reached it is, since a byte with that mask leads to it; so a set for which there is no seat shows that too many are reached.
--   row_fits: a row ends within the image
--   rows_leads: where a cell leads
--   rows_old, rows_new, sets_many: a cell more, that leads to a set that is there, or to the next; a set too many
--   Filling: the loop over the classes of a row
--   filling_none, filling_old, filling_new, filling_full, filling_end: its turns
use Prim.Native.Nat.{ℕ, ◌+◌, ◌*◌, ◌/◌, ◌%◌, ◌≤◌, ◌<◌}
use mathlib.Core.Path.{◌≡◌, refl, sym, ap, ap₂, ◌∙◌}
use mathlib.Core.List.{List}
use native.Mathlib.Nat.{add-zero, add_assoc, suc-mul, mul-le-mul, mul-add-div_right, mul-add-mod_self_right, div-eq_of_lt, mod-eq_of_lt, div-lt_iff_lt-mul}
use native.Mathlib.Omega.{arith}
use borrow.Author.Count.{below_more}
use lib.Bits.{bit_and}
use lib.ListN.{length, set}
use lib.Seq.{get_or-set_same, get_or-set_other}
use Rattle.std.specs.Prelude.{Option, Some, None}
use Rattle.scope.specs.Limits.{class_limit, state_limit, cells_at, ways_at, set_words}
use Rattle.scope.specs.Text.Re.{Re}
use Rattle.scope.specs.Positions.Bits.{move}
use Rattle.scope.specs.Positions.Reached.{ReachedSet, ManySets}
use Rattle.scope.proofs.Positions.Reached.{reached_next}
use Rattle.scope.proofs.Machines.Room.{flat_in}
use Rattle.buffers.proofs.Numbered.{numbered_old, numbered_new}
use Rattle.sets.specs.Value.{set_at}
use Rattle.byte_classes.proofs.NumbersMet.{over_one}
use Rattle.sets.specs.Layout.{sets_at}
use Rattle.seats.specs.SeatLayout.{reached_set, KeptOutside}
use Rattle.seats.specs.Seats.{Sat, Full, Seated}
use Rattle.reach.specs.Reach.{follows, MasksOf, cell_at, target, ReachedRows, RowFits, RowStart, RowAnswer}
use Rattle.seats.proofs.Kept.{kept_none, kept_wide, kept_join, kept_set, kept_sets}

-- ---- rows of k cells

-- the row and the class of a cell
flat_row : (k q c : ℕ) → c < k → (q * k + c) / k ≡ q
flat_row k q c h = mul-add-div_right {m = k} (omega arith) q c ∙ ap (λ (x : ℕ). q + x) (div-eq_of_lt h) ∙ add-zero q

flat_class : (k q c : ℕ) → c < k → (q * k + c) % k ≡ c
flat_class k q c h = mul-add-mod_self_right q k c ∙ mod-eq_of_lt h

-- a row ends within the image
pub row_fits : (k q : ℕ) → k ≤ class_limit → q < state_limit → cells_at + q * k + k ≤ ways_at
row_fits k q h l = omega (arith, mul-le-mul l h, suc-mul q k)

-- where a cell leads
pub rows_leads : {e : Re} {k : ℕ} {mask set cell : ℕ → ℕ} {n filled : ℕ} → ReachedRows e k mask set cell n filled → (q c : ℕ) → c < k → q * k + c < filled
    → set (cell (q * k + c)) ≡ bit_and (follows e (set q)) (mask c)
rows_leads {k = k} r q c h l = rw (flat_row k q c h, flat_class k q c h) at (r.numbered.like (q * k + c) l)

-- the cell for the state q and the class c comes after the cells x; h, y: the sets and cells with it
module _ (e : Re) (k : ℕ) (mask g x h y : ℕ → ℕ) (n q c : ℕ) (r : ReachedRows e k mask g x n (q * k + c)) (hq : q < n) (hc : c < k)
    (kept : (j : ℕ) → j < n → h j ≡ g j) (same : (j : ℕ) → j < q * k + c → y j ≡ x j) where
  -- the cells before it lead to the same sets
  target_kept : (i : ℕ) → i < q * k + c → target e k mask h i ≡ target e k mask g i
  target_kept i l = ap (λ (s : ℕ). bit_and (follows e s) (mask (i % k))) (kept (i / k) ((div-lt_iff_lt-mul (omega arith)).1 (omega (arith, r.within))))

  to : target e k mask h (q * k + c) ≡ bit_and (follows e (h q)) (mask c)
  to = ap₂ (λ (p d : ℕ). bit_and (follows e (h p)) (mask d)) (flat_row k q c hc) (flat_class k q c hc)

  -- it leads to a set that is there
  rows_old : y (q * k + c) < n → h (y (q * k + c)) ≡ bit_and (follows e (h q)) (mask c) → ReachedRows e k mask h y n (q * k + c + 1)
  rows_old v leads = record {
    begins = kept 0 r.numbered.some ∙ r.begins;
    few = r.few;
    reached = λ j l. rw (kept j l) (r.reached j l);
    within = omega (arith, flat_in n k q c hq hc);
    numbered = numbered_old r.numbered (target e k mask h) y h target_kept same kept v (leads ∙ sym to);
  }

  -- it leads to the next
  rows_new : n < state_limit → y (q * k + c) ≡ n → h n ≡ bit_and (follows e (h q)) (mask c) → ReachedSet e (h n) → ((j : ℕ) → j < n → g j ≡ h n → ⊥)
      → ReachedRows e k mask h y (n + 1) (q * k + c + 1)
  rows_new room v leads reach ne = record {
    begins = kept 0 r.numbered.some ∙ r.begins;
    few = omega arith;
    reached = below_more (λ (j : ℕ). ReachedSet e (h j)) n (λ j l. rw (kept j l) (r.reached j l)) reach;
    within = omega (arith, flat_in (n + 1) k q c (omega arith) hc);
    numbered = numbered_new r.numbered (target e k mask h) y h target_kept same kept v (leads ∙ sym to) refl (λ j l z. ne j l (z ∙ to ∙ sym leads));
  }

module _ (e : Re) (k : ℕ) (mask : ℕ → ℕ) where
  -- as many sets as there may be, and one more
  sets_many : (g x : ℕ → ℕ) (n i s : ℕ) → n ≡ state_limit → ReachedRows e k mask g x n i → ReachedSet e s → ((j : ℕ) → j < n → g j ≡ s → ⊥) → ManySets e
  sets_many g x n i s full r reach ne =
      rw full at (over_one (ReachedSet e) (λ (s t : ℕ). s ≡ t) n (λ j h. g j) s r.reached reach (λ j p h l a. r.numbered.apart j p l a) ne)

  -- where a mask is that of a byte, the set is reached
  reach_common : (g x : ℕ → ℕ) (n i q c : ℕ) → MasksOf e k mask → ReachedRows e k mask g x n i → q < n → c < k → ReachedSet e (bit_and (follows e (g q)) (mask c))
  unfolding move
  reach_common g x n i q c m r hq hc = let (b, l, z) = m c hc in rw z (reached_next e (g q) b (r.reached q hq) l)

-- ---- the loop over the classes

-- o, w: image and words before the row, o₁, w₁: after its first c cells
pub record Filling (o w m : List ℕ) (k q n u : ℕ) (o₁ w₁ : List ℕ) (n₁ c : ℕ) : Type 0 where
  pub within : c ≤ k
  pub more : n ≤ n₁
  pub few : n₁ ≤ state_limit
  pub image : KeptOutside o o₁ (cells_at + q * k) (cells_at + q * k + k)
  pub words : KeptOutside w w₁ ((sets_at + n) * set_words) ((sets_at + state_limit) * set_words)
  pub rows : (e : Re) → RowStart e o w m k q n u → ReachedRows e k (set_at m) (reached_set w₁) (cell_at o₁) n₁ (q * k + c)

-- no cell
pub filling_none : (o w m : List ℕ) (k q n u : ℕ) → n ≤ state_limit → Filling o w m k q n u o w n 0
filling_none o w m k q n u h = record {
  within = omega arith;
  more = omega arith;
  few = h;
  image = kept_none o _ _;
  words = kept_none w _ _;
  rows = λ e r. rw (add-zero (q * k)) r.rows;
}

-- w₂: the words with the set s seated, which is what the union and the mask x of the class c have in common
module _ {o w m : List ℕ} {k q n u : ℕ} {o₁ w₁ : List ℕ} {n₁ c : ℕ} {w₂ : List ℕ} {s x : ℕ} {a : Option ℕ} (t : RowFits o w m k q n)
    (f : Filling o w m k q n u o₁ w₁ n₁ c) (hc : c < k) (z : Seated w₁ w₂ n₁ s a) (es : s ≡ bit_and u x) (ex : x ≡ set_at m c) where
  kept : (i : ℕ) → i < n₁ → reached_set w₂ i ≡ reached_set w₁ i
  kept i h = kept_sets z.kept (sets_at + i) (omega arith)

  words : KeptOutside w w₂ ((sets_at + n) * set_words) ((sets_at + state_limit) * set_words)
  words = kept_join f.words (kept_wide z.kept _ _ (omega (arith, f.more)) (omega arith))

  module _ (e : Re) (row : RowStart e o w m k q n u) where
    leads : s ≡ bit_and (follows e (reached_set w₁ q)) (set_at m c)
    leads = es ∙ ap₂ bit_and (row.union ∙ ap (follows e) (sym (kept_sets f.words (sets_at + q) (omega (arith, t.row))))) ex

    reach : ReachedSet e s
    reach = rw leads (reach_common e k (set_at m) (reached_set w₁) (cell_at o₁) n₁ (q * k + c) q c row.masks (f.rows e row) (omega (arith, t.row, f.more)) hc)

  -- a set too many
  pub filling_full : Full w₁ n₁ s → RowAnswer o w m k q n u o₁ w₂ None
  filling_full full = record {
    image = f.image;
    words = words;
    rows = λ e row. sets_many e k (set_at m) (reached_set w₁) (cell_at o₁) n₁ (q * k + c) s full.full (f.rows e row) (reach e row) full.new;
  }

  -- r: its seat
  module _ {r : ℕ} (seat : Sat w₁ w₂ n₁ s r) where
    fits : cells_at + (q * k + c) < length o₁
    fits = omega (arith, row_fits k q t.classes (omega (arith, t.row, t.states)), f.image.size, t.image)

    before : (j : ℕ) → j < q * k + c → cell_at (set o₁ (cells_at + q * k + c) r) j ≡ cell_at o₁ j
    before j h = get_or-set_other o₁ (cells_at + q * k + c) (cells_at + j) r 0 (λ y. omega arith)

    here : cell_at (set o₁ (cells_at + q * k + c) r) (q * k + c) ≡ r
    here = rw (add_assoc cells_at (q * k) c) (get_or-set_same o₁ (cells_at + (q * k + c)) r 0 fits)

    to_it : (e : Re) → RowStart e o w m k q n u → s ≡ bit_and (follows e (reached_set w₂ q)) (set_at m c)
    to_it e row = leads e row ∙ ap (λ (i : ℕ). bit_and (follows e i) (set_at m c)) (sym (kept q (omega (arith, t.row, f.more))))

    filling : (n₂ : ℕ) → n₁ ≤ n₂ → n₂ ≤ state_limit
        → ((e : Re) → RowStart e o w m k q n u → ReachedRows e k (set_at m) (reached_set w₂) (cell_at (set o₁ (cells_at + q * k + c) r)) n₂ (q * k + c + 1))
        → Filling o w m k q n u (set o₁ (cells_at + q * k + c) r) w₂ n₂ (c + 1)
    filling n₂ le few rows = record {
      within = omega arith;
      more = omega (arith, f.more);
      few = few;
      image = kept_join f.image (kept_set o₁ _ r _ _ (omega arith) (omega arith));
      words = words;
      rows = λ e row. rw (← add_assoc (q * k) c 1) (rows e row);
    }

    -- the set was there
    pub filling_old : (r ≡ n₁ → ⊥) → Filling o w m k q n u (set o₁ (cells_at + q * k + c) r) w₂ n₁ (c + 1)
    filling_old y = filling n₁ (omega arith) f.few
        (λ e row. rows_old e k (set_at m) (reached_set w₁) (cell_at o₁) (reached_set w₂) (cell_at (set o₁ (cells_at + q * k + c) r)) n₁ q c (f.rows e row) (omega (arith, t.row, f.more)) hc
        kept before (omega (arith, here, seat.most)) (ap (reached_set w₂) here ∙ seat.here ∙ to_it e row))

    -- the set is new
    pub filling_new : r ≡ n₁ → Filling o w m k q n u (set o₁ (cells_at + q * k + c) r) w₂ (n₁ + 1) (c + 1)
    filling_new y =
        let new : reached_set w₂ n₁ ≡ s = rw (← y) seat.here in
        filling (n₁ + 1) (omega arith) (omega (arith, seat.inside))
        (λ e row. rows_new e k (set_at m) (reached_set w₁) (cell_at o₁) (reached_set w₂) (cell_at (set o₁ (cells_at + q * k + c) r)) n₁ q c (f.rows e row) (omega (arith, t.row, f.more)) hc
        kept before (omega (arith, seat.inside)) (here ∙ y) (new ∙ to_it e row) (rw new (reach e row)) (λ j l v. seat.new y j l (v ∙ new)))

-- the row is full
pub filling_end : {o w m : List ℕ} {k q n u : ℕ} {o₁ w₁ : List ℕ} {n₁ c : ℕ}
    → Filling o w m k q n u o₁ w₁ n₁ c → k ≤ c → RowAnswer o w m k q n u o₁ w₁ (Some n₁)
filling_end {k = k} {c = c} f h =
    let y : c ≡ k = omega (arith, f.within) in
    record { image = f.image; words = f.words; rows = (f.more, f.few, λ e row. rw y at (f.rows e row)) }
