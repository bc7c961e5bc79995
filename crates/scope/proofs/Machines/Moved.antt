-- Only the first 8,834 bytes of a room count. A sound room's runs read those of its table alone, so two rooms that agree there hold the same machine, and
-- have the same ways home; and both are sound, or canonical, if one is.
--   table_moved, sound_moved: a room that agrees with a sound one is sound, up to the ways home or with them
--   moved_agree: they hold the same machine
--   tables_bytes: two sound rooms that agree up to the ways home agree there too
--   canonical_table_moved, canonical_moved: a room that agrees with a canonical one is canonical, up to the ways home or with them
use Prim.Native.Nat.{ℕ, ◌+◌, ◌-◌, ◌*◌, ◌/◌, ◌%◌, ◌≤◌, ◌<◌}
use mathlib.Core.Path.{◌≡◌, sym, ap, ◌∙◌}
use mathlib.Core.Logic.{◌⊎◌, inl, inr}
use mathlib.Core.List.{List}
use native.Mathlib.Omega.{arith}
use lib.Dec.{eqb}
use lib.ListN.{length, get_or}
use Rattle.scope.specs.Limits.{byte_values, classes_at, marks_at, cells_at, ways_at, room_bytes}
use Rattle.scope.specs.Machines.Machine.{Same}
use Rattle.scope.specs.Machines.Room.{states_of, classes_of, class_of, next_of, machine, Below, SoundTable, WayBeside, Sound, SameTables, SameBytes}
use Rattle.scope.specs.Machines.Canonical.{entry, CanonicalTable, Canonical}
use Rattle.scope.proofs.Counting.Tests.{split}
use Rattle.scope.proofs.Machines.Room.{cell_used, cells_fit}
use Rattle.scope.proofs.Machines.Run.{sound_closed}
use Rattle.scope.proofs.Machines.SameMoves.{SameMoves, agree_same, agree_reached}
use Rattle.scope.proofs.Machines.Ways.{way_one, way_same}
use Rattle.scope.proofs.Counting.Arrival.{arrival_ext}

module _ (a b : List ℕ) (e : SameTables a b) where
  states : states_of a ≡ states_of b
  states = e 0 (omega arith)

  classes : classes_of a ≡ classes_of b
  classes = e 1 (omega arith)

  class : (x : ℕ) → x < byte_values → class_of a x ≡ class_of b x
  class x h = e (classes_at + x) (omega arith)

  below : (from to limit : ℕ) → to ≤ ways_at → Below a from to limit → Below b from to limit
  below from to limit h f i k l = rw (← e i (omega arith)) (f i k l)

  module _ (s : SoundTable a) where
    -- a room that agrees with a sound one up to the ways home holds the same machine
    pub moved_agree : SameMoves (machine a) (machine b)
    unfolding next_of
    moved_agree = record {
      states = states;
      next = λ q x h k. rw (← class x k, ← classes) (e (cells_at + (q * classes_of a + class_of a x)) (omega (arith, cell_used a s q x h k, cells_fit a s)));
      marks = λ q h. ap (λ (x : ℕ). eqb x 1) (e (marks_at + q) (omega (arith, s.few_states)));
    }

    -- so no string tells a state of one from that of the other
    pub moved_same : (q : ℕ) → q < states_of a → Same (machine a) q (machine b) q
    moved_same = agree_same (machine a) (machine b) (sound_closed a s) moved_agree

-- a room that is long enough, and agrees with a sound one up to the ways home, is sound up to there
pub table_moved : (a b : List ℕ) → room_bytes ≤ length b → SameTables a b → SoundTable a → SoundTable b
table_moved a b l e s = record {
  long = l;
  some_state = rw (← states a b e) s.some_state;
  few_states = rw (← states a b e) s.few_states;
  some_class = rw (← classes a b e) s.some_class;
  few_classes = rw (← classes a b e) s.few_classes;
  classes = rw (← classes a b e) (below a b e _ _ _ (omega arith) s.classes);
  marks = rw (← states a b e) (below a b e _ _ _ (omega (arith, s.few_states)) s.marks);
  marks_off = rw (← states a b e) (below a b e _ _ _ (omega arith) s.marks_off);
  cells = rw (← states a b e, ← classes a b e) (below a b e _ _ _ (cells_fit a s) s.cells);
  cells_off = rw (← states a b e, ← classes a b e) (below a b e _ _ _ (omega arith) s.cells_off);
}

-- a room that is long enough and agrees with a sound one is sound
pub sound_moved : (a b : List ℕ) → room_bytes ≤ length b → SameBytes a b → Sound a → Sound b
sound_moved a b l e s = record {
  table = table_moved a b l t s.table;
  ways = record {
    beside = λ q h. beside q (rw (← states a b t) at h);
    ways_off = rw (← states a b t) (λ i k m. rw (← e i k) (s.ways.ways_off i k m));
  };
}
  where
    t : SameTables a b
    t i h = e i (omega arith)

    beside : (q : ℕ) → q < states_of a → WayBeside b q
    beside q h = let w = s.ways.beside q h in
        record {
          way = w.way;
          right = way_same (moved_same a b t s.table q h) w.right;
          high = sym (e (ways_at + q * 2) (omega (arith, s.table.few_states))) ∙ w.high;
          low = sym (e (ways_at + q * 2 + 1) (omega (arith, s.table.few_states))) ∙ w.low;
        }

-- two sound rooms that agree up to the ways home have the same machine, and so the same ways
pub tables_bytes : (a b : List ℕ) → Sound a → Sound b → SameTables a b → SameBytes a b
tables_bytes a b s t e i h = go (split i ways_at) (split i (ways_at + states_of a * 2)) (split ((i - ways_at) % 2) 1)
  where
    way : (q : ℕ) → q < states_of a → (get_or a (ways_at + q * 2) 0 ≡ get_or b (ways_at + q * 2) 0) × (get_or a (ways_at + q * 2 + 1) 0 ≡ get_or b (ways_at + q * 2 + 1) 0)
    way q k =
        let u = s.ways.beside q k in
        let v = t.ways.beside q (rw (states a b e) at k) in
        let z : u.way ≡ v.way = way_one (way_same (moved_same a b e s.table q k) u.right) v.right in
        (u.high ∙ ap (λ (x : ℕ). x / byte_values) z ∙ sym v.high, u.low ∙ ap (λ (x : ℕ). x % byte_values) z ∙ sym v.low)

    go : (i < ways_at) ⊎ (ways_at ≤ i) → (i < ways_at + states_of a * 2) ⊎ (ways_at + states_of a * 2 ≤ i) → ((i - ways_at) % 2 < 1) ⊎ (1 ≤ (i - ways_at) % 2)
        → get_or a i 0 ≡ get_or b i 0
    go (inl l) k m = e i l
    go (inr l) (inl k) (inl m) = let z : ways_at + (i - ways_at) / 2 * 2 ≡ i = omega arith in rw z at (way ((i - ways_at) / 2) (omega arith)).0
    go (inr l) (inl k) (inr m) = let z : ways_at + (i - ways_at) / 2 * 2 + 1 ≡ i = omega arith in rw z at (way ((i - ways_at) / 2) (omega arith)).1
    go (inr l) (inr k) m = omega (arith, s.ways.ways_off i h k, t.ways.ways_off i h (rw (← states a b e) k))

-- a room that agrees with a canonical one up to the ways home is canonical up to there
pub canonical_table_moved : (a b : List ℕ) → SameTables a b → SoundTable a → CanonicalTable a → CanonicalTable b
canonical_table_moved a b e s c = record {
  reached = λ q h. agree_reached (machine a) (machine b) (sound_closed a s) agree q (c.reached q (back h));
  reduced = λ p q h k f. c.reduced p q (back h) (back k) (λ w g. same p (back h) w g ∙ f w g ∙ sym (same q (back k) w g));
  arrival = rw (← agree.states) (arrival_ext (entry (machine a)) (entry (machine b)) 1 (states_of a * byte_values) entries c.arrival);
  alike = λ x y h k f q m. sym (step q x (back m) h) ∙ c.alike x y h k (class a b e x h ∙ f ∙ sym (class a b e y k)) q (back m) ∙ step q y (back m) k;
  share = λ x y h k f. sym (class a b e x h) ∙ c.share x y h k (λ q m. step q x m h ∙ f q (rw agree.states at m) ∙ sym (step q y m k)) ∙ class a b e y k;
  holds = λ x h. (let (y, k, f) = c.holds x (rw (← classes a b e) at h) in (y, k, sym (class a b e y k) ∙ f));
  smallest = arrival_ext (class_of a) (class_of b) 0 byte_values (class a b e) c.smallest;
}
  where
    agree : SameMoves (machine a) (machine b)
    agree = moved_agree a b e s

    step : (q x : ℕ) → q < states_of a → x < byte_values → next_of a q x ≡ next_of b q x
    step = agree.next

    same : (q : ℕ) → q < states_of a → Same (machine a) q (machine b) q
    same = moved_same a b e s

    back : {q : ℕ} → q < states_of b → q < states_of a
    back h = rw (← agree.states) at h

    entries : (x : ℕ) → x < states_of a * byte_values → entry (machine a) x ≡ entry (machine b) x
    entries x h = step (x / byte_values) (x % byte_values) (omega arith) (omega arith)

-- a room that is long enough and agrees with a canonical one is canonical
pub canonical_moved : (a b : List ℕ) → room_bytes ≤ length b → SameBytes a b → Canonical a → Canonical b
canonical_moved a b l e c = record {
  sound = sound_moved a b l e c.sound;
  table = canonical_table_moved a b (λ i h. e i (omega arith)) c.sound.table c.table;
}
