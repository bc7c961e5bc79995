-- Two canonical rooms for the same strings. Each is least, so they have as many states; a state corresponds to the one with the same strings, a class to
-- the one with a common byte, and both are numbered on first arrival, so they have the same numbers, and the rooms the same bytes.
--   row_met: a state that is reached is numbered before its row is read
--   unique_table, unique: two canonical rooms for the same strings are equal up to the ways home; they have the same 8,834 bytes
use Prim.Native.Nat.{ℕ, ◌+◌, ◌-◌, ◌*◌, ◌/◌, ◌%◌, ◌≤◌, ◌<◌}
use mathlib.Core.Path.{◌≡◌, refl, sym, ap₂, ◌∙◌}
use mathlib.Core.Logic.{inl, inr}
use mathlib.Core.List.{List, ◌∷◌}
use native.Mathlib.Nat.{mod-lt, div-add-mod', div-lt_iff_lt-mul}
use native.Mathlib.Omega.{arith}
use lib.ListN.{get_or}
use Rattle.scope.specs.Limits.{byte_values, classes_at, marks_at, cells_at}
use Rattle.scope.specs.Machines.Machine.{Machine, Same, Equal, Closed, Reached}
use Rattle.scope.specs.Machines.Room.{states_of, classes_of, class_of, mark_of, next_of, machine, SoundTable, SameTables, SameBytes}
use Rattle.scope.specs.Machines.Canonical.{met, entry, CanonicalTable, Canonical}
use Rattle.scope.proofs.Counting.Tests.{split, bit_same}
use Rattle.scope.proofs.Machines.Room.{SameParts, bytes_from_parts}
use Rattle.scope.proofs.Machines.Run.{run_below, run_agree, sound_closed}
use Rattle.scope.proofs.Machines.Least.{least}
use Rattle.scope.proofs.Machines.Moved.{tables_bytes}
use Rattle.scope.proofs.Counting.Arrival.{met_grow, met_above, arrival_one}

entry_at : (M : Machine) (q b : ℕ) → b < byte_values → entry M (q * byte_values + b) ≡ M.next q b
entry_at M q b h =
    let d : (q * byte_values + b) / byte_values ≡ q = omega arith in
    let r : (q * byte_values + b) % byte_values ≡ b = omega arith in
    ap₂ M.next d r

-- a reached state is numbered before its row is read: else the states numbered by then would be closed, and no string would lead to it
pub row_met : (M : Machine) (q : ℕ) → Reached M q → q < met (entry M) 1 (q * byte_values)
unfolding met
row_met M q r = elim (split q cut.states) [ inl h ↦ h | inr h ↦ rw r.leads at (run_below cut (closed h) 0 r.word (closed h).some r.bytes) ]
  where
    cut : Machine
    cut = record { states = met (entry M) 1 (q * byte_values); next = M.next; accepts = M.accepts }

    closed : cut.states ≤ q → Closed cut
    closed h = record {
      some = met_grow (entry M) 1 0 (q * byte_values) (omega arith);
      inside = λ p b k l. rw (entry_at M p b l) at (met_above (entry M) 1 (q * byte_values) (p * byte_values + b) (omega arith));
    }

-- a state of a canonical room is numbered before any of its row is read
row_known : (m : List ℕ) → CanonicalTable m → (x : ℕ) → x < states_of m * byte_values → x / byte_values < met (entry (machine m)) 1 x
row_known m c x h =
    let r : Reached (machine m) (x / byte_values) = c.reached (x / byte_values) (omega arith) in
    omega (arith, row_met (machine m) (x / byte_values) r, met_grow (entry (machine m)) 1 (x / byte_values * byte_values) x (omega arith))

-- a class of a has a byte, whose class in b is below b's number of classes
classes_most : (a b : List ℕ) → SoundTable a → CanonicalTable a → SoundTable b → ((x : ℕ) → x < byte_values → class_of a x ≡ class_of b x) → classes_of a ≤ classes_of b
classes_most a b r c s e =
    let (x, h, i) = c.holds (classes_of a - 1) (omega (arith, r.some_class)) in
    omega (arith, e x h, s.classes (classes_at + x) (omega arith) (omega arith))

module _ (a b : List ℕ) (s : SoundTable a) (t : SoundTable b) (c : CanonicalTable a) (d : CanonicalTable b) (e : Equal (machine a) (machine b)) where
  states : states_of a ≡ states_of b
  states = omega (arith, least a (machine b) c (sound_closed b t) e, least b (machine a) d (sound_closed a s) (λ w g. sym (e w g)))

  -- the states p of a and q of b have the same strings
  record SameStrings (p q : ℕ) : Type 0 where
    in_left : p < states_of a
    in_right : q < states_of b
    same : Same (machine a) p (machine b) q

  state_left : (p q r : ℕ) → SameStrings p r → SameStrings q r → p ≡ q
  state_left p q r x y = c.reduced p q x.in_left y.in_left (λ w g. x.same w g ∙ sym (y.same w g))

  state_right : (p q r : ℕ) → SameStrings p q → SameStrings p r → q ≡ r
  state_right p q r x y = d.reduced q r x.in_right y.in_right (λ w g. sym (x.same w g) ∙ y.same w g)

  entries : (x : ℕ) → x < states_of a * byte_values → entry (machine a) x ≡ entry (machine b) x
  entries =
      arrival_one (entry (machine a)) (entry (machine b)) 1 (states_of a * byte_values) SameStrings state_left state_right start step c.arrival (rw states d.arrival)
    where
      start : (v : ℕ) → v < 1 → SameStrings v v
      start v h = let z : v ≡ 0 = omega arith in rw z (record { in_left = s.some_state; in_right = t.some_state; same = e })

      step : (x : ℕ) → x < states_of a * byte_values → ((v : ℕ) → v < met (entry (machine a)) 1 x → SameStrings v v) → SameStrings (entry (machine a) x) (entry (machine b) x)
      step x h k =
          let r : SameStrings (x / byte_values) (x / byte_values) = k (x / byte_values) (row_known a c x h) in
          record {
            in_left = (sound_closed a s).inside (x / byte_values) (x % byte_values) r.in_left (omega arith);
            in_right = (sound_closed b t).inside (x / byte_values) (x % byte_values) r.in_right (omega arith);
            same = λ w g. r.same (x % byte_values ∷ w) (omega arith, g);
          }

  next : (q x : ℕ) → q < states_of a → x < byte_values → next_of a q x ≡ next_of b q x
  next q x h k = sym (entry_at (machine a) q x k) ∙ entries (q * byte_values + x) (omega arith) ∙ entry_at (machine b) q x k

  -- the classes p of a and q of b hold a common byte
  abbrev Class : ℕ → ℕ → Type 0
  Class p q = (x : ℕ) × (x < byte_values) × (class_of a x ≡ p) × (class_of b x ≡ q)

  class_left : (p q r : ℕ) → Class p r → Class q r → p ≡ q
  class_left p q r (x, h, i, j) (y, k, l, m) = sym i ∙ c.share x y h k through ∙ l
    where
      through : (v : ℕ) → v < states_of a → next_of a v x ≡ next_of a v y
      through v g = next v x g h ∙ d.alike x y h k (j ∙ sym m) v (rw states at g) ∙ sym (next v y g k)

  class_right : (p q r : ℕ) → Class p q → Class p r → q ≡ r
  class_right p q r (x, h, i, j) (y, k, l, m) = sym j ∙ d.share x y h k (λ v g. through v (rw (← states) at g)) ∙ m
    where
      through : (v : ℕ) → v < states_of a → next_of b v x ≡ next_of b v y
      through v g = sym (next v x g h) ∙ c.alike x y h k (i ∙ sym l) v g ∙ next v y g k

  class : (x : ℕ) → x < byte_values → class_of a x ≡ class_of b x
  class =
      arrival_one (class_of a) (class_of b) 0 byte_values Class class_left class_right (λ v h. absurd (omega arith)) (λ x h k. (x, h, refl, refl)) c.smallest
      d.smallest

  classes : classes_of a ≡ classes_of b
  classes = omega (arith, classes_most a b s c t class, classes_most b a t d s (λ x h. sym (class x h)))

  mark : (q : ℕ) → q < states_of a → mark_of a q ≡ mark_of b q
  mark q h =
      let r = c.reached q h in
      let runs = run_agree (machine a) (machine b) (sound_closed a s) next 0 r.word s.some_state r.bytes in
      let left : mark_of a q < 2 = s.marks (marks_at + q) (omega arith) (omega arith) in
      let right : mark_of b q < 2 = t.marks (marks_at + q) (omega (arith, states)) (omega arith) in
      bit_same (mark_of a q) (mark_of b q) left right (rw (← runs, r.leads) at (e r.word r.bytes))

  cell : (i : ℕ) → i < states_of a * classes_of a → get_or a (cells_at + i) 0 ≡ get_or b (cells_at + i) 0
  unfolding next_of
  cell i h =
      let k : 0 < classes_of a = s.some_class in
      let (x, l, j) = c.holds (i % classes_of a) (mod-lt i k) in
      let z : i / classes_of a * classes_of a + i % classes_of a ≡ i = div-add-mod' i (classes_of a) in
      rw (← class x l, ← classes, j, z) at (next (i / classes_of a) x ((div-lt_iff_lt-mul k).1 h) l)

-- two canonical tables for the same strings are equal, byte by byte
pub unique_table : (a b : List ℕ) → SoundTable a → SoundTable b → CanonicalTable a → CanonicalTable b → Equal (machine a) (machine b) → SameTables a b
unique_table a b s t c d e = bytes_from_parts a b parts s.marks_off t.marks_off s.cells_off t.cells_off
  where
    parts : SameParts a b
    parts = record { states = states a b s t c d e; classes = classes a b s t c d e; class = class a b s t c d e; mark = mark a b s t c d e; cell = cell a b s t c d e }

-- two canonical rooms for the same strings are equal, byte by byte: where their tables are, their ways home are
pub unique : (a b : List ℕ) → Canonical a → Canonical b → Equal (machine a) (machine b) → SameBytes a b
unique a b c d e = tables_bytes a b c.sound d.sound (unique_table a b c.sound.table d.sound.table c.table d.table e)
