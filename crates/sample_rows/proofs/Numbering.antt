-- A test that a sample's room is canonical. Strings that lead to the states and strings that tell them apart are given; all else is computed from the table:
-- one pass each over the table and the class map for the numbering by first arrival.
--   arrives: the pass; arrives_by: it shows `Arrival`
--   is_bytes, bytes_by: the test of `Bytes`
--   is_canonical, canonical_by: the test, and that the room is canonical
use Prim.Native.Nat.{ℕ, zero, suc, ◌+◌, ◌*◌, ◌/◌, ◌%◌, ◌≤◌, ◌<◌, max}
use mathlib.Core.Path.{◌≡◌, sym, ap, ◌∙◌}
use mathlib.Core.Bool.{Bool, true, false, not, ◌&&◌, ◌||◌, cond, false≢true}
use mathlib.Core.Logic.{inl, inr}
use mathlib.Core.List.{List, [], ◌∷◌}
use native.Mathlib.Omega.{arith}
use lib.Dec.{eqb, leb, ltb}
use lib.ListN.{get_or}
use Rattle.scope.specs.Limits.{byte_values}
use Rattle.scope.specs.Bytes.{Bytes}
use Rattle.scope.specs.Machines.Machine.{Machine, run, Same, Reached}
use Rattle.scope.specs.Machines.Room.{states_of, classes_of, class_of, cell_of, next_of, machine}
use Rattle.scope.specs.Machines.Canonical.{met, Arrival, entry, Canonical}
use Rattle.sample_rows.specs.Samples.{Sample, states_in, classes_in, class_in, sample_cell, sample_room}
use Rattle.scope.proofs.Counting.Tests.{which, split, all, all_is, any, any_is, or, itself, equals, below, at_most, pair}
use Rattle.scope.proofs.Counting.Arrival.{arrival_ext}
use Rattle.scope.proofs.Machines.SameMoves.{SameMoves, agree_same, agree_reached}
use Rattle.sample_rows.proofs.Table.{table_of, Small, room_sound, room_agrees, room_states, room_classes, room_class, table_closed}

-- ---- numbering by first arrival

unfoldable pub arrives : (ℕ → ℕ) → ℕ → ℕ → ℕ → Bool
arrives f m x zero = true
arrives f m x (suc n) = leb (f x) m && arrives f (max m (suc (f x))) (suc x) n

passed : (f : ℕ → ℕ) (from x n : ℕ) → arrives f (met f from x) x n ≡ true → (y : ℕ) → x ≤ y → y < x + n → f y ≤ met f from y
unfolding arrives met
passed f from x zero e y h k = absurd (omega arith)
passed f from x (suc n) e y h k =
    let (a, b) = pair (at_most (f x) (met f from x)).sound (passed f from (suc x) n) e in
    elim (split x y) [ inl l ↦ b y l (omega arith) | inr l ↦ let d : y ≡ x = omega arith in rw d a ]

pub arrives_by : (f g : ℕ → ℕ) (from n : ℕ) → ((x : ℕ) → x < n → f x ≡ g x) → arrives f from 0 n ≡ true → Arrival g from n
unfolding met
arrives_by f g from n h e = arrival_ext f g from n h (λ x k. passed f from 0 n e x (omega arith) (omega arith))

-- ---- strings

unfoldable pub is_bytes : List ℕ → Bool
is_bytes [] = true
is_bytes (b ∷ w) = ltb b byte_values && is_bytes w

pub bytes_by : (w : List ℕ) → is_bytes w ≡ true → Bytes w
unfolding is_bytes
bytes_by [] e = tt
bytes_by (b ∷ w) e = pair (below b byte_values).sound (bytes_by w) e

-- one of the strings passes
unfoldable pub some_of : (List ℕ → Bool) → List (List ℕ) → Bool
some_of f [] = false
some_of f (w ∷ l) = f w || some_of f l

some_by : (f : List ℕ → Bool) (l : List (List ℕ)) → some_of f l ≡ true → (w : List ℕ) × (f w ≡ true)
unfolding some_of
some_by f [] e = absurd (false≢true e)
some_by f (w ∷ l) e = elim (which (f w)) [ inl d ↦ (w, d) | inr d ↦ some_by f l (rw d at e) ]

unfoldable pub differ : Bool → Bool → Bool
differ a b = cond a (not b) b

pub differ_by : (a b : Bool) → differ a b ≡ true → a ≡ b → ⊥
unfolding differ
differ_by true true e d = false≢true e
differ_by true false e d = false≢true (sym d)
differ_by false true e d = false≢true d
differ_by false false e d = false≢true e

-- ---- the test

-- the string w tells p from q
unfoldable pub tells : Machine → ℕ → ℕ → List ℕ → Bool
unfolding is_bytes differ
tells M p q w = is_bytes w && differ (M.accepts (run M p w)) (M.accepts (run M q w))

unfoldable pub is_canonical : Sample → List (List ℕ) → List (List ℕ) → Bool
unfolding table_of class_in arrives is_bytes some_of tells
is_canonical g ways words =
    all (λ q. is_bytes (get_or ways q []) && eqb (run (table_of g) 0 (get_or ways q [])) q) (states_in g)
    && (all (λ p. all (λ q. eqb q p || some_of (tells (table_of g) p q) words) (states_in g)) (states_in g)
    && (arrives (entry (table_of g)) 1 0 (states_in g * byte_values)
    && (all (λ c. all (λ d. eqb d c || any (λ q. not (eqb (sample_cell g q c) (sample_cell g q d))) (states_in g)) (classes_in g)) (classes_in g)
    && (all (λ c. any (λ b. eqb (class_in g b) c) byte_values) (classes_in g) && arrives (class_in g) 0 0 byte_values))))

module _ (g : Sample) (s : Small g) (ways words : List (List ℕ)) where
  same : (q : ℕ) → q < states_in g → Same (table_of g) q (machine (sample_room g)) q
  unfolding table_of
  same = agree_same (table_of g) (machine (sample_room g)) (table_closed g s) (room_agrees g s)

  reached : (q : ℕ) → is_bytes (get_or ways q []) && eqb (run (table_of g) 0 (get_or ways q [])) q ≡ true → Reached (machine (sample_room g)) q
  reached q e =
      let (a, b) = pair (bytes_by (get_or ways q [])) (equals (run (table_of g) 0 (get_or ways q [])) q).sound e in
      agree_reached (table_of g) (machine (sample_room g)) (table_closed g s) (room_agrees g s) q (record { word = get_or ways q []; bytes = a; leads = sym b })

  reduced : (p q : ℕ) → p < states_in g → q < states_in g → eqb q p || some_of (tells (table_of g) p q) words ≡ true → Same (machine (sample_room g)) p (machine (sample_room g)) q → p ≡ q
  unfolding tells
  reduced p q h k e f = elim ((or (equals q p) (itself (some_of (tells (table_of g) p q) words))).sound e) [
    | inl d ↦ d
    | inr d ↦
        let (w, t) = some_by (tells (table_of g) p q) words d in
        let (a, b) = pair (bytes_by w) (differ_by ((table_of g).accepts (run (table_of g) p w)) ((table_of g).accepts (run (table_of g) q w))) t in
        absurd (b (same p h w a ∙ f w a ∙ sym (same q k w a)))
  ]

  -- two classes that some state tells apart
  shared : (b c : ℕ) → b < classes_in g → c < classes_in g → eqb c b || any (λ q. not (eqb (sample_cell g q b) (sample_cell g q c))) (states_in g) ≡ true
      → ((q : ℕ) → q < states_in g → sample_cell g q b ≡ sample_cell g q c) → b ≡ c
  shared b c h k e f = elim ((or (equals c b) (any_is (λ q. not (eqb (sample_cell g q b) (sample_cell g q c))) (states_in g))).sound e) [
    | inl d ↦ d
    | inr (q, l, d) ↦ absurd (false≢true (rw ((equals (sample_cell g q b) (sample_cell g q c)).full (sym (f q l))) at d))
  ]

  pub canonical_by : is_canonical g ways words ≡ true → Canonical (sample_room g)
  unfolding is_canonical table_of next_of
  canonical_by e =
      let way : ℕ → Bool = λ q. is_bytes (get_or ways q []) && eqb (run (table_of g) 0 (get_or ways q [])) q in
      let told : ℕ → ℕ → Bool = λ p q. eqb q p || some_of (tells (table_of g) p q) words in
      let apart : ℕ → ℕ → Bool = λ c d. eqb d c || any (λ q. not (eqb (sample_cell g q c) (sample_cell g q d))) (states_in g) in
      let has : ℕ → Bool = λ c. any (λ b. eqb (class_in g b) c) byte_values in
      let (a, t) = pair (all_is way (states_in g)).sound (pair (all_is (λ p. all (told p) (states_in g)) (states_in g)).sound
      (pair (itself (arrives (entry (table_of g)) 1 0 (states_in g * byte_values))).sound
      (pair (all_is (λ c. all (apart c) (classes_in g)) (classes_in g)).sound
      (pair (all_is has (classes_in g)).sound (itself (arrives (class_in g) 0 0 byte_values)).sound)))) e in
      let agree : SameMoves (table_of g) (machine (sample_room g)) = room_agrees g s in
      let n : states_of (sample_room g) ≡ states_in g = room_states g in
      let k : classes_of (sample_room g) ≡ classes_in g = room_classes g in
      record {
        sound = room_sound g s;
        table = record {
          reached = λ q h. reached q (a q (rw n at h));
          reduced = λ p q h l. reduced p q (rw n at h) (rw n at l) ((all_is (told p) (states_in g)).sound (t.0 p (rw n at h)) q (rw n at l));
          arrival = rw n (arrives_by (entry (table_of g)) (entry (machine (sample_room g))) 1 (states_in g * byte_values)
              (λ x h. agree.next (x / byte_values) (x % byte_values) (omega arith) (omega arith)) t.1.0);
          alike = λ b c h l f q m. ap (cell_of (sample_room g) q) f;
          share = λ b c h l f.
              room_class g b h
              ∙ shared (class_in g b) (class_in g c) (s.class b h) (s.class c l) ((all_is (apart (class_in g b)) (classes_in g)).sound (t.1.1.0 (class_in g b) (s.class b h)) (class_in g c) (s.class c l))
              (λ q m. agree.next q b m h ∙ f q (rw (← n) at m) ∙ sym (agree.next q c m l))
              ∙ sym (room_class g c l);
          holds = λ c h. (let (b, l, f) = (any_is (λ b. eqb (class_in g b) c) byte_values).sound (t.1.1.1.0 c (rw k at h)) in (b, l, room_class g b l ∙ sym ((equals (class_in g b) c).sound f)));
          smallest = arrives_by (class_in g) (class_of (sample_room g)) 0 byte_values (λ b h. sym (room_class g b h)) t.1.1.1.1;
        };
      }
