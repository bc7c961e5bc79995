-- A test that a string matches a sample as a row says. The states from which no string is accepted are given, and a string that is accepted from each other
-- state; that no byte leads out of the former is computed, so a prefix is completable exactly if it leads to one of the latter.
--   is_guided: the lost states and the ways home are right
--   is_matched, matched_by: the test, and that the answer is the one
use Prim.Native.Nat.{ℕ, suc, ◌≤◌, ◌<◌}
use mathlib.Core.Path.{◌≡◌, sym, ap, subst, subst₂, ◌∙◌}
use mathlib.Core.Bool.{Bool, true, false, not, ◌&&◌, ◌||◌, cond, false≢true}
use mathlib.Core.Logic.{◌⊎◌, inl, inr}
use mathlib.Core.List.{List, [], ◌∷◌, ◌++◌}
use native.Mathlib.Omega.{arith}
use lib.Dec.{eqb, leb}
use lib.ListN.{length, take, get_or}
use Rattle.scope.specs.Bytes.{Bytes, is_in}
use Rattle.scope.specs.Answers.{ACCEPTED, DEAD, UNFINISHED}
use Rattle.scope.specs.Machines.Machine.{Machine, run, Completable}
use Rattle.scope.specs.Machines.Room.{machine}
use Rattle.scope.specs.Operations.Match.{Matches, accepted, dead, unfinished}
use Rattle.sample_rows.specs.Samples.{Sample, states_in, classes_in, class_in, sample_cell, sample_room}
use Rattle.scope.specs.Tests.{Tests}
use Rattle.scope.proofs.Counting.Tests.{which, all, all_is, or, and, itself, equals, at_most, pair}
use Rattle.scope.proofs.Machines.Run.{run_append, run_below, bytes_append, bytes_take}
use Rattle.scope.proofs.Machines.SameMoves.{agree_same}
use Rattle.sample_rows.proofs.Table.{table_of, Small, room_sound, room_agrees, table_closed}
use Rattle.sample_rows.proofs.Numbering.{is_bytes, bytes_by}

-- ---- the test

unfoldable pub is_guided : Sample → List ℕ → List (List ℕ) → Bool
unfolding table_of is_in is_bytes
is_guided g lost homes =
    all (λ q. cond (is_in lost q)
    (not ((table_of g).accepts q) && all (λ c. is_in lost (sample_cell g q c)) (classes_in g))
    (is_bytes (get_or homes q []) && (table_of g).accepts (run (table_of g) q (get_or homes q [])))) (states_in g)

-- the first n prefixes of s lead to no lost state
unfoldable pub is_alive : Sample → List ℕ → List ℕ → ℕ → Bool
unfolding table_of is_in
is_alive g lost s n = all (λ j. not (is_in lost (run (table_of g) 0 (take j s)))) n

unfoldable pub is_answer : Sample → List ℕ → List ℕ → ℕ → ℕ → Bool
unfolding is_alive
is_answer g lost s n i =
    ((eqb n ACCEPTED && eqb i 0) && (table_of g).accepts (run (table_of g) 0 s))
    || (((eqb n UNFINISHED && eqb i 0) && (not ((table_of g).accepts (run (table_of g) 0 s)) && is_alive g lost s (suc (length s))))
    || (eqb n DEAD && (leb i (length s) && (is_in lost (run (table_of g) 0 (take i s)) && is_alive g lost s i))))

unfoldable pub is_matched : Sample → List ℕ → List (List ℕ) → List ℕ → ℕ → ℕ → Bool
unfolding is_guided is_bytes is_answer
is_matched g lost homes s n i = is_guided g lost homes && (is_bytes s && is_answer g lost s n i)

-- ---- what it shows

untrue : (b : Bool) → not b ≡ true → b ≡ true → ⊥
untrue true e d = false≢true e
untrue false e d = false≢true d

module _ (g : Sample) (s : Small g) (lost : List ℕ) (homes : List (List ℕ)) (guided : is_guided g lost homes ≡ true) where
  abbrev T : Machine
  T = table_of g

  abbrev R : Machine
  R = machine (sample_room g)

  -- what is known of a state
  abbrev Lost : ℕ → Type 0
  Lost q = (not (T.accepts q) ≡ true) × ((c : ℕ) → c < classes_in g → is_in lost (sample_cell g q c) ≡ true)

  abbrev Home : ℕ → Type 0
  Home q = Bytes (get_or homes q []) × (T.accepts (run T q (get_or homes q [])) ≡ true)

  guide : (q : ℕ) → q < states_in g → ((is_in lost q ≡ true) × Lost q) ⊎ ((is_in lost q ≡ false) × Home q)
  unfolding is_guided
  guide q h = elim (which (is_in lost q)) [
    | inl e ↦ inl (e, pair (itself (not (T.accepts q))).sound (all_is (λ c. is_in lost (sample_cell g q c)) (classes_in g)).sound (rw e at (test h)))
    | inr e ↦ inr (e, pair (bytes_by (get_or homes q [])) (itself (T.accepts (run T q (get_or homes q [])))).sound (rw e at (test h)))
  ]
    where
      test : q < states_in g → cond (is_in lost q) (not (T.accepts q) && all (λ c. is_in lost (sample_cell g q c)) (classes_in g)) (is_bytes (get_or homes q []) && T.accepts (run T q (get_or homes q []))) ≡ true
      test h = (all_is (λ q. cond (is_in lost q) (not (T.accepts q) && all (λ c. is_in lost (sample_cell g q c)) (classes_in g))
          (is_bytes (get_or homes q []) && T.accepts (run T q (get_or homes q [])))) (states_in g)).sound guided q h

  lost_by : (q : ℕ) → q < states_in g → is_in lost q ≡ true → Lost q
  lost_by q h e = elim (guide q h) [ inl (d, x) ↦ x | inr (d, x) ↦ absurd (false≢true (sym d ∙ e)) ]

  for_ever : (q : ℕ) (w : List ℕ) → q < states_in g → Bytes w → is_in lost q ≡ true → T.accepts (run T q w) ≡ true → ⊥
  unfolding table_of
  for_ever q [] h b e a = untrue (T.accepts q) (lost_by q h e).0 a
  for_ever q (c ∷ w) h b e a =
      for_ever (sample_cell g q (class_in g c)) w (s.cell q h (class_in g c) (s.class c b.0)) b.1 ((lost_by q h e).1 (class_in g c) (s.class c b.0)) a

  same : (w : List ℕ) → Bytes w → T.accepts (run T 0 w) ≡ R.accepts (run R 0 w)
  unfolding table_of
  same w b = agree_same T R (table_closed g s) (room_agrees g s) 0 s.some_state w b

  inside : (w : List ℕ) → Bytes w → run T 0 w < states_in g
  unfolding table_of
  inside w b = run_below T (table_closed g s) 0 w s.some_state b

  alive : (w : List ℕ) → Bytes w → not (is_in lost (run T 0 w)) ≡ true → Completable R w
  alive w b e = elim (guide (run T 0 w) (inside w b)) [
    | inl (d, x) ↦ absurd (untrue (is_in lost (run T 0 w)) e d)
    | inr (d, x) ↦
        let home : List ℕ = get_or homes (run T 0 w) [] in
        record { rest = home; bytes = x.0; accepted = sym (same (w ++ home) (bytes_append w home b x.0)) ∙ ap T.accepts (run_append T 0 w home) ∙ x.1 }
  ]

  hopeless : (w : List ℕ) → Bytes w → is_in lost (run T 0 w) ≡ true → Completable R w → ⊥
  hopeless w b e c =
      for_ever (run T 0 w) c.rest (inside w b) c.bytes e
      (sym (ap T.accepts (run_append T 0 w c.rest)) ∙ same (w ++ c.rest) (bytes_append w c.rest b c.bytes) ∙ c.accepted)

  prefixes : (t : List ℕ) (n : ℕ) → Bytes t → is_alive g lost t n ≡ true → (j : ℕ) → j < n → Completable R (take j t)
  unfolding is_alive
  prefixes t n b e j h = alive (take j t) (bytes_take j t b) ((all_is (λ j. not (is_in lost (run T 0 (take j t)))) n).sound e j h)

  answer_by : (t : List ℕ) (n i : ℕ) → Bytes t → is_answer g lost t n i ≡ true → Matches (sample_room g) t n i
  unfolding is_answer
  answer_by t n i b e = go ((or (numbered ACCEPTED (itself (T.accepts (run T 0 t)))) (or (numbered UNFINISHED (and (itself (not (T.accepts (run T 0 t)))) (itself (is_alive g lost t (suc (length t))))))
      (and (equals n DEAD) (and (at_most i (length t)) (and (itself (is_in lost (run T 0 (take i t)))) (itself (is_alive g lost t i))))))).sound e)
    where
      numbered : {c : Bool} {A : Type 0} (m : ℕ) → Tests c A → Tests ((eqb n m && eqb i 0) && c) (((m ≡ n) × (0 ≡ i)) × A)
      numbered m t = and (and (equals n m) (equals i 0)) t

      go : (((ACCEPTED ≡ n) × (0 ≡ i)) × (T.accepts (run T 0 t) ≡ true)) ⊎ ((((UNFINISHED ≡ n) × (0 ≡ i)) × ((not (T.accepts (run T 0 t)) ≡ true) × (is_alive g lost t (suc (length t)) ≡ true)))
          ⊎ ((DEAD ≡ n) × ((i ≤ length t) × ((is_in lost (run T 0 (take i t)) ≡ true) × (is_alive g lost t i ≡ true))))) → Matches (sample_room g) t n i
      go (inl ((x, y), a)) = subst₂ (Matches (sample_room g) t) x y (accepted (room_sound g s) (sym (same t b) ∙ a))
      go (inr (inl ((x, y), (a, l)))) = subst₂ (Matches (sample_room g) t) x y (unfinished (room_sound g s) (λ j h. prefixes t (suc (length t)) b l j (omega arith)) (λ d. untrue (T.accepts (run T 0 t)) a (same t b ∙ d)))
      go (inr (inr (x, (l, (a, d))))) = subst (λ (m : ℕ). Matches (sample_room g) t m i) x
          (dead (room_sound g s) (record { inside = l; dead = hopeless (take i t) (bytes_take i t b) a; before = λ j h. prefixes t i b d j h }))

pub matched_by : (g : Sample) → Small g → (lost : List ℕ) (homes : List (List ℕ)) (t : List ℕ) (n i : ℕ) → is_matched g lost homes t n i ≡ true → Matches (sample_room g) t n i
unfolding is_matched
matched_by g s lost homes t n i e =
    let (a, b) = pair (itself (is_guided g lost homes)).sound (pair (bytes_by t) (itself (is_answer g lost t n i)).sound) e in
    answer_by g s lost homes a t n i b.0 b.1
