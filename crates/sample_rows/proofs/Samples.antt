-- The rows of 01, all of them: one test that is computed over a row, with what helps it, and one law that turns the test into what the row says.
--   is_row, row_by: the test and the law
--   samples: every row holds
use Prim.Native.Nat.{ℕ, ◌+◌, ◌*◌, ◌/◌, ◌≤◌, ◌<◌}
use Prim.Native.String.{String}
use mathlib.Core.Path.{◌≡◌, refl, sym, ap, ap₂, subst, subst₂, ◌∙◌}
use mathlib.Core.Bool.{Bool, true, false, ◌&&◌, ◌||◌, beq, false≢true}
use mathlib.Core.Logic.{◌⊎◌, inl, inr}
use mathlib.Core.List.{List, [], ◌∷◌, map}
use native.Mathlib.Omega.{arith}
use lib.Dec.{eqb, ltb}
use lib.ListN.{length, get_or}
use Rattle.scope.specs.Limits.{byte_values, word_bytes}
use Rattle.scope.specs.Bytes.{ascii}
use Rattle.scope.specs.Text.Re.{Re, size}
use Rattle.scope.specs.Positions.Bits.{null, first, last, follow}
use Rattle.scope.specs.Text.Tree.{lone, range, dot, letter, class, many, some, maybe, Tree, nothing, empty, position, group, marked, beside, either, expr, falling}
use Rattle.scope.specs.Text.Grammar.{literal, escapable, class_literal, is_mark, hex}
use Rattle.scope.specs.Text.Judge.{SyntaxAt, Beyond}
use Rattle.scope.specs.Answers.{SAME, SEPARATED}
use Rattle.scope.specs.Machines.Machine.{Machine, Equal, Closed}
use Rattle.scope.specs.Machines.Room.{machine}
use Rattle.scope.specs.Packing.PackedForm.{form_length}
use Rattle.scope.specs.Machines.Rounds.{aside, Together, Rounds}
use Rattle.scope.specs.Machines.Separate.{Separation}
use Rattle.scope.specs.Operations.Buffers.{Written, Scratch, Cleared}
use Rattle.scope.specs.Operations.Compare.{CompareLent, Compares, same, separated}
use Rattle.scope.specs.Lines.{printed}
use Rattle.sample_rows.specs.Samples.{Sample, states_in, classes_in, class_in, sample_room, positions, HasSets, Row, Says, Each, rows}
use Rattle.scope.specs.Tests.{Tests}
use Rattle.scope.proofs.Counting.Tests.{all, all_is, any, any_is, and, or, itself, same_bool, equals, below, pair}
use Rattle.scope.proofs.Operations.Buffers.{written_none}
use Rattle.scope.proofs.Packing.PackedForm.{form_bits_lem}
use Rattle.sample_rows.proofs.ReadsBy.{is_pattern, reads_by}
use Rattle.modes.proofs.Places.{Verdict, legal, syntax, verdict, VerdictSays, judges}
use Rattle.scope.proofs.Machines.SameMoves.{agree_aside, agree_rounds, agree_equal, agree_separation}
use Rattle.scope.proofs.Machines.Aside.{aside_closed}
use Rattle.scope.proofs.Machines.Separate.{equal_by, spelled_separation}
use Rattle.sample_rows.proofs.Table.{table_of, Small, room_length, room_states, room_classes, room_table, room_sound, room_agrees, table_closed}
use Rattle.sample_rows.proofs.Shown.{Help, is_compiled, compiled_by, compiled_small}
use Rattle.sample_rows.proofs.Lost.{is_matched, matched_by}
use Rattle.sample_rows.proofs.Apart.{alike_by, is_rounds, is_spelled, KindsCover, alike_by_lem, rounds_by, spelled_by}

-- ---- sets of positions

unfoldable pub is_sets : Re → Bool → List ℕ → List ℕ → List (List ℕ) → Bool
unfolding null first last follow positions
is_sets e n f l w =
    beq (null e) n
    && (eqb (first e 0) (positions f)
    && (eqb (last e 0) (positions l)
    && (eqb (size e) (length w) && all (λ i. eqb (follow e 0 (i + 1)) (positions (get_or w i []))) (length w))))

sets_by : (e : Re) (n : Bool) (f l : List ℕ) (w : List (List ℕ)) → is_sets e n f l w ≡ true → HasSets e n f l w
unfolding is_sets
sets_by e n f l w x =
    let (a, b) = pair (same_bool (null e) n).sound (pair (equals (first e 0) (positions f)).sound (pair (equals (last e 0) (positions l)).sound
    (pair (equals (size e) (length w)).sound (all_is (λ i. eqb (follow e 0 (i + 1)) (positions (get_or w i []))) (length w)).sound))) x in
    record {
      nullable = a;
      firsts = sym b.0;
      lasts = sym b.1.0;
      count = sym b.1.1.0;
      follows = λ i h. sym ((equals (follow e 0 (i + 1)) (positions (get_or w i []))).sound (b.1.1.1 i h));
    }

-- ---- packed bytes

unfoldable pub bytes_in : Sample → ℕ
bytes_in g = (1553 + states_in g + 7 * (states_in g * classes_in g) + 7) / 8

bytes_by : (g : Sample) → Small g → form_length (sample_room g) ≡ bytes_in g
unfolding form_length bytes_in
bytes_by g s = ap (λ (n : ℕ). (n + 7) / 8) (form_bits_lem (sample_room g) (room_table g s)) ∙ rw (room_states g, room_classes g) refl

-- ---- two machines

module _ (g h : Sample) (kinds : List ℕ) where
  abbrev Two : Machine
  Two = aside (table_of g) (table_of h)

  unfoldable pub is_kinds : Bool
  unfolding class_in
  is_kinds =
      all (λ k. ltb (get_or kinds k 0) byte_values) (length kinds)
      && all (λ b. any (λ k. eqb (class_in g b) (class_in g (get_or kinds k 0)) && eqb (class_in h b) (class_in h (get_or kinds k 0))) (length kinds)) byte_values

  kinds_by : is_kinds ≡ true → KindsCover Two kinds
  unfolding is_kinds table_of
  kinds_by e =
      let kind : ℕ → ℕ → Bool = λ b k. eqb (class_in g b) (class_in g (get_or kinds k 0)) && eqb (class_in h b) (class_in h (get_or kinds k 0)) in
      let (a, t) = pair (all_is (λ k. ltb (get_or kinds k 0) byte_values) (length kinds)).sound (all_is (λ b. any (kind b) (length kinds)) byte_values).sound e in
      record {
        bytes = λ k l. (below (get_or kinds k 0) byte_values).sound (a k l);
        all = λ b l.
            let (k, m, x) = (any_is (kind b) (length kinds)).sound (t b l) in
            let (y, z) = pair (equals (class_in g b) (class_in g (get_or kinds k 0))).sound (equals (class_in h b) (class_in h (get_or kinds k 0))).sound x in
            (k, m, λ q o. rw (y, z) refl);
      }

  -- the two starts are together after r rounds, for Same; else they are so before as many rounds as the string has bytes
  unfoldable pub is_apart : ℕ → List ℕ → ℕ → Bool
  unfolding alike_by is_spelled table_of
  is_apart c w r =
      ((eqb c SAME && eqb (length w) 0) && alike_by Two kinds r 0 (states_in g))
      || (eqb c SEPARATED && (all (λ k. alike_by Two kinds k 0 (states_in g)) (length w) && is_spelled Two kinds 0 (states_in g) w))

  unfoldable pub is_compared : ℕ → List ℕ → ℕ → Bool
  unfolding is_kinds is_rounds is_apart table_of
  is_compared c w r = is_kinds && (is_rounds Two kinds r && is_apart c w r)

  module _ (s : Small g) (t : Small h) where
    abbrev left : Machine
    left = machine (sample_room g)

    abbrev right : Machine
    right = machine (sample_room h)

    closed : Closed Two
    closed = aside_closed (table_of g) (table_of h) (table_closed g s) (table_closed h t)

    module _ (k : KindsCover Two kinds) where
      together : (r : ℕ) → Tests (alike_by Two kinds r 0 (states_in g)) (Together Two r 0 (states_in g))
      unfolding table_of
      together r = alike_by_lem Two closed kinds k r 0 (states_in g) (omega (arith, s.some_state)) (omega (arith, t.some_state))

      equal : (r : ℕ) → Rounds Two r → Together Two r 0 (states_in g) → Equal left right
      unfolding table_of
      equal r x d =
          agree_equal (table_of g) left (table_of h) right (table_closed g s) (table_closed h t) (room_agrees g s) (room_agrees h t)
          (equal_by (table_of g) (table_of h) (table_closed g s) (table_closed h t) r x d)

      word : (w : List ℕ) → ((i : ℕ) → i < length w → Together Two i 0 (states_in g)) → is_spelled Two kinds 0 (states_in g) w ≡ true → Separation left right w
      unfolding table_of
      word w d e =
          agree_separation (table_of g) left (table_of h) right (table_closed g s) (table_closed h t) (room_agrees g s) (room_agrees h t) w
          (spelled_separation (table_of g) (table_of h) (table_closed g s) (table_closed h t) (length w) w d
          (spelled_by Two closed kinds k 0 (states_in g) w (omega (arith, s.some_state)) (omega (arith, t.some_state)) e))

      apart_by : (c : ℕ) (w : List ℕ) (r : ℕ) → Rounds Two r → is_apart c w r ≡ true
          → ((SAME ≡ c) × (0 ≡ length w) × Equal left right) ⊎ ((SEPARATED ≡ c) × Separation left right w)
      unfolding is_apart
      apart_by c w r x e = elim ((or (and (and (equals c SAME) (equals (length w) 0)) (together r)) (and (equals c SEPARATED)
          (and (all_is (λ i. alike_by Two kinds i 0 (states_in g)) (length w)) (itself (is_spelled Two kinds 0 (states_in g) w))))).sound e) [
            | inl ((y, z), d) ↦ inl (y, z, equal r x d)
            | inr (y, (d, l)) ↦ inr (y, word w (λ i o. (together i).sound (d i o)) l)
          ]

    -- what comparing the two rooms answers
    compared_by : (c : ℕ) (w : List ℕ) (r : ℕ) → is_compared c w r ≡ true → (word word' bytes bytes' words words' : List ℕ) → word_bytes ≤ length word → Scratch bytes words
        → Written (length w) (λ i. get_or w i 0) word word' → Cleared bytes bytes' words words'
        → Compares (sample_room g) (sample_room h) word word' bytes bytes' words words' c (length w) r
    unfolding is_compared
    compared_by c w r e word word' bytes bytes' words words' long scratch written cleared =
        let (k, b) = pair kinds_by (pair (itself (is_rounds Two kinds r)).sound (itself (is_apart c w r)).sound) e in
        let x : Rounds Two r = rounds_by Two closed kinds k r b.0 in
        let rounds : Rounds (aside left right) r = agree_rounds Two (aside left right) closed (agree_aside (table_of g) left (table_of h) right (room_agrees g s) (room_agrees h t)) r x in
        let lent : CompareLent (sample_room g) (sample_room h) word bytes words =
        record { left_long = omega (arith, room_length g); right_long = omega (arith, room_length h); word_long = long; scratch = scratch } in
        elim (apart_by k c w r x b.1) [
          | inl (y, z, d) ↦ subst₂ (λ (i j : ℕ). Compares (sample_room g) (sample_room h) word word' bytes bytes' words words' i j r) y z
              (same lent (room_sound g s) (room_sound h t) d rounds (written_none (rw (← z) at written)) cleared)
          | inr (y, d) ↦ subst (λ (i : ℕ). Compares (sample_room g) (sample_room h) word word' bytes bytes' words words' i (length w) r) y
              (separated lent (room_sound g s) (room_sound h t) d refl rounds written cleared)
        ]

-- ---- printed lines

unfoldable pub same_list : List ℕ → List ℕ → Bool
same_list [] [] = true
same_list [] (c ∷ l) = false
same_list (b ∷ k) [] = false
same_list (b ∷ k) (c ∷ l) = eqb c b && same_list k l

list_by : (k l : List ℕ) → same_list k l ≡ true → k ≡ l
unfolding same_list
list_by [] [] e = refl
list_by [] (c ∷ l) e = absurd (false≢true e)
list_by (b ∷ k) [] e = absurd (false≢true e)
list_by (b ∷ k) (c ∷ l) e = let (x, y) = pair (equals c b).sound (list_by k l) e in ap₂ ◌∷◌ x y

-- ---- places

unfoldable pub is_at : ℕ → Verdict → Bool
is_at i legal = false
is_at i (syntax j) = eqb i j

at_by : (s : List ℕ) (i : ℕ) (v : Verdict) → VerdictSays s v → is_at i v ≡ true → SyntaxAt s i
unfolding is_at
at_by s i legal x e = absurd (false≢true e)
at_by s i (syntax j) x e = subst (SyntaxAt s) ((equals i j).sound e) x

unfoldable pub is_first : ℕ → List ℕ → Bool
is_first i [] = false
is_first i (j ∷ l) = eqb j i

first_by : (i : ℕ) (l : List ℕ) → is_first i l ≡ true → Beyond l 0 i
unfolding is_first
first_by i [] e = absurd (false≢true e)
first_by i (j ∷ l) e = record { more = omega arith; place = (equals j i).sound e }

-- ---- a row

pub record Hint : Type 0 where
  pub left : Help
  pub right : Help
  -- a byte for each kind that the two machines tell apart
  pub kinds : List ℕ

unfoldable pub is_row : Row → Hint → Bool
unfolding is_pattern expr falling is_sets is_compiled bytes_in is_matched is_compared literal escapable class_literal is_mark hex is_at is_first printed same_list
is_row (Row.sets s n f l w) h = is_pattern s h.left.tree && is_sets (expr h.left.tree) n f l w
is_row (Row.machine g) h = is_compiled g h.left
is_row (Row.packed g n) h = is_compiled g h.left && eqb n (bytes_in g)
is_row (Row.matched g s n i) h = is_compiled g h.left && is_matched g h.left.lost h.left.homes s n i
is_row (Row.compared g k c w r) h = is_compiled g h.left && (is_compiled k h.right && is_compared g k h.kinds c w r)
is_row (Row.syntax s i) h = is_at i (verdict s)
is_row (Row.falls s i) h = is_pattern s h.left.tree && is_first i (falling h.left.tree)
is_row (Row.prints a b c l) h = same_list (printed a b c) l

row_by : (r : Row) (h : Hint) → is_row r h ≡ true → Says r
unfolding is_row
row_by (Row.sets s n f l w) h e = let (a, b) = pair (reads_by s h.left.tree) (sets_by (expr h.left.tree) n f l w) e in (h.left.tree, a, b)
row_by (Row.machine g) h e = compiled_by g h.left e
row_by (Row.packed g n) h e =
    let (a, b) = pair (itself (is_compiled g h.left)).sound (equals n (bytes_in g)).sound e in
    (compiled_by g h.left a, bytes_by g (compiled_small g h.left a) ∙ b)
row_by (Row.matched g s n i) h e =
    let (a, b) = pair (itself (is_compiled g h.left)).sound (itself (is_matched g h.left.lost h.left.homes s n i)).sound e in
    (compiled_by g h.left a, matched_by g (compiled_small g h.left a) h.left.lost h.left.homes s n i b)
row_by (Row.compared g k c w r) h e =
    let (a, b) = pair (itself (is_compiled g h.left)).sound (pair (itself (is_compiled k h.right)).sound (itself (is_compared g k h.kinds c w r)).sound) e in
    (compiled_by g h.left a, compiled_by k h.right b.0, compared_by g k h.kinds (compiled_small g h.left a) (compiled_small k h.right b.0) c w r b.1)
row_by (Row.syntax s i) h e = at_by s i (verdict s) (judges s) e
row_by (Row.falls s i) h e = let (a, b) = pair (reads_by s h.left.tree) (first_by i (falling h.left.tree)) e in (h.left.tree, a, b)
row_by (Row.prints a b c l) h e = list_by (printed a b c) l e

-- ---- all rows

unfoldable pub are_rows : List Row → List Hint → Bool
unfolding is_row
are_rows [] h = true
are_rows (r ∷ l) [] = false
are_rows (r ∷ l) (h ∷ k) = is_row r h && are_rows l k

each_by : (l : List Row) (k : List Hint) → are_rows l k ≡ true → Each l
unfolding are_rows
each_by [] k e = tt
each_by (r ∷ l) [] e = absurd (false≢true e)
each_by (r ∷ l) (h ∷ k) e = pair (row_by r h) (each_by l k) e

-- ---- what helps

-- bytes that stand for themselves at a place
abbrev at : ℕ → String → Tree
at i b = position i (letter (get_or (ascii b) 0 0))

abbrev starred : Tree → Tree
starred t = marked many t

abbrev one_of : ℕ → String → Tree
one_of i s = position i (class (map lone (ascii s)))

abbrev others : List ℕ
others = 0 ∷ []

abbrev for_glushkov : Help
for_glushkov = record {
  tree = beside (group 0 (either (beside (at 1 "a") (starred (at 2 "b"))) (at 5 "a"))) (at 7 "b");
  kinds = 0 ∷ ascii "ab";
  sets = 1 ∷ 0 ∷ positions (1 ∷ 3 ∷ []) ∷ positions (2 ∷ 4 ∷ []) ∷ [];
  states = 0 ∷ 1 ∷ 2 ∷ 3 ∷ [];
  ways = [] ∷ others ∷ ascii "a" ∷ ascii "ab" ∷ [];
  words = [] ∷ ascii "b" ∷ ascii "ab" ∷ [];
  lost = 1 ∷ [];
  homes = ascii "ab" ∷ [] ∷ ascii "b" ∷ [] ∷ [];
}

abbrev for_star : Help
for_star = record {
  tree = starred (at 0 "a");
  kinds = 0 ∷ ascii "a";
  sets = 1 ∷ 0 ∷ positions (1 ∷ []) ∷ [];
  states = 0 ∷ 1 ∷ 0 ∷ [];
  ways = [] ∷ others ∷ [];
  words = [] ∷ [];
  lost = 1 ∷ [];
  homes = [];
}

abbrev for_parity : Help
for_parity = record {
  tree = group 0 (either (beside (one_of 1 "03569ACF") (one_of 11 "12478BDE")) (beside (one_of 22 "12478BDE") (one_of 32 "03569ACF")));
  kinds = 0 ∷ ascii "01";
  sets = 1 ∷ 0 ∷ positions (1 ∷ []) ∷ positions (3 ∷ []) ∷ positions (2 ∷ []) ∷ positions (4 ∷ []) ∷ [];
  states = 0 ∷ 1 ∷ 2 ∷ 3 ∷ 4 ∷ 4 ∷ [];
  ways = [] ∷ others ∷ ascii "0" ∷ ascii "1" ∷ ascii "01" ∷ [];
  words = [] ∷ ascii "0" ∷ ascii "1" ∷ ascii "01" ∷ [];
  lost = 1 ∷ [];
  homes = ascii "01" ∷ [] ∷ ascii "1" ∷ ascii "0" ∷ [] ∷ [];
}

abbrev for_no_word : Help
for_no_word = record { tree = nothing; kinds = 0 ∷ []; sets = 1 ∷ 0 ∷ []; states = 0 ∷ 0 ∷ []; ways = [] ∷ []; words = []; lost = 0 ∷ []; homes = [] }

abbrev for_empty_word : Help
for_empty_word = record { tree = empty; kinds = 0 ∷ []; sets = 1 ∷ 0 ∷ []; states = 0 ∷ 1 ∷ []; ways = [] ∷ others ∷ []; words = [] ∷ []; lost = 1 ∷ []; homes = [] }

abbrev for_remark : Help
for_remark = record {
  tree = starred (position 0 dot);
  kinds = 0 ∷ ascii "\n";
  sets = 1 ∷ positions (1 ∷ []) ∷ 0 ∷ [];
  states = 0 ∷ 0 ∷ 1 ∷ [];
  ways = [] ∷ ascii "\n" ∷ [];
  words = [] ∷ [];
  lost = 1 ∷ [];
  homes = [];
}

abbrev for_only : String → Help
for_only b = record {
  tree = at 0 b;
  kinds = 0 ∷ ascii b;
  sets = 1 ∷ 0 ∷ positions (1 ∷ []) ∷ [];
  states = 0 ∷ 1 ∷ 2 ∷ [];
  ways = [] ∷ others ∷ ascii b ∷ [];
  words = [] ∷ ascii b ∷ [];
  lost = 1 ∷ [];
  homes = ascii b ∷ [];
}

-- one or more a, by the tree, its reached sets and the state of each
abbrev for_one_or_more : Tree → List ℕ → List ℕ → Help
for_one_or_more t sets states = record {
  tree = t;
  kinds = 0 ∷ ascii "a";
  sets = sets;
  states = states;
  ways = [] ∷ others ∷ ascii "a" ∷ [];
  words = [] ∷ ascii "a" ∷ [];
  lost = 1 ∷ [];
  homes = ascii "a" ∷ [];
}

-- a+, and aa*
abbrev for_plus : Help
for_plus = for_one_or_more (marked some (at 0 "a")) (1 ∷ 0 ∷ positions (1 ∷ []) ∷ []) (0 ∷ 1 ∷ 2 ∷ [])

abbrev for_twice : Help
for_twice = for_one_or_more (beside (at 0 "a") (starred (at 1 "a"))) (1 ∷ 0 ∷ positions (1 ∷ []) ∷ positions (2 ∷ []) ∷ []) (0 ∷ 1 ∷ 2 ∷ 2 ∷ [])

abbrev for_mixed : Tree → Help
for_mixed t = record {
  tree = t;
  kinds = 0 ∷ ascii "ab";
  sets = 1 ∷ 0 ∷ positions (1 ∷ []) ∷ positions (2 ∷ []) ∷ [];
  states = 0 ∷ 1 ∷ 0 ∷ 0 ∷ [];
  ways = [] ∷ others ∷ [];
  words = [] ∷ [];
  lost = 1 ∷ [];
  homes = [];
}

-- (ab?)+: the tree is all that its row needs
abbrev for_option : Help
for_option = for_mixed (marked some (group 0 (beside (at 1 "a") (marked maybe (at 2 "b")))))

-- (a*|b*)*, and (a|b)*
abbrev stars : Help
stars = for_mixed (starred (group 0 (either (starred (at 1 "a")) (starred (at 4 "b")))))

abbrev letters : Help
letters = for_mixed (starred (group 0 (either (at 1 "a") (at 3 "b"))))

abbrev for_sorted : Help
for_sorted = record {
  tree = beside (starred (at 0 "a")) (starred (at 2 "b"));
  kinds = 0 ∷ ascii "ab";
  sets = 1 ∷ 0 ∷ positions (1 ∷ []) ∷ positions (2 ∷ []) ∷ [];
  states = 0 ∷ 1 ∷ 0 ∷ 2 ∷ [];
  ways = [] ∷ others ∷ ascii "b" ∷ [];
  words = [] ∷ ascii "a" ∷ [];
  lost = 1 ∷ [];
  homes = [];
}

-- (ab|b)*(bb|a*): the tree is all that its row needs
abbrev for_second : Help
for_second = for_mixed (beside (starred (group 0 (either (beside (at 1 "a") (at 2 "b")) (at 4 "b")))) (group 7 (either (beside (at 8 "b") (at 9 "b")) (starred (at 11 "a")))))

-- [b-a]: so too
abbrev for_falls : Help
for_falls = for_mixed (position 0 (class (range 98 97 2 ∷ [])))

abbrev both : Help → Help → Hint
both left right = record { left = left; right = right; kinds = 0 ∷ ascii "\nab" }

abbrev alone : Help → Hint
alone help = both help help

unfoldable hints : List Hint
unfolding positions
hints =
    alone for_glushkov
    ∷ alone for_second
    ∷ alone for_glushkov
    ∷ alone for_star
    ∷ alone for_parity
    ∷ alone for_no_word
    ∷ alone for_no_word
    ∷ alone for_empty_word
    ∷ alone for_glushkov
    ∷ alone for_glushkov
    ∷ alone for_glushkov
    ∷ both for_remark for_no_word
    ∷ alone for_remark
    ∷ both (for_only "a") (for_only "b")
    ∷ both stars letters
    ∷ alone for_option
    ∷ alone for_plus
    ∷ both for_plus for_twice
    ∷ alone for_no_word
    ∷ alone for_no_word
    ∷ alone for_no_word
    ∷ alone for_no_word
    ∷ alone for_no_word
    ∷ alone for_no_word
    ∷ alone for_no_word
    ∷ alone for_no_word
    ∷ alone for_no_word
    ∷ alone for_falls
    ∷ both for_sorted letters
    ∷ alone for_no_word
    ∷ alone for_no_word
    ∷ []

-- every row holds
pub samples : Each rows
unfolding rows hints are_rows
samples = each_by rows hints refl
