-- The form of a room, field by field: a bit sequence is laid out for a room, and either determines the other.
--   form_first: the first byte of a form begins with the form's number
--   form_laid: the bits of a form are laid out so
--   laid_one, bits_one, one_table, one_form: the bits have one table, the room one sequence of bits, and a form one table and one sound room
use Prim.Native.Nat.{ℕ, zero, suc, ◌+◌, ◌-◌, ◌*◌, ◌/◌, ◌%◌, ◌^◌, ◌≤◌, ◌<◌}
use mathlib.Core.Path.{◌≡◌, refl, sym, ap, ◌∙◌}
use mathlib.Core.Logic.{◌⊎◌, inl, inr}
use mathlib.Core.List.{List, [], ◌++◌, append_assoc, append-nil}
use native.Mathlib.Nat.{mul-le-mul, suc-mul, zero-mul, mul-one, mod-lt}
use native.Mathlib.Omega.{arith}
use lib.Dec.{lit<}
use lib.ListN.{length, get_or, take, drop, length-append, get_or-eq_default}
use lib.Seq.{get_or-take, get_or-drop}
use Rattle.scope.specs.Limits.{byte_values, class_limit, state_limit, classes_at, marks_at, cells_at, room_bytes}
use Rattle.scope.specs.Machines.Room.{states_of, classes_of, SoundTable, Sound, SameTables, SameBytes}
use Rattle.scope.specs.Packing.PackedForm.{bits, fields, value, form_bits, form_length, form_byte, FormOf}
use Rattle.scope.specs.Packing.Laid.{bit_of, from, Holds, cells_bit, end_bit, Laid, Framed}
use Rattle.scope.proofs.Counting.Tests.{split}
use Rattle.scope.proofs.Machines.Room.{SameParts, bytes_from_parts}
use Rattle.scope.proofs.Machines.Moved.{tables_bytes}
use Rattle.scope.proofs.Packing.PackedForm.{bits_length, fields_length, part_length, form_bits_lem}
use Rattle.scope.proofs.Packing.ReadBack.{Bits, value_ext, value_lt, value_join, value_one, bits_at, fields_at, bits_are, fields_are, join_are}

pub framed : (m : List ℕ) → SoundTable m → Framed m
framed m s = record { some_state = s.some_state; some_class = s.some_class; marks_off = s.marks_off; cells_off = s.cells_off }

-- a table is a function of its bit sequence
pub laid_one : (b : ℕ → ℕ) (m n : List ℕ) → Framed m → Framed n → Laid b m → Laid b n → SameTables m n
laid_one b m n s t u v = bytes_from_parts m n parts s.marks_off t.marks_off s.cells_off t.cells_off
  where
    states : states_of m ≡ states_of n
    states = omega (arith, u.states, v.states, s.some_state, t.some_state)

    classes : classes_of m ≡ classes_of n
    classes = omega (arith, u.classes, v.classes, s.some_class, t.some_class)

    parts : SameParts m n
    parts = record {
      states = states;
      classes = classes;
      class = λ i h. sym (u.class i h) ∙ v.class i h;
      mark = λ i h. sym (u.mark i h) ∙ v.mark i (rw states at h);
      cell = λ i h. sym (u.cell i h) ∙ rw states (v.cell i (rw (states, classes) at h));
    }

holds_ext : (b c : ℕ → ℕ) (p w x : ℕ) → ((j : ℕ) → b j ≡ c j) → Holds b p w x → Holds c p w x
holds_ext b c p w x e h = value_ext w (from c p) (from b p) (λ j l. sym (e (p + j))) ∙ h

pub laid_ext : (b c : ℕ → ℕ) (m : List ℕ) → ((j : ℕ) → b j ≡ c j) → Laid b m → Laid c m
laid_ext b c m e l = record {
  bit = λ j. rw (← e j) (l.bit j);
  number = holds_ext b c _ _ _ e l.number;
  states = holds_ext b c _ _ _ e l.states;
  classes = holds_ext b c _ _ _ e l.classes;
  class = λ i h. holds_ext b c _ _ _ e (l.class i h);
  mark = λ i h. holds_ext b c _ _ _ e (l.mark i h);
  cell = λ i h. holds_ext b c _ _ _ e (l.cell i h);
  rest = λ j h. sym (e j) ∙ l.rest j h;
}

-- ---- the form of a sound room is laid out for it

part_at : (m : List ℕ) (start n i : ℕ) → i < n → get_or (take n (drop start m)) i 0 ≡ get_or m (start + i) 0
part_at m start n i h = get_or-take n (drop start m) i 0 h ∙ get_or-drop start m i 0

-- the fields of a part of a room, behind k and before r
part_laid :
    (m k r : List ℕ) (p w start n : ℕ) → length k ≡ p → start + n ≤ length m → ((i : ℕ) → i < start + n → start ≤ i → get_or m i 0 < 2 ^ w)
    → (i : ℕ) → i < n → Holds (bit_of (k ++ (fields w (take n (drop start m)) ++ r))) (p + i * w) w (get_or m (start + i) 0)
part_laid m k r p w start n e l b i h =
    let l' : i < length (take n (drop start m)) = rw (part_length m start n l) h in
    let x : get_or (take n (drop start m)) i 0 ≡ get_or m (start + i) 0 = part_at m start n i h in
    fields_at k w (take n (drop start m)) r p e i l' (rw x (b (start + i) (omega arith) (omega arith))) ∙ x

form_are : (m : List ℕ) → Bits (form_bits m)
unfolding form_bits
form_are m =
    let a : List ℕ = bits 4 1 in
    let b : List ℕ = bits 7 (states_of m - 1) in
    let c : List ℕ = bits 6 (classes_of m - 1) in
    let d : List ℕ = fields 6 (take byte_values (drop classes_at m)) in
    let e : List ℕ = fields 1 (take (states_of m) (drop marks_at m)) in
    let f : List ℕ = fields 7 (take (states_of m * classes_of m) (drop cells_at m)) in
    let de : Bits (d ++ (e ++ f)) = join_are d (e ++ f) (fields_are 6 (take byte_values (drop classes_at m))) (join_are e f (fields_are 1 (take (states_of m) (drop marks_at m))) (fields_are 7 (take (states_of m * classes_of m) (drop cells_at m)))) in
    join_are a (b ++ (c ++ (d ++ (e ++ f)))) (bits_are 4 1)
    (join_are b (c ++ (d ++ (e ++ f))) (bits_are 7 (states_of m - 1)) (join_are c (d ++ (e ++ f)) (bits_are 6 (classes_of m - 1)) de))

number_first : (m : List ℕ) → value 4 (bit_of (form_bits m)) ≡ 1
unfolding form_bits bits value
number_first m = refl

-- the first byte begins with the form's number: "most significant first"
pub form_first : (m : List ℕ) → form_byte m 0 / 16 ≡ 1
unfolding form_byte
form_first m = omega (arith, value_join 4 4 (bit_of (form_bits m)), number_first m, value_lt 4 (λ j. bit_of (form_bits m) (4 + j)) (λ j h. form_are m (4 + j)))

length_two : (k l : List ℕ) (p n : ℕ) → length k ≡ p → length l ≡ n → length (k ++ l) ≡ p + n
length_two k l p n e f = length-append k l ∙ rw (e, f)

pub form_laid : (m : List ℕ) → SoundTable m → Laid (bit_of (form_bits m)) m
unfolding form_bits
form_laid m s =
    let long : room_bytes ≤ length m = s.long in
    let few : states_of m * classes_of m ≤ state_limit * class_limit = mul-le-mul s.few_states s.few_classes in
    let a : List ℕ = bits 4 1 in
    let b : List ℕ = bits 7 (states_of m - 1) in
    let c : List ℕ = bits 6 (classes_of m - 1) in
    let d : List ℕ = fields 6 (take byte_values (drop classes_at m)) in
    let e : List ℕ = fields 1 (take (states_of m) (drop marks_at m)) in
    let f : List ℕ = fields 7 (take (states_of m * classes_of m) (drop cells_at m)) in
    let e2 : form_bits m ≡ (a ++ b) ++ (c ++ (d ++ (e ++ f))) = sym (append_assoc a b (c ++ (d ++ (e ++ f)))) in
    let e3 : form_bits m ≡ ((a ++ b) ++ c) ++ (d ++ (e ++ f)) = e2 ∙ sym (append_assoc (a ++ b) c (d ++ (e ++ f))) in
    let e4 : form_bits m ≡ (((a ++ b) ++ c) ++ d) ++ (e ++ f) = e3 ∙ sym (append_assoc ((a ++ b) ++ c) d (e ++ f)) in
    let e5 : form_bits m ≡ ((((a ++ b) ++ c) ++ d) ++ e) ++ (f ++ []) = e4 ∙ sym (append_assoc (((a ++ b) ++ c) ++ d) e f) ∙ ap (λ (z : List ℕ). ((((a ++ b) ++ c) ++ d) ++ e) ++ z) (sym (append-nil f)) in
    let n2 : length (a ++ b) ≡ 11 = length_two a b 4 7 (bits_length 4 1) (bits_length 7 (states_of m - 1)) in
    let n3 : length ((a ++ b) ++ c) ≡ 17 = length_two (a ++ b) c 11 6 n2 (bits_length 6 (classes_of m - 1)) in
    let nd : length d ≡ 1536 = fields_length 6 (take byte_values (drop classes_at m)) ∙ ap (λ (z : ℕ). 6 * z) (part_length m classes_at byte_values (omega arith)) in
    let n4 : length (((a ++ b) ++ c) ++ d) ≡ 1553 = length_two ((a ++ b) ++ c) d 17 1536 n3 nd in
    let ne : length e ≡ 1 * states_of m = fields_length 1 (take (states_of m) (drop marks_at m)) ∙ ap (λ (z : ℕ). 1 * z) (part_length m marks_at (states_of m) (omega (arith, s.few_states))) in
    let n5 : length ((((a ++ b) ++ c) ++ d) ++ e) ≡ cells_bit m = length_two (((a ++ b) ++ c) ++ d) e 1553 (1 * states_of m) n4 ne ∙ omega arith in
    record {
      bit = form_are m;
      number = bits_at [] 4 1 (b ++ (c ++ (d ++ (e ++ f)))) 0 refl (lit< tt);
      states = bits_at a 7 (states_of m - 1) (c ++ (d ++ (e ++ f))) 4 (bits_length 4 1) (omega (arith, s.few_states));
      classes = rw e2 (bits_at (a ++ b) 6 (classes_of m - 1) (d ++ (e ++ f)) 11 n2 (omega (arith, s.few_classes)));
      class = λ i h. rw e3 (part_laid m ((a ++ b) ++ c) (e ++ f) 17 6 classes_at byte_values n3 (omega arith) (λ j u v. omega (arith, s.classes j u v, s.few_classes)) i h);
      mark = λ i h. rw e4 (part_laid m (((a ++ b) ++ c) ++ d) f 1553 1 marks_at (states_of m) n4 (omega (arith, s.few_states)) (λ j u v. s.marks j u v) i h);
      cell = λ i h. rw e5 (part_laid m ((((a ++ b) ++ c) ++ d) ++ e) [] (cells_bit m) 7 cells_at (states_of m * classes_of m) n5 (omega arith) (λ j u v. omega (arith, s.cells j u v, s.few_states)) i h);
      rest = λ j h. get_or-eq_default (form_bits m) 0 {n = j} (omega (arith, form_bits_lem m s));
    }

-- ---- a bit sequence is a function of the room

holds_one : (b c : ℕ → ℕ) (p w x : ℕ) → ((j : ℕ) → b j < 2) → ((j : ℕ) → c j < 2) → Holds b p w x → Holds c p w x → (j : ℕ) → p ≤ j → j < p + w → b j ≡ c j
holds_one b c p w x k l u v j lo hi =
    let z : p + (j - p) ≡ j = omega arith in
    let t : b (p + (j - p)) ≡ c (p + (j - p)) = value_one w (from b p) (from c p) (λ i h. k (p + i)) (λ i h. l (p + i)) (u ∙ sym v) (j - p) (omega arith) in
    rw z at t

holds_all :
    (b c : ℕ → ℕ) (p w n : ℕ) (f : ℕ → ℕ) → ((j : ℕ) → b j < 2) → ((j : ℕ) → c j < 2)
    → ((i : ℕ) → i < n → Holds b (p + i * w) w (f i)) → ((i : ℕ) → i < n → Holds c (p + i * w) w (f i)) → (j : ℕ) → p ≤ j → j < p + n * w → b j ≡ c j
holds_all b c p w zero f k l u v j lo hi = absurd (omega (arith, zero-mul w))
holds_all b c p w (suc n) f k l u v j lo hi = elim (split j (p + n * w)) [
  | inl h ↦ holds_all b c p w n f k l (λ i a. u i (omega arith)) (λ i a. v i (omega arith)) j lo h
  | inr h ↦ holds_one b c (p + n * w) w (f n) k l (u n (omega arith)) (v n (omega arith)) j h (omega (arith, suc-mul n w))
]

pub bits_one : (b c : ℕ → ℕ) (m : List ℕ) → Laid b m → Laid c m → (j : ℕ) → b j ≡ c j
bits_one b c m u v j = go (split j 4) (split j 11) (split j 17) (split j 1553) (split j (cells_bit m)) (split j (end_bit m))
  where
    go : (j < 4) ⊎ (4 ≤ j) → (j < 11) ⊎ (11 ≤ j) → (j < 17) ⊎ (17 ≤ j) → (j < 1553) ⊎ (1553 ≤ j) → (j < cells_bit m) ⊎ (cells_bit m ≤ j) → (j < end_bit m) ⊎ (end_bit m ≤ j) → b j ≡ c j
    go (inl h) h2 h3 h4 h5 h6 = holds_one b c 0 4 1 u.bit v.bit u.number v.number j (omega arith) h
    go (inr h) (inl h2) h3 h4 h5 h6 = holds_one b c 4 7 (states_of m - 1) u.bit v.bit u.states v.states j h h2
    go (inr h) (inr h2) (inl h3) h4 h5 h6 = holds_one b c 11 6 (classes_of m - 1) u.bit v.bit u.classes v.classes j h2 h3
    go (inr h) (inr h2) (inr h3) (inl h4) h5 h6 = holds_all b c 17 6 byte_values (λ i. get_or m (classes_at + i) 0) u.bit v.bit u.class v.class j h3 (omega arith)
    go (inr h) (inr h2) (inr h3) (inr h4) (inl h5) h6 = holds_all b c 1553 1 (states_of m) (λ i. get_or m (marks_at + i) 0) u.bit v.bit u.mark v.mark j h4 (omega (arith, mul-one (states_of m)))
    go (inr h) (inr h2) (inr h3) (inr h4) (inr h5) (inl h6) = holds_all b c (cells_bit m) 7 (states_of m * classes_of m) (λ i. get_or m (cells_at + i) 0) u.bit v.bit u.cell v.cell j h5 h6
    go (inr h) (inr h2) (inr h3) (inr h4) (inr h5) (inr h6) = u.rest j h6 ∙ sym (v.rest j h6)

-- ---- the bytes of a form determine its bits

form_bit_lem : (m n f : List ℕ) → FormOf m f → FormOf n f → (j : ℕ) → bit_of (form_bits m) j ≡ bit_of (form_bits n) j
unfolding form_byte form_length
form_bit_lem m n f u v j = elim (split (j / 8) (form_length m)) [
  | inl h ↦
      let e : form_byte m (j / 8) ≡ form_byte n (j / 8) = sym (u.bytes (j / 8) h) ∙ v.bytes (j / 8) (omega (arith, u.size, v.size)) in
      let t = value_one 8 (from (bit_of (form_bits m)) (j / 8 * 8)) (from (bit_of (form_bits n)) (j / 8 * 8)) (λ i h. form_are m (j / 8 * 8 + i)) (λ i h. form_are n (j / 8 * 8 + i)) e (j % 8) (mod-lt j (lit< tt)) in
      let z : j / 8 * 8 + j % 8 ≡ j = omega arith in
      rw z at t
  | inr h ↦
      get_or-eq_default (form_bits m) 0 {n = j} (omega arith) ∙ sym (get_or-eq_default (form_bits n) 0 {n = j} (omega (arith, u.size, v.size)))
]

-- rooms with one form have one table
pub one_table : (m n f : List ℕ) → SoundTable m → SoundTable n → FormOf m f → FormOf n f → SameTables m n
one_table m n f s t u v =
    let e : (j : ℕ) → bit_of (form_bits m) j ≡ bit_of (form_bits n) j = form_bit_lem m n f u v in
    let l = form_laid n t in
    laid_one (bit_of (form_bits m)) m n (framed m s) (framed n t) (form_laid m s) (laid_ext (bit_of (form_bits n)) (bit_of (form_bits m)) n (λ j. sym (e j)) l)

-- and so they are one room
pub one_form : (m n f : List ℕ) → Sound m → Sound n → FormOf m f → FormOf n f → SameBytes m n
one_form m n f s t u v = tables_bytes m n s t (one_table m n f s.table t.table u v)
