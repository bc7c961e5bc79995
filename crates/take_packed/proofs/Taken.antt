-- A room made from the fields of a form: first blank but for its head, then part after part.
--   judged: whether bytes of the right number and length have the shape, by their filling
--   FieldsTaken: a part of a room holds the fields; part_taken: where the part was taken
--   blanked: a room of zeros whose head is written
--   image_made: what the three parts make of a blank room
use Prim.Native.Nat.{ℕ, ◌+◌, ◌-◌, ◌*◌, ◌/◌, ◌≤◌, ◌<◌}
use mathlib.Core.Path.{◌≡◌, sym, ◌∙◌}
use mathlib.Core.Logic.{◌⊎◌, inl, inr}
use mathlib.Core.List.{List}
use native.Mathlib.Nat.{mul-le-mul, mul-one}
use native.Mathlib.Omega.{arith}
use borrow.Author.Tests.{eqb-true, eqb-false}
use lib.Dec.{eqb}
use lib.ListN.{length, get_or, take, drop}
use Rattle.scope.specs.Limits.{byte_values, classes_at, marks_at, cells_at, ways_at, room_bytes, state_limit, class_limit}
use Rattle.scope.specs.Machines.Room.{states_of, classes_of}
use Rattle.scope.specs.Packing.PackedForm.{state_bits}
use Rattle.scope.specs.Operations.Buffers.{TailKept, Written}
use Rattle.scope.proofs.Counting.Tests.{split}
use Rattle.scope.specs.Packing.Laid.{from, Holds, end_bit, classes_bit, marks_bit}
use borrow.Rule.Slice.PartMut.{put_mid}
use Rattle.scope.proofs.Packing.PackedForm.{part_length}
use Rattle.buffers.specs.Stored.{Stored}
use Rattle.buffers.proofs.OneMore.{stored_part}
use Rattle.room.specs.Head.{head_byte}
use Rattle.room.proofs.HeadAndParts.{head_is, head_same}
use Rattle.packed_bits.specs.PackedFields.{bits_of, Ahead, FieldsFrom}
use Rattle.take_packed.specs.FormImage.{form_bit, Image, HeadNames, FormShaped, ShapeJudged, BlankRoom}
use Rattle.packed_bits.proofs.PackedFields.{zeros}
use Rattle.take_packed.proofs.Bytes.{all_zero, past, form_bit_lem}

-- ---- whether a form has the shape that its head asks for

module _ {n k : ℕ} {f : List ℕ} (h : HeadNames n k f) where
  module _ (bits : ℕ) (e : bits ≡ bits_of n k) where
    -- an image has the head that f names
    same_end : (m : List ℕ) → Image f m → bits ≡ end_bit m
    same_end m i =
        let states : n ≡ states_of m = omega (arith, h.some_state, h.states, i.laid.states, i.framed.some_state) in
        let classes : k ≡ classes_of m = omega (arith, h.some_class, h.classes, i.laid.classes, i.framed.some_class) in
        e ∙ rw (states, classes)

    -- whether the filling, x, is zero
    pub judged :
        (x : ℕ) → ((i : ℕ) → get_or f i 0 < byte_values) → length f ≡ (bits + 7) / 8 → Holds (form_bit f) 0 4 1
        → Holds (form_bit f) bits ((bits + 7) / 8 * 8 - bits) x → ShapeJudged n k f (eqb x 0)
    judged x b size number fill = record {
      yes = λ z. record {
        named = h;
        bytes = b;
        number = number;
        size = size ∙ rw e;
        rest = λ j l. elim (split j (8 * length f)) [
          | inl i ↦
              let t = all_zero ((bits + 7) / 8 * 8 - bits) (from (form_bit f) bits) (fill ∙ eqb-true x 0 z) (j - bits) (omega arith) in
              let q : bits + (j - bits) ≡ j = omega arith in
              rw q at t
          | inr i ↦ past f j i
        ];
      };
      no = λ z m i. eqb-false x 0 z (sym fill ∙ rw (same_end m i) (zeros (form_bit f) (end_bit m) _ i.laid.rest));
    }

-- ---- the parts of a room

-- n bytes from `start` on are the fields of w bits of b from the bit p on; the rest is kept
pub record FieldsTaken (b : ℕ → ℕ) (p w start n : ℕ) (old new : List ℕ) : Type 0 where
  pub size : length new ≡ length old
  pub inside : Ahead b p w new start n
  pub outside : (i : ℕ) → (i < start) ⊎ (start + n ≤ i) → get_or new i 0 ≡ get_or old i 0

-- the bytes that the part was taken to
pub part_taken : {b : ℕ → ℕ} {p w : ℕ} (start k n : ℕ) (old part : List ℕ) → k ≡ n → start + n ≤ length old → length part ≡ length (take k (drop start old))
    → FieldsFrom b p w part (length part) → FieldsTaken b p w start n old (put_mid start k old part)
part_taken start k n old part e h size taken =
    let all : length part ≡ k = size ∙ part_length old start k (omega arith) in
    let s = stored_part start k old part (omega arith) all in
    record {
      size = s.size;
      inside = λ i l.
          let at : start + i - start ≡ i = omega arith in
          taken i (omega arith) ∙ sym (rw at at (s.inside (start + i) (omega arith) (omega arith)));
      outside = λ i l. s.outside i (elim l [ inl u ↦ inl u | inr u ↦ inr (omega arith) ]);
    }

-- zeros, and then the head
pub blanked : {n k : ℕ} {old zero new : List ℕ} → Stored old zero 0 ways_at (λ i. 0) → Written classes_at (head_byte n k) zero new → BlankRoom n k old new
blanked {n} {k} {old} {zero} {new} s w = record {
  tail = record { size = w.size ∙ s.size; outside = λ i h. w.outside i (omega arith) ∙ s.outside i (inr h) };
  states = (head_is new n k w.inside).0;
  classes = (head_is new n k w.inside).1;
  zero = λ i h g. w.outside i g ∙ s.inside i h (omega arith);
}

-- a blank room a whose classes, marks and cells are read, one after the other
module _ {f : List ℕ} {n k c : ℕ} {old a x y new : List ℕ} (g : FormShaped n k f) (e : c ≡ n * k) (long : room_bytes ≤ length old) (z : BlankRoom n k old a)
    (t : FieldsTaken (form_bit f) classes_bit 6 classes_at byte_values a x) (u : FieldsTaken (form_bit f) marks_bit 1 marks_at n x y) (v : FieldsTaken (form_bit f) (marks_bit + n * 1) state_bits cells_at c y new) where
  few : n ≤ state_limit
  few = g.named.few_states

  fit : c ≤ state_limit * class_limit
  fit = rw e (mul-le-mul few g.named.few_classes)

  -- no part reaches past the room
  tail : TailKept ways_at old new
  tail = record {
    size = v.size ∙ u.size ∙ t.size ∙ z.tail.size;
    outside = λ i h. v.outside i (inr (omega (arith, fit))) ∙ u.outside i (inr (omega (arith, few))) ∙ t.outside i (inr (omega arith)) ∙ z.tail.outside i h;
  }

  -- no part reaches back to the head
  kept : (states_of new ≡ states_of a) × (classes_of new ≡ classes_of a)
  kept = head_same new a (λ i h. v.outside i (inl (omega arith)) ∙ u.outside i (inl (omega arith)) ∙ t.outside i (inl (omega arith)))

  states : states_of new ≡ n
  states = kept.0 ∙ z.states

  classes : classes_of new ≡ k
  classes = kept.1 ∙ z.classes

  -- each part stays where it was read, and what no part holds stays 0
  pub image_made : Image f new × TailKept ways_at old new
  image_made = (
    record {
      long = omega (arith, tail.size);
      bytes = g.bytes;
      size = rw (states, classes) g.size;
      laid = record {
        bit = form_bit_lem f;
        number = g.number;
        states = rw states g.named.states;
        classes = rw classes g.named.classes;
        class = λ i h. t.inside i h ∙ sym (v.outside (classes_at + i) (inl (omega arith)) ∙ u.outside (classes_at + i) (inl (omega arith)));
        mark = λ i h. u.inside i (rw states at h) ∙ sym (v.outside (marks_at + i) (inl (omega (arith, few, states))));
        cell = λ i h. let h' : i < c = rw e (rw (states, classes) at h) in rw (states, ← mul-one n) (v.inside i h');
        rest = λ j h. g.rest j (rw (states, classes) at h);
      };
      framed = record {
        some_state = rw states g.named.some_state;
        some_class = rw classes g.named.some_class;
        marks_off = λ i h l.
            omega (arith, states, v.outside i (inl h), u.outside i (inr (omega (arith, states))), t.outside i (inr (omega arith)), z.zero i (omega arith) (omega arith));
        cells_off = λ i h l.
            let l' : cells_at + c ≤ i = rw e (rw (states, classes) at l) in
            omega (arith, v.outside i (inr l'), u.outside i (inr (omega (arith, few))), t.outside i (inr (omega arith)), z.zero i h (omega arith));
      };
    },
    tail,
  )
