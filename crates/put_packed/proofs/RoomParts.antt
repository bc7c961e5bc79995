-- The parts of a sound room in the order of its form: each begins at the bit where the one before it ends, and there is room for it.
--   puts_join, upto_join: what is put behind what was put
--   FormFits m out: the form of the sound room m has room in `out`
--   number_ready, states_ready, classes_ready, head_out: what each field of the head asks for, and what is out then
--   part_ready, part_out: the same of a part of the room; part_classes_ready, part_marks_ready, part_cells_ready, parts_out: of each, and of all
use Prim.Native.Nat.{ℕ, ◌+◌, ◌-◌, ◌*◌, ◌^◌, ◌≤◌, ◌<◌}
use mathlib.Core.Path.{◌≡◌, refl, ◌∙◌}
use mathlib.Core.List.{List}
use native.Mathlib.Nat.{mul-one}
use native.Mathlib.Omega.{arith}
use lib.ListN.{length, take, drop}
use Rattle.scope.specs.Limits.{byte_values, classes_at, marks_at, cells_at}
use Rattle.scope.specs.Machines.Room.{states_of, classes_of, Below, SoundTable}
use Rattle.scope.specs.Packing.PackedForm.{state_bits, form_length, form_byte}
use Rattle.scope.specs.Operations.Buffers.{Written}
use Rattle.scope.proofs.Machines.Room.{cells_fit}
use Rattle.scope.proofs.Packing.PackedForm.{part_length}
use Rattle.scope.specs.Packing.Laid.{cells_bit, end_bit, classes_bit, marks_bit}
use Rattle.scope.proofs.Packing.Laid.{form_laid}
use Rattle.packed_bits.specs.PackedFields.{room_bit, Ahead, Narrow}
use Rattle.packed_bits.proofs.PackedFields.{form_size, part_fields, part_narrow}
use Rattle.put_packed.specs.PutBits.{place, AllOut, HasRoom, BitsMore, PutsField, PutsFields, PutsUpTo}
use Rattle.put_packed.proofs.PutBits.{begin_out}
use Rattle.put_packed.specs.declared.bits.Bits.{Bits}

-- the form of a sound room has room in a buffer
pub record FormFits (m out : List ℕ) : Type 0 where
  pub sound : SoundTable m
  pub room : form_length m ≤ length out

pub puts_join : {i j : ℕ} {s t u : Bits} → BitsMore i s t → BitsMore j t u → BitsMore (i + j) s u
puts_join p q = record { same_buffer = q.same_buffer ∙ p.same_buffer; size = q.size ∙ p.size; place = omega (arith, p.place, q.place) }

pub upto_join : {b : ℕ → ℕ} {p q r : ℕ} {s t u : Bits} → p ≤ q → q ≤ r → PutsUpTo b p q s t → PutsUpTo b q r t u → PutsUpTo b p r s u
upto_join {p = p} {q} {r} h k x y =
    record {
      put = let e : q - p + (r - q) ≡ r - p = omega arith in rw e at (puts_join x.put y.put);
      bits = λ old f. y.bits old (x.bits old f);
    }

pub enough : {m out : List ℕ} → FormFits m out → end_bit m ≤ 8 * length out
enough {m} w = omega (arith, form_size m w.sound, w.room)

module _ {m : List ℕ} (s : Bits) (w : FormFits m s.out.now) where
  -- ---- the head

  module _ (z : place s ≡ 0) {n k : ℕ} (h : (n ≡ states_of m) × (k ≡ classes_of m)) where
    pub number_ready : HasRoom s 4 × (4 ≤ 8) × (1 < 2 ^ 4)
    number_ready = (omega (arith, enough w), omega arith, omega arith)

    module _ {t : Bits} (p : PutsField 4 1 s t) where
      pub states_ready : HasRoom t state_bits × (state_bits ≤ 8) × (n - 1 < 2 ^ state_bits)
      states_ready = (omega (arith, enough w, p.put.size, p.put.place), omega arith, omega (arith, h.0, w.sound.few_states))

      module _ {u : Bits} (q : PutsField state_bits (n - 1) t u) where
        pub classes_ready : HasRoom u 6 × (6 ≤ 8) × (k - 1 < 2 ^ 6)
        classes_ready = (
          omega (arith, enough w, p.put.size, p.put.place, q.put.size, q.put.place),
          omega arith,
          omega (arith, h.1, w.sound.few_classes),
        )

        pub head_out : {v : Bits} → PutsField 6 (k - 1) u v → PutsUpTo (room_bit m) 0 classes_bit s v
        head_out r =
            record {
              put = puts_join p.put (puts_join q.put r.put);
              bits = λ old f.
                  r.bits (room_bit m) old (4 + state_bits) (q.bits (room_bit m) old 4 (p.bits (room_bit m) old 0 f (form_laid m w.sound).number) (rw h.0 (form_laid m w.sound).states))
                  (rw h.1 (form_laid m w.sound).classes);
            }

-- ---- a part: n bytes from `start` on, of a room as it was lent

module _ {m l : List ℕ} (start n w : ℕ) {k : ℕ} (q : l ≡ m) (e : k ≡ n) (h : start + n ≤ length m) where
  pub part_ready : (s : Bits) (limit : ℕ) → Below m start (start + n) limit → limit ≤ 2 ^ w → w ≤ 8 → HasRoom s (n * w)
      → HasRoom s (length (take k (drop start l)) * w) × (w ≤ 8) × Narrow w (take k (drop start l))
  part_ready s limit below few narrow room = rw (q, e) (rw (part_length m start n h) room, narrow, part_narrow m start n w limit h below few)

  pub part_out : {b : ℕ → ℕ} (p : ℕ) {s t : Bits} → PutsFields w (take k (drop start l)) (length (take k (drop start l))) s t → Ahead b p w m start n
      → PutsUpTo b p (p + n * w) s t
  part_out {b} p {s} {t} x a =
      let y : PutsFields w (take n (drop start m)) n s t = rw (q, e, part_length m start n h) at x in
      record {
        put = let z : n * w ≡ p + n * w - p = omega arith in rw z at y.put;
        bits = λ old f. y.bits b old p f (part_fields m start n w b p a);
      }

-- ---- the parts behind the head, as they are cut from the room l

module _ {m l : List ℕ} (s : Bits) (w : FormFits m s.out.now) (z : place s ≡ classes_bit) (q : l ≡ m) where
  pub part_classes_ready : HasRoom s (length (take byte_values (drop classes_at l)) * 6) × (6 ≤ 8) × Narrow 6 (take byte_values (drop classes_at l))
  part_classes_ready =
      part_ready classes_at byte_values 6 q refl (omega (arith, w.sound.long)) s (classes_of m) w.sound.classes (omega (arith, w.sound.few_classes)) (omega arith)
      (omega (arith, enough w))

  module _ {t : Bits} (a : PutsFields 6 (take byte_values (drop classes_at l)) (length (take byte_values (drop classes_at l))) s t) {i : ℕ} (d : i ≡ states_of m) where
    classes_out : PutsUpTo (room_bit m) classes_bit marks_bit s t
    classes_out = part_out classes_at byte_values 6 q refl (omega (arith, w.sound.long)) classes_bit a (form_laid m w.sound).class

    pub part_marks_ready : HasRoom t (length (take i (drop marks_at l)) * 1) × (1 ≤ 8) × Narrow 1 (take i (drop marks_at l))
    part_marks_ready =
        part_ready marks_at (states_of m) 1 q d (omega (arith, w.sound.long, w.sound.few_states)) t 2 w.sound.marks (omega arith) (omega arith)
        (omega (arith, enough w, classes_out.put.place, classes_out.put.size))

    module _ {u : Bits} (b : PutsFields 1 (take i (drop marks_at l)) (length (take i (drop marks_at l))) t u) {j : ℕ} (e : j ≡ states_of m * classes_of m) where
      marks_out : PutsUpTo (room_bit m) marks_bit (cells_bit m) t u
      marks_out = rw mul-one at (part_out marks_at (states_of m) 1 q d (omega (arith, w.sound.long, w.sound.few_states)) {b = room_bit m} marks_bit b (form_laid m w.sound).mark)

      both_out : PutsUpTo (room_bit m) classes_bit (cells_bit m) s u
      both_out = upto_join (omega arith) (omega arith) classes_out marks_out

      pub part_cells_ready : HasRoom u (length (take j (drop cells_at l)) * state_bits) × (state_bits ≤ 8) × Narrow state_bits (take j (drop cells_at l))
      part_cells_ready =
          part_ready cells_at (states_of m * classes_of m) state_bits q e (omega (arith, w.sound.long, cells_fit m w.sound)) u (states_of m) w.sound.cells
          (omega (arith, w.sound.few_states)) (omega arith) (omega (arith, enough w, both_out.put.place, both_out.put.size))

      pub parts_out : {v : Bits} → PutsFields state_bits (take j (drop cells_at l)) (length (take j (drop cells_at l))) u v
          → PutsUpTo (room_bit m) classes_bit (end_bit m) s v
      parts_out x =
          upto_join (omega arith) (omega arith) both_out
          (part_out cells_at (states_of m * classes_of m) state_bits q e (omega (arith, w.sound.long, cells_fit m w.sound)) (cells_bit m) x (form_laid m w.sound).cell)

-- ---- the whole: what is out after the head and the parts, and then after the filling

pub form_out : {m out : List ℕ} {s t u v : Bits} {r : ℕ} → FormFits m out → s.out.now ≡ out → (s.at ≡ 0) × (s.held ≡ 0) × (s.count ≡ 0) → PutsUpTo (room_bit m) 0 classes_bit s t
    → PutsUpTo (room_bit m) classes_bit (end_bit m) t u → AllOut u v r → (r ≡ form_length m) × Written r (form_byte m) out v.out.now
unfolding form_byte
form_out {m} {out} w e z x y g =
    let laid = form_laid m w.sound in
    let (size, all) = g.bits (room_bit m) out (end_bit m) (y.bits out (x.bits out (begin_out laid.bit e z))) laid.rest in (size ∙ form_size m w.sound, all)
