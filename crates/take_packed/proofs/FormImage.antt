-- What an image is good for. Its fields are those of the form, and what is in no field is as in a sound room: so a form has one image, and if it is the form of a
-- sound room, that room is the image.
--   image_form: a sound image has the form
--   image_one, image_of, formless: two images of a form are one; a sound room is an image of its form; so bytes without an image are no form
--   image_sound, image_canonical: where the image is not sound, or not canonical, no sound or canonical room has the form
--   determined: two results of `unpack_fields` on the same bytes and room are equal
--   form_moved: a copy of a sound room has the same form
use Prim.Native.Nat.{ℕ, ◌+◌, ◌*◌, ◌/◌, ◌≤◌, ◌<◌}
use mathlib.Core.Path.{◌≡◌, refl, sym, ap, ◌∙◌}
use mathlib.Core.Bool.{Bool, true, false}
use mathlib.Core.List.{List}
use native.Mathlib.Omega.{arith}
use lib.ListN.{length, get_or, take, drop}
use lib.Seq.{get_or-take, get_or-drop, ext_get_or}
use Rattle.scope.specs.Limits.{byte_values, classes_at, marks_at, cells_at, ways_at, room_bytes}
use Rattle.scope.specs.Machines.Room.{states_of, classes_of, SoundTable, SameTables}
use Rattle.scope.specs.Machines.Canonical.{CanonicalTable}
use Rattle.scope.specs.Packing.PackedForm.{value, form_bits, form_length, form_byte, FormOf}
use Rattle.scope.proofs.Operations.Buffers.{tail_one}
use Rattle.scope.proofs.Machines.Room.{cells_fit}
use Rattle.scope.proofs.Packing.PackedForm.{part_length}
use Rattle.scope.specs.Packing.Laid.{from}
use Rattle.scope.proofs.Packing.ReadBack.{value_ext}
use Rattle.scope.proofs.Packing.Laid.{form_laid, framed, laid_one, bits_one}
use Rattle.scope.proofs.Machines.Moved.{table_moved, canonical_table_moved}
use Rattle.room.proofs.HeadAndParts.{head_same}
use Rattle.packed_bits.specs.PackedFields.{room_bit}
use Rattle.take_packed.specs.FormImage.{form_bit, Image, Imageless, Formless, UnpacksFields}
use Rattle.packed_bits.proofs.PackedFields.{form_size}
use Rattle.take_packed.proofs.Bytes.{form_byte_lem, form_small, sound_laid}

-- a sound image has the form
pub image_form : {f m : List ℕ} → Image f m → SoundTable m → FormOf m f
unfolding form_byte
image_form {f} {m} i s = record {
  size = i.size ∙ form_size m s;
  bytes = λ j h.
      sym (form_byte_lem f j (i.bytes j))
      ∙ value_ext 8 (from (form_bit f) (j * 8)) (from (room_bit m) (j * 8)) (λ d l. bits_one (form_bit f) (room_bit m) m i.laid (form_laid m s) (j * 8 + d));
}

-- two images of a form are one, byte by byte
pub image_one : {f m n : List ℕ} → Image f m → Image f n → SameTables m n
image_one {f} {m} {n} i j = laid_one (form_bit f) m n i.framed j.framed i.laid j.laid

-- a sound room is an image of its form
pub image_of : {f n : List ℕ} → SoundTable n → FormOf n f → Image f n
image_of {f} {n} s u = record {
  long = s.long;
  bytes = form_small n f s u;
  size = u.size ∙ sym (form_size n s);
  laid = sound_laid n f s u;
  framed = framed n s;
}

-- so bytes without an image are the form of no sound room
pub formless : {f : List ℕ} → Imageless f → Formless f
formless g n s u = g n (image_of s u)

module _ {f m n : List ℕ} (i : Image f m) where
  -- if a sound room has the form, the image is sound
  pub image_sound : SoundTable n → FormOf n f → SoundTable m
  image_sound s u = table_moved n m i.long (image_one (image_of s u) i) s

  -- if a canonical room has the form, the image is canonical
  pub image_canonical : SoundTable n → CanonicalTable n → FormOf n f → CanonicalTable m
  image_canonical s c u = canonical_table_moved n m (image_one (image_of s u) i) s c

-- two results of one call: the answers, and the rooms
pub determined : {r s : Bool} {f old u v : List ℕ} → UnpacksFields r f old u → UnpacksFields s f old v → (r ≡ s) × (u ≡ v)
determined {r = true} {s = true} a b = (refl, tail_one a.tail b.tail (image_one (a.yes refl) (b.yes refl)))
determined {r = true} {s = false} {u = u} a b = absurd (b.no refl u (a.yes refl))
determined {r = false} {s = true} {v = v} a b = absurd (a.no refl v (b.yes refl))
determined {r = false} {s = false} a b = (refl, a.kept refl ∙ sym (b.kept refl))

-- ---- a room copied

-- a part of two rooms that agree
same_part : (m n : List ℕ) (start k : ℕ) → room_bytes ≤ length m → room_bytes ≤ length n → start + k ≤ ways_at → SameTables m n → take k (drop start m) ≡ take k (drop start n)
same_part m n start k a b h e =
    let x : length (take k (drop start m)) ≡ k = part_length m start k (omega arith) in
    let y : length (take k (drop start n)) ≡ k = part_length n start k (omega arith) in
    ext_get_or 0 (take k (drop start m)) (take k (drop start n)) (x ∙ sym y) (λ i l.
    let l' : i < k = omega arith in
    get_or-take k (drop start m) i 0 l' ∙ get_or-drop start m i 0 ∙ e (start + i) (omega arith) ∙ sym (get_or-take k (drop start n) i 0 l' ∙ get_or-drop start n i 0))

-- the bits of two rooms that agree
same_bits : (m n : List ℕ) → SoundTable m → room_bytes ≤ length n → SameTables m n → form_bits m ≡ form_bits n
unfolding form_bits
same_bits m n s l e =
    let (states, classes) = head_same m n (λ i h. e i (omega arith)) in
    rw (
      same_part m n classes_at byte_values s.long l (omega arith) e,
      same_part m n marks_at (states_of m) s.long l (omega (arith, s.few_states)) e,
      same_part m n cells_at (states_of m * classes_of m) s.long l (cells_fit m s) e,
      states,
      classes,
    )

-- a room that is long enough and agrees with a sound one has its form
pub form_moved : (m n f : List ℕ) → SoundTable m → room_bytes ≤ length n → SameTables m n → FormOf m f → FormOf n f
unfolding form_byte form_length
form_moved m n f s l e u =
    let z : form_bits m ≡ form_bits n = same_bits m n s l e in
    let size : form_length m ≡ form_length n = ap (λ (b : List ℕ). (length b + 7) / 8) z in
    record { size = u.size ∙ size; bytes = λ i h. u.bytes i (rw size h) ∙ ap (λ (b : List ℕ). value 8 (λ j. get_or b (i * 8 + j) 0)) z }
