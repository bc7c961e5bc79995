-- Unpacking is determined: the conditions exclude one another, and a form has one sound room, since its fields can be read back. Packing and unpacking undo
-- each other, and unpacking takes exactly the forms of canonical rooms.
--   determined: two results of one call are equal, with every byte of every buffer
--   unpack_pack: unpacking what was packed gives the room again
--   pack_unpack: packing what was unpacked gives the form again
use Prim.Native.Nat.{ℕ, ◌≤◌, ◌<◌}
use mathlib.Core.Path.{◌≡◌, refl, sym, ◌∙◌}
use mathlib.Core.List.{List}
use native.Mathlib.Omega.{arith}
use lib.ListN.{length, take}
use lib.Seq.{length-take-le, get_or-take, ext_get_or}
use Rattle.scope.specs.Answers.{DONE}
use Rattle.scope.specs.Machines.Canonical.{Canonical}
use Rattle.scope.specs.Packing.PackedForm.{form_length, form_byte, FormOf}
use Rattle.scope.specs.Operations.Buffers.{Written, Lent}
use Rattle.scope.specs.Operations.Pack.{Packs, no_output, packed}
use Rattle.scope.specs.Operations.Unpack.{Unpacks, no_room, no_form, unpacked}
use Rattle.scope.proofs.Operations.Buffers.{cleared_one, untouched_one, tail_one}
use Rattle.scope.specs.Machines.Room.{SameBytes}
use Rattle.scope.proofs.Packing.Laid.{one_form}

-- two results of one call: the numbers, the rooms, the scratch
module _ {form room u v bytes b c words w x : List ℕ} where
  pub determined : {i j : ℕ} → Unpacks form room u bytes b words w i → Unpacks form room v bytes c words x j → (i ≡ j) × (u ≡ v) × (b ≡ c) × (w ≡ x)
  determined (no_room h k t) (no_room h' k' t') = let z = untouched_one t t' in (refl, k ∙ sym k', z.0, z.1)
  determined (no_room h k t) (no_form l' f' k' t') = absurd (h l')
  determined (no_room h k t) (unpacked l' n' f' k' t') = absurd (h l')
  determined (no_form l f k t) (no_room h' k' t') = absurd (h' l)
  determined (no_form l f k t) (no_form l' f' k' t') = let z = cleared_one t t' in (refl, k ∙ sym k', z.0, z.1)
  determined (no_form l f k t) (unpacked l' n' f' k' t') = absurd (f v n' f')
  determined (unpacked l n f k t) (no_room h' k' t') = absurd (h' l)
  determined (unpacked l n f k t) (no_form l' f' k' t') = absurd (f' u n f)
  determined (unpacked l n f k t) (unpacked l' n' f' k' t') =
      let z = cleared_one t t' in
      (refl, tail_one k k' (one_form u v form n.sound n'.sound f f'), z.0, z.1)

-- ---- forms

form_one : (m f g : List ℕ) → FormOf m f → FormOf m g → f ≡ g
form_one m f g a b = ext_get_or 0 f g (a.size ∙ sym b.size) (λ i h. let k : i < form_length m = omega (arith, a.size) in a.bytes i k ∙ sym (b.bytes i k))

written_form : (room old new : List ℕ) (n : ℕ) → n ≡ form_length room → n ≤ length old → Written n (form_byte room) old new → FormOf room (take n new)
written_form room old new n e h w = record {
  size = length-take-le n new (omega (arith, w.size)) ∙ e;
  bytes = λ i k. let l : i < n = omega arith in get_or-take n new i 0 l ∙ w.inside i l;
}

-- what packing wrote is the form of a canonical room
packed_form : {room out out' bytes bytes' words words' : List ℕ} {n : ℕ} → Packs room out out' bytes bytes' words words' DONE n → Canonical room × FormOf room (take n out')
packed_form {room} {out} {out'} {n = n} (packed l c e h k t) = (c, written_form room out out' n e h k)

-- what unpacking took is so too
unpacked_form : {form room room' bytes bytes' words words' : List ℕ} → Unpacks form room room' bytes bytes' words words' DONE → Canonical room' × FormOf room' form
unpacked_form (unpacked l n f k t) = (n, f)

-- ---- there and back

module _ {m f : List ℕ} (c : Canonical m) (a : FormOf m f) where
  unpack_form : {room room' bytes bytes' words words' : List ℕ} {i : ℕ} → Lent room bytes words → Unpacks f room room' bytes bytes' words words' i
      → (i ≡ DONE) × SameBytes m room'
  unpack_form lent (no_room h k t) = absurd (h lent)
  unpack_form lent (no_form l g k t) = absurd (g m c a)
  unpack_form {room' = room'} lent (unpacked l n g k t) = (refl, one_form m room' f c.sound n.sound a g)

  pack_form : {out out' bytes bytes' words words' : List ℕ} {i n : ℕ} → Lent m bytes words → length f ≤ length out → Packs m out out' bytes bytes' words words' i n
      → (i ≡ DONE) × (n ≡ length f) × (take n out' ≡ f)
  pack_form lent h (Packs.no_room g k t) = absurd (g lent)
  pack_form lent h (Packs.no_form l g k t) = absurd (g c)
  pack_form lent h (no_output l g o k t) = absurd (omega (arith, a.size))
  pack_form {out} {out'} {n = n} lent h (packed l g e o k t) = (refl, e ∙ sym a.size, form_one m (take n out') f (written_form m out out' n e o k) a)

-- unpacking the n bytes that packing wrote is Done, and gives the room again
pub unpack_pack : {room out out' a a' d d' other other' bytes bytes' words words' : List ℕ} {n i : ℕ} → Packs room out out' a a' d d' DONE n → Lent other bytes words
    → Unpacks (take n out') other other' bytes bytes' words words' i → (i ≡ DONE) × SameBytes room other'
unpack_pack p lent u = let (c, a) = packed_form p in unpack_form c a lent u

-- packing what was unpacked into an output that is long enough is Done, and gives the form again: unpacking takes nothing that packing wouldn't write
pub pack_unpack : {form room room' a a' d d' out out' bytes bytes' words words' : List ℕ} {i n : ℕ} → Unpacks form room room' a a' d d' DONE → Lent room' bytes words
    → length form ≤ length out → Packs room' out out' bytes bytes' words words' i n → (i ≡ DONE) × (n ≡ length form) × (take n out' ≡ form)
pack_unpack u lent h p = let (c, a) = unpacked_form u in pack_form c a lent h p
