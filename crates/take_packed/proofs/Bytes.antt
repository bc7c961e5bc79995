-- The bits of a form's bytes: what they are, how a field is read from two bytes, and that those of a sound room's form are laid out for it.
--   all_zero: only zero bits make 0
--   past, form_bit_lem, form_byte_lem: the bits of the bytes f: 0 past the end, below 2, and eight for each byte
--   field_of: a field of w bits in two bytes
--   form_small: the bytes of the form of a sound room are bytes
--   sound_laid: the bits of a form of a sound room are laid out for it
use Prim.Native.Nat.{ℕ, zero, suc, ◌+◌, ◌*◌, ◌/◌, ◌%◌, ◌^◌, ◌≤◌, ◌<◌}
use mathlib.Core.Path.{◌≡◌, refl, sym, ap, ◌∙◌}
use mathlib.Core.Logic.{inl, inr}
use mathlib.Core.List.{List, [], append-nil}
use native.Mathlib.Nat.{mod-lt, zero-add, add-mul, mul_assoc}
use native.Mathlib.Omega.{arith}
use lib.Dec.{lit<}
use lib.Pow.{pow-add, high, low as low_bits}
use lib.ListN.{length, get_or, get_or-eq_default}
use Rattle.scope.specs.Limits.{byte_values}
use Rattle.scope.specs.Machines.Room.{SoundTable}
use Rattle.scope.specs.Packing.PackedForm.{value, fields, form_bits, form_length, form_byte, FormOf}
use Rattle.scope.specs.Packing.Laid.{from, Holds, Laid}
use Rattle.scope.proofs.Counting.Tests.{split}
use Rattle.scope.proofs.Packing.PackedForm.{fields_length}
use Rattle.scope.proofs.Packing.ReadBack.{value_lt, value_join, value_one, fields_at, fields_are}
use Rattle.scope.proofs.Packing.Laid.{form_laid, laid_ext}
use Rattle.packed_bits.specs.PackedFields.{room_bit}
use Rattle.packed_bits.proofs.PackedFields.{seen, holds_join, zeros}
use Rattle.take_packed.specs.FormImage.{form_bit}

-- only zero bits make 0
pub all_zero : (n : ℕ) (f : ℕ → ℕ) → value n f ≡ 0 → (j : ℕ) → j < n → f j ≡ 0
unfolding value
all_zero zero f e j l = elim l [ ]
all_zero (suc n) f e j l = elim (split j n) [
  | inl k ↦ all_zero n f (omega arith) j k
  | inr k ↦ let t : j ≡ n = omega arith in rw t (omega arith)
]

-- past the end
pub past : (f : List ℕ) (j : ℕ) → 8 * length f ≤ j → form_bit f j ≡ 0
past f j h = get_or-eq_default (fields 8 f) 0 {n = j} (omega (arith, fields_length 8 f))

-- a bit is 0 or 1
pub form_bit_lem : (f : List ℕ) (j : ℕ) → form_bit f j < 2
form_bit_lem f = fields_are 8 f

-- each byte, 0 past the end
pub form_byte_lem : (f : List ℕ) (i : ℕ) → get_or f i 0 < byte_values → Holds (form_bit f) (i * 8) 8 (get_or f i 0)
form_byte_lem f i b = elim (split i (length f)) [
  | inl h ↦ rw (append-nil (fields 8 f), zero-add (i * 8)) at (fields_at [] 8 f [] 0 refl i h b)
  | inr h ↦ rw (get_or-eq_default f 0 {n = i} h) (zeros (form_bit f) (i * 8) 8 (λ j l. past f j (omega arith)))
]

-- a field of w bits, o bits into two bytes and r bits before their end
pub field_of :
    (b : ℕ → ℕ) (i o w r x y p : ℕ) → ((j : ℕ) → b j < 2) → Holds b (i * 8) 8 x → Holds b ((i + 1) * 8) 8 y → o + (w + r) ≡ 16 → i * 8 + o ≡ p
    → Holds b p w ((x * 256 + y) / 2 ^ r % 2 ^ w)
field_of b i o w r x y p k hx hy e ep =
    let vo : ℕ = value o (from b (i * 8)) in
    let vw : ℕ = value w (from b p) in
    let vr : ℕ = value r (from b (p + w)) in
    let two : value 16 (from b (i * 8)) ≡ x * 256 + y = value_join 8 8 (from b (i * 8)) ∙ rw (seen b (i * 8) 8 ((i + 1) * 8) 8 (omega arith), hx, hy) in
    let all : value 16 (from b (i * 8)) ≡ vo * 2 ^ (w + r) + value (w + r) (from b p) =
    ap (λ (n : ℕ). value n (from b (i * 8))) (sym e) ∙ value_join o (w + r) (from b (i * 8)) ∙ ap (λ (n : ℕ). vo * 2 ^ (w + r) + n) (seen b (i * 8) o p (w + r) ep) in
    let sum : x * 256 + y ≡ (vo * 2 ^ w + vw) * 2 ^ r + vr =
    sym two ∙ all ∙ omega (arith, holds_join b p w r vw vr refl refl, add-mul (vo * 2 ^ w) vw (2 ^ r), mul_assoc vo (2 ^ w) (2 ^ r), ap (λ (z : ℕ). vo * z) (pow-add 2 w r)) in
    let small : vr < 2 ^ r = value_lt r (from b (p + w)) (λ j l. k (p + w + j)) in
    let little : vw < 2 ^ w = value_lt w (from b p) (λ j l. k (p + j)) in
    let top : (x * 256 + y) / 2 ^ r ≡ vo * 2 ^ w + vw = ap (λ (n : ℕ). n / 2 ^ r) sum ∙ high (vo * 2 ^ w + vw) r small in
    sym (ap (λ (n : ℕ). n % 2 ^ w) top ∙ low_bits vo w little)

-- its bytes are bytes
pub form_small : (m f : List ℕ) → SoundTable m → FormOf m f → (i : ℕ) → get_or f i 0 < byte_values
unfolding form_byte
form_small m f s u i = elim (split i (form_length m)) [
  | inl h ↦ rw (u.bytes i h) (value_lt 8 (from (room_bit m) (i * 8)) (λ j l. (form_laid m s).bit (i * 8 + j)))
  | inr h ↦ rw (get_or-eq_default f 0 {n = i} (omega (arith, u.size))) (lit< tt)
]

-- the bits of the bytes are those of the form
same_bit : (m f : List ℕ) → SoundTable m → FormOf m f → (j : ℕ) → room_bit m j ≡ form_bit f j
unfolding form_byte form_length
same_bit m f s u j = elim (split (j / 8) (form_length m)) [
  | inl h ↦
      let bit : (i : ℕ) → room_bit m i < 2 = (form_laid m s).bit in
      let e : form_byte m (j / 8) ≡ value 8 (from (form_bit f) (j / 8 * 8)) = sym (form_byte_lem f (j / 8) (form_small m f s u (j / 8)) ∙ u.bytes (j / 8) h) in
      let t = value_one 8 (from (room_bit m) (j / 8 * 8)) (from (form_bit f) (j / 8 * 8)) (λ i l. bit (j / 8 * 8 + i)) (λ i l. form_bit_lem f (j / 8 * 8 + i)) e (j % 8) (mod-lt j (lit< tt)) in
      let z : j / 8 * 8 + j % 8 ≡ j = omega arith in
      rw z at t
  | inr h ↦ get_or-eq_default (form_bits m) 0 {n = j} (omega arith) ∙ sym (past f j (omega (arith, u.size)))
]

-- so they are laid out for the room
pub sound_laid : (m f : List ℕ) → SoundTable m → FormOf m f → Laid (form_bit f) m
sound_laid m f s u = laid_ext (room_bit m) (form_bit f) m (same_bit m f s u) (form_laid m s)
