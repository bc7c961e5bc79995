-- FieldsFrom of a bit sequence: how large they are, and how two stand side by side.
--   holds_lt: a field of w bits is below 2 ^ w
--   seen, holds_join: the bits from q + d on, seen from q; two fields side by side make one
--   zeros: zero bits make 0
--   next_field, room_for: where field i + 1 begins, and that field i ends within all n
--   part_fields, part_narrow: some bytes of a room, as a list of fields
--   form_size: how many bytes the form of a sound room has
use Prim.Native.Nat.{ℕ, zero, suc, ◌+◌, ◌*◌, ◌/◌, ◌^◌, ◌≤◌, ◌<◌}
use mathlib.Core.Path.{◌≡◌, refl, sym, ap, ◌∙◌}
use mathlib.Core.List.{List}
use native.Mathlib.Nat.{mul-le-mul_right, suc-mul, add_assoc}
use native.Mathlib.Numerals.{add-one}
use native.Mathlib.Omega.{arith}
use lib.ListN.{length, get_or, take, drop}
use lib.Seq.{get_or-take, get_or-drop}
use Rattle.scope.specs.Machines.Room.{Below, SoundTable}
use Rattle.scope.specs.Packing.PackedForm.{value, form_length}
use Rattle.scope.proofs.Packing.PackedForm.{form_bits_lem, part_length}
use Rattle.scope.specs.Packing.Laid.{from, Holds, end_bit}
use Rattle.packed_bits.specs.PackedFields.{Ahead, FieldsFrom, Narrow}
use Rattle.scope.proofs.Packing.ReadBack.{value_ext, value_lt, value_join}

-- a field of w bits is below 2 ^ w
pub holds_lt : (b : ℕ → ℕ) (p w x : ℕ) → ((j : ℕ) → b j < 2) → Holds b p w x → x < 2 ^ w
holds_lt b p w x k h = rw (← h) (value_lt w (from b p) (λ j l. k (p + j)))

-- the bits from q + d on, seen from q
pub seen : (b : ℕ → ℕ) (q d p n : ℕ) → q + d ≡ p → value n (λ j. from b q (d + j)) ≡ value n (from b p)
seen b q d p n e = value_ext n (λ j. from b q (d + j)) (from b p) (λ j l. ap b (sym (add_assoc q d j) ∙ ap (λ (z : ℕ). z + j) e))

-- a field of v bits, and behind it one of w bits
pub holds_join : (b : ℕ → ℕ) (p v w x y : ℕ) → Holds b p v x → Holds b (p + v) w y → Holds b p (v + w) (x * 2 ^ w + y)
holds_join b p v w x y h k = value_join v w (from b p) ∙ rw (seen b p v (p + v) w refl, h, k)

-- zero bits make 0
pub zeros : (b : ℕ → ℕ) (p n : ℕ) → ((j : ℕ) → p ≤ j → b j ≡ 0) → Holds b p n 0
unfolding value
zeros b p zero h = refl
zeros b p (suc n) h = rw (zeros b p n h, h (p + n) (omega arith))

-- where field i ends, field i + 1 begins
pub next_field : (p i w : ℕ) → p + i * w + w ≡ p + (i + 1) * w
next_field p i w = rw (add-one i) (omega (arith, suc-mul i w))

-- field i of n ends where all n do, or before
pub room_for : (p i n w l : ℕ) → i < n → p + n * w ≤ l → p + i * w + w ≤ l
room_for p i n w l h k = omega (arith, suc-mul i w, mul-le-mul_right w h)

-- n bytes of a room, from `start` on
module _ (m : List ℕ) (start n w : ℕ) where
  part_at : (i : ℕ) → i < n → get_or (take n (drop start m)) i 0 ≡ get_or m (start + i) 0
  part_at i h = get_or-take n (drop start m) i 0 h ∙ get_or-drop start m i 0

  pub part_fields : (b : ℕ → ℕ) (p : ℕ) → Ahead b p w m start n → FieldsFrom b p w (take n (drop start m)) n
  part_fields b p a i h = a i h ∙ sym (part_at i h)

  pub part_narrow : (limit : ℕ) → start + n ≤ length m → Below m start (start + n) limit → limit ≤ 2 ^ w → Narrow w (take n (drop start m))
  part_narrow limit h below few i l =
      let l' : i < n = omega (arith, part_length m start n h) in omega (arith, part_at i l', below (start + i) (omega arith) (omega arith))

-- filled to whole bytes
pub form_size : (m : List ℕ) → SoundTable m → (end_bit m + 7) / 8 ≡ form_length m
unfolding form_length
form_size m s = ap (λ (x : ℕ). (x + 7) / 8) (omega (arith, form_bits_lem m s))
