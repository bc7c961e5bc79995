-- A form on its way out: the bits that do not yet fill a byte are held, and the whole bytes before them are in the buffer.
--   bits_byte b i: the byte i of the bits b
--   place s: how many bits are out or held
--   BitsOut b old p s: the bits of b before p are out or held, and the rest of the buffer is as it was in `old`
--   HasRoom s w: the buffer has room for w bits more
--   BitsMore n s t: n bits more are put, in the same buffer
--   PutsField w x s t: a field of w bits with the value x is put, whatever the bits are
--   PutsFields w xs n s t: a field of w bits is put for each of the first n of xs
--   PutsUpTo b p q s t: the bits of b from p up to q are put
--   AllOut s t n: where all bits that are left are zero, the n bytes of the form are out
use Rattle.std.specs.Prelude.{ℕ, ◌+◌, ◌-◌, ◌*◌, ◌/◌, ◌≤◌, ◌<◌, ◌≡◌, List, length}
use Rattle.scope.specs.Packing.PackedForm.{value}
use Rattle.scope.specs.Operations.Buffers.{Written}
use Rattle.scope.specs.Packing.Laid.{from, Holds}
use Rattle.packed_bits.specs.PackedFields.{FieldsFrom}
use Rattle.put_packed.specs.declared.bits.Bits.{Bits}

abbrev pub bits_byte : (ℕ → ℕ) → ℕ → ℕ
bits_byte b i = value 8 (from b (i * 8))

abbrev pub place : Bits → ℕ
place s = s.at * 8 + s.count

pub record BitsOut (b : ℕ → ℕ) (old : List ℕ) (p : ℕ) (s : Bits) : Type 0 where
  pub bit : (j : ℕ) → b j < 2
  pub here : place s ≡ p
  pub last : Holds b (s.at * 8) s.count s.held
  pub done : Written s.at (bits_byte b) old s.out.now

abbrev pub HasRoom : Bits → ℕ → Type 0
HasRoom s w = place s + w ≤ 8 * length s.out.now

pub record BitsMore (n : ℕ) (s t : Bits) : Type 0 where
  pub same_buffer : t.out.ghost_name ≡ s.out.ghost_name
  pub size : length t.out.now ≡ length s.out.now
  pub place : place t ≡ place s + n

pub record PutsField (w x : ℕ) (s t : Bits) : Type 0 where
  pub put : BitsMore w s t
  pub bits : (b : ℕ → ℕ) (old : List ℕ) (p : ℕ) → BitsOut b old p s → Holds b p w x → BitsOut b old (p + w) t

pub record PutsFields (w : ℕ) (xs : List ℕ) (n : ℕ) (s t : Bits) : Type 0 where
  pub put : BitsMore (n * w) s t
  pub bits : (b : ℕ → ℕ) (old : List ℕ) (p : ℕ) → BitsOut b old p s → FieldsFrom b p w xs n → BitsOut b old (p + n * w) t

pub record PutsUpTo (b : ℕ → ℕ) (p q : ℕ) (s t : Bits) : Type 0 where
  pub put : BitsMore (q - p) s t
  pub bits : (old : List ℕ) → BitsOut b old p s → BitsOut b old q t

pub record AllOut (s t : Bits) (n : ℕ) : Type 0 where
  pub same_buffer : t.out.ghost_name ≡ s.out.ghost_name
  pub bits : (b : ℕ → ℕ) (old : List ℕ) (p : ℕ) → BitsOut b old p s → ((j : ℕ) → p ≤ j → b j ≡ 0) → (n ≡ (p + 7) / 8) × Written n (bits_byte b) old t.out.now
