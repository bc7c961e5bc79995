-- One more field of a form on its way out: held behind the bits in hand, or the upper eight of them go out.
--   put_few, put_many: a field that fills no byte, and one that does; begin_out: before the first
--   fields_none, fields_more: no field of a list is put, one more is; fields_ready: there is room for the next
use Prim.Native.Nat.{ℕ, ◌+◌, ◌*◌, ◌/◌, ◌%◌, ◌^◌, ◌<◌}
use mathlib.Core.Path.{◌≡◌, refl, sym, ap, ◌∙◌}
use mathlib.Core.List.{List}
use native.Mathlib.Nat.{add-zero, zero-mul}
use native.Mathlib.Omega.{arith}
use lib.Pow.{high, low as low_bits}
use lib.ListN.{length, get_or, set}
use Rattle.scope.specs.Packing.PackedForm.{value}
use Rattle.scope.specs.Packing.Laid.{from, Holds}
use Rattle.scope.proofs.Packing.ReadBack.{value_lt}
use Rattle.put_packed.specs.PutBits.{bits_byte, place, BitsOut, HasRoom, PutsField, PutsFields}
use Rattle.put_packed.specs.declared.bits.Bits.{Bits}
use Rattle.buffers.proofs.OneMore.{written_start, written_more}
use Rattle.packed_bits.proofs.PackedFields.{holds_join, next_field, room_for}

module _ {b : ℕ → ℕ} {old : List ℕ} {p : ℕ} {s : Bits} (f : BitsOut b old p s) (w x r : ℕ) (e : r ≡ s.held * 2 ^ w + x) (h : Holds b p w x) where
  -- the bits in hand, and the new ones
  both : Holds b (s.at * 8) (s.count + w) r
  both = holds_join b (s.at * 8) s.count w s.held x f.last (rw f.here h) ∙ sym e

  -- the field fills no byte
  pub put_few : {t : Bits} → t.out.now ≡ s.out.now → t.at ≡ s.at → t.count ≡ s.count + w → t.held ≡ r → BitsOut b old (p + w) t
  put_few {t} o a c d = record {
    bit = f.bit;
    here = omega (arith, f.here);
    last = rw (a, c, d) both;
    done = rw (a, o) f.done;
  }

  -- it fills one, and leaves k bits
  pub put_many : {t : Bits} (k : ℕ) → s.count + w ≡ 8 + k → s.at < length old → t.out.now ≡ set s.out.now s.at (r / 2 ^ k) → t.at ≡ s.at + 1 → t.count ≡ k → t.held ≡ r % 2 ^ k
      → BitsOut b old (p + w) t
  put_many {t} k u l o a c d =
      let whole : ℕ = bits_byte b s.at in
      let rest : ℕ = value k (from b (s.at * 8 + 8)) in
      let small : rest < 2 ^ k = value_lt k (from b (s.at * 8 + 8)) (λ j i. f.bit (s.at * 8 + 8 + j)) in
      let all : r ≡ whole * 2 ^ k + rest =
      sym both ∙ ap (λ (n : ℕ). value n (from b (s.at * 8))) u ∙ holds_join b (s.at * 8) 8 k whole rest refl refl in
      let top : r / 2 ^ k ≡ whole = ap (λ (n : ℕ). n / 2 ^ k) all ∙ high whole k small in
      let under : r % 2 ^ k ≡ rest = ap (λ (n : ℕ). n % 2 ^ k) all ∙ low_bits whole k small in
      let next : t.at * 8 ≡ s.at * 8 + 8 = omega arith in
      record {
        bit = f.bit;
        here = omega (arith, f.here);
        last = rw (next, c, d, under);
        done = rw (a, o) (written_more (bits_byte b) s.at (r / 2 ^ k) old s.out.now (omega (arith, f.done.size)) top f.done);
      }

-- no bit is out of an empty one
pub begin_out : {b : ℕ → ℕ} {old : List ℕ} {s : Bits} → ((j : ℕ) → b j < 2) → s.out.now ≡ old → (s.at ≡ 0) × (s.held ≡ 0) × (s.count ≡ 0) → BitsOut b old 0 s
unfolding value
begin_out {b} {old} bit e (a, h, c) = record {
  bit = bit;
  here = omega arith;
  last = rw (c, h) refl;
  done = rw (a, e) (written_start (bits_byte b) old);
}

-- ---- a field for each of a list

pub fields_none : (w : ℕ) (xs : List ℕ) (s : Bits) → PutsFields w xs 0 s s
fields_none w xs s = record {
  put = record { same_buffer = refl; size = refl; place = omega (arith, zero-mul w) };
  bits = λ b old p f h. rw (zero-mul w, add-zero p) f;
}

module _ {w : ℕ} {xs : List ℕ} {i : ℕ} {s t : Bits} (p : PutsFields w xs i s t) where
  -- there is room for field i of n
  pub fields_ready : (n : ℕ) → i < n → HasRoom s (n * w) → HasRoom t w
  fields_ready n h r = omega (arith, p.put.place, p.put.size, room_for (place s) i n w (8 * length s.out.now) h r)

  -- field i is put
  pub fields_more : {u : Bits} → PutsField w (get_or xs i 0) t u → PutsFields w xs (i + 1) s u
  fields_more q = record {
    put = record {
      same_buffer = q.put.same_buffer ∙ p.put.same_buffer;
      size = q.put.size ∙ p.put.size;
      place = q.put.place ∙ ap (λ z. z + w) p.put.place ∙ next_field (place s) i w;
    };
    bits = λ b old a f h. rw (← next_field a i w) (q.bits b old (a + i * w) (p.bits b old a f (λ j l. h j (omega arith))) (h i (omega arith)));
  }
