-- Byte sets that grow byte by byte and item by item. What is held now, with what is left to put in, is always what was held at first, with all that is to be put in.
--   Left k s r m m': of the bytes s, which are to come into the set number k, the bytes r are left
--   left_all, left_more, left_none: nothing is put in yet; some more is; nothing is left
--   between_is, between_eight, between_none, between_one: a range: what it decides; its bytes in one byte of a set, and the others; none; one byte
--   has_range: the number whose bits are those of a range
--   grown_range: the bits of a range that lie in one byte were stored
--   grown_both: two sets, one after the other
--   grown_as: the same bytes under another name
use Prim.Native.Nat.{ℕ, ◌+◌, ◌-◌, ◌*◌, ◌/◌, ◌%◌, ◌^◌, ◌<◌, ◌≤◌, min, max}
use mathlib.Core.Path.{◌≡◌, refl, sym, ap, ap₂, ◌∙◌}
use mathlib.Core.Bool.{Bool, false, ◌&&◌, ◌||◌, beq, and-false, or-false, or_assoc, and-or_distrib_left}
use mathlib.Core.List.{List}
use mathlib.Core.Logic.{inl, inr}
use native.Mathlib.Decide.{ℕ_discrete}
use native.Mathlib.Omega.{arith}
use lib.Bits.{bit_and, bit_or}
use lib.Dec.{eqb, ltb}
use lib.ListN.{length, get_or, set, length-set}
use lib.Seq.{get_or-set_same, get_or-set_other}
use Rattle.scope.specs.Positions.Bits.{has}
use Rattle.scope.specs.Operations.Buffers.{TailKept}
use Rattle.scope.specs.Bytes.{ByteSet, between}
use Rattle.scope.specs.Limits.{byte_values, position_limit}
use Rattle.scope.specs.Tests.{Tests}
use Rattle.scope.proofs.Positions.Bits.{has_or, has_small}
use Rattle.scope.proofs.Counting.Tests.{all, all_is, split, same_bool, same_test, never, or, and, itself, equals, at_most, below}
use Rattle.scope.proofs.Operations.Buffers.{all_kept, tail_then}
use Rattle.sets.specs.Layout.{byte_set, byte_sets, held}
use Rattle.leaves.specs.GrownSets.{SetGrown}

pub record Left (k : ℕ) (s r : ByteSet) (m m' : List ℕ) : Type 0 where
  pub kept : TailKept byte_sets m m'
  pub bits : (q b : ℕ) → b < byte_values → (held m' q b || (eqb q k && r b)) ≡ (held m q b || (eqb q k && s b))

-- ---- what is left

pub left_all : (k : ℕ) (s : ByteSet) (m : List ℕ) → Left k s s m m
left_all k s m = record { kept = all_kept m byte_sets; bits = λ q b h. refl }

spread : (x k a r : Bool) → (x || (k && (a || r))) ≡ ((x || (k && a)) || (k && r))
spread x k a r = rw and-or_distrib_left (sym (or_assoc x (k && a) (k && r)))

-- the bytes x of those that were left are put in
pub left_more : {k : ℕ} {s r r' x : ByteSet} {a b c : List ℕ} → Left k s r a b → SetGrown k x b c → ((n : ℕ) → n < byte_values → r n ≡ (x n || r' n)) → Left k s r' a c
left_more {k} {r' = r'} {x = x} {b = b} l m e = record {
  kept = tail_then l.kept m.kept;
  bits = λ q n h. ap (λ (y : Bool). y || (eqb q k && r' n)) (m.bits q n h) ∙ sym (spread (held b q n) (eqb q k) (x n) (r' n)) ∙ ap (λ (y : Bool). held b q n || (eqb q k && y)) (sym (e n h)) ∙ l.bits q n h;
}

-- nothing is left: all is put in
pub left_none : {k : ℕ} {s r : ByteSet} {a b : List ℕ} → Left k s r a b → ((n : ℕ) → n < byte_values → r n ≡ false) → SetGrown k s a b
left_none {k} {b = b} l e = record {
  kept = l.kept;
  bits = λ q n h. sym (rw and-false (or-false (held b q n))) ∙ ap (λ (y : Bool). held b q n || (eqb q k && y)) (sym (e n h)) ∙ l.bits q n h;
}

-- ---- a range

-- two tests of the same are equal
same : {a b : Bool} {A B : Type 0} → Tests a A → Tests b B → (A → B) → (B → A) → a ≡ b
same {a} {b} x y f g = same_test a b (λ e. y.full (f (x.sound e))) (λ e. x.full (g (y.sound e)))

-- the bytes b to c
pub between_is : (b c n : ℕ) → Tests (between b c n) ((b ≤ n) × (n ≤ c))
unfolding between
between_is b c n = and (at_most b n) (at_most n c)

-- of the bytes from 8 * i on, those before the next multiple of 8, and the others
pub between_eight : (low high i n : ℕ) → between (max low (8 * i)) high n ≡ (between (max low (8 * i)) (min high (8 * i + 7)) n || between (max low (8 * (i + 1))) high n)
between_eight low high i n =
    same
    (between_is _ high n)
    (or (between_is _ (min high (8 * i + 7)) n) (between_is (max low (8 * (i + 1))) high n))
    (λ x. elim (split n (8 * (i + 1))) [ inl l ↦ inl (x.0, omega (arith, x.1)) | inr l ↦ inr (omega (arith, x.0), x.1) ])
    (λ x. elim x [ inl y ↦ (y.0, omega (arith, y.1)) | inr y ↦ (omega (arith, y.0), y.1) ])

-- a range that falls is empty
pub between_none : (b c n : ℕ) → c < b → between b c n ≡ false
between_none b c n h = same (between_is b c n) (never (λ x. x)) (λ x. omega (arith, x.0, x.1)) (λ x. absurd x)

-- a range of one byte
pub between_one : (b n : ℕ) → between b b n ≡ eqb n b
between_one b n = same (between_is b b n) (equals n b) (λ x. omega (arith, x.0, x.1)) (λ e. (omega (arith, e), omega (arith, e)))

-- ---- the bits of a range

-- the byte that has the bits s to t
range_bits : ℕ → ℕ → ℕ
range_bits s t = bit_and (255 * 2 ^ s % 256) (255 / 2 ^ (7 - t))

-- by computing
bits_below : (s t n : ℕ) → s < 8 → t < 8 → n < 8 → has (range_bits s t) n ≡ between s t n
unfolding range_bits between
bits_below s t n h k l =
    let e = (all_is (λ i. all (λ j. all (λ b. beq (has (range_bits i j) b) (between i j b)) 8) 8) 8).sound refl s h in
    (same_bool _ _).sound ((all_is (λ b. beq (has (range_bits s t) b) (between s t b)) 8).sound ((all_is (λ j. all (λ b. beq (has (range_bits s j) b) (between s j b)) 8) 8).sound e t k) n l)

bits_byte : (s t : ℕ) → s < 8 → t < 8 → range_bits s t < 2 ^ 8
unfolding range_bits
bits_byte s t h k = (below _ (2 ^ 8)).sound ((all_is (λ j. ltb (range_bits s j) (2 ^ 8)) 8).sound ((all_is (λ i. all (λ j. ltb (range_bits i j) (2 ^ 8)) 8) 8).sound refl s h) t k)

pub has_range : (s t n : ℕ) → s < 8 → t < 8 → has (bit_and (255 * 2 ^ s % 256) (255 / 2 ^ (7 - t))) n ≡ between s t n
unfolding range_bits
has_range s t n h k = elim (split n 8) [ inl l ↦ bits_below s t n h k l | inr l ↦ same (itself _) (between_is s t n) (λ e. absurd (omega (arith, has_small (range_bits s t) n 8 e (bits_byte s t h k)))) (λ x. absurd (omega (arith, x.1))) ]

-- ---- bits stored

module _ (k i b c : ℕ) (d : b / 8 ≡ i) (e : c / 8 ≡ i) where
  -- the same place: the same set and the same byte
  meets : (q n : ℕ) → i < byte_set → n < byte_values → q * byte_set + n / 8 ≡ k * byte_set + i → between (b % 8) (c % 8) (n % 8) ≡ (eqb q k && between b c n)
  meets q n h l g =
      same
      (between_is (b % 8) (c % 8) (n % 8))
      (and (equals q k) (between_is b c n))
      (λ x. (omega arith, (omega (arith, x.0), omega (arith, x.1))))
      (λ x. (omega (arith, x.1.0), omega (arith, x.1.1)))

  -- another place: another set or another byte
  misses : (q n : ℕ) → (q * byte_set + n / 8 ≡ k * byte_set + i → ⊥) → (eqb q k && between b c n) ≡ false
  misses q n f = same (and (equals q k) (between_is b c n)) (never (λ x. x)) (λ x. f (omega (arith, x.0, x.1.0, x.1.1))) (λ x. absurd x)

  -- the bits of the bytes b to c, which lie in the byte i of a set, were stored
  pub grown_range : (v : ℕ) (m : List ℕ) → k < position_limit → byte_sets ≤ length m → i < byte_set → ((n : ℕ) → has v n ≡ between (b % 8) (c % 8) n)
      → SetGrown k (between b c) m (set m (k * byte_set + i) (bit_or (get_or m (k * byte_set + i) 0) v))
  unfolding held
  grown_range v m h l o ev = record {
    kept = record { size = simp length-set; outside = λ j z. get_or-set_other m (k * byte_set + i) j _ 0 (λ e. omega arith) };
    bits = λ q n hn. at q n hn (ℕ_discrete (q * byte_set + n / 8) (k * byte_set + i));
  }
    where
      at : (q n : ℕ) → n < byte_values → Dec (q * byte_set + n / 8 ≡ k * byte_set + i)
          → has (get_or (set m (k * byte_set + i) (bit_or (get_or m (k * byte_set + i) 0) v)) (q * byte_set + n / 8) 0) (n % 8) ≡ (has (get_or m (q * byte_set + n / 8) 0) (n % 8) || (eqb q k && between b c n))
      at q n hn (yes y) =
          rw y (ap (λ (x : ℕ). has x (n % 8)) (get_or-set_same m (k * byte_set + i) _ 0 (omega arith)) ∙ has_or (get_or m (k * byte_set + i) 0) v (n % 8))
          ∙ ap₂ (λ (x : ℕ) (y : Bool). has (get_or m x 0) (n % 8) || y) (sym y) (ev (n % 8) ∙ meets q n o hn y)
      at q n hn (no f) = ap (λ (x : ℕ). has x (n % 8)) (get_or-set_other m (k * byte_set + i) (q * byte_set + n / 8) _ 0 f) ∙ sym (or-false _) ∙ ap (λ (y : Bool). has (get_or m (q * byte_set + n / 8) 0) (n % 8) || y) (sym (misses q n f))

-- ---- one after the other

-- the bytes of two sets
pub grown_both : {k : ℕ} {s t u : ByteSet} {a b c : List ℕ} → SetGrown k s a b → SetGrown k t b c → ((n : ℕ) → n < byte_values → u n ≡ (s n || t n)) → SetGrown k u a c
grown_both {k} {t = t} {u = u} {a = a} x y e = left_none (left_more {r' = λ n. false} (left_more (left_all k u a) x e) y (λ n h. sym (or-false (t n)))) (λ n h. refl)

-- ---- another name

pub grown_as : {k : ℕ} {s s' : ByteSet} {m m' : List ℕ} → SetGrown k s m m' → ((n : ℕ) → n < byte_values → s n ≡ s' n) → SetGrown k s' m m'
grown_as {k} {m = m} x e = record { kept = x.kept; bits = λ q n h. x.bits q n h ∙ ap (λ (y : Bool). held m q n || (eqb q k && y)) (e n h) }
