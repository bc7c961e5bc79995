-- What w words are as a number, over w: an operation that goes digit by digit goes word by word. By induction on w, the lowest word first.
--   value_or, value_and, or_fits: the union and what is common; the words of a union fit
--   value_none, value_load: the empty set, a set of a buffer
--   same_set, equal_set: sets are equal where their numbers are
--   has_set, has_at, one_at: the bit p stands in the word p / 64
--   set_above: no others are there
--   load, put: a set read from a buffer, and written there
--   set_kept, put_other: a set whose words stay; the others there
use Prim.Native.Nat.{ℕ, zero, suc, ◌+◌, ◌-◌, ◌*◌, ◌/◌, ◌%◌, ◌^◌, ◌≤◌, ◌<◌}
use mathlib.Core.Path.{◌≡◌, refl, sym, ap, ap₂, ◌∙◌}
use mathlib.Core.Bool.{false}
use mathlib.Core.List.{List}
use mathlib.Core.Logic.{◌⊎◌, inl, inr}
use native.Mathlib.Nat.{add-zero, zero-add, add-suc, suc-add, suc-mul, mul_assoc, mul-le-mul_right, lt_of_lt_of_le, mul-add-div_right, mul-add-mod_self_right, div-eq_of_lt, mod-eq_of_lt, mod-lt, mod-mod, div-add-mod'}
use native.Mathlib.Omega.{arith}
use native.Mathlib.Decide.{ℕ_discrete}
use borrow.Author.Rules.{rules}
use borrow.Author.Tests.{eq-eqb, eqb-true}
use borrow.Rule.Slice.PartMut.{put_mid}
use lib.Dec.{eqb}
use lib.Pow.{pow-add, pow_pos, pow-lt, shr-shr}
use lib.Bits.{bit_or, bit_and, or_block, and_block, or_mod, and_mod}
use lib.Pointwise.{pointwise}
use lib.ListN.{length, get_or, take, drop, set, replicate, get_or-replicate}
use lib.Seq.{get_or-set_same, get_or-set_other}
use Rattle.std.proofs.lemmas.List.{places, ext_get_or, get_or_past}
use Rattle.std.proofs.lemmas.Nat.{or_lt}
use Rattle.std.proofs.lemmas.Slice.Eq.{slice_eq-Decides}
use Rattle.std.proofs.lemmas.Bool.Decides.{Decides-eqb, same_from_decides}
use Rattle.scope.specs.Positions.Bits.{has}
use Rattle.scope.specs.Limits.{set_words}
use Rattle.scope.specs.Operations.Buffers.{Written}
use Rattle.scope.proofs.Counting.Tests.{split, which}
use Rattle.scope.proofs.Positions.Bits.{has_small}
use Rattle.buffers.proofs.OneMore.{stored_part}
use Rattle.sets.specs.declared.Set.{Set}
use Rattle.sets.specs.Value.{set_bits, value_at, set_value, set_at, Put}

on : (m : List ℕ) (i x : ℕ) → get_or m (suc i + x) 0 ≡ get_or m (i + suc x) 0
on m i x = ap (λ (n : ℕ). get_or m n 0) (suc-add i x ∙ sym (add-suc i x))

at : (m : List ℕ) (i : ℕ) → get_or m (i + 0) 0 ≡ get_or m i 0
at m i = ap (λ (n : ℕ). get_or m n 0) (add-zero i)

small : (x : ℕ) → x % 2 ^ 64 < 2 ^ 64
small x = mod-lt x (pow_pos 64)

-- ---- operations

-- an operation that goes digit by digit goes word by word
module _ (f : ℕ → ℕ → ℕ) (none : f 0 0 ≡ 0) (cut : (a b k : ℕ) → f a b % 2 ^ k ≡ f (a % 2 ^ k) (b % 2 ^ k))
    (block : (k a b r s : ℕ) → r < 2 ^ k → s < 2 ^ k → f (a * 2 ^ k + r) (b * 2 ^ k + s) ≡ f a b * 2 ^ k + f r s) where
  value_of : (w : ℕ) (a b r : List ℕ) (i j k : ℕ)
      → ((x : ℕ) → x < w → get_or r (k + x) 0 ≡ f (get_or a (i + x) 0) (get_or b (j + x) 0)) → value_at r k w ≡ f (value_at a i w) (value_at b j w)
  unfolding value_at
  value_of zero a b r i j k e = sym none
  value_of (suc w) a b r i j k e =
      ap₂ (λ (x y : ℕ). x * 2 ^ 64 + y)
      (value_of w a b r (suc i) (suc j) (suc k) (λ x h. rw (on r k x, on a i x, on b j x) (e (suc x) (omega arith))))
      (ap (λ (n : ℕ). n % 2 ^ 64) (rw (at, at, at) at (e 0 (omega arith))) ∙ cut (get_or a i 0) (get_or b j 0) 64)
      ∙ sym (block 64 _ _ _ _ (small _) (small _))

pub value_or : (a b : List ℕ) {r z : List ℕ} → Written set_words (λ x. bit_or (get_or a x 0) (get_or b x 0)) z r → set_value r ≡ bit_or (set_value a) (set_value b)
value_or a b {r} w = value_of bit_or refl or_mod or_block set_words a b r 0 0 0 (λ x h. rw zero-add (w.inside x h))

pub value_and : (a b : List ℕ) {r z : List ℕ} → Written set_words (λ x. bit_and (get_or a x 0) (get_or b x 0)) z r → set_value r ≡ bit_and (set_value a) (set_value b)
value_and a b {r} w = value_of bit_and refl and_mod and_block set_words a b r 0 0 0 (λ x h. rw zero-add (w.inside x h))

-- the words of a union fit
pub or_fits : (s t : Set) {r z : List ℕ} → Written set_words (λ x. bit_or (get_or s.words x 0) (get_or t.words x 0)) z r → length r ≡ set_words → (x : ℕ) → get_or r x 0 < 2 ^ 64
or_fits s t {r} w l x = elim (split x set_words) [
  | inl h ↦ rw (w.inside x h) (or_lt 64 _ _ (s.fits x) (t.fits x))
  | inr h ↦ rw (get_or_past r x 0 (omega arith)) (omega arith)
]

-- ---- the same words, the same number

value_same : (w : ℕ) (a b : List ℕ) (i j : ℕ) → ((x : ℕ) → x < w → get_or a (i + x) 0 ≡ get_or b (j + x) 0) → value_at a i w ≡ value_at b j w
unfolding value_at
value_same zero a b i j e = refl
value_same (suc w) a b i j e =
    ap₂ (λ (x y : ℕ). x * 2 ^ 64 + y % 2 ^ 64) (value_same w a b (suc i) (suc j) (λ x h. rw (on a i x, on b j x) (e (suc x) (omega arith)))) (rw (at, at) at (e 0 (omega arith)))

pub value_load : (m r : List ℕ) (i : ℕ) → ((x : ℕ) → x < set_words → get_or r x 0 ≡ get_or m (i * set_words + x) 0) → set_value r ≡ set_at m i
value_load m r i e = value_same set_words r m 0 (i * set_words) (λ x h. rw zero-add (e x h))

value_nil : (w : ℕ) (m : List ℕ) (k : ℕ) → ((x : ℕ) → x < w → get_or m (k + x) 0 ≡ 0) → value_at m k w ≡ 0
unfolding value_at
value_nil zero m k e = refl
value_nil (suc w) m k e = ap₂ (λ (x y : ℕ). x * 2 ^ 64 + y % 2 ^ 64) (value_nil w m (suc k) (λ x h. rw (on m k x) (e (suc x) (omega arith)))) (rw at at (e 0 (omega arith)))

pub value_none : (m : List ℕ) → ((x : ℕ) → x < set_words → get_or m x 0 ≡ 0) → set_value m ≡ 0
value_none m e = value_nil set_words m 0 (λ x h. rw zero-add (e x h))

-- a buffer whose words are zero there has the empty set
pub set_none : (m : List ℕ) (i : ℕ) → ((x : ℕ) → x < set_words → get_or m (i * set_words + x) 0 ≡ 0) → set_at m i ≡ 0
set_none m i e = value_nil set_words m (i * set_words) e

high : (v x : ℕ) → (v * 2 ^ 64 + x % 2 ^ 64) / 2 ^ 64 ≡ v
high v x = mul-add-div_right (pow_pos 64) v (x % 2 ^ 64) ∙ ap (λ (y : ℕ). v + y) (div-eq_of_lt (small x)) ∙ add-zero v

low : (v x : ℕ) → (v * 2 ^ 64 + x % 2 ^ 64) % 2 ^ 64 ≡ x % 2 ^ 64
low v x = mul-add-mod_self_right v (2 ^ 64) (x % 2 ^ 64) ∙ mod-mod x (2 ^ 64)

-- the same number, the same words
same_words : (w : ℕ) (a b : List ℕ) (i j : ℕ) → value_at a i w ≡ value_at b j w → (x : ℕ) → x < w → get_or a (i + x) 0 % 2 ^ 64 ≡ get_or b (j + x) 0 % 2 ^ 64
unfolding value_at
same_words zero a b i j e x h = absurd (omega arith)
same_words (suc w) a b i j e zero h = rw (at, at) (sym (low _ _) ∙ ap (λ (n : ℕ). n % 2 ^ 64) e ∙ low _ _)
same_words (suc w) a b i j e (suc x) h =
    rw (← on a i x, ← on b j x) (same_words w a b (suc i) (suc j) (sym (high _ _) ∙ ap (λ (n : ℕ). n / 2 ^ 64) e ∙ high _ _) x (omega arith))

-- the same number, the same words, of those that a set has
same_set : (s t : Set) → set_value s.words ≡ set_value t.words → s.words ≡ t.words
same_set s t e = ext_get_or 0 s.words t.words (s.long ∙ sym t.long)
    (λ x h. sym (mod-eq_of_lt (s.fits x)) ∙ rw (zero-add x) at (same_words set_words s.words t.words 0 0 e x (omega (arith, s.long))) ∙ mod-eq_of_lt (t.fits x))

-- sets are equal where their numbers are
pub equal_set : (s t : Set) → pointwise eqb s.words t.words ≡ eqb (set_value s.words) (set_value t.words)
equal_set s t = same_from_decides _ _ (slice_eq-Decides Decides-eqb s.words t.words _ refl) (
  λ e. same_set s t (eqb-true _ _ e),
  λ e. eq-eqb _ _ (ap set_value e),
)

-- ---- one bit

-- a bit of the lowest word
has_block : (v x j : ℕ) → j < 64 → has (v * 2 ^ 64 + x) j ≡ has x j
has_block v x j h =
    let e : 64 ≡ 63 - j + 1 + j = omega arith in
    let p : 2 ^ 64 ≡ 2 ^ (63 - j) * 2 * 2 ^ j = ap (λ (n : ℕ). 2 ^ n) e ∙ pow-add 2 (63 - j + 1) j ∙ ap (λ (n : ℕ). n * 2 ^ j) (pow-add 2 (63 - j) 1) in
    ap (λ (n : ℕ). eqb (n % 2) 1)
    (ap (λ (n : ℕ). (v * n + x) / 2 ^ j) p ∙ ap (λ (n : ℕ). (n + x) / 2 ^ j) (sym (mul_assoc v (2 ^ (63 - j) * 2) (2 ^ j))) ∙ mul-add-div_right (pow_pos j) (v * (2 ^ (63 - j) * 2)) x)
    ∙ ap (λ (n : ℕ). eqb ((n + x / 2 ^ j) % 2) 1) (sym (mul_assoc v (2 ^ (63 - j)) 2))
    ∙ ap (λ (n : ℕ). eqb n 1) (mul-add-mod_self_right (v * 2 ^ (63 - j)) 2 (x / 2 ^ j))

has_low : (v x j : ℕ) → j < 64 → has (v * 2 ^ 64 + x % 2 ^ 64) j ≡ has x j
has_low v x j h = has_block v (x % 2 ^ 64) j h ∙ sym (has_block (x / 2 ^ 64) (x % 2 ^ 64) j h) ∙ ap (λ (n : ℕ). has n j) (div-add-mod' x (2 ^ 64))

has_value : (w : ℕ) (m : List ℕ) (k i j : ℕ) → i < w → j < 64 → has (value_at m k w) (64 * i + j) ≡ has (get_or m (k + i) 0) j
unfolding value_at
has_value zero m k i j h l = absurd (omega arith)
has_value (suc w) m k zero j h l = rw (at, zero-add j) (has_low (value_at m (suc k) w) (get_or m k 0) j l)
has_value (suc w) m k (suc i) j h l =
    let e : 64 * suc i + j ≡ 64 + (64 * i + j) = omega arith in
    ap (has (value_at m k (suc w))) e
    ∙ ap (λ (n : ℕ). eqb (n % 2) 1) (sym (shr-shr (value_at m k (suc w)) 64 (64 * i + j)))
    ∙ ap (λ (n : ℕ). has n (64 * i + j)) (high _ _)
    ∙ has_value w m (suc k) i j (omega arith) l
    ∙ ap (λ (n : ℕ). has n j) (on m k i)

-- the bits of a set of a buffer
pub has_set : (m : List ℕ) (i w j : ℕ) → w < set_words → j < 64 → has (set_at m i) (64 * w + j) ≡ has (get_or m (i * set_words + w) 0) j
has_set m i w j h l = has_value set_words m (i * set_words) w j h l

-- which has no others
value_lt : (w : ℕ) (m : List ℕ) (k : ℕ) → value_at m k w < 2 ^ (64 * w)
unfolding value_at
value_lt zero m k = omega arith
value_lt (suc w) m k =
    let e : 64 * suc w ≡ 64 * w + 64 = omega arith in
    rw (e, pow-add 2 (64 * w) 64) (lt_of_lt_of_le (block (value_at m (suc k) w) (get_or m k 0 % 2 ^ 64) (2 ^ 64) (small (get_or m k 0))) (mul-le-mul_right (2 ^ 64) (value_lt w m (suc k))))
  where
    block : (a b c : ℕ) → b < c → a * c + b < suc a * c
    block a b c h = omega (arith, suc-mul a c)

pub set_above : (m : List ℕ) (i p : ℕ) → set_bits ≤ p → has (set_at m i) p ≡ false
set_above m i p h = elim (which (has (set_at m i) p)) [ inl e ↦ absurd (omega (arith, has_small (set_at m i) p set_bits e (value_lt set_words m (i * set_words)))) | inr e ↦ e ]

-- the position p stands in the word p / 64
pub has_at : (m : List ℕ) (p : ℕ) → p < set_bits → has (get_or m (p / 64) 0) (p % 64) ≡ has (set_value m) p
has_at m p h =
    let e : 64 * (p / 64) + p % 64 ≡ p = omega arith in
    rw (zero-add) at (sym (has_value set_words m 0 (p / 64) (p % 64) (omega arith) (omega arith))) ∙ ap (has (set_value m)) e

-- one word is a power of 2, the others are 0
value_one : (w : ℕ) (m : List ℕ) (k i j : ℕ) → i < w → j < 64 → get_or m (k + i) 0 ≡ 2 ^ j → ((x : ℕ) → x < w → (x ≡ i → ⊥) → get_or m (k + x) 0 ≡ 0) → value_at m k w ≡ 2 ^ (64 * i + j)
unfolding value_at
value_one zero m k i j h l e o = absurd (omega arith)
value_one (suc w) m k zero j h l e o =
    ap₂ (λ (x y : ℕ). x * 2 ^ 64 + y % 2 ^ 64) (value_nil w m (suc k) (λ x q. rw (on m k x) (o (suc x) (omega arith) (λ z. omega arith)))) (rw at at e)
    ∙ rw (zero-add, zero-add) (mod-eq_of_lt (pow-lt l))
value_one (suc w) m k (suc i) j h l e o =
    let d : 64 * suc i + j ≡ (64 * i + j) + 64 = omega arith in
    ap₂ (λ (x y : ℕ). x * 2 ^ 64 + y % 2 ^ 64)
    (value_one w m (suc k) i j (omega arith) l (rw (on m k i) e) (λ x q z. rw (on m k x) (o (suc x) (omega arith) (λ t. z (omega arith)))))
    (rw at at (o 0 (omega arith) (λ z. omega arith)))
    ∙ add-zero _ ∙ sym (pow-add 2 (64 * i + j) 64) ∙ ap (λ (n : ℕ). 2 ^ n) (sym d)

pub one_at : (p v : ℕ) → p < set_bits → v ≡ 2 ^ (p % 64) → set_value (set (replicate set_words 0) (p / 64) v) ≡ 2 ^ p
one_at p v h e =
    let d : 64 * (p / 64) + p % 64 ≡ p = omega arith in
    value_one set_words (set (replicate set_words 0) (p / 64) v) 0 (p / 64) (p % 64) (omega arith) (omega arith)
    (rw zero-add (get_or-set_same (replicate set_words 0) (p / 64) v 0 (omega arith) ∙ e))
    (λ x q ne. rw zero-add (get_or-set_other (replicate set_words 0) (p / 64) x v 0 ne ∙ get_or-replicate set_words x 0 0 q))
    ∙ ap (λ (n : ℕ). 2 ^ n) d

-- ---- sets of a buffer

-- the words of a set, written at its place
pub put : (m s : List ℕ) (i k : ℕ) → k ≡ set_words → i * set_words + set_words ≤ length m → length s ≡ set_words → Put m (put_mid (i * set_words) k m s) i (set_value s)
put m s i k e h l = let y = stored_part (i * set_words) set_words m s h l in
    rw e (record {
      size = y.size;
      here = sym (value_load _ s i (λ j q. let d : i * set_words + j - i * set_words ≡ j = omega arith in
          sym (y.inside (i * set_words + j) (omega arith) (omega arith) ∙ ap (λ (n : ℕ). get_or s n 0) d)));
      outside = y.outside;
    })

-- the words of a set, read at its place
pub load : (m s : List ℕ) (i k : ℕ) → k ≡ set_words → s ≡ take k (drop (i * set_words) m) → set_value s ≡ set_at m i
load m s i k e h = rw (h, e) (value_load m _ i (λ x q. search (rules, places)))

-- a set whose words stay
pub set_kept : (m m' : List ℕ) (i : ℕ) → ((x : ℕ) → x < set_words → get_or m' (i * set_words + x) 0 ≡ get_or m (i * set_words + x) 0) → set_at m' i ≡ set_at m i
set_kept m m' i e = value_same set_words m' m (i * set_words) (i * set_words) e

-- the other sets stay
pub put_other : {m m' : List ℕ} {i s : ℕ} → Put m m' i s → (j : ℕ) → (j ≡ i → ⊥) → set_at m' j ≡ set_at m j
put_other {m} {m'} {i} p j ne = set_kept m m' j (λ x h. p.outside (j * set_words + x) (apart x h (split j i)))
  where
    apart : (x : ℕ) → x < set_words → (j < i) ⊎ (i ≤ j) → (j * set_words + x < i * set_words) ⊎ (i * set_words + set_words ≤ j * set_words + x)
    apart x h (inl k) = inl (omega arith)
    apart x h (inr k) = let d : i < j = elim (ℕ_discrete j i) [ yes z ↦ absurd (ne z) | no z ↦ omega arith ] in inr (omega arith)
