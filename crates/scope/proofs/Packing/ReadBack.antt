-- Reading the fields of a form back.
--   value_ext, value_lt, value_join, value_one: what `value` depends on, how large it is, of two pieces, and that it determines its bits
--   bits-value: a field of n bits has the value that was put there
--   fields_at: each field of a list
use Prim.Native.Nat.{ℕ, zero, suc, ◌+◌, ◌*◌, ◌/◌, ◌%◌, ◌^◌, ◌<◌}
use mathlib.Core.Path.{◌≡◌, refl, sym, ap, ◌∙◌}
use mathlib.Core.Logic.{inl, inr}
use mathlib.Core.List.{List, [], ◌∷◌, ◌++◌, append_assoc}
use native.Mathlib.Nat.{mod-lt, mod-eq_of_lt, suc-mul, zero-mul, pow-suc, mod-one, add-suc, zero-add, add-zero, mul_assoc}
use native.Mathlib.Omega.{arith}
use native.Mathlib.Numerals.{one-add}
use lib.Dec.{lit<}
use lib.Pow.{mod-pow-add}
use lib.ListN.{length, get_or, length-append}
use lib.Seq.{get_or-append-add}
use Rattle.scope.specs.Packing.PackedForm.{bits, fields, value}
use Rattle.scope.specs.Packing.Laid.{bit_of, from, Holds}
use Rattle.scope.proofs.Counting.Tests.{split}
use Rattle.scope.proofs.Packing.PackedForm.{bits_length}

pub value_ext : (n : ℕ) (f g : ℕ → ℕ) → ((j : ℕ) → j < n → f j ≡ g j) → value n f ≡ value n g
unfolding value
value_ext zero f g h = refl
value_ext (suc n) f g h = rw (value_ext n f g (λ j l. h j (omega arith)), h n (omega arith))

pub value_lt : (n : ℕ) (f : ℕ → ℕ) → ((j : ℕ) → j < n → f j < 2) → value n f < 2 ^ n
unfolding value
value_lt zero f h = lit< tt
value_lt (suc n) f h = omega (arith, value_lt n f (λ j l. h j (omega arith)), h n (omega arith), pow-suc 2 n)

pub value_join : (a n : ℕ) (f : ℕ → ℕ) → value (a + n) f ≡ value a f * 2 ^ n + value n (λ j. f (a + j))
unfolding value
value_join a zero f = rw (add-zero a) (omega arith)
value_join a (suc n) f = rw (add-suc a n) (omega (arith, value_join a n f, ap (λ (x : ℕ). value a f * x) (pow-suc 2 n), mul_assoc (value a f) (2 ^ n) 2))

pub value_one : (n : ℕ) (f g : ℕ → ℕ) → ((j : ℕ) → j < n → f j < 2) → ((j : ℕ) → j < n → g j < 2) → value n f ≡ value n g → (j : ℕ) → j < n → f j ≡ g j
unfolding value
value_one (suc n) f g a b e j l = elim (split j n) [
  | inl k ↦ value_one n f g (λ i h. a i (omega arith)) (λ i h. b i (omega arith)) (omega (arith, a n (omega arith), b n (omega arith))) j k
  | inr k ↦ let t : j ≡ n = omega arith in rw t (omega (arith, a n (omega arith), b n (omega arith)))
]
value_one zero f g a b e j l = elim l [ ]

abbrev pub Bits : List ℕ → Type 0
Bits l = (j : ℕ) → get_or l j 0 < 2

pub bits_are : (n x : ℕ) → Bits (bits n x)
unfolding bits
bits_are zero x j = lit< tt
bits_are (suc n) x zero = mod-lt (x / 2 ^ n) (lit< tt)
bits_are (suc n) x (suc j) = bits_are n x j

pub join_are : (k l : List ℕ) → Bits k → Bits l → Bits (k ++ l)
join_are [] l a b j = b j
join_are (x ∷ k) l a b zero = a 0
join_are (x ∷ k) l a b (suc j) = join_are k l (λ i. a (suc i)) b j

pub fields_are : (n : ℕ) (l : List ℕ) → Bits (fields n l)
unfolding fields
fields_are n [] j = lit< tt
fields_are n (x ∷ l) j = join_are (bits n x) (fields n l) (bits_are n x) (fields_are n l) j

bits_mod : (n x : ℕ) (l : List ℕ) → value n (λ j. get_or (bits n x ++ l) j 0) ≡ x % 2 ^ n
unfolding bits value
bits_mod zero x l = sym (mod-one x)
bits_mod (suc n) x l =
    let e : suc n ≡ 1 + n = omega arith in
    let f : ℕ → ℕ = λ j. get_or (bits (suc n) x ++ l) j 0 in
    let g : ℕ → ℕ = λ j. get_or (bits n x ++ l) j 0 in
    let t : value n (λ j. f (1 + j)) ≡ value n g = value_ext n (λ j. f (1 + j)) g (λ j h. rw (one-add j)) in
    let h : value 1 f ≡ x / 2 ^ n % 2 = zero-add (x / 2 ^ n % 2) in
    ap (λ (z : ℕ). value z f) e
    ∙ value_join 1 n f
    ∙ rw (t, bits_mod n x l, h) (sym (mod-pow-add x 1 n))
    ∙ sym (ap (λ (z : ℕ). x % 2 ^ z) e)

-- a field behind a list of p bits
pub bits_at : (k : List ℕ) (n x : ℕ) (l : List ℕ) (p : ℕ) → length k ≡ p → x < 2 ^ n → Holds (bit_of (k ++ (bits n x ++ l))) p n x
bits_at k n x l p e h =
    value_ext n (from (bit_of (k ++ (bits n x ++ l))) p) (λ j. get_or (bits n x ++ l) j 0) (λ j i. rw (← e) (get_or-append-add k (bits n x ++ l) j 0))
    ∙ bits_mod n x l
    ∙ mod-eq_of_lt h

-- each field of a list of fields behind a list of p bits
pub fields_at :
    (k : List ℕ) (n : ℕ) (l r : List ℕ) (p : ℕ) → length k ≡ p
    → (i : ℕ) → i < length l → get_or l i 0 < 2 ^ n → Holds (bit_of (k ++ (fields n l ++ r))) (p + i * n) n (get_or l i 0)
unfolding fields
fields_at k n (x ∷ l) r p e zero h b =
    rw (zero-mul n, add-zero p, append_assoc (bits n x) (fields n l) r)
    (bits_at k n x (fields n l ++ r) p e b)
fields_at k n (x ∷ l) r p e (suc i) h b =
    let q : length (k ++ bits n x) ≡ p + n = length-append k (bits n x) ∙ rw (e, bits_length n x) in
    let s : p + suc i * n ≡ p + n + i * n = omega (arith, suc-mul i n) in
    rw (s, append_assoc (bits n x) (fields n l) r, ← append_assoc k (bits n x) (fields n l ++ r))
    (fields_at (k ++ bits n x) n l r (p + n) q i (omega arith) b)
fields_at k n [] r p e i h b = elim h [ ]
