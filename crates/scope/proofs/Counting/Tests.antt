-- Booleans that decide, and what is decided of numbers.
--   which, split, level: a Boolean is true or false; of two numbers one is less, or the other at most it; two that are not less are equal
--   same_test: two Booleans that imply each other are equal
--   never, always, or, and, implies, amounts, itself, equals, below, at_most, same_bool: what each decides
--   bit_same: two bits are equal if both are 1, or neither is
--   pair: what two tests that passed show
--   all f n, any f n: f passes at all, or at some, of the numbers below n; all_is, any_is: what they decide
use Prim.Native.Nat.{ℕ, zero, suc, ◌≤◌, ◌<◌}
use mathlib.Core.Path.{◌≡◌, refl, sym, ◌∙◌}
use mathlib.Core.Bool.{Bool, true, false, not, ◌&&◌, ◌||◌, beq, false≢true}
use mathlib.Core.Logic.{◌⊎◌, inl, inr}
use native.Mathlib.Omega.{arith}
use native.Mathlib.Decide.{dec_lt}
use borrow.Author.Tests.{eqb-true, eqb-false}
use lib.Dec.{T, eqb, eqb→eq, eqb_refl, leb, leb→le, le→leb, ltb, ltb→lt, lt→ltb}
use Rattle.scope.specs.Tests.{Tests}

pub which : (b : Bool) → (b ≡ true) ⊎ (b ≡ false)
which true = inl refl
which false = inr refl

pub split : (t c : ℕ) → (t < c) ⊎ (c ≤ t)
split t c = elim (dec_lt t c) [ yes h ↦ inl h | no h ↦ inr (omega arith) ]

pub level : (i j : ℕ) → (i < j → ⊥) → (j < i → ⊥) → i ≡ j
level i j f g = go (split i j) (split j i)
  where
    go : (i < j) ⊎ (j ≤ i) → (j < i) ⊎ (i ≤ j) → i ≡ j
    go (inl h) k = absurd (f h)
    go (inr h) (inl k) = absurd (g k)
    go (inr h) (inr k) = omega arith

pub same_test : (x y : Bool) → (x ≡ true → y ≡ true) → (y ≡ true → x ≡ true) → x ≡ y
same_test true y f g = sym (f refl)
same_test false true f g = g refl
same_test false false f g = refl

pub T→ : (b : Bool) → T b → b ≡ true
T→ true t = refl
T→ false t = elim t [ ]

-- ---- deciding

pub never : {A : Type 0} → (A → ⊥) → Tests false A
never n = record { sound = λ e. absurd (false≢true e); full = λ a. absurd (n a) }

pub always : {A : Type 0} → A → Tests true A
always a = record { sound = λ e. a; full = λ x. refl }

pub or : {a b : Bool} {A B : Type 0} → Tests a A → Tests b B → Tests (a || b) (A ⊎ B)
or {a = true} h k = always (inl (h.sound refl))
or {a = false} h k = record { sound = λ e. inr (k.sound e); full = λ s. elim s [ inl x ↦ absurd (false≢true (h.full x)) | inr y ↦ k.full y ] }

pub and : {a b : Bool} {A B : Type 0} → Tests a A → Tests b B → Tests (a && b) (A × B)
and {a = true} h k = record { sound = λ e. (h.sound refl, k.sound e); full = λ s. k.full s.1 }
and {a = false} h k = never (λ s. false≢true (h.full s.0))

pub implies : {a b : Bool} {A B : Type 0} → Tests a A → Tests b B → Tests (not a || b) (A → B)
implies {a = true} h k = record { sound = λ e x. k.sound e; full = λ f. k.full (f (h.sound refl)) }
implies {a = false} h k = always (λ x. absurd (false≢true (h.full x)))

-- what amounts to the same is decided too
pub amounts : {b : Bool} {A B : Type 0} → Tests b A → (A → B) → (B → A) → Tests b B
amounts t f g = record { sound = λ e. f (t.sound e); full = λ x. t.full (g x) }

pub itself : (b : Bool) → Tests b (b ≡ true)
itself b = record { sound = λ e. e; full = λ e. e }

pub equals : (m n : ℕ) → Tests (eqb m n) (n ≡ m)
equals m n = record { sound = λ e. sym (eqb→eq m n (rw e tt)); full = λ e. rw e (T→ _ (eqb_refl m)) }

pub below : (m n : ℕ) → Tests (ltb m n) (m < n)
below m n = record { sound = λ e. ltb→lt m n (rw e tt); full = λ h. T→ _ (lt→ltb m n h) }

pub at_most : (m n : ℕ) → Tests (leb m n) (m ≤ n)
at_most m n = record { sound = λ e. leb→le m n (rw e tt); full = λ h. T→ _ (le→leb m n h) }

pub not_below : (m n : ℕ) → n ≤ m → ltb m n ≡ false
not_below m n h = elim (which (ltb m n)) [ inl e ↦ absurd (omega (arith, (below m n).sound e)) | inr e ↦ e ]

-- two bits are equal if both are 1, or neither is
pub bit_same : (x y : ℕ) → x < 2 → y < 2 → eqb x 1 ≡ eqb y 1 → x ≡ y
bit_same x y h k e = elim (which (eqb x 1)) [
  | inl t ↦ omega (arith, eqb-true x 1 t, eqb-true y 1 (sym e ∙ t))
  | inr t ↦ omega (arith, eqb-false x 1 t, eqb-false y 1 (sym e ∙ t))
]

pub same_bool : (a b : Bool) → Tests (beq a b) (a ≡ b)
same_bool true true = always refl
same_bool true false = never (λ e. false≢true (sym e))
same_bool false true = never false≢true
same_bool false false = always refl

-- ---- the numbers below n

abbrev pub all : (ℕ → Bool) → ℕ → Bool
all f zero = true
all f (suc n) = f n && all f n

abbrev pub any : (ℕ → Bool) → ℕ → Bool
any f zero = false
any f (suc n) = f n || any f n

pub all_is : (f : ℕ → Bool) (n : ℕ) → Tests (all f n) ((i : ℕ) → i < n → f i ≡ true)
all_is f zero = always (λ i h. absurd (omega arith))
all_is f (suc n) = record { sound = λ e i h. down ((and (itself (f n)) (all_is f n)).sound e) i h (split i n); full = λ h. (and (itself (f n)) (all_is f n)).full (h n (omega arith), λ i k. h i (omega arith)) }
  where
    down : (f n ≡ true) × ((i : ℕ) → i < n → f i ≡ true) → (i : ℕ) → i < suc n → (i < n) ⊎ (n ≤ i) → f i ≡ true
    down t i h (inl k) = t.1 i k
    down t i h (inr k) = let e : i ≡ n = omega arith in rw e t.0

pub any_is : (f : ℕ → Bool) (n : ℕ) → Tests (any f n) ((i : ℕ) × (i < n) × (f i ≡ true))
any_is f zero = never (λ x. omega (arith, x.1))
any_is f (suc n) = record { sound = λ e. up ((or (itself (f n)) (any_is f n)).sound e); full = λ x. (or (itself (f n)) (any_is f n)).full (down x (split x.0 n)) }
  where
    up : (f n ≡ true) ⊎ ((i : ℕ) × (i < n) × (f i ≡ true)) → (i : ℕ) × (i < suc n) × (f i ≡ true)
    up (inl x) = (n, omega arith, x)
    up (inr x) = (x.0, omega (arith, x.1), x.2)

    down : (x : (i : ℕ) × (i < suc n) × (f i ≡ true)) → (x.0 < n) ⊎ (n ≤ x.0) → (f n ≡ true) ⊎ ((i : ℕ) × (i < n) × (f i ≡ true))
    down x (inl k) = inr (x.0, k, x.2)
    down x (inr k) = let e : x.0 ≡ n = omega (arith, x.1) in inl (rw e at x.2)

-- ---- what a test that passed shows

pub pair : {a b : Bool} {A B : Type 0} → (a ≡ true → A) → (b ≡ true → B) → a && b ≡ true → A × B
pair {a = true} f g e = (f refl, g e)
pair {a = false} f g e = absurd (false≢true e)
