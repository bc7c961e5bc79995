-- What the records on buffers determine: two lists that one record allows are equal, element by element.
--   written_one, written_none, tail_one: of one buffer
--   written_take: the bytes that were written are the string
--   all_kept, tail_then, tail_within: what is not touched; two changes, one after the other; a change within a longer part
--   cleared_one, untouched_one: of the scratch
use Prim.Native.Nat.{ℕ, ◌<◌, ◌≤◌}
use mathlib.Core.Path.{◌≡◌, refl, sym, ◌∙◌}
use mathlib.Core.Logic.{◌⊎◌, inl, inr}
use mathlib.Core.List.{List}
use native.Mathlib.Omega.{arith}
use lib.ListN.{length, take, get_or}
use lib.Seq.{ext_get_or, length-take-le, get_or-take}
use Rattle.scope.specs.Operations.Buffers.{Written, TailKept, Cleared, Untouched}
use Rattle.scope.proofs.Counting.Tests.{split}

pub written_one : {n : ℕ} {f : ℕ → ℕ} {old a b : List ℕ} → Written n f old a → Written n f old b → a ≡ b
written_one {n} {f} {old} {a} {b} u v = ext_get_or 0 a b (u.size ∙ sym v.size) (λ i h. at i (split i n))
  where
    at : (i : ℕ) → (i < n) ⊎ (n ≤ i) → get_or a i 0 ≡ get_or b i 0
    at i (inl k) = u.inside i k ∙ sym (v.inside i k)
    at i (inr k) = u.outside i k ∙ sym (v.outside i k)

-- where nothing is written, all is kept
pub written_none : {f : ℕ → ℕ} {old new : List ℕ} → Written 0 f old new → new ≡ old
written_none {f} {old} {new} u = ext_get_or 0 new old u.size (λ i h. u.outside i (omega arith))

-- the bytes that were written are the string
pub written_take : (w old new : List ℕ) (n : ℕ) → length w ≡ n → n ≤ length old → Written n (λ i. get_or w i 0) old new → take n new ≡ w
written_take w old new n e h k = ext_get_or 0 (take n new) w (length-take-le n new (omega (arith, k.size)) ∙ sym e)
    (λ i l. let b : i < n = omega (arith, length-take-le n new (omega (arith, k.size))) in get_or-take n new i 0 b ∙ k.inside i b)

-- the first n elements, and what is kept of the rest
pub tail_one : {n : ℕ} {old a b : List ℕ} → TailKept n old a → TailKept n old b → ((i : ℕ) → i < n → get_or a i 0 ≡ get_or b i 0) → a ≡ b
tail_one {n} {old} {a} {b} u v e = ext_get_or 0 a b (u.size ∙ sym v.size) (λ i h. at i (split i n))
  where
    at : (i : ℕ) → (i < n) ⊎ (n ≤ i) → get_or a i 0 ≡ get_or b i 0
    at i (inl k) = e i k
    at i (inr k) = u.outside i k ∙ sym (v.outside i k)

-- what is not touched is kept
pub all_kept : (m : List ℕ) (n : ℕ) → TailKept n m m
all_kept m n = record { size = refl; outside = λ i h. refl }

-- two changes, one after the other
pub tail_then : {n : ℕ} {a b c : List ℕ} → TailKept n a b → TailKept n b c → TailKept n a c
tail_then s t = record { size = t.size ∙ s.size; outside = λ i h. t.outside i h ∙ s.outside i h }

-- a change within a longer part
pub tail_within : {n m : ℕ} {a b : List ℕ} → n ≤ m → TailKept n a b → TailKept m a b
tail_within h s = record { size = s.size; outside = λ i g. s.outside i (omega arith) }

-- both parts of the scratch
abbrev pub AlikeScratch : List ℕ → List ℕ → List ℕ → List ℕ → Type 0
AlikeScratch a b c d = (a ≡ b) × (c ≡ d)

pub cleared_one : {x a b y c d : List ℕ} → Cleared x a y c → Cleared x b y d → AlikeScratch a b c d
cleared_one u v = (written_one u.bytes_zero v.bytes_zero, written_one u.words_zero v.words_zero)

pub untouched_one : {x a b y c d : List ℕ} → Untouched x a y c → Untouched x b y d → AlikeScratch a b c d
untouched_one u v = (u.bytes_kept ∙ sym v.bytes_kept, u.words_kept ∙ sym v.words_kept)
