-- From what each pass leaves to what the next is given.
--   zeroed, clear_zeroed: what was filled with zeros is clear
--   reads: the sets of the text's tree are what building is given
--   image: the image that building made, lent on
--   answered: what building, and what comes after it, leaves in the scratch is within it
--   recognised: a canonical machine of the image's strings has the words of the tree
--   refused, told, faultless: a refusal touches nothing; what the judge's answer means for compiling
--   too_much: what too many classes or states mean
use Prim.Native.Nat.{ℕ, zero, suc, ◌-◌, ◌≤◌}
use mathlib.Core.Path.{◌≡◌, refl, sym, subst, ◌∙◌}
use mathlib.Core.Bool.{Bool}
use mathlib.Core.List.{List, ◌++◌}
use native.Mathlib.Omega.{arith}
use lib.ListN.{length, take, drop, replicate}
use lib.Seq.{length-take-le}
use Rattle.scope.specs.Positions.Bits as bits
use Rattle.std.specs.Prelude.{Result, Ok, Err}
use Rattle.answers.specs.declared.Excess.{Excess}
use Rattle.answers.specs.declared.Fault.{Fault}
use Rattle.answers.specs.Numbers.{compile_refusal_number, compile_refusal_place, of_fault, of_excess}
use Rattle.scope.specs.Operations.Buffers.{Written, TailKept, Lent, Cleared}
use Rattle.scope.specs.Machines.Canonical.{Canonical}
use Rattle.scope.specs.Operations.Compile.{Fits, CompileRefused, Compiles, no_syntax, falls, too_deep, too_many, many_classes, many_sets}
use Rattle.scope.specs.Limits.{position_limit, scratch_bytes, scratch_words}
use Rattle.scope.specs.Machines.Machine.{Equal, Recognises}
use Rattle.scope.specs.Text.Re.{Re, Words}
use Rattle.scope.specs.Machines.Room.{machine}
use Rattle.scope.specs.Text.Tree.{expr}
use Rattle.scope.proofs.Operations.Buffers.{tail_then, tail_within}
use Rattle.buffers.proofs.OneMore.{all_kept, part_all, written_front}
use Rattle.sets.specs.Value.{set_value, set_at}
use Rattle.pattern.specs.PatternSets.{Faultless, Clear, Shaped, Reading}
use Rattle.pattern.specs.declared.Shape.{Shape}
use Rattle.pattern.proofs.Whole.{places_size}
use Rattle.sets.specs.Layout.{byte_sets, image_at, read_words}
use Rattle.determinise.specs.Build.{Given, MadeRoom, BuildOutcome, Builds}
use Rattle.judge.specs.Judges.{JudgesText, legal, syntax, range, depth, positions}
use Rattle.compile.specs.CompilePasses.{ReadsText, AnswersCompile}

-- the first n elements, filled with zeros
pub zeroed : {ys : List ℕ} (n : ℕ) (m : List ℕ) → n ≤ length m → ys ≡ replicate (length (take n m)) 0 → Written n (λ i. 0) m (ys ++ drop n m)
zeroed n m h e = written_front n m h (length-take-le n m h) e

-- are clear
pub clear_zeroed : (m : List ℕ) {m' : List ℕ} (n : ℕ) → n ≤ length m → Written n (λ i. 0) m m' → Clear n m'
clear_zeroed m n h s = record { long = omega (arith, s.size); zero = s.inside }

-- First is the set number 0
given : {e : Re} {y y' w w' : List ℕ} {r : Shape} → r.size ≤ position_limit → Shaped e y y' w w' r → Given e y' w' r.size (set_value r.last.words) r.null
unfolding bits.after_position
given {e} {w' = w'} {r = r} few s = record {
  positions = sym s.sizes;
  follow = follow;
  holds = λ q b h k. s.holds q b (omega arith) k;
  ends = s.lasts;
  empty = s.nulls;
}
  where
    follow : (q : ℕ) → q ≤ r.size → set_at w' q ≡ bits.after_position e q
    follow zero h = s.firsts
    follow (suc q) h = s.follows (suc q) (omega arith) (omega arith)

-- the sets of the text's tree are what building is given
pub reads :
    {s b b₁ b' w w₁ w' : List ℕ} {r : Shape} → Faultless s → Written byte_sets (λ i. 0) b b₁ → Written read_words (λ i. 0) w w₁ → Reading s b₁ b' w₁ w' r → ReadsText s b b' w w' r
reads {b₁ = b₁} {b'} {w₁ = w₁} {w'} {r = r} p fb fw a = record {
  few = few;
  given = λ t h. given few (a.says t h);
  bytes_kept = record { size = shaped.bytes_kept.size ∙ fb.size; outside = λ i h. shaped.bytes_kept.outside i h ∙ fb.outside i h };
  words_kept = record { size = shaped.words_kept.size ∙ fw.size; outside = λ i h. shaped.words_kept.outside i h ∙ fw.outside i h };
}
  where
    shaped : Shaped (expr p.tree) b₁ b' w₁ w' r
    shaped = a.says p.tree p.sized.pattern

    few : r.size ≤ position_limit
    few = omega (arith, shaped.sizes, places_size p.tree, p.sized.brief)

-- what building answered, of the tree of the text
outcome :
    {s b b₁ b₂ w w₁ w₂ : List ℕ} {r : Shape} {a : Result (Unit {0}) Excess} (p : Faultless s) → ReadsText s b b₁ w w₁ r
    → Builds b₁ w₁ r.size (set_value r.last.words) r.null b₂ w₂ a → BuildOutcome (expr p.tree) (drop image_at b₂) a
outcome p x y = y.outcome (expr p.tree) (x.given p.tree p.sized.pattern)

-- the image, lent on as a part of the bytes
pub image :
    {s b b₁ b₂ w w₁ w₂ : List ℕ} {r : Shape} (p : Faultless s) → ReadsText s b b₁ w w₁ r
    → Builds b₁ w₁ r.size (set_value r.last.words) r.null b₂ w₂ (Ok tt) → MadeRoom (expr p.tree) (take (length b₂ - image_at) (drop image_at b₂))
image {b₂ = b₂} p x y = subst (MadeRoom (expr p.tree)) (sym (part_all image_at b₂)) (outcome p x y)

-- what building, and what comes after it, leaves in the scratch is within it
pub answered :
    {s room room' b b₁ b₂ w w₁ w₂ w₃ : List ℕ} {r : Shape} {count last number place n : ℕ} {null : Bool} {a : Result (Unit {0}) Excess} → ReadsText s b b₁ w w₁ r
    → Builds b₁ w₁ count last null b₂ w₂ a → n ≤ scratch_words → TailKept n w₂ w₃ → ((b' w' : List ℕ) → Cleared b b' w w' → Compiles s room room' b b' w w' number place)
    → AnswersCompile s room room' b b₂ w w₃ number place
answered x y h k z = record {
  bytes_kept = tail_then (tail_within (omega arith) x.bytes_kept) (tail_within (omega arith) y.bytes_kept);
  words_kept = tail_then (tail_then (tail_within (omega arith) x.words_kept) (tail_within (omega arith) y.words_kept)) (tail_within h k);
  cleared = z;
}

-- a canonical machine for the same strings has the same words
pub recognised : {e : Re} {m m' : List ℕ} → MadeRoom e m → Canonical m' → Equal (machine m) (machine m') → Recognises (machine m') (Words e)
recognised x c q w g = (λ a. (x.words w g).0 (q w g ∙ a), λ l. sym (q w g) ∙ (x.words w g).1 l)

-- a refusal touches nothing
pub refused :
    {s room b w : List ℕ} {number place : ℕ} → ((b' w' : List ℕ) → CompileRefused room room b b' w w' → Compiles s room room b b' w w' number place)
    → AnswersCompile s room room b b w w number place
refused {b = b} {w} z = record {
  bytes_kept = all_kept b scratch_bytes;
  words_kept = all_kept w scratch_words;
  cleared = λ b' w' k. z b' w' (record { kept = refl; cleared = k });
}

-- what a fault means for compiling
pub told : {s room b w : List ℕ} {f : Fault} → Fits s room b w → JudgesText s (Err f)
    → AnswersCompile s room room b b w w (compile_refusal_number (of_fault f)) (compile_refusal_place (of_fault f))
told f (syntax x) = refused (λ b' w' k. no_syntax f x k)
told f (range x y) = refused (λ b' w' k. falls f x y k)
told f (depth x o y) = refused (λ b' w' k. too_deep f x o y k)
told f (positions x o h y) = refused (λ b' w' k. too_many f x o h y k)

-- and where there is none
pub faultless : {s room b w : List ℕ} → Fits s room b w → JudgesText s (Ok tt) → Faultless s
faultless f (legal {t} x) = record { short = f.short; tree = t; sized = x }

-- what too many classes or states mean for compiling
pub too_much :
    {s room b b₁ b₂ w w₁ w₂ : List ℕ} {r : Shape} (p : Faultless s) → Lent room b w → ReadsText s b b₁ w w₁ r → (x : Excess)
    → Builds b₁ w₁ r.size (set_value r.last.words) r.null b₂ w₂ (Err x)
    → AnswersCompile s room room b b₂ w w₂ (compile_refusal_number (of_excess x)) (compile_refusal_place (of_excess x))
too_much p l x Excess.Classes y = answered x y (omega arith) (all_kept _ 0)
    (λ b w k. many_classes (record { lent = l; short = p.short }) p.sized (outcome p x y) (record { kept = refl; cleared = k }))
too_much p l x Excess.States y = answered x y (omega arith) (all_kept _ 0)
    (λ b w k. many_sets (record { lent = l; short = p.short }) p.sized (outcome p x y).0 (outcome p x y).1 (record { kept = refl; cleared = k }))
