-- The sets of a factor with a mark after it. First and Last are the factor's, and no position is copied; a mark lets the factor come again, or be left out, or both.
--   repeats m, skips m: it may come again; it may be left out
--   size_marked .. holders_marked: the sets with a mark, by those without
--   at_marked: a position that holds a byte holds it without the mark
--   follow_maybe: what follows in F? is what follows in F
use Prim.Native.Nat.{ℕ}
use mathlib.Core.Path.{◌≡◌, refl}
use mathlib.Core.Logic.{inl}
use mathlib.Core.Bool.{Bool, true, false, ◌&&◌, ◌||◌, or-true}
use native.Mathlib.Nat.{add-zero}
use lib.Bits.{bit_or, or_zero_r}
use Rattle.scope.specs.Text.Re.{Re, size}
use Rattle.scope.specs.Text.Tree.{Mark, many, some, maybe, marking}
use Rattle.scope.specs.Positions.Sets.{At}
use Rattle.scope.specs.Positions.Bits.{has, given, null, first, last, follow, holders}

abbrev pub repeats : Mark → Bool
repeats many = true
repeats some = true
repeats maybe = false

abbrev pub skips : Mark → Bool
skips many = true
skips some = false
skips maybe = true

pub size_marked : (m : Mark) (e : Re) → size (marking m e) ≡ size e
size_marked many e = refl
size_marked some e = refl
size_marked maybe e = add-zero (size e)

pub null_marked : (m : Mark) (e : Re) → null (marking m e) ≡ (skips m || null e)
unfolding null
null_marked many e = refl
null_marked some e = refl
null_marked maybe e = or-true (null e)

pub first_marked : (m : Mark) (e : Re) (k : ℕ) → first (marking m e) k ≡ first e k
unfolding first
first_marked many e k = refl
first_marked some e k = refl
first_marked maybe e k = or_zero_r (first e k)

pub last_marked : (m : Mark) (e : Re) (k : ℕ) → last (marking m e) k ≡ last e k
unfolding last
last_marked many e k = refl
last_marked some e k = refl
last_marked maybe e k = or_zero_r (last e k)

pub follow_marked : (m : Mark) (e : Re) (k p : ℕ) → follow (marking m e) k p ≡ bit_or (follow e k p) (given (repeats m && has (last e k) p) (first e k))
unfolding follow
follow_marked many e k p = refl
follow_marked some e k p = refl
follow_marked maybe e k p = refl

pub follow_maybe : (e : Re) (k p : ℕ) → follow (marking maybe e) k p ≡ follow e k p
unfolding follow
follow_maybe e k p = or_zero_r (follow e k p)

pub holders_marked : (m : Mark) (e : Re) (k b : ℕ) → holders (marking m e) k b ≡ holders e k b
unfolding holders
holders_marked many e k b = refl
holders_marked some e k b = refl
holders_marked maybe e k b = or_zero_r (holders e k b)

pub at_marked : (m : Mark) (e : Re) (k p b : ℕ) → At (marking m e) k p b → At e k p b
at_marked many e k p b a = a
at_marked some e k p b a = a
at_marked maybe e k p b (inl a) = a
at_marked maybe e k p b (mathlib.Core.Logic.inr x') = elim x' [ ]
