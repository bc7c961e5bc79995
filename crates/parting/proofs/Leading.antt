-- Two states agree exactly if each kind leads them into one part: what holds for a byte of each kind holds for every byte.
--   led_all: all bytes of least do
use Prim.Native.Nat.{ℕ}
use mathlib.Core.Logic.{inl, inr}
use mathlib.Core.List.{List}
use native.Mathlib.Omega.{arith}
use lib.ListN.{length}
use Rattle.scope.proofs.Counting.Tests.{split}
use Rattle.two_rooms.specs.Kinds.{EachKind}
use Rattle.parting.specs.Named.{OnePart, Agree, Led}

-- all bytes of least do, those up to e and the others
pub led_all : {next : ℕ → ℕ → ℕ} {least : List ℕ} (part : List ℕ) (p q e : ℕ) → EachKind next least → OnePart part p q → Led next least part p q 0 e → Led next least part p q e (length least) → Agree next part p q
led_all part p q e k o d f = record {
  here = o;
  there = λ x h. let (i, l, to) = k.some x h in rw (← to p, ← to q) (elim (split i e) [ inl m ↦ d i m (omega arith) | inr m ↦ f i l m ]);
}
