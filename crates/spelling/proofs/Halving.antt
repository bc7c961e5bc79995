-- Halving. Two states in two parts are not together after the last round; a round in the middle, to which both climb, then becomes one bound or the other.
--   halve_first: the bounds at the start
--   halve_low, halve_high: they climb to one part, or to two
use Prim.Native.Nat.{ℕ, ◌+◌, ◌<◌}
use mathlib.Core.Path.{◌≡◌}
use mathlib.Core.List.{List}
use native.Mathlib.Omega.{arith}
use Rattle.scope.proofs.Machines.Rounds.{together_less}
use Rattle.parting.specs.Named.{OnePart}
use Rattle.spelling.specs.Climb.{Climbed}
use Rattle.refinement.proofs.Refined.{refined_together}
use Rattle.spelling.proofs.Climbing.{climbed_together}
use Rattle.spelling.specs.Word.{Between}

module _ (part parent born : List ℕ) (p q rounds : ℕ) where
  -- after the last round the two are not together
  pub halve_first : (OnePart part p q → ⊥) → Between part parent born p q rounds 0 rounds
  halve_first n = record {
    within = omega arith;
    parted = λ M d h k. record { before = λ i l. absurd (omega arith); apart = λ t. n ((refined_together M part parent born rounds d p q h k).1 t) };
  }

  module _ (low high middle x y : ℕ) (b : Between part parent born p q rounds low high) (l : middle < high)
      (f : Climbed part parent born p middle x) (g : Climbed part parent born q middle y) where
    -- they climb to one part: later
    pub halve_low : x ≡ y → Between part parent born p q rounds (middle + 1) high
    halve_low e = record {
      within = b.within;
      parted = λ M d h k. record {
        before = λ i m. together_less M i middle p q (omega arith)
            ((climbed_together M part parent born rounds d p q middle x y h k (omega (arith, b.within)) f g).0 e);
        apart = (b.parted M d h k).apart;
      };
    }

    -- they climb to two: not later
    pub halve_high : (x ≡ y → ⊥) → Between part parent born p q rounds low middle
    halve_high n = record {
      within = omega (arith, b.within);
      parted = λ M d h k. record {
        before = (b.parted M d h k).before;
        apart = λ t. n ((climbed_together M part parent born rounds d p q middle x y h k (omega (arith, b.within)) f g).1 t);
      };
    }
