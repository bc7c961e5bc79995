-- Pattern classes and reached sets of an expression: the judgements 7 and 8 of 01.
--   Share e b c: two bytes share a pattern class
--   ReachedSet e s: the set of positions s is reached from {0}
--   ManyClasses, FewClasses, ManySets, FewSets: over the limit, or not
use Rattle.std.specs.Prelude.{ℕ, ◌<◌, ◌≡◌, List}
use Rattle.scope.specs.Limits.{byte_values, class_limit, state_limit}
use Rattle.scope.specs.Bytes.{Bytes}
use Rattle.scope.specs.Text.Re.{Re}
use Rattle.scope.specs.Positions.Bits.{holders, move}
use Rattle.scope.specs.Machines.Machine.{walk}
use Rattle.scope.specs.Count.{Over, Within}

-- "Two bytes share a pattern class when every position holds both or neither."
abbrev pub Share : Re → ℕ → ℕ → Type 0
Share e b c = holders e 0 b ≡ holders e 0 c

-- "A deterministic state is a set of positions, beginning with {0}. The empty set counts as a state where it is reached": {0} is the number 1, the empty set 0
pub record ReachedSet (e : Re) (s : ℕ) : Type 0 where
  pub word : List ℕ
  pub bytes : Bytes word
  pub leads : walk (move e) 1 word ≡ s

-- "over 64 pattern classes"
abbrev pub ManyClasses : Re → Type 0
ManyClasses e = Over class_limit (λ (b : ℕ). b < byte_values) (Share e)

abbrev pub FewClasses : Re → Type 0
FewClasses e = Within class_limit (λ (b : ℕ). b < byte_values) (Share e)

-- "over 128 sets reached"
abbrev pub ManySets : Re → Type 0
ManySets e = Over state_limit (ReachedSet e) (λ (s t : ℕ). s ≡ t)

abbrev pub FewSets : Re → Type 0
FewSets e = Within state_limit (ReachedSet e) (λ (s t : ℕ). s ≡ t)
