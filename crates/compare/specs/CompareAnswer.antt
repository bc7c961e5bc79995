-- The answer of comparing.
--   AnswersCompare a b word word' i n r: the answer has the number i, the length n and the rounds r, whatever scratch was lent and cleared
use Rattle.std.specs.Prelude.{ℕ, List}
use Rattle.scope.specs.Operations.Buffers.{Cleared}
use Rattle.scope.specs.Operations.Compare.{CompareLent, Compares}

abbrev pub AnswersCompare : List ℕ → List ℕ → List ℕ → List ℕ → ℕ → ℕ → ℕ → Type 0
AnswersCompare a b word word' i n r = (bytes bytes' words words' : List ℕ) → CompareLent a b word bytes words → Cleared bytes bytes' words words'
    → Compares a b word word' bytes bytes' words words' i n r
