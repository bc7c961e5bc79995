-- Classes of byte values, numbered by the smallest. Until they are spread over the bytes, the class of a run stands at its end.
--   end_from ends n b: the first end among the n bytes from b on, the byte after them if there is none
--   end_of ends b: the end of the run that b is in
--   own_place b: b itself, where its class stands in the end
--   Key m p at old a b: a and b have the same class in `old`, and the position p + 1 holds both or neither; `at` says where their classes stand
--   Classes R class k: `class` gives the kinds R of the bytes the numbers 0 .. k - 1, by their smallest byte
--   Grouped R at map k: the class of each byte b stands at `at b`, and there are at most 64
--   TooMany R: there are more than 64 bytes no two of which are alike by R
--   GroupAnswer R at map r: what grouping by R answers
--   ClassesBelow at map: the classes are below 64
use Rattle.std.specs.Prelude.{ℕ, zero, suc, ◌+◌, ◌-◌, ◌*◌, ◌<◌, ◌≤◌, ◌≡◌, ◌↔◌, cond, Option, Some, None, List, length, get_or}
use Rattle.scope.specs.Limits.{byte_values, class_limit}
use Rattle.scope.specs.Machines.Canonical.{met, Arrival}
use Rattle.scope.specs.Count.{Over}
use Rattle.sets.specs.Layout.{bit_at}
use Rattle.byte_runs.specs.Runs.{is_end}

unfoldable pub end_from : List ℕ → ℕ → ℕ → ℕ
end_from ends zero b = b
end_from ends (suc n) b = cond (is_end ends b) b (end_from ends n (suc b))

abbrev pub end_of : List ℕ → ℕ → ℕ
end_of ends b = end_from ends (byte_values - b) b

abbrev pub own_place : ℕ → ℕ
own_place b = b

abbrev pub Key : List ℕ → ℕ → (ℕ → ℕ) → List ℕ → ℕ → ℕ → Type 0
Key m p at old a b = 2 * get_or old (at a) 0 + bit_at m p (at a) ≡ 2 * get_or old (at b) 0 + bit_at m p (at b)

pub record Classes (R : ℕ → ℕ → Type 0) (class : ℕ → ℕ) (k : ℕ) : Type 0 where
  pub same : (a b : ℕ) → a < byte_values → b < byte_values → (class a ≡ class b) ↔ R a b
  pub smallest : Arrival class 0 byte_values
  pub count : met class 0 byte_values ≡ k

abbrev pub TooMany : (ℕ → ℕ → Type 0) → Type 0
TooMany R = Over class_limit (λ (b : ℕ). b < byte_values) R

pub record Grouped (R : ℕ → ℕ → Type 0) (at : ℕ → ℕ) (map : List ℕ) (k : ℕ) : Type 0 where
  pub size : length map ≡ byte_values
  pub few : k ≤ class_limit
  pub classes : Classes R (λ b. get_or map (at b) 0) k

abbrev pub GroupAnswer : (ℕ → ℕ → Type 0) → (ℕ → ℕ) → List ℕ → Option ℕ → Type 0
GroupAnswer R at map (Some k) = Grouped R at map k
GroupAnswer R at map None = TooMany R

abbrev pub ClassesBelow : (ℕ → ℕ) → List ℕ → Type 0
ClassesBelow at map = (b : ℕ) → b < byte_values → get_or map (at b) 0 < class_limit
