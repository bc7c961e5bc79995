-- Parts of states, each named by its least state.
--   LeastLike R q x: x is the least number that R relates to q
--   LeastBefore R q r: r is that number, where it is below q; none, where it is q itself
--   Named R part n: part has, for each state below n, the first that R relates to it
--   Renamed R part part' n: part' has them, and from n on what part had
--   OnePart part p q: p and q lie in one part
--   Agree next part p q: and each byte leads them into one part
--   Led next least part p q e f: the bytes of least from e up to f do
use Rattle.std.specs.Prelude.{ℕ, ◌≤◌, ◌<◌, ◌≡◌, Option, MatchOption, List, length, get_or}
use Rattle.scope.specs.Limits.{byte_values}

pub record LeastLike (R : ℕ → ℕ → Type 0) (q x : ℕ) : Type 0 where
  pub low : x ≤ q
  pub like : R x q
  pub least : (p : ℕ) → p < x → R p q → ⊥

abbrev pub LeastBefore : (ℕ → ℕ → Type 0) → ℕ → Option ℕ → Type 0
LeastBefore R q r = MatchOption r (LeastLike R q q) (λ p. (p < q) × LeastLike R q p)

abbrev pub Named : (ℕ → ℕ → Type 0) → List ℕ → ℕ → Type 0
Named R part n = (q : ℕ) → q < n → LeastLike R q (get_or part q 0)

pub record Renamed (R : ℕ → ℕ → Type 0) (part part' : List ℕ) (n : ℕ) : Type 0 where
  pub named : Named R part' n
  pub kept : (x : ℕ) → n ≤ x → get_or part' x 0 ≡ get_or part x 0
  pub long : length part' ≡ length part

abbrev pub OnePart : List ℕ → ℕ → ℕ → Type 0
OnePart part p q = get_or part p 0 ≡ get_or part q 0

pub record Agree (next : ℕ → ℕ → ℕ) (part : List ℕ) (p q : ℕ) : Type 0 where
  pub here : OnePart part p q
  pub there : (x : ℕ) → x < byte_values → OnePart part (next p x) (next q x)

abbrev pub Led : (ℕ → ℕ → ℕ) → List ℕ → List ℕ → ℕ → ℕ → ℕ → ℕ → Type 0
Led next least part p q e f = (i : ℕ) → i < f → e ≤ i → OnePart part (next p (get_or least i 0)) (next q (get_or least i 0))
