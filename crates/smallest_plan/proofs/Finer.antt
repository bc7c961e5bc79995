-- Numbering on first arrival, by pieces: where each thing is read in pieces, and the first pieces come in the order of the things, the numbers arrive in the same order.
--   Finer whole first e d: of d pieces y each is of one of e things, whole y; the first piece of the thing x is first x
--   numbered_finer: the pieces, numbered as their things are, are numbered on first arrival
--   finer_rows: so it is with the rows of a table, where each row is read in pieces
use Prim.Native.Nat.{ℕ, ◌+◌, ◌*◌, ◌/◌, ◌%◌, ◌<◌}
use mathlib.Core.Path.{◌≡◌, ap, ◌∙◌}
use mathlib.Core.Logic.{inl, inr}
use native.Mathlib.Nat.{mul-le-mul_right, mod-lt, div-add-mod', div-lt_iff_lt-mul}
use native.Mathlib.Omega.{arith}
use Rattle.scope.specs.Limits.{byte_values}
use Rattle.scope.proofs.Counting.Tests.{split}
use Rattle.buffers.specs.Numbered.{Numbered}

pub record Finer (whole first : ℕ → ℕ) (e d : ℕ) : Type 0 where
  pub inside : (y : ℕ) → y < d → whole y < e
  pub place : (x : ℕ) → x < e → first x < d
  pub own : (x : ℕ) → x < e → whole (first x) ≡ x
  pub before : (y x : ℕ) → x < e → y < first x → whole y < x

-- key', number': those of the things
pub numbered_finer : {R : ℕ → ℕ → Type 0} {key number lead whole first : ℕ → ℕ} {from k e d : ℕ} → Numbered R key number lead from k e → Finer whole first e d
    → (key' number' : ℕ → ℕ) → ((y : ℕ) → y < d → key' y ≡ key (whole y)) → ((y : ℕ) → y < d → number' y ≡ number (whole y)) → Numbered R key' number' lead from k d
numbered_finer {key = key} {number} {lead} {whole} {first} n f key' number' keys numbers = record {
  some = n.some;
  below = λ y h. rw (numbers y h) (n.below (whole y) (f.inside y h));
  like = λ y h. rw (numbers y h, keys y h) (n.like (whole y) (f.inside y h));
  apart = n.apart;
  came = λ v h g. let c = n.came v h g in
      let p = f.place c.thing c.inside in
      let o = f.own c.thing c.inside in
      record {
        thing = first c.thing;
        inside = p;
        leads = keys (first c.thing) p ∙ ap key o ∙ c.leads;
        own = numbers (first c.thing) p ∙ ap number o ∙ c.own;
        earlier = λ y l. rw (numbers y (omega arith)) (c.earlier (whole y) (f.before y c.thing c.inside l));
      };
}

-- a table of n rows of k things, each row read by bytes
pub finer_rows : {whole first : ℕ → ℕ} {k : ℕ} (n : ℕ) → Finer whole first k byte_values
    → Finer (λ y. y / byte_values * k + whole (y % byte_values)) (λ x. x / k * byte_values + first (x % k)) (n * k) (n * byte_values)
finer_rows {whole} {first} {k} n f = record {
  inside = λ y h. let q : y / byte_values < n = omega arith in omega (arith, f.inside (y % byte_values) (omega arith), mul-le-mul_right k q);
  place = λ x h. let q : x / k < n = (div-lt_iff_lt-mul some).1 h in omega (arith, f.place (x % k) (mod-lt x some));
  own = own;
  before = before;
}
  where
    some : 0 < k
    some = omega (arith, f.inside 0 (omega arith))

    own : (x : ℕ) → x < n * k → (x / k * byte_values + first (x % k)) / byte_values * k + whole ((x / k * byte_values + first (x % k)) % byte_values) ≡ x
    own x h =
        let p = f.place (x % k) (mod-lt x some) in
        let q : (x / k * byte_values + first (x % k)) / byte_values ≡ x / k = omega arith in
        let r : (x / k * byte_values + first (x % k)) % byte_values ≡ first (x % k) = omega arith in
        rw (q, r, f.own (x % k) (mod-lt x some)) (div-add-mod' x k)

    before : (y x : ℕ) → x < n * k → y < x / k * byte_values + first (x % k) → y / byte_values * k + whole (y % byte_values) < x
    before y x h l = elim (split (y / byte_values) (x / k)) [
      | inl q ↦ omega (arith, f.inside (y % byte_values) (omega arith), mul-le-mul_right k q, div-add-mod' x k)
      | inr q ↦ (let p = f.place (x % k) (mod-lt x some) in
          let z : y / byte_values ≡ x / k = omega arith in
          omega (arith, ap (λ (i : ℕ). i * k) z, f.before (y % byte_values) (x % k) (mod-lt x some) (omega arith), div-add-mod' x k))
    ]
