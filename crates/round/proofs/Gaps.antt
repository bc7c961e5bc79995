-- A pass leaves out the states that cannot have moved: neither they nor those that begin their parts are touched, so they agree still and stay in their parts.
--   up: what holds of q, and with each number of the next, holds of all from q on
--   Come: the pass has come to the state q, with what stirred
--   come_as: the same, said of equal lists and words
--   come_gap: the states that are passed over
use Prim.Native.Nat.{ℕ, zero, suc, ◌+◌, ◌-◌, ◌≤◌, ◌<◌}
use mathlib.Core.Path.{◌≡◌, ◌∙◌}
use mathlib.Core.Bool.{Bool}
use mathlib.Core.List.{List}
use native.Mathlib.Nat.{add-zero}
use native.Mathlib.Omega.{arith}
use lib.ListN.{length, get_or}
use Rattle.two_rooms.specs.Side.{both_limit}
use Rattle.parting.specs.Named.{Named, OnePart, Agree}
use Rattle.signs.specs.Signs.{Steady, Stayed, Calm}
use Rattle.round.proofs.Passes.{RoundPassed, passed_stays}
use Rattle.parting.proofs.Links.{place_still}
use Rattle.signs.proofs.Signs.{stayed_gap}

-- what holds of q, and with each number of the next, holds of all from q on
up : (P : ℕ → Type 0) (q k : ℕ) → P q → ((x : ℕ) → q ≤ x → x < q + k → P x → P (x + 1)) → P (q + k)
up P q zero d f = rw (add-zero q) d
up P q (suc k) d f =
    let z : q + suc k ≡ q + k + 1 = omega arith in
    rw z (f (q + k) (omega arith) (omega arith) (up P q k d (λ x h l. f x h (omega arith))))

-- the states below q have their new parts; the signs of those that lead to one that moved are in stirred
pub record Come (next : ℕ → ℕ → ℕ) (old new₀ new link parent parent' born born' from : List ℕ) (r : ℕ) (opened : Bool) (stirred q : ℕ) : Type 0 where
  pub passed : RoundPassed (Agree next old) old new₀ new link parent parent' born born' r opened q
  pub stayed : Stayed old new from q stirred

-- the same, said of equal lists and words
pub come_as : {next : ℕ → ℕ → ℕ} {old new₀ new new' link link' parent parent' parent'' born born' born'' from : List ℕ} {r : ℕ} {opened opened' : Bool} {stirred stirred' q : ℕ}
    → link' ≡ link → new' ≡ new → parent'' ≡ parent' → born'' ≡ born' → opened' ≡ opened → stirred' ≡ stirred
    → Come next old new₀ new link parent parent' born born' from r opened stirred q → Come next old new₀ new' link' parent parent'' born born'' from r opened' stirred' q
come_as e f g h i j d = rw (e, f, g, h, i, j) d

-- the states that are passed over
pub come_gap : {next : ℕ → ℕ → ℕ} {old new₀ new link parent parent' born born' from : List ℕ} {r : ℕ} {opened : Bool} {stirred touched q n e : ℕ} → n ≤ both_limit → length new₀ ≡ both_limit
    → Named (OnePart old) old n → Steady next old n touched → ((x : ℕ) → x < n → get_or new₀ x 0 ≡ get_or old x 0) → q ≤ e → e ≤ n → ((x : ℕ) → x < e → q ≤ x → Calm old touched x)
    → Come next old new₀ new link parent parent' born born' from r opened stirred q → Come next old new₀ new link parent parent' born born' from r opened stirred e
come_gap {next} {old} {new₀} {new} {link} {parent} {parent'} {born} {born'} {from} {r} {opened} {stirred} {touched} {q} {n} {e} few wide named steady same low high calm d = record {
  passed =
      let z : e ≡ q + (e - q) = omega arith in
      rw z (up (RoundPassed (Agree next old) old new₀ new link parent parent' born born' r opened) q (e - q) d.passed (λ x l h p.
      let f = named x (omega arith) in
      passed_stays (Agree next old) old new₀ new link parent parent' born born' r opened x (omega arith) wide p (same x (omega arith)) (place_still next old x f (λ k.
      let (b, c) = calm x (omega arith) l k in steady.agree (get_or old x 0) x (omega arith) (omega arith) f.like c b))));
  stayed = stayed_gap d.stayed e (λ x h l. d.passed.named.kept x l ∙ same x (omega arith));
}
