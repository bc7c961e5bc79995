-- Rounds and strings: after r rounds two states are together exactly when no string of at most r bytes tells them apart. So nothing splits after round r
-- exactly when strings of at most r bytes tell apart all that any string does; and as each split shows one more state apart, that comes within n - 2 rounds.
--   together_out, together_in, together_is: to be together is to be untold
--   together_flip, together_chain, together_less: an equivalence, as fine with each round as with the last
--   alike, together_tests, together_either: whether two states are together is decided, byte by byte
--   rests_same, rests_enough, rests_later: what is together where nothing splits is so for ever
--   rests_by_lem, rounds_stop, rounds_bound: the rounds stop, after at most n - 2
--   rounds_enough: rounds is the least length that is enough
use Prim.Native.Nat.{ℕ, zero, suc, ◌+◌, ◌-◌, ◌≤◌, ◌<◌}
use mathlib.Core.Path.{◌≡◌, refl, sym, ◌∙◌}
use mathlib.Core.Bool.{Bool, true, ◌&&◌, beq, false≢true}
use mathlib.Core.Logic.{inl, inr, ◌↔◌}
use mathlib.Core.List.{[], ◌∷◌}
use native.Mathlib.Omega.{arith}
use native.Mathlib.Decide.{map_dec}
use Rattle.scope.specs.Limits.{byte_values}
use Rattle.scope.specs.Machines.Machine.{Machine, Same, Closed}
use Rattle.scope.specs.Machines.Rounds.{Together, Rests, Rounds, Untold, Enough}
use Rattle.scope.specs.Count.{Over}
use Rattle.scope.specs.Tests.{Tests}
use Rattle.scope.proofs.Counting.Tests.{and, same_bool, all, all_is, which, split}
use Rattle.scope.proofs.Counting.Count.{over_within}
use Rattle.scope.proofs.Counting.Chain.{every, implies, over_two, over_more}

-- what is together is untold
pub together_out : (M : Machine) (r p q : ℕ) → Together M r p q → Untold M r p q
together_out M zero p q e [] g h = e
together_out M zero p q e (b ∷ w) g h = absurd (omega arith)
together_out M (suc r) p q e [] g h = together_out M r p q e.0 [] tt (omega arith)
together_out M (suc r) p q e (b ∷ w) g h = together_out M r (M.next p b) (M.next q b) (e.1 b g.0) w g.1 (omega arith)

-- what is untold is together
pub together_in : (M : Machine) (r p q : ℕ) → Untold M r p q → Together M r p q
together_in M zero p q h = h [] tt (omega arith)
together_in M (suc r) p q h = (
  together_in M r p q (λ w g l. h w g (omega arith)),
  λ b k. together_in M r (M.next p b) (M.next q b) (λ w g l. h (b ∷ w) (k, g) (omega arith)),
)

-- the parts after r rounds are what strings of at most r bytes do not tell apart
pub together_is : (M : Machine) (r p q : ℕ) → Together M r p q ↔ Untold M r p q
together_is M r p q = (together_out M r p q, together_in M r p q)

-- to be together goes both ways
pub together_flip : (M : Machine) (r p q : ℕ) → Together M r p q → Together M r q p
together_flip M r p q e = together_in M r q p (λ w g l. sym (together_out M r p q e w g l))

-- and from one to the next
pub together_chain : (M : Machine) (r p q s : ℕ) → Together M r p q → Together M r q s → Together M r p s
together_chain M r p q s e f = together_in M r p s (λ w g l. together_out M r p q e w g l ∙ together_out M r q s f w g l)

-- what is together after more rounds is together after fewer
pub together_less : (M : Machine) (r k p q : ℕ) → r ≤ k → Together M k p q → Together M r p q
together_less M r k p q h e = together_in M r p q (λ w g l. together_out M k p q e w g (omega arith))

-- ---- deciding

-- the test for `Together`, over all bytes
unfoldable pub alike : Machine → ℕ → ℕ → ℕ → Bool
alike M zero p q = beq (M.accepts p) (M.accepts q)
alike M (suc r) p q = alike M r p q && all (λ b. alike M r (M.next p b) (M.next q b)) byte_values

-- the test decides `Together`
pub together_tests : (M : Machine) (r p q : ℕ) → Tests (alike M r p q) (Together M r p q)
unfolding alike
together_tests M zero p q = same_bool (M.accepts p) (M.accepts q)
together_tests M (suc r) p q = and (together_tests M r p q) (record {
  sound = λ e b h. (together_tests M r (M.next p b) (M.next q b)).sound (bytes.sound e b h);
  full = λ e. bytes.full (λ b h. (together_tests M r (M.next p b) (M.next q b)).full (e b h));
})
  where
    after : ℕ → Bool
    after b = alike M r (M.next p b) (M.next q b)

    bytes : Tests (all after byte_values) ((b : ℕ) → b < byte_values → after b ≡ true)
    bytes = all_is after byte_values

-- two states are together after r rounds, or not
pub together_either : (M : Machine) (r p q : ℕ) → Dec (Together M r p q)
together_either M r p q = elim (which (alike M r p q)) [
  | inl e ↦ yes ((together_tests M r p q).sound e)
  | inr e ↦ no (λ t. false≢true (sym e ∙ (together_tests M r p q).full t))
]

-- ---- where nothing splits

abbrev State : Machine → ℕ → Type 0
State M q = q < M.states

module _ (M : Machine) (c : Closed M) where
  -- what is together where nothing splits is told apart by no string of whatever length
  pub rests_same : (r p q : ℕ) → p < M.states → q < M.states → Rests M r → Together M r p q → Same M p M q
  rests_same r p q h k s e [] g = together_out M r p q e [] tt (omega arith)
  rests_same r p q h k s e (b ∷ w) g =
      rests_same r (M.next p b) (M.next q b) (c.inside p b h g.0) (c.inside q b k g.0) s ((s p q h k e).1 b g.0) w g.1

  -- nothing splits after round r exactly when r bytes are enough
  pub rests_enough : (r : ℕ) → Rests M r ↔ Enough M r
  rests_enough r = (
    λ s p q h k u. rests_same r p q h k s (together_in M r p q u),
    λ e p q h k t. together_in M (suc r) p q (λ w g l. e p q h k (together_out M r p q t) w g),
  )

  -- where nothing splits, nothing splits later
  pub rests_later : (r k : ℕ) → r ≤ k → Rests M r → Rests M k
  rests_later r k h s = (rests_enough k).1 (λ p q i j u. (rests_enough r).0 s p q i j (λ w g l. u w g (omega arith)))

  more : (r : ℕ) {n : ℕ} → Over n (State M) (Together M r) → (p q : ℕ) → p < M.states → q < M.states → Together M r p q → (Together M (suc r) p q → ⊥)
      → (Over (suc n) (State M) (Together M (suc r)) → ⊥) → ⊥
  more r = over_more (State M) (Together M) (together_flip M) (together_chain M) (λ r p q e. e.0) r

  -- nothing splits after round r, unless r + 3 states are pairwise apart after the next
  few : (r : ℕ) → (Over (suc (suc r)) (State M) (Together M (suc r)) → ⊥) → Rests M r
  few zero none p q h k t = (
    t,
    λ b l. elim (together_either M 0 (M.next p b) (M.next q b)) [
      | yes e ↦ e
      | no f ↦ absurd (more 0 (over_two (M.next p b) (M.next q b) (c.inside p b h l) (c.inside q b k l) f) p q h k t (λ e. f (e.1 b l)) none)
    ],
  )
  few (suc r) none p q h k t = elim (together_either M (suc (suc r)) p q) [
    | yes e ↦ e
    | no f ↦ rests_later r (suc r) (omega arith) (few r (λ o. more (suc r) o p q h k t f none)) p q h k t
  ]

  -- nothing splits after n - 2 rounds
  pub rests_by_lem : (r : ℕ) → M.states ≤ r + 2 → Rests M r
  rests_by_lem r h = few r (λ o. over_within (State M) (Together M (suc r)) (together_flip M (suc r)) (together_chain M (suc r)) (suc (suc r)) o
      (record { thing = λ i. i; all = λ q k. (q, omega arith, together_in M (suc r) q q (λ w g l. refl)) }))

  rests_either : (r : ℕ) → Dec (Rests M r)
  rests_either r = map_dec (λ h p q i j. h p i q j) (λ s p i q j. s p q i j)
      (every (λ p. every (λ q. implies (together_either M r p q) (together_either M (suc r) p q)) M.states) M.states)

  -- the rounds stop
  pub rounds_stop : (r : ℕ) × Rounds M r
  rounds_stop = down M.states (rests_by_lem M.states (omega arith))
    where
      down : (r : ℕ) → Rests M r → (r : ℕ) × Rounds M r
      down zero s = (0, record { rests = s; least = λ k h. absurd (omega arith) })
      down (suc r) s = elim (rests_either r) [
        | yes t ↦ down r t
        | no f ↦ (suc r, record { rests = s; least = λ k h t. f (rests_later k r (omega arith) t) })
      ]

  -- after at most n - 2
  pub rounds_bound : (r : ℕ) → Rounds M r → r ≤ M.states - 2
  rounds_bound zero s = omega arith
  rounds_bound (suc r) s = elim (split (r + 2) M.states) [ inl h ↦ omega arith | inr h ↦ absurd (s.least r (omega arith) (rests_by_lem r h)) ]

  -- rounds is the least length that is enough
  pub rounds_enough : (r : ℕ) → Rounds M r ↔ (Enough M r × ((k : ℕ) → k < r → Enough M k → ⊥))
  rounds_enough r = (
    λ s. ((rests_enough r).0 s.rests, λ k h e. s.least k h ((rests_enough k).1 e)),
    λ e. record { rests = (rests_enough r).1 e.0; least = λ k h s. e.1 k h ((rests_enough k).0 s) },
  )
