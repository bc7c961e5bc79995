-- Tests that two samples compare as a row says: rounds, and the separating string. They go over a few bytes, one for each kind of byte that the machines tell apart.
--   alike_by, alike_by_lem: whether two states are together after r rounds
--   is_rounds, rounds_by: the rounds
--   is_spelled, spelled_by: the separating string
use Prim.Native.Nat.{ℕ, zero, suc, ◌<◌}
use mathlib.Core.Path.{◌≡◌, refl, sym, ◌∙◌}
use mathlib.Core.Bool.{Bool, true, not, ◌&&◌, ◌||◌, beq, true≢false}
use mathlib.Core.List.{List, [], ◌∷◌}
use native.Mathlib.Omega.{arith}
use lib.Dec.{ltb}
use lib.ListN.{length, get_or}
use Rattle.scope.specs.Limits.{byte_values}
use Rattle.scope.specs.Machines.Machine.{Machine, Closed}
use Rattle.scope.specs.Machines.Rounds.{Together, Rests, Rounds}
use Rattle.scope.specs.Tests.{Tests}
use Rattle.scope.proofs.Counting.Tests.{and, implies, itself, same_bool, all, all_is, below, pair}
use Rattle.sample_rows.proofs.Numbering.{differ, differ_by}
use Rattle.scope.proofs.Machines.Separate.{Spelled, spelled_more}

unfoldable pub alike_by : Machine → List ℕ → ℕ → ℕ → ℕ → Bool
alike_by M kinds zero p q = beq (M.accepts p) (M.accepts q)
alike_by M kinds (suc r) p q = alike_by M kinds r p q && all (λ k. alike_by M kinds r (M.next p (get_or kinds k 0)) (M.next q (get_or kinds k 0))) (length kinds)

-- nothing splits after round r
unfoldable pub rests_by : Machine → List ℕ → ℕ → Bool
unfolding alike_by
rests_by M kinds r = all (λ p. all (λ q. not (alike_by M kinds r p q) || alike_by M kinds (suc r) p q) M.states) M.states

unfoldable pub is_rounds : Machine → List ℕ → ℕ → Bool
unfolding rests_by
is_rounds M kinds r = rests_by M kinds r && all (λ k. not (rests_by M kinds k)) r

unfoldable pub is_spelled : Machine → List ℕ → ℕ → ℕ → List ℕ → Bool
unfolding alike_by differ
is_spelled M kinds p q [] = differ (M.accepts p) (M.accepts q)
is_spelled M kinds p q (b ∷ w) =
    ltb b byte_values && (all (λ c. alike_by M kinds (length w) (M.next p c) (M.next q c)) b && is_spelled M kinds (M.next p b) (M.next q b) w)

-- each byte leads every state where one of the kinds leads it
pub record KindsCover (M : Machine) (kinds : List ℕ) : Type 0 where
  pub bytes : (k : ℕ) → k < length kinds → get_or kinds k 0 < byte_values
  pub all : (b : ℕ) → b < byte_values → (k : ℕ) × (k < length kinds) × ((q : ℕ) → q < M.states → M.next q b ≡ M.next q (get_or kinds k 0))

module _ (M : Machine) (c : Closed M) (kinds : List ℕ) (s : KindsCover M kinds) where
  abbrev Decided : ℕ → Type 0
  Decided r = (p q : ℕ) → p < M.states → q < M.states → Tests (alike_by M kinds r p q) (Together M r p q)

  -- one round more: all bytes, by their kinds
  each : (r : ℕ) → Decided r → (p q : ℕ) → p < M.states → q < M.states
      → Tests (all (λ k. alike_by M kinds r (M.next p (get_or kinds k 0)) (M.next q (get_or kinds k 0))) (length kinds))
      ((b : ℕ) → b < byte_values → Together M r (M.next p b) (M.next q b))
  each r d p q h k = record {
    sound = λ e b l. (let (i, m, f) = s.all b l in rw (f p h, f q k) ((kind i m).sound (every.sound e i m)));
    full = λ t. every.full (λ i m. (kind i m).full (t (get_or kinds i 0) (s.bytes i m)));
  }
    where
      after : ℕ → Bool
      after i = alike_by M kinds r (M.next p (get_or kinds i 0)) (M.next q (get_or kinds i 0))

      every : Tests (all after (length kinds)) ((i : ℕ) → i < length kinds → after i ≡ true)
      every = all_is after (length kinds)

      kind : (i : ℕ) → i < length kinds → Tests (after i) (Together M r (M.next p (get_or kinds i 0)) (M.next q (get_or kinds i 0)))
      kind i m = d (M.next p (get_or kinds i 0)) (M.next q (get_or kinds i 0)) (c.inside p (get_or kinds i 0) h (s.bytes i m)) (c.inside q (get_or kinds i 0) k (s.bytes i m))

  pub alike_by_lem : (r : ℕ) → Decided r
  unfolding alike_by
  alike_by_lem zero p q h k = same_bool (M.accepts p) (M.accepts q)
  alike_by_lem (suc r) p q h k = and (alike_by_lem r p q h k) (each r (alike_by_lem r) p q h k)

  rests_by_lem : (r : ℕ) → Tests (rests_by M kinds r) (Rests M r)
  unfolding rests_by
  rests_by_lem r = record {
    sound = λ e p q h k. (two r p q h k).sound ((all_is (λ q. pairs p q) M.states).sound ((all_is (λ p. all (λ q. pairs p q) M.states) M.states).sound e p h) q k);
    full = λ t. (all_is (λ p. all (λ q. pairs p q) M.states) M.states).full (λ p h. (all_is (λ q. pairs p q) M.states).full (λ q k. (two r p q h k).full (t p q h k)));
  }
    where
      pairs : ℕ → ℕ → Bool
      pairs p q = not (alike_by M kinds r p q) || alike_by M kinds (suc r) p q

      two : (r p q : ℕ) → p < M.states → q < M.states → Tests (not (alike_by M kinds r p q) || alike_by M kinds (suc r) p q) (Together M r p q → Together M (suc r) p q)
      two r p q h k = implies (alike_by_lem r p q h k) (alike_by_lem (suc r) p q h k)

  pub rounds_by : (r : ℕ) → is_rounds M kinds r ≡ true → Rounds M r
  unfolding is_rounds
  rounds_by r e =
      let (a, b) = pair (rests_by_lem r).sound (all_is (λ k. not (rests_by M kinds k)) r).sound e in
      record { rests = a; least = λ k h t. true≢false (sym (b k h) ∙ rw ((rests_by_lem k).full t) refl) }

  pub spelled_by : (p q : ℕ) (w : List ℕ) → p < M.states → q < M.states → is_spelled M kinds p q w ≡ true → Spelled M (length w) p q w
  unfolding is_spelled
  spelled_by p q [] h k e = record { bytes = tt; long = refl; told = differ_by (M.accepts p) (M.accepts q) e; first = λ i c v l. absurd (omega arith) }
  spelled_by p q (b ∷ w) h k e =
      let lower : ℕ → Bool = λ x. alike_by M kinds (length w) (M.next p x) (M.next q x) in
      let (l, t) = pair (below b byte_values).sound (pair (all_is lower b).sound (itself (is_spelled M kinds (M.next p b) (M.next q b) w)).sound) e in
      spelled_more M l
      (λ x i. (alike_by_lem (length w) (M.next p x) (M.next q x) (c.inside p x h (omega arith)) (c.inside q x k (omega arith))).sound (t.0 x i))
      (spelled_by (M.next p b) (M.next q b) w (c.inside p b h l) (c.inside q b k l) t.1)
