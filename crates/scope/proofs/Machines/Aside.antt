-- Two machines side by side: each runs as it does alone, so the two starts, side by side, are told apart by the strings that tell the machines apart.
--   aside_closed: two closed machines side by side are closed
--   left_run, right_run: acceptance from a state of the left, and of the right machine
--   aside_told: a string tells the starts, side by side, apart exactly when it tells the machines apart
--   aside_same: so the machines are equal exactly when no string tells those starts apart
--   rounds_two: rounds is at most the number of all states less 2
use Prim.Native.Nat.{ℕ, ◌+◌, ◌-◌, ◌≤◌, ◌<◌}
use mathlib.Core.Path.{◌≡◌, refl, sym, ◌∙◌}
use mathlib.Core.Logic.{◌⊎◌, inl, inr, ◌↔◌}
use mathlib.Core.List.{List, [], ◌∷◌}
use native.Mathlib.Omega.{arith}
use Rattle.scope.specs.Limits.{byte_values}
use Rattle.scope.specs.Bytes.{Bytes}
use Rattle.scope.specs.Machines.Machine.{Machine, run, Same, Equal, Closed}
use Rattle.scope.specs.Machines.Rounds.{aside, Rounds}
use Rattle.scope.proofs.Counting.Tests.{split, below, not_below}
use Rattle.scope.proofs.Machines.Rounds.{rounds_bound}

module _ (M N : Machine) (m : Closed M) (n : Closed N) where
  -- two closed machines side by side are closed
  pub aside_closed : Closed (aside M N)
  aside_closed = record { some = omega (arith, m.some); inside = λ q b h k. go q b h k (split q M.states) }
    where
      go : (q b : ℕ) → q < M.states + N.states → b < byte_values → (q < M.states) ⊎ (M.states ≤ q) → (aside M N).next q b < M.states + N.states
      go q b h k (inl x) = rw ((below q M.states).full x) (omega (arith, m.inside q b x k))
      go q b h k (inr x) = rw (not_below q M.states x) (omega (arith, n.inside (q - M.states) b (omega arith) k))

  -- from a state of the left machine the same strings are accepted as there
  pub left_run : (q : ℕ) (w : List ℕ) → q < M.states → Bytes w → (aside M N).accepts (run (aside M N) q w) ≡ M.accepts (run M q w)
  left_run q [] h g = rw ((below q M.states).full h) refl
  left_run q (b ∷ w) h g = rw ((below q M.states).full h) (left_run (M.next q b) w (m.inside q b h g.0) g.1)

  back : (q : ℕ) → M.states + q - M.states ≡ q
  back q = omega arith

  -- and so from a state of the right machine
  pub right_run : (q : ℕ) (w : List ℕ) → q < N.states → Bytes w → (aside M N).accepts (run (aside M N) (M.states + q) w) ≡ N.accepts (run N q w)
  right_run q [] h g = rw (not_below (M.states + q) M.states (omega arith), back q) refl
  right_run q (b ∷ w) h g = rw (not_below (M.states + q) M.states (omega arith), back q) (right_run (N.next q b) w (n.inside q b h g.0) g.1)

  -- a string tells the starts, side by side, apart exactly when it tells the machines apart
  pub aside_told : (w : List ℕ) → Bytes w
      → ((aside M N).accepts (run (aside M N) 0 w) ≡ (aside M N).accepts (run (aside M N) M.states w)) ↔ (M.accepts (run M 0 w) ≡ N.accepts (run N 0 w))
  aside_told w g =
      let left = left_run 0 w m.some g in
      let e : M.states + 0 ≡ M.states = omega arith in
      let right = rw e at (right_run 0 w n.some g) in
      (λ e. sym left ∙ e ∙ right, λ e. left ∙ e ∙ sym right)

  -- the machines are equal exactly when no string tells their starts, side by side, apart
  pub aside_same : Equal M N ↔ Same (aside M N) 0 (aside M N) M.states
  aside_same = (λ e w g. (aside_told w g).1 (e w g), λ e w g. (aside_told w g).0 (e w g))

  -- rounds is at most the number of all states less 2
  pub rounds_two : (r : ℕ) → Rounds (aside M N) r → r + 2 ≤ M.states + N.states
  rounds_two r s = omega (arith, rounds_bound (aside M N) aside_closed r s, m.some, n.some)
