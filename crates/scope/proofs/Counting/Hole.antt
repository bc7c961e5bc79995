-- The pigeonhole principle: where each number below n has a place below m, and no place has two numbers, n ≤ m.
--   pigeon: the principle
use mathlib.Core.Path.{◌≡◌, refl, sym, ◌∙◌}
use mathlib.Core.Logic.{◌⊎◌, inl, inr}
use Prim.Native.Nat.{ℕ, zero, suc, ◌≤◌, ◌<◌}
use native.Mathlib.Omega.{arith}
use native.Mathlib.Decide.{ℕ_discrete}

abbrev Placed : (ℕ → ℕ → Type 0) → ℕ → ℕ → Type 0
Placed R m i = (v : ℕ) × (v < m) × R i v

-- the place of i where n is gone from v and the place m too: who was at m is at v
abbrev Moved : (ℕ → ℕ → Type 0) → ℕ → ℕ → ℕ → ℕ → ℕ → Type 0
Moved R n m v i x = (i < n) × (R i x ⊎ (R i m × (x ≡ v)))

pub pigeon : (R : ℕ → ℕ → Type 0) (n m : ℕ) → ((i : ℕ) → i < n → Placed R m i) → ((i j v : ℕ) → R i v → R j v → i ≡ j) → n ≤ m
pigeon R zero m place one = omega arith
pigeon R (suc n) zero place one = absurd (omega (arith, (place n (omega arith)).1))
pigeon R (suc n) (suc m) place one = omega (arith, pigeon (Moved R n m last.0) n m place' one')
  where
    last : Placed R (suc m) n
    last = place n (omega arith)

    place' : (i : ℕ) → i < n → Placed (Moved R n m last.0) m i
    place' i h = go (place i (omega arith))
      where
        at : (x : ℕ) → x < suc m → R i x → Dec (x ≡ m) → Placed (Moved R n m last.0) m i
        at x k r (yes e) = (last.0, room (ℕ_discrete last.0 m), (h, inr (rw e at r, refl)))
          where
            room : Dec (last.0 ≡ m) → last.0 < m
            room (yes d) = absurd (omega (arith, one i n x r (rw (e ∙ sym d) last.2)))
            room (no d) = omega (arith, last.1)
        at x k r (no e) = (x, omega arith, (h, inl r))

        go : Placed R (suc m) i → Placed (Moved R n m last.0) m i
        go p = at p.0 p.1 p.2 (ℕ_discrete p.0 m)

    gone : (i x : ℕ) → i < n → R i x → x ≡ last.0 → ⊥
    gone i x h r e = omega (arith, one i n x r (rw e last.2))

    one' : (i j v : ℕ) → Moved R n m last.0 i v → Moved R n m last.0 j v → i ≡ j
    one' i j v (h, inl r) (k, inl s) = one i j v r s
    one' i j v (h, inl r) (k, inr s) = absurd (gone i v h r s.1)
    one' i j v (h, inr r) (k, inl s) = absurd (gone j v k s r.1)
    one' i j v (h, inr r) (k, inr s) = one i j m r.0 s.0
