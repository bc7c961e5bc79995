-- Comparing is determined. Rounds: the least of a kind is one. The string: were two different, the one that is smaller where they first differ would
-- be a shortest separation that begins as the other, with a smaller byte.
--   rounds_one, separation_one: rounds are one, and so is the string
--   equal_separates: machines for the same strings have none
--   unsound: where one of two is not so, not both are
--   determined: two results of one call are equal, with every byte of every buffer
use Prim.Native.Nat.{ℕ, zero, suc, ◌<◌, ◌≤◌}
use mathlib.Core.Path.{◌≡◌, refl, sym, ap, ◌∙◌}
use mathlib.Core.Logic.{◌⊎◌, inl, inr}
use mathlib.Core.List.{List, ◌∷◌, ◌++◌}
use native.Mathlib.Omega.{arith}
use lib.ListN.{length, take, drop, get_or, take-append-drop}
use lib.Seq.{take-suc, take_all, drop-cons}
use Rattle.scope.specs.Machines.Machine.{Machine, Equal}
use Rattle.scope.specs.Machines.Room.{machine}
use Rattle.scope.specs.Machines.Rounds.{Rounds}
use Rattle.scope.specs.Machines.Separate.{Separates, Separation}
use Rattle.scope.specs.Operations.Buffers.{Written}
use Rattle.scope.specs.Operations.Compare.{Compares, no_room, no_form, same, separated}
use Rattle.scope.proofs.Counting.Tests.{level}
use Rattle.scope.proofs.Operations.Buffers.{written_one, cleared_one, untouched_one}

pub rounds_one : (M : Machine) (r k : ℕ) → Rounds M r → Rounds M k → r ≡ k
rounds_one M r k a b = level r k (λ h. b.least r h a.rests) (λ h. a.least k h b.rests)

module _ (M N : Machine) where
  -- a separation as long as the first one has no smaller byte where they first differ
  lower : (w v : List ℕ) → Separation M N w → Separates M N v → length w ≡ length v → (i : ℕ) → i < length w → take i w ≡ take i v → get_or v i 0 < get_or w i 0 → ⊥
  lower w v a b l i h e k = a.first i (get_or v i 0) (drop (suc i) v) h k (rw whole (sym l)) (rw whole b)
    where
      whole : take i w ++ (get_or v i 0 ∷ drop (suc i) v) ≡ v
      whole = rw (e, ← drop-cons v i 0 (omega arith)) (take-append-drop i v)

  one_more : (w v : List ℕ) → Separation M N w → Separation M N v → length w ≡ length v → (i : ℕ) → i < length w → take i w ≡ take i v → take (suc i) w ≡ take (suc i) v
  one_more w v a b l i h e = rw (take-suc w i 0 h, take-suc v i 0 (omega arith), e, this) refl
    where
      this : get_or w i 0 ≡ get_or v i 0
      this = level _ _ (λ x. lower v w b a.separates (sym l) i (omega arith) (sym e) x) (λ x. lower w v a b.separates l i h e x)

  heads : (w v : List ℕ) → Separation M N w → Separation M N v → length w ≡ length v → (i : ℕ) → i ≤ length w → take i w ≡ take i v
  heads w v a b l zero h = refl
  heads w v a b l (suc i) h = one_more w v a b l i h (heads w v a b l i (omega arith))

  pub separation_one : (w v : List ℕ) → Separation M N w → Separation M N v → w ≡ v
  separation_one w v a b =
      let l : length w ≡ length v = omega (arith, a.shortest v b.separates, b.shortest w a.separates) in
      sym (take_all (length w) w (omega arith)) ∙ heads w v a b l (length w) (omega arith) ∙ take_all (length w) v (omega arith)

  pub equal_separates : (w : List ℕ) → Equal M N → Separation M N w → ⊥
  equal_separates w e s = s.separates.differ (e w s.separates.bytes)

-- where one of two is not so, not both are
pub unsound : {A B : Type 0} → ((A → ⊥) ⊎ (B → ⊥)) → A → B → ⊥
unsound (inl f) a b = f a
unsound (inr f) a b = f b

written_same : {m n : ℕ} {y z old u v : List ℕ} → length y ≡ m → length z ≡ n → y ≡ z → Written m (λ i. get_or y i 0) old u → Written n (λ i. get_or z i 0) old v → (m ≡ n) × (u ≡ v)
written_same {m} {n} {y} {z} {old} {u} {v} a b d k l =
    let e : m ≡ n = sym a ∙ ap length d ∙ b in
    let l' : Written m (λ i. get_or y i 0) old v = rw (e, d) l in
    (e, written_one k l')

-- two results of one call: the numbers, lengths and rounds, the string rooms, the scratch
module _ {left right word u v bytes b c words w x : List ℕ} where
  pub determined : {i j n m r k : ℕ} → Compares left right word u bytes b words w i n r → Compares left right word v bytes c words x j m k → (i ≡ j) × (n ≡ m) × (r ≡ k) × (u ≡ v) × (b ≡ c) × (w ≡ x)
  determined (no_room h k t) (no_room h' k' t') = let s = untouched_one t t' in (refl, refl, refl, k ∙ sym k', s.0, s.1)
  determined (no_room h k t) (no_form l f k' t') = absurd (h l)
  determined (no_room h k t) (same l s s' e r k' t') = absurd (h l)
  determined (no_room h k t) (separated l s s' e n r k' t') = absurd (h l)
  determined (no_form l f k t) (no_room h' k' t') = absurd (h' l)
  determined (no_form l f k t) (no_form l' f' k' t') = let s = cleared_one t t' in (refl, refl, refl, k ∙ sym k', s.0, s.1)
  determined (no_form l f k t) (same l' s s' e r k' t') = absurd (unsound f s s')
  determined (no_form l f k t) (separated l' s s' e n r k' t') = absurd (unsound f s s')
  determined (same l a a' e r k t) (no_room h' k' t') = absurd (h' l)
  determined (same l a a' e r k t) (no_form l' f k' t') = absurd (unsound f a a')
  determined (same l a a' e r k t) (same l' s s' e' r' k' t') = let z = cleared_one t t' in (refl, refl, rounds_one _ _ _ r r', k ∙ sym k', z.0, z.1)
  determined (same l a a' e r k t) (separated {w = y} l' s s' e' n r' k' t') = absurd (equal_separates (machine left) (machine right) y e e')
  determined (separated l a a' e n r k t) (no_room h' k' t') = absurd (h' l)
  determined (separated l a a' e n r k t) (no_form l' f k' t') = absurd (unsound f a a')
  determined (separated {w = y} l a a' e n r k t) (same l' s s' e' r' k' t') = absurd (equal_separates (machine left) (machine right) y e' e)
  determined (separated l a a' e n r k t) (separated l' s s' e' n' r' k' t') =
      let d = separation_one (machine left) (machine right) _ _ e e' in
      let z = cleared_one t t' in
      let m = written_same n n' d k k' in
      (refl, m.0, rounds_one _ _ _ r r', m.1, z.0, z.1)
