-- The separating string. Let d be the first round after which the two starts, side by side, are not together. Then d bytes are spelled: with k + 1 to go,
-- the first byte whose two successors are not together after k rounds. No shorter string separates, and none as long that leaves this one with a smaller byte.
--   same_exact: machines are equal exactly when no string separates them
--   equal_by: machines whose starts are together where nothing splits are equal
--   word_within: the separating string has at most as many bytes as there are rounds
--   Spelled, spelled_more, spell, spelled_separation: a string as it is spelled, byte by byte; it can be, and it separates
--   apart_separation, shortest: machines told apart after r rounds, or by some string, have a shortest separating string, first in the order of bytes
--   decided: two machines are equal or have such a string
use Prim.Native.Nat.{ℕ, zero, suc, ◌≤◌, ◌<◌}
use mathlib.Core.Path.{◌≡◌, refl, ◌∙◌}
use mathlib.Core.Bool.{Bool-discrete}
use mathlib.Core.Logic.{◌⊎◌, inl, inr, ◌↔◌}
use mathlib.Core.List.{List, [], ◌∷◌, ◌++◌}
use native.Mathlib.Omega.{arith}
use lib.ListN.{length, take, get_or}
use Rattle.scope.specs.Limits.{byte_values}
use Rattle.scope.specs.Bytes.{Bytes}
use Rattle.scope.specs.Machines.Machine.{Machine, run, Equal, Closed}
use Rattle.scope.specs.Machines.Rounds.{aside, Together, Rounds}
use Rattle.scope.specs.Machines.Separate.{Separates, Separation}
use Rattle.scope.proofs.Counting.Tests.{split}
use Rattle.scope.proofs.Operations.Compare.{equal_separates}
use Rattle.scope.proofs.Counting.Chain.{first_not}
use Rattle.scope.proofs.Machines.Rounds.{together_out, together_in, together_either, rests_same, rounds_stop}
use Rattle.scope.proofs.Machines.Aside.{aside_closed, aside_told, aside_same}

-- ---- spelling

-- w, if a string of d bytes, does not tell p from q
abbrev pub NotTold : Machine → ℕ → ℕ → ℕ → List ℕ → Type 0
NotTold M d p q w = length w ≡ d → Bytes w → M.accepts (run M p w) ≡ M.accepts (run M q w)

-- w has d bytes and tells p from q; none as long that leaves w with a smaller byte does
pub record Spelled (M : Machine) (d p q : ℕ) (w : List ℕ) : Type 0 where
  pub bytes : Bytes w
  pub long : length w ≡ d
  pub told : M.accepts (run M p w) ≡ M.accepts (run M q w) → ⊥
  pub first : (i c : ℕ) (v : List ℕ) → i < d → c < get_or w i 0 → NotTold M d p q (take i w ++ (c ∷ v))

-- one byte in front
pub spelled_more : (M : Machine) {d p q b : ℕ} {w : List ℕ} → b < byte_values → ((c : ℕ) → c < b → Together M d (M.next p c) (M.next q c))
    → Spelled M d (M.next p b) (M.next q b) w → Spelled M (suc d) p q (b ∷ w)
spelled_more M {d} {p} {q} {b} {w} h lower s = record { bytes = (h, s.bytes); long = omega (arith, s.long); told = s.told; first = first }
  where
    first : (i c : ℕ) (v : List ℕ) → i < suc d → c < get_or (b ∷ w) i 0 → NotTold M (suc d) p q (take i (b ∷ w) ++ (c ∷ v))
    first zero c v l k e g = together_out M d (M.next p c) (M.next q c) (lower c k) v g.1 (omega arith)
    first (suc i) c v l k e g = s.first i c v (omega arith) k (omega arith) g.1

-- where d is the first round after which p and q are not together, d bytes are spelled
pub spell : (M : Machine) (d p q : ℕ) → (Together M d p q → ⊥) → ((k : ℕ) → k < d → Together M k p q) → (w : List ℕ) × Spelled M d p q w
spell M zero p q f h = ([], record { bytes = tt; long = refl; told = f; first = λ i c v l. absurd (omega arith) })
spell M (suc d) p q f h = elim (first_not (λ b. together_either M d (M.next p b) (M.next q b)) byte_values) [
  | inl a ↦ absurd (f (h d (omega arith), a))
  | inr (b, l, g, s) ↦ (let t = spell M d (M.next p b) (M.next q b) g (λ k i. (h (suc k) (omega arith)).1 b l) in (b ∷ t.0, spelled_more M l s t.1))
]

-- ---- two machines

unseparated : (M N : Machine) (w : List ℕ) → Bytes w → (Separates M N w → ⊥) → M.accepts (run M 0 w) ≡ N.accepts (run N 0 w)
unseparated M N w g f = elim (Bool-discrete (M.accepts (run M 0 w)) (N.accepts (run N 0 w))) [
  | yes e ↦ e
  | no d ↦ absurd (f (record { bytes = g; differ = d }))
]

-- machines are equal exactly when no string separates them
pub same_exact : (M N : Machine) → Equal M N ↔ ((w : List ℕ) → Separates M N w → ⊥)
same_exact M N = (λ e w s. s.differ (e w s.bytes), λ f w g. unseparated M N w g (f w))

module _ (M N : Machine) (m : Closed M) (n : Closed N) where
  -- machines whose starts are together where nothing splits are equal
  pub equal_by : (r : ℕ) → Rounds (aside M N) r → Together (aside M N) r 0 M.states → Equal M N
  equal_by r s t = (aside_same M N m n).1
      (rests_same (aside M N) (aside_closed M N m n) r 0 M.states (omega (arith, m.some)) (omega (arith, n.some)) s.rests t)

  -- the separating string has at most as many bytes as there are rounds
  pub word_within : (r : ℕ) (w : List ℕ) → Rounds (aside M N) r → Separation M N w → length w ≤ r
  word_within r w s z = elim (split r (length w)) [
    | inl h ↦ absurd (equal_separates M N w (equal_by r s (together_in (aside M N) r 0 M.states (λ v g l. untold v g l h))) z)
    | inr h ↦ h
  ]
    where
      untold : (v : List ℕ) → Bytes v → length v ≤ r → r < length w
          → (aside M N).accepts (run (aside M N) 0 v) ≡ (aside M N).accepts (run (aside M N) M.states v)
      untold v g l h = (aside_told M N m n v g).1 (unseparated M N v g (λ d. omega (arith, z.shortest v d)))

  -- no string of at most r bytes separates machines whose starts are together after r rounds
  within : (r : ℕ) (v : List ℕ) → Together (aside M N) r 0 M.states → length v ≤ r → Separates M N v → ⊥
  within r v t h s = s.differ ((aside_told M N m n v s.bytes).0 (together_out (aside M N) r 0 M.states t v s.bytes h))

  -- a string spelled for the two starts, where they are together before, separates, as the shortest and first
  pub spelled_separation : (d : ℕ) (w : List ℕ) → ((k : ℕ) → k < d → Together (aside M N) k 0 M.states) → Spelled (aside M N) d 0 M.states w → Separation M N w
  spelled_separation d w s t = record {
    separates = record { bytes = t.bytes; differ = λ e. t.told ((aside_told M N m n w t.bytes).1 e) };
    shortest = λ v z. elim (split (length v) (length w)) [
      | inl h ↦ absurd (within (length v) v (s (length v) (omega (arith, t.long))) (omega arith) z)
      | inr h ↦ h
    ];
    first = λ i c v h k e z. z.differ ((aside_told M N m n (take i w ++ (c ∷ v)) z.bytes).0
        (t.first i c v (omega (arith, t.long)) k (e ∙ t.long) z.bytes));
  }

  -- machines told apart after r rounds have a shortest separating string, first in the order of bytes
  pub apart_separation : (r : ℕ) → (Together (aside M N) r 0 M.states → ⊥) → (w : List ℕ) × Separation M N w
  apart_separation r f = elim (first_not (λ k. together_either (aside M N) k 0 M.states) (suc r)) [
    | inl a ↦ absurd (f (a r (omega arith)))
    | inr (d, l, g, s) ↦ (let t = spell (aside M N) d 0 M.states g s in (t.0, spelled_separation d t.0 s t.1))
  ]

  -- and so have machines that some string separates
  pub shortest : (v : List ℕ) → Separates M N v → (w : List ℕ) × Separation M N w
  shortest v s = apart_separation (length v) (λ t. within (length v) v t (omega arith) s)

  -- two machines are equal or have a separating string
  pub decided : Equal M N ⊎ ((w : List ℕ) × Separation M N w)
  decided =
      let s = rounds_stop (aside M N) (aside_closed M N m n) in
      elim (together_either (aside M N) s.0 0 M.states) [ yes t ↦ inl (equal_by s.0 s.1 t) | no f ↦ inr (apart_separation s.0 f) ]
