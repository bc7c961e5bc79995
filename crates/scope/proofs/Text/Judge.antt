-- The place of SYNTAX. A prefix of a viable text is viable, so it is enough to look one byte further; and the place is one.
--   viable_less, viable_take: a prefix of a viable text is viable
--   syntax_at: SYNTAX, from the next prefix alone
--   syntax_one, beyond_one: places are one
use Prim.Native.Nat.{ℕ, zero, suc, ◌+◌, ◌<◌, ◌≤◌}
use mathlib.Core.Path.{◌≡◌, refl, sym, ap, ◌∙◌}
use mathlib.Core.List.{List, [], ◌∷◌, ◌++◌, append_assoc}
use native.Mathlib.Omega.{arith}
use lib.ListN.{length, take, drop}
use Rattle.scope.specs.Text.Judge.{Legal, Viable, SyntaxAt, Beyond}
use Rattle.scope.proofs.Counting.Tests.{level}

pub viable_less : (u v : List ℕ) → Viable (u ++ v) → Viable u
viable_less u v x = record { rest = v ++ x.rest; legal = rw (← append_assoc u v x.rest) x.legal }

take_split : (i j : ℕ) (s : List ℕ) → i ≤ j → take i s ++ drop i (take j s) ≡ take j s
take_split zero j s h = refl
take_split (suc i) zero s h = absurd (omega arith)
take_split (suc i) (suc j) [] h = refl
take_split (suc i) (suc j) (b ∷ s) h = ap (λ (l : List ℕ). b ∷ l) (take_split i j s (omega arith))

pub viable_take : (i j : ℕ) (s : List ℕ) → i ≤ j → Viable (take j s) → Viable (take i s)
viable_take i j s h x = viable_less (take i s) (drop i (take j s)) (rw (take_split i j s h) x)

-- SYNTAX at i, from the next prefix alone
pub syntax_at : (s : List ℕ) (i : ℕ) → (Legal s → ⊥) → i ≤ length s → Viable (take i s) → (i < length s → Viable (take (i + 1) s) → ⊥) → SyntaxAt s i
syntax_at s i n h v f = record { illegal = n; inside = h; viable = v; longest = λ j k l x. f (omega arith) (viable_take (i + 1) j s (omega arith) x) }

pub syntax_one : (s : List ℕ) (i j : ℕ) → SyntaxAt s i → SyntaxAt s j → i ≡ j
syntax_one s i j a b = level i j (λ h. a.longest j b.inside h b.viable) (λ h. b.longest i a.inside h a.viable)

pub beyond_one : (l : List ℕ) (n i j : ℕ) → Beyond l n i → Beyond l n j → i ≡ j
beyond_one l n i j a b = a.place ∙ sym b.place
