-- What a buffer keeps, and the sets in it.
--   kept_none, kept_wide, kept_join, kept_set: nothing is changed; a wider part; one change after another; one element
--   kept_sets: a set before the part is kept
--   put_kept: storing a set
--   kept_tail: all but the first elements is kept
use Prim.Native.Nat.{ℕ, ◌+◌, ◌*◌, ◌≤◌, ◌<◌}
use mathlib.Core.Path.{◌≡◌, refl, ◌∙◌}
use mathlib.Core.List.{List}
use mathlib.Core.Logic.{inl, inr, ⊎_elim}
use native.Mathlib.Omega.{arith}
use lib.ListN.{set, length-set}
use lib.Seq.{get_or-set_other}
use Rattle.scope.specs.Operations.Buffers.{TailKept}
use Rattle.scope.specs.Limits.{set_words}
use Rattle.sets.specs.Value.{set_at, Put}
use Rattle.sets.proofs.Words.{set_kept}
use Rattle.seats.specs.SeatLayout.{KeptOutside}

-- nothing is changed
pub kept_none : (m : List ℕ) (from to : ℕ) → KeptOutside m m from to
kept_none m from to = record { size = refl; outside = λ i h. refl }

-- a wider part
pub kept_wide : {a b : List ℕ} {from to : ℕ} → KeptOutside a b from to → (from' to' : ℕ) → from' ≤ from → to ≤ to' → KeptOutside a b from' to'
kept_wide k from' to' l h = record { size = k.size; outside = λ i x. k.outside i (⊎_elim (λ y. inl (omega arith)) (λ y. inr (omega arith)) x) }

-- one change after another
pub kept_join : {a b c : List ℕ} {from to : ℕ} → KeptOutside a b from to → KeptOutside b c from to → KeptOutside a c from to
kept_join k l = record { size = l.size ∙ k.size; outside = λ i h. l.outside i h ∙ k.outside i h }

-- one element
pub kept_set : (m : List ℕ) (at v from to : ℕ) → from ≤ at → at < to → KeptOutside m (set m at v) from to
kept_set m at v from to l h = record {
  size = length-set m at v;
  outside = λ i x. get_or-set_other m at i v 0 (λ e. ⊎_elim (λ y. omega arith) (λ y. omega arith) x);
}

-- a set that stands before the part
pub kept_sets : {a b : List ℕ} {from to : ℕ} → KeptOutside a b from to → (i : ℕ) → i * set_words + set_words ≤ from → set_at b i ≡ set_at a i
kept_sets {a} {b} k i h = set_kept a b i (λ x l. k.outside (i * set_words + x) (inl (omega arith)))

-- a set is stored
pub put_kept : {a b : List ℕ} {i s : ℕ} → Put a b i s → KeptOutside a b (i * set_words) (i * set_words + set_words)
put_kept p = record { size = p.size; outside = p.outside }

-- what comes after the part is kept
pub kept_tail : {a b : List ℕ} {from to : ℕ} → KeptOutside a b from to → TailKept to a b
kept_tail k = record { size = k.size; outside = λ i h. k.outside i (inr h) }
