-- The masks of the classes: a class has the mask of its first run, and all its bytes have the same, since each position holds all of them or none.
--   mask_like: bytes of one class have one mask
--   masking_none, masking_new, masking_old: the loop over the runs: the classes of the bytes below x have their masks, and n is the next class
use Prim.Native.Nat.{ℕ, ◌+◌, ◌*◌, ◌^◌, ◌≤◌, ◌<◌, max}
use mathlib.Core.Path.{◌≡◌, refl, sym, ap, ◌∙◌}
use mathlib.Core.Bool.{Bool}
use mathlib.Core.List.{List}
use mathlib.Core.Logic.{inl, inr}
use native.Mathlib.Omega.{arith}
use lib.ListN.{length, get_or}
use Rattle.scope.specs.Limits.{class_limit, set_words}
use Rattle.scope.specs.Positions.Bits.{given}
use Rattle.scope.specs.Machines.Canonical.{met}
use Rattle.scope.proofs.Counting.Arrival.{met_above}
use Rattle.scope.proofs.Counting.Tests.{split}
use Rattle.sets.specs.Value.{set_at, Put}
use Rattle.sets.proofs.Words.{put_other}
use Rattle.sets.proofs.HeldBits.{held_same}
use Rattle.byte_classes.specs.Group.{own_place, Grouped}
use Rattle.byte_runs.specs.Runs.{RunEnd, RunsOf, Like}
use Rattle.byte_classes.specs.Masks.{mask_of, Masked}
use Rattle.byte_classes.proofs.NumbersMet.{met_run, met_used}
use Rattle.byte_classes.proofs.Unions.{joined_same}

-- bytes that each position holds both or neither have the same mask
pub mask_like : (m : List ℕ) (n a b : ℕ) → Like m n a b → mask_of m a n ≡ mask_of m b n
mask_like m n a b l = joined_same _ _ n (λ p h. ap (λ (x : Bool). given x (2 ^ (p + 1))) (held_same m p a b (l p h)))

pub record Masking (m : List ℕ) (count : ℕ) (map masks : List ℕ) (n x : ℕ) : Type 0 where
  pub masked : Masked m count map masks x
  pub next : met (λ b. get_or map b 0) 0 x ≡ n

-- no run
pub masking_none : (m : List ℕ) (count : ℕ) (map masks : List ℕ) → length masks ≡ class_limit * set_words → Masking m count map masks 0 0
unfolding met
masking_none m count map masks h = record { masked = record { size = h; mask = λ b l. absurd (omega arith) }; next = refl }

-- e: the end of the run that begins at x
module _ {m : List ℕ} {count : ℕ} {ends map masks : List ℕ} {n x e k : ℕ} (r : RunsOf (Like m count) ends) (g : Grouped (Like m count) own_place map k) (u : RunEnd ends x e)
    (s : Masking m count map masks n x) where
  like : (b : ℕ) → b < e + 1 → x ≤ b → Like m count b e
  like b h l = r.alike b e (omega arith) u.byte (λ c y z. u.before c y (omega arith))

  class : (b : ℕ) → b < e + 1 → x ≤ b → get_or map b 0 ≡ get_or map e 0
  class b h l = (g.classes.same b e (omega (arith, u.byte)) u.byte).1 (like b h l)

  -- what the masks of the run come to, with that of its end
  masking_more : {masks' : List ℕ} (n' : ℕ) → length masks' ≡ class_limit * set_words → ((b : ℕ) → b < x → set_at masks' (get_or map b 0) ≡ mask_of m b count)
      → set_at masks' (get_or map e 0) ≡ mask_of m e count → max n (get_or map e 0 + 1) ≡ n' → Masking m count map masks' n' (e + 1)
  masking_more {masks'} n' size before own q = record {
    masked = record {
      size = size;
      mask = λ b h. elim (split b x) [ inl l ↦ before b l | inr l ↦ ap (set_at masks') (class b h l) ∙ own ∙ sym (mask_like m count b e (like b h l)) ];
    };
    next = met_run (λ b. get_or map b 0) x (e + 1) (get_or map e 0) (omega (arith, u.upto)) class ∙ ap (λ (a : ℕ). max a (get_or map e 0 + 1)) s.next ∙ q;
  }

  -- the first run of a class
  pub masking_new : {masks' : List ℕ} {v : ℕ} → get_or map e 0 ≡ n → v ≡ mask_of m e count → Put masks masks' (get_or map e 0) v → Masking m count map masks' (n + 1) (e + 1)
  masking_new at q p = masking_more (n + 1) (p.size ∙ s.masked.size)
      (λ b h. put_other p (get_or map b 0) (λ z. omega (arith, met_above (λ a. get_or map a 0) 0 x b h, s.next)) ∙ s.masked.mask b h) (p.here ∙ q) (omega arith)

  -- a run of a class that has a mask
  pub masking_old : (get_or map e 0 ≡ n → ⊥) → Masking m count map masks n (e + 1)
  masking_old ne =
      let lt : get_or map e 0 < n = omega (arith, class x (omega (arith, u.upto)) (omega arith), g.classes.smallest x (omega (arith, u.upto, u.byte)), s.next) in
      let (b, l, q) = met_used (λ a. get_or map a 0) x (get_or map e 0) (λ a y. g.classes.smallest a (omega (arith, u.upto, u.byte))) (rw s.next lt) in
      masking_more n s.masked.size s.masked.mask
      (ap (set_at masks) (sym q) ∙ s.masked.mask b l ∙ mask_like m count b e ((g.classes.same b e (omega (arith, u.upto, u.byte)) u.byte).0 q)) (omega arith)
