-- Linking position by position, and what the words have when a part was made.
--   linked_none, linked_more: none is linked yet; one more is
--   linked_still: the sets that are not linked stay as they were
--   taken_out, left_in: a span that is not wanted, and one that is
--   alone_made, beside_made: the part of one position, and of two parts side by side
use Prim.Native.Nat.{ℕ, ◌+◌, ◌-◌, ◌^◌, ◌<◌, ◌≤◌}
use mathlib.Core.Path.{◌≡◌, sym, ap, ap₂, ◌∙◌}
use mathlib.Core.Bool.{Bool, true, false, not, ◌&&◌, ◌||◌, and-false, and-true, or-false, or-true, false≢true}
use mathlib.Core.List.{List}
use mathlib.Core.Logic.{◌⊎◌, inl, inr}
use native.Mathlib.Decide.{ℕ_discrete}
use native.Mathlib.Omega.{arith}
use Rattle.scope.specs.Bytes.{between}
use Rattle.scope.specs.Positions.Bits.{has}
use Rattle.scope.specs.Operations.Buffers.{TailKept}
use Rattle.scope.proofs.Counting.Tests.{split, equals}
use Rattle.scope.proofs.Positions.Bits.{has_pow}
use Rattle.scope.proofs.Operations.Buffers.{all_kept, tail_then}
use Rattle.sets.specs.Value.{set_bits, set_at}
use Rattle.sets.specs.Layout.{first_at, last_at, read_words}
use Rattle.spans.specs.Became.{Became}
use Rattle.spans.proofs.Spans.{between_in, between_out, is_same, became_other}
use Rattle.fragments.specs.declared.Fragment.{Fragment}
use Rattle.fragments.specs.Shapes.{Overlaid, Linked, Alone, Beside}

pub linked_none : (from after upto : ℕ) (m : List ℕ) → Linked true from (from + 1 - 1) after upto m m
linked_none from after upto m = let z : from + 1 - 1 ≡ from = omega arith in rw z record {
  kept = all_kept m read_words;
  bits = λ p q h l. rw (between_out from from p (sides p (split from p))) (sym (or-false (has (set_at m p) q)));
}
  where
    sides : (p : ℕ) → (from < p) ⊎ (p ≤ from) → (p ≤ from) ⊎ (from < p)
    sides p (inl h) = inr h
    sides p (inr h) = inl h

pub linked_still : {c : Bool} {from to after upto : ℕ} {m m' : List ℕ} → Linked c from to after upto m m' → (p q : ℕ) → p ≤ last_at → q < set_bits → (p ≤ from) ⊎ (to < p) → has (set_at m' p) q ≡ has (set_at m p) q
linked_still {c} {from} {to} {m = m} l p q h k o = l.bits p q h k ∙ rw (between_out from to p o, and-false c) (or-false (has (set_at m p) q))

module _ {from p after upto : ℕ} {m a b : List ℕ} where
  pub linked_more : {last : Bool} → from < p → p < set_bits → Linked true from (p - 1) after upto m a → last ≡ has (set_at a last_at) p
      → Became a b p (λ q. has (set_at a p) q || (last && (has (set_at a first_at) q && between (after + 1) upto q))) → Linked true from (p + 1 - 1) after upto m b
  linked_more {last} h k l e s = let z : p + 1 - 1 ≡ p = omega arith in rw z record {
    kept = tail_then l.kept (record { size = s.size; outside = λ i j. s.outside i (inr (omega arith)) });
    bits = λ x q i j. at x q i j (ℕ_discrete x p);
  }
    where
      same : (x : ℕ) → (x ≡ p → ⊥) → between (from + 1) (p - 1) x ≡ between (from + 1) p x
      same x ne = go (split from x) (split (p - 1) x)
        where
          go : (from < x) ⊎ (x ≤ from) → (p - 1 < x) ⊎ (x ≤ p - 1) → between (from + 1) (p - 1) x ≡ between (from + 1) p x
          go (inr u) v = between_out from (p - 1) x (inl u) ∙ sym (between_out from p x (inl u))
          go (inl u) (inr v) = between_in from (p - 1) x u v ∙ sym (between_in from p x u (omega arith))
          go (inl u) (inl v) = between_out from (p - 1) x (inr v) ∙ sym (between_out from p x (inr (elim (ℕ_discrete x p) [ yes z ↦ absurd (ne z) | no z ↦ omega arith ])))

      at : (x q : ℕ) → x ≤ last_at → q < set_bits → Dec (x ≡ p)
          → has (set_at b x) q ≡ (has (set_at m x) q || ((true && (between (from + 1) p x && has (set_at m last_at) x)) && (has (set_at m first_at) q && between (after + 1) upto q)))
      at x q i j (no ne) = ap (λ (n : ℕ). has n q) (became_other s x ne) ∙ l.bits x q i j ∙ ap (λ (c : Bool). has (set_at m x) q || ((c && has (set_at m last_at) x) && (has (set_at m first_at) q && between (after + 1) upto q))) (same x ne)
      at x q i j (yes z) = rw (z, between_in from p p (omega arith) (omega arith))
          (s.bits q j ∙ ap₂ ◌||◌ (linked_still l p q (omega arith) j (inr (omega arith))) (ap₂ ◌&&◌ (e ∙ linked_still l last_at p (omega arith) k (inr (omega arith))) (ap (λ (c : Bool). c && between (after + 1) upto q) (linked_still l first_at q (omega arith) j (inl (omega arith))))))

-- ---- parts

-- what was changed in one set lies in the words that reading uses
became_kept : {m m' : List ℕ} {i : ℕ} {f : ℕ → Bool} → i ≤ last_at → Became m m' i f → TailKept read_words m m'
became_kept h s = record { size = s.size; outside = λ j k. s.outside j (inr (omega arith)) }

laid_one : (k a b : ℕ) → ((q : ℕ) → q < set_bits → has b q ≡ (has a q || between (k + 1) (k + 1) q)) → Overlaid (2 ^ (k + 1)) k (k + 1) a b
laid_one k a b e = record {
  inside = λ p h u v. e p h ∙ rw (between_in k (k + 1) p u v) (or-true (has a p) ∙ sym (has_pow (k + 1) p ∙ (equals (k + 1) p).full (omega arith)));
  outside = λ p h o. e p h ∙ rw (between_out k (k + 1) p o) (or-false (has a p));
}

-- a span is taken out of a set unless it is wanted
module _ (k n : ℕ) {i : ℕ} {m : List ℕ} where
  pub taken_out : (wanted : Bool) {m' : List ℕ} → not wanted ≡ true → Became m m' i (λ q. has (set_at m i) q && not (between k n q)) → Became m m' i (λ q. has (set_at m i) q && (wanted || not (between k n q)))
  taken_out true e b = absurd (false≢true e)
  taken_out false e b = b

  pub left_in : (wanted : Bool) → not wanted ≡ false → Became m m i (λ q. has (set_at m i) q && (wanted || not (between k n q)))
  left_in true e = is_same m i _ (λ q. sym (and-true _))
  left_in false e = absurd (false≢true (sym e))

module _ {next k : ℕ} {m a b : List ℕ} {r : Fragment} where
  pub alone_made : Became m a first_at (λ q. has (set_at m first_at) q || between (k + 1) (k + 1) q) → Became a b last_at (λ q. has (set_at a last_at) q || between (k + 1) (k + 1) q)
      → r.next ≡ next → r.count ≡ k + 1 → r.null ≡ false → Alone next k m b r
  alone_made f l en ec ez = record {
    nexts = en;
    counts = ec;
    nulls = ez;
    firsts = laid_one k (set_at m first_at) (set_at b first_at) (λ q h. ap (λ (n : ℕ). has n q) (became_other l first_at (λ z. omega arith)) ∙ f.bits q h);
    lasts = laid_one k (set_at m last_at) (set_at b last_at) (λ q h. l.bits q h ∙ ap (λ (n : ℕ). has n q || between (k + 1) (k + 1) q) (became_other f last_at (λ z. omega arith)));
    follows = λ p h u. became_other l p (λ z. omega arith) ∙ became_other f p (λ z. omega arith);
    kept = tail_then (became_kept (omega arith) f) (became_kept (omega arith) l);
  }

module _ {k : ℕ} {a b r : Fragment} {m m₁ m₂ m₃ : List ℕ} where
  pub beside_made : a.count < set_bits → Linked true k a.count a.count b.count m m₁
      → Became m₁ m₂ first_at (λ q. has (set_at m₁ first_at) q && (a.null || not (between (a.count + 1) b.count q)))
      → Became m₂ m₃ last_at (λ q. has (set_at m₂ last_at) q && (b.null || not (between (k + 1) a.count q)))
      → r.next ≡ b.next → r.count ≡ b.count → r.null ≡ (a.null && b.null) → Beside k a b m m₃ r
  beside_made h l f s en ec ez = record {
    nexts = en;
    counts = ec;
    nulls = ez;
    firsts = record { bits = λ p u. ap (λ (n : ℕ). has n p) (became_other s first_at (λ z. omega arith)) ∙ f.bits p u ∙ ap (λ (c : Bool). c && (a.null || not (between (a.count + 1) b.count p))) (linked_still l first_at p (omega arith) u (inl (omega arith))) };
    lasts = record { bits = λ p u. s.bits p u ∙ ap (λ (c : Bool). c && (b.null || not (between (k + 1) a.count p))) (ap (λ (n : ℕ). has n p) (became_other f last_at (λ z. omega arith)) ∙ linked_still l last_at p (omega arith) u (inr (omega arith))) };
    follows = λ p q i u v. ap (λ (n : ℕ). has n q) (became_other s p (λ z. omega arith) ∙ became_other f p (λ z. omega arith)) ∙ l.bits p q (omega arith) v;
    kept = tail_then l.kept (tail_then (became_kept (omega arith) f) (became_kept (omega arith) s));
  }
