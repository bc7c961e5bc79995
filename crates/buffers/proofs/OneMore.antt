-- One element more: the laws of the loops, and what they give at the end.
--   holds, fails: a test that came out; and_true, and_false: a second test after it
--   each_more, each_not: a test of all numbers so far, with one more of which it holds, or not
--   stored_none, stored_more, stored_then: nothing stored; one element more; two parts side by side
--   stored_from, stored_next: nothing, and one element more, by how far it is from the start
--   stored_written, written_stored: stored from the start on, as scope says it; written_start, written_more: nothing is written, one element more
--   alike_more, alike_not: the comparison so far, with one element more that is the same, or not
--   most_new, most_old: a bound of the elements so far, with one element more that is above it, or not
--   most_join: a bound of two adjoining parts; or_zero: a union is 0 exactly if both sides are
--   Zeros x m from to: x is 0 exactly if the elements from `from` up to `to` are
--   zeros_none, zeros_more, zeros_join: of no elements; of one more; of two adjoining parts
--   zeros_decide, greatest_decide: a test of such an x, or of the greatest element, for 0
--   most_three: a test of three adjoining parts, of which the middle one comes first
--   part_all, written_part: a part that goes to the end is what is left; what is copied from it
--   cleared_after: the scratch in the end, whatever was written before; all_kept, of scope: what is not touched
use Prim.Native.Nat.{ℕ, ◌+◌, ◌-◌, ◌≤◌, ◌<◌}
use mathlib.Core.Path.{◌≡◌, refl, sym, ap, ◌∙◌}
use mathlib.Core.Bool.{Bool, true, false, false≢true, true≢false}
use mathlib.Core.Logic.{inl, inr, ⊎_elim, ◌↔◌}
use mathlib.Core.List.{List, ◌++◌}
use native.Mathlib.Omega.{arith}
use borrow.Author.Count.{below_more}
use borrow.Author.Tests.{eqb-true, eqb-false}
use lib.Bits.{bit_or, or_add_and, and_le_l, and_le_r}
use lib.Dec.{eqb}
use lib.ListN.{length, get_or, set, take, drop, replicate, length-set, length-drop}
use borrow.Rule.Slice.PartMut.{put_mid}
use borrow.Author.Rules.{rules}
use Rattle.std.proofs.lemmas.List.{places}
use lib.Seq.{get_or-set_same, get_or-set_other, get_or-drop, take_all}
use Rattle.scope.specs.Limits.{scratch_bytes, scratch_words}
use Rattle.scope.specs.Operations.Buffers.{Written, TailKept, Cleared}
pub use Rattle.scope.proofs.Operations.Buffers.{all_kept}
use Rattle.scope.proofs.Counting.Tests.{split}
use Rattle.buffers.specs.Stored.{Decides, Stored, BeginAlike, AtMost, Greatest}

-- a test that came out true
pub holds : {P : Type 0} → P → Decides true P
holds p = record { yes = λ e. p; no = λ e. absurd (true≢false e) }

-- a test that came out false
pub fails : {P : Type 0} → (P → ⊥) → Decides false P
fails n = record { yes = λ e. absurd (false≢true e); no = λ e. n }

-- where the first test holds, a second decides both
pub and_true : {a b r : Bool} {A B : Type 0} → Decides a A → a ≡ true → Decides b B → r ≡ b → Decides r (A × B)
and_true d t e z = rw z (record { yes = λ u. (d.yes t, e.yes u); no = λ u p. e.no u p.1 })

-- where it fails, both fail
pub and_false : {a r : Bool} {A B : Type 0} → Decides a A → a ≡ false → r ≡ a → Decides r (A × B)
and_false d t z = rw (z, t) (fails (λ p. d.no t p.0))

module _ (P : ℕ → Type 0) {e i : ℕ} {b : Bool} (low : e ≤ i) (d : Decides b ((j : ℕ) → j < i → e ≤ j → P j)) where
  -- a test of all numbers from e on, with one more of which it holds
  pub each_more : P i → Decides b ((j : ℕ) → j < i + 1 → e ≤ j → P j)
  each_more h = record { yes = λ t. below_more (λ (j : ℕ). e ≤ j → P j) i (d.yes t) (λ l. h); no = λ t f. d.no t (λ j k l. f j (omega arith) l) }

  -- or not
  pub each_not : (P i → ⊥) → Decides false ((j : ℕ) → j < i + 1 → e ≤ j → P j)
  each_not n = fails (λ f. n (f i (omega arith) low))

-- nothing is stored
pub stored_none : (m : List ℕ) (from : ℕ) (f : ℕ → ℕ) → Stored m m from from f
stored_none m from f = record { size = refl; inside = λ i h k. absurd (omega arith); outside = λ i h. refl }

-- one element more
pub stored_more :
    {a b : List ℕ} {from i : ℕ} {f : ℕ → ℕ} {v : ℕ} → i < length a → from ≤ i → v ≡ f i → Stored a b from i f
    → Stored a (set b i v) from (i + 1) f
stored_more {a} {b} {from} {i} {f} {v} lt le e s = record {
  size = length-set b i v ∙ s.size;
  inside = below_more (λ (j : ℕ). from ≤ j → get_or (set b i v) j 0 ≡ f j) i
      (λ j l g. get_or-set_other b i j v 0 (λ z. omega arith) ∙ s.inside j l g)
      (λ g. get_or-set_same b i v 0 (omega (arith, s.size)) ∙ e);
  outside = λ j h. get_or-set_other b i j v 0 (λ z. ⊎_elim (λ x. omega arith) (λ x. omega arith) h)
      ∙ s.outside j (⊎_elim (λ x. inl x) (λ x. inr (omega arith)) h);
}

-- two parts side by side
pub stored_then : {a b c : List ℕ} {from mid to : ℕ} {f g : ℕ → ℕ} → from ≤ mid → mid ≤ to → Stored a b from mid g → Stored b c mid to f
    → ((i : ℕ) → i < to → mid ≤ i → f i ≡ g i) → Stored a c from to g
stored_then {mid = mid} h k s t e = record {
  size = t.size ∙ s.size;
  inside = λ i l g. elim (split i mid) [ inl x ↦ t.outside i (inl x) ∙ s.inside i x g | inr x ↦ t.inside i l x ∙ e i l x ];
  outside = λ i o. t.outside i (⊎_elim (λ x. inl (omega arith)) (λ x. inr x) o) ∙ s.outside i (⊎_elim (λ x. inl x) (λ x. inr (omega arith)) o);
}

-- nothing is stored, at a distance from the start
pub stored_from : (m : List ℕ) (from : ℕ) (f : ℕ → ℕ) → Stored m m from (from + 0) f
stored_from m from f = let e : from + 0 ≡ from = omega arith in rw e (stored_none m from f)

-- one element more, at a distance from the start
pub stored_next : (g : ℕ → ℕ) {a b : List ℕ} {from i v : ℕ} → from + i < length a → v ≡ g i → Stored a b from (from + i) (λ j. g (j - from))
    → Stored a (set b (from + i) v) from (from + (i + 1)) (λ j. g (j - from))
stored_next g {from = from} {i} h e s =
    let d : from + i - from ≡ i = omega arith in
    let n : from + i + 1 ≡ from + (i + 1) = omega arith in
    rw n at (stored_more h (omega arith) (e ∙ ap g (sym d)) s)

-- stored from the start on
pub stored_written : {a b : List ℕ} {n : ℕ} {f : ℕ → ℕ} → Stored a b 0 n f → Written n f a b
stored_written s = record { size = s.size; inside = λ i h. s.inside i h (omega arith); outside = λ i h. s.outside i (inr h) }

pub written_stored : {a b : List ℕ} {n : ℕ} {f : ℕ → ℕ} → Written n f a b → Stored a b 0 n f
written_stored w = record { size = w.size; inside = λ i h k. w.inside i h; outside = λ i h. w.outside i (⊎_elim (λ x. omega arith) (λ x. x) h) }

-- a part of k elements from a on that was written whole
pub stored_part : (a k : ℕ) (m ys : List ℕ) → a + k ≤ length m → length ys ≡ k → Stored m (put_mid a k m ys) a (a + k) (λ i. get_or ys (i - a) 0)
stored_part a k m ys h e = record {
  size = search (rules, places);
  inside = λ i l g. search (rules, places);
  outside = λ i o. ⊎_elim (λ x. search (rules, places)) (λ x. search (rules, places)) o;
}

-- so the first n elements, in which all are v
pub written_front : {k v : ℕ} {ys : List ℕ} (n : ℕ) (m : List ℕ) → n ≤ length m → k ≡ n → ys ≡ replicate k v → Written n (λ i. v) m (ys ++ drop n m)
written_front n m h l e = rw (e, l) (record {
  size = search (rules, places);
  inside = λ i l. search (rules, places);
  outside = λ i l. search (rules, places);
})

-- nothing is written
pub written_start : (f : ℕ → ℕ) (m : List ℕ) → Written 0 f m m
written_start f m = stored_written (stored_none m 0 f)

-- one element more
pub written_more : (f : ℕ → ℕ) (i v : ℕ) (m m' : List ℕ) → i < length m → v ≡ f i → Written i f m m' → Written (i + 1) f m (set m' i v)
written_more f i v m m' l e w = stored_written (stored_more l (omega arith) e (written_stored w))

-- one element more that is the same
pub alike_more : {r : Bool} (a b : List ℕ) (i : ℕ) → get_or a i 0 ≡ get_or b i 0 → Decides r (BeginAlike a b i) → Decides r (BeginAlike a b (i + 1))
alike_more a b i e d = record {
  yes = λ t. below_more (λ (j : ℕ). get_or a j 0 ≡ get_or b j 0) i (d.yes t) e;
  no = λ t f. d.no t (λ j h. f j (omega arith));
}

-- one element more that is not
pub alike_not : (a b : List ℕ) (i : ℕ) → (get_or a i 0 ≡ get_or b i 0 → ⊥) → Decides false (BeginAlike a b (i + 1))
alike_not a b i n = fails (λ f. n (f i (omega arith)))

-- one element more that is above the bound
pub most_new : (m : List ℕ) (from i r : ℕ) → r < get_or m i 0 → AtMost m from i r → AtMost m from (i + 1) (get_or m i 0)
most_new m from i r h f = below_more (λ (j : ℕ). from ≤ j → get_or m j 0 ≤ get_or m i 0) i (λ j l o. omega (arith, f j l o)) (λ o. omega arith)

-- one element more that is not
pub most_old : (m : List ℕ) (from i r : ℕ) → get_or m i 0 ≤ r → AtMost m from i r → AtMost m from (i + 1) r
most_old m from i r h f = below_more (λ (j : ℕ). from ≤ j → get_or m j 0 ≤ r) i f (λ o. h)

-- two adjoining parts
pub most_join : (m : List ℕ) (from mid to r : ℕ) → AtMost m from mid r → AtMost m mid to r → AtMost m from to r
most_join m from mid to r f g i h k = ⊎_elim (λ l. f i l k) (λ l. g i h l) (split i mid)

-- a union is 0 exactly if both sides are
pub or_zero : (a b : ℕ) → (bit_or a b ≡ 0) ↔ ((a ≡ 0) × (b ≡ 0))
or_zero a b = (λ e. (omega (arith, or_add_and a b, and_le_r a b), omega (arith, or_add_and a b, and_le_l a b)), λ e. omega (arith, or_add_and a b, e.0, e.1))

abbrev pub Zeros : ℕ → List ℕ → ℕ → ℕ → Type 0
Zeros x m from to = (x ≡ 0) ↔ AtMost m from to 0

-- no elements
pub zeros_none : (m : List ℕ) (from to : ℕ) → to ≤ from → Zeros 0 m from to
zeros_none m from to h = (λ e i l k. absurd (omega arith), λ f. refl)

-- two adjoining parts
pub zeros_join : (m : List ℕ) (a b from mid to : ℕ) → from ≤ mid → mid ≤ to → Zeros a m from mid → Zeros b m mid to → Zeros (bit_or a b) m from to
zeros_join m a b from mid to h k f g = (
  λ e. most_join m from mid to 0 (f.0 ((or_zero a b).0 e).0) (g.0 ((or_zero a b).0 e).1),
  λ o. (or_zero a b).1 (f.1 (λ i l n. o i (omega arith) n), g.1 (λ i l n. o i l (omega arith))),
)

-- one element more
pub zeros_more : (m : List ℕ) (x from i to : ℕ) → from ≤ i → to ≡ i + 1 → Zeros x m from i → Zeros (bit_or x (get_or m i 0)) m from to
zeros_more m x from i to h e f = zeros_join m x (get_or m i 0) from i to h (omega arith) f (own, λ o. omega (arith, o i (omega arith) (omega arith)))
  where
    own : get_or m i 0 ≡ 0 → AtMost m i to 0
    own z j l k = let q : j ≡ i = omega arith in rw q (omega arith)

-- a test for 0 decides
pub zeros_decide : (m : List ℕ) (x from to : ℕ) → Zeros x m from to → Decides (eqb x 0) (AtMost m from to 0)
zeros_decide m x from to f = record { yes = λ e. f.0 (eqb-true x 0 e); no = λ e o. eqb-false x 0 e (f.1 o) }

-- so does one of the greatest element
pub greatest_decide : (m : List ℕ) (x from to : ℕ) → Greatest m from to x → Decides (eqb x 0) (AtMost m from to 0)
greatest_decide m x from to g = zeros_decide m x from to (λ e i h k. omega (arith, g.above i h k), λ o. omega (arith, g.least 0 o))

-- a test of three adjoining parts, of which the middle one comes first
pub most_three : {b : Bool} (m : List ℕ) (from at rest to r : ℕ) → from ≤ at → at ≤ rest → rest ≤ to
    → Decides b ((AtMost m at rest r × AtMost m from at r) × AtMost m rest to r) → Decides b (AtMost m from to r)
most_three m from at rest to r h k l d = record {
  yes = λ e. let o = d.yes e in most_join m from at to r o.0.1 (most_join m at rest to r o.0.0 o.1);
  no = λ e o. d.no e ((λ i u v. o i (omega arith) (omega arith), λ i u v. o i (omega arith) v), λ i u v. o i u (omega arith));
}

-- the scratch is zero in the end, whatever was written into the named part of it before
pub cleared_after : {n k : ℕ} {bytes b bytes' words w words' : List ℕ} → n ≤ scratch_bytes → k ≤ scratch_words → TailKept n bytes b → TailKept k words w
    → Cleared b bytes' w words' → Cleared bytes bytes' words words'
cleared_after h k s t c = record { bytes_zero = over h s c.bytes_zero; words_zero = over k t c.words_zero }
  where
    over : {n m : ℕ} {f : ℕ → ℕ} {x y z : List ℕ} → n ≤ m → TailKept n x y → Written m f y z → Written m f x z
    over h s w = record { size = w.size ∙ s.size; inside = w.inside; outside = λ i k. w.outside i k ∙ s.outside i (omega arith) }

-- a part from a on that goes to the end is what is left
pub part_all : (a : ℕ) (s : List ℕ) → take (length s - a) (drop a s) ≡ drop a s
part_all a s = take_all (length s - a) (drop a s) (omega (arith, length-drop a s))

-- what is copied from such a part
pub written_part : {n : ℕ} {old new : List ℕ} (a : ℕ) (s : List ℕ) → Written n (λ i. get_or (take (length s - a) (drop a s)) i 0) old new → Written n (λ i. get_or s (a + i) 0) old new
written_part a s w = record { size = w.size; inside = λ i h. w.inside i h ∙ rw (part_all a s) (get_or-drop a s i 0); outside = w.outside }
