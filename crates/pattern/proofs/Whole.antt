-- The whole text is an expression that ends with the text, and the buffers are empty at first: what came in is all that is there.
--   places_size: a tree has a place for each position
--   ready_text: a judged text can be read
--   fillable: so can its bytes be put in
--   reading: what was read of it is what is promised
use Prim.Native.Nat.{ℕ, ◌+◌, ◌*◌, ◌/◌, ◌%◌, ◌<◌, ◌≤◌}
use mathlib.Core.Path.{◌≡◌, refl, sym, ap, ◌∙◌}
use mathlib.Core.Bool.{false, ◌||◌}
use mathlib.Core.List.{List}
use mathlib.Core.Logic.{◌⊎◌, inl, inr}
use native.Mathlib.Nat.{zero-add}
use native.Mathlib.Omega.{arith}
use lib.ListN.{length, length-append, get_or-eq_default}
use Rattle.scope.specs.Positions.Bits.{has, first, last, follow, holders}
use Rattle.scope.specs.Text.Grammar.{exprs}
use Rattle.scope.specs.Text.Judge.{Pattern}
use Rattle.scope.specs.Limits.{byte_values, position_limit, set_words}
use Rattle.scope.specs.Text.Re.{Re, size}
use Rattle.scope.specs.Text.Tree.{Tree, nothing, empty, position, group, marked, beside, either, expr, places}
use Rattle.scope.proofs.Counting.Tests.{split, which}
use Rattle.scope.proofs.Positions.Bits.{has_zero, follow_is}
use Rattle.scope.proofs.Positions.Glushkov.{follow_in}
use Rattle.scope.proofs.Positions.Moves.{same_bits}
use Rattle.scope.proofs.Text.Tree.{one_tree}
use Rattle.scope.proofs.Positions.Marked.{size_marked}
use Rattle.sets.specs.Value.{set_bits, set_value, set_at}
use Rattle.sets.proofs.Words.{set_none, set_above}
use Rattle.pattern.specs.declared.Shape.{Shape}
use Rattle.byte_sets.specs.BytesCame.{Fillable, Filled}
use Rattle.fragments.specs.declared.Fragment.{Fragment}
use Rattle.fragments.specs.Shapes.{Overlaid}
use Rattle.sets.specs.Layout.{byte_set, byte_sets, held, first_at, last_at, read_words}
use Rattle.factors.specs.Tails.{closes_expr, WholeLevel}
use Rattle.factors.specs.Right.{Right}
use Rattle.factors.specs.Answer.{Readable, Answer}
use Rattle.factors.proofs.Rights.{OnlyBetween, first_apart, last_apart}
use Rattle.pattern.specs.PatternSets.{Faultless, Clear, Reading}
use Rattle.pattern.proofs.Tails.{ready}

-- a tree has a place for each position
pub places_size : (t : Tree) → length (places t) ≡ size (expr t)
unfolding places expr
places_size nothing = refl
places_size empty = refl
places_size (position i x) = refl
places_size (group i t) = places_size t
places_size (marked m t) = places_size t ∙ sym (size_marked m (expr t))
places_size (beside t u) = simp length-append (omega (arith, places_size t, places_size u))
places_size (either t u) = simp length-append (omega (arith, places_size t, places_size u))

whole : (s : List ℕ) (t : Tree) → Pattern s t → WholeLevel exprs s 0 (length s) t
unfolding closes_expr
whole s t r = (r, rw (get_or-eq_default s byte_values {n = length s} (omega arith)) refl)

few : {s : List ℕ} (p : Faultless s) → size (expr p.tree) ≤ position_limit
few p = omega (arith, places_size p.tree, p.sized.brief)

pub ready_text : {s : List ℕ} → Faultless s → Readable exprs 0 s 0
ready_text {s} p = ready exprs p.short (whole s p.tree p.sized.pattern) (omega (arith, few p))

-- what came into an empty set is all that is there
all_laid : (s n b : ℕ) → n < set_bits → OnlyBetween s 0 n → ((p : ℕ) → set_bits ≤ p → has b p ≡ false) → Overlaid s 0 n 0 b → b ≡ s
all_laid s n b h a o x = same_bits b s (λ p. at p (split p set_bits))
  where
    at : (p : ℕ) → (p < set_bits) ⊎ (set_bits ≤ p) → has b p ≡ has s p
    at p (inr k) = o p k ∙ sym (a p (inr (omega arith)))
    at p (inl k) = in_it (split 0 p) (split n p)
      where
        in_it : (0 < p) ⊎ (p ≤ 0) → (n < p) ⊎ (p ≤ n) → has b p ≡ has s p
        in_it (inl u) (inr v) = x.inside p k u v
        in_it (inr u) v = x.outside p k (inl u) ∙ has_zero p ∙ sym (a p (inl u))
        in_it (inl u) (inl v) = x.outside p k (inr v) ∙ has_zero p ∙ sym (a p (inr v))

-- the positions that follow are positions
follow_low : (e : Re) (p q : ℕ) → size e < q → has (follow e 0 p) q ≡ false
follow_low e p q h = elim (which (has (follow e 0 p) q)) [ inl t ↦ absurd (omega (arith, (follow_in e 0 p q ((follow_is e 0 p q).sound t)).1.1)) | inr t ↦ t ]

module _ {w : List ℕ} (c : Clear read_words w) where
  none : (i : ℕ) → i ≤ last_at → set_at w i ≡ 0
  none i h = set_none w i (λ x l. c.zero (i * set_words + x) (omega arith))

  module _ {e : Re} {w' : List ℕ} {g : Fragment} (x : Right e 0 w w' g) (small : size e ≤ position_limit) where
    firsts : set_at w' first_at ≡ first e 0
    firsts = all_laid (first e 0) g.count (set_at w' first_at) (omega (arith, x.counts)) (first_apart e 0 x.counts) (set_above w' first_at) (rw (none first_at (omega arith)) at x.firsts)

    lasts : set_at w' last_at ≡ last e 0
    lasts = all_laid (last e 0) g.count (set_at w' last_at) (omega (arith, x.counts)) (last_apart e 0 x.counts) (set_above w' last_at) (rw (none last_at (omega arith)) at x.lasts)

    follows : (p : ℕ) → 0 < p → p < set_bits → set_at w' p ≡ follow e 0 p
    follows p h k = same_bits _ _ (λ q. at q (split q set_bits))
      where
        at : (q : ℕ) → (q < set_bits) ⊎ (set_bits ≤ q) → has (set_at w' p) q ≡ has (follow e 0 p) q
        at q (inl l) = x.follows.bits p q h k l ∙ rw (none p (omega arith), has_zero q) refl
        at q (inr l) = set_above w' p q l ∙ sym (follow_low e p q (omega arith))

pub fillable : {s : List ℕ} → Faultless s → Fillable s
fillable p = record { short = p.short; tree = p.tree; reads = p.sized.pattern; brief = few p }

pub reading : {s y y' w w' : List ℕ} {g : Fragment} {r : Shape} → Faultless s → Clear byte_sets y → Clear read_words w → Filled s y y' → Answer exprs s 0 0 w w' g
    → r.size ≡ g.count → r.null ≡ g.null → set_value r.last.words ≡ set_at w' last_at → Reading s y y' w w' r
unfolding held
reading {s} {y} f cy cw b a es en el = record {
  says = λ t h.
      let x = (a.says (length s) t (whole s t h)).right in
      let small : size (expr t) ≤ position_limit = rw (one_tree s t f.tree h f.sized.pattern) (few f) in
      record {
        sizes = es ∙ x.counts ∙ zero-add (size (expr t));
        nulls = en ∙ x.nulls;
        firsts = firsts cw x small;
        lasts = el ∙ lasts cw x small;
        follows = follows cw x small;
        holds = λ q v k l. (b.says t h).bits q v l ∙ ap (λ (n : ℕ). has n (v % 8) || has (holders (expr t) 0 v) (q + 1)) (cy.zero (q * byte_set + v / 8) (omega arith)) ∙ rw has_zero refl;
        words_kept = x.follows.kept;
        bytes_kept = (b.says t h).kept;
      };
}
