-- The beginning of an image, and its states.
--   begun: the classes, written over zeros
--   stated: the head and the marks
use Prim.Native.Nat.{ℕ, ◌+◌, ◌-◌}
use mathlib.Core.Path.{◌≡◌, ap, ◌∙◌}
use mathlib.Core.List.{List}
use mathlib.Core.Logic.{inl, inr}
use native.Mathlib.Omega.{arith}
use lib.ListN.{get_or}
use Rattle.scope.specs.Limits.{classes_at, marks_at, ways_at}
use Rattle.scope.specs.Operations.Buffers.{Written}
use Rattle.buffers.specs.Stored.{Stored}
use Rattle.room.specs.Head.{head_byte}
use Rattle.room.proofs.HeadAndParts.{head_is}
use Rattle.determinise.specs.Image.{mark_by, MapWritten, Stated}

-- the classes, over zeros
pub begun : (o a b map : List ℕ) → Stored o a 0 ways_at (λ i. 0) → Stored a b classes_at marks_at (λ i. get_or map (i - classes_at) 0) → MapWritten o b map
begun o a b map u v = record {
  size = v.size ∙ u.size;
  classes = λ i h. (let e : classes_at + i - classes_at ≡ i = omega arith in
      v.inside (classes_at + i) (omega arith) (omega arith) ∙ ap (λ (j : ℕ). get_or map j 0) e);
  rest = λ i h l. v.outside i (inr l) ∙ u.inside i h (omega arith);
  tail = λ i h. v.outside i (inr (omega arith)) ∙ u.outside i (inr h);
}

-- the head and the marks
pub stated : (o a b : List ℕ) (sets : ℕ → ℕ) (n k finals : ℕ) → Written classes_at (head_byte n k) o a
    → Stored a b marks_at (marks_at + n) (λ i. mark_by finals (sets (i - marks_at))) → Stated o b sets n k finals
stated o a b sets n k finals w v = record {
  size = v.size ∙ w.size;
  states = (head_is b n k (λ i h. v.outside i (inl (omega arith)) ∙ w.inside i h)).0;
  count = (head_is b n k (λ i h. v.outside i (inl (omega arith)) ∙ w.inside i h)).1;
  marks = λ q h. (let e : marks_at + q - marks_at ≡ q = omega arith in
      v.inside (marks_at + q) (omega arith) (omega arith) ∙ ap (λ (j : ℕ). mark_by finals (sets j)) e);
  others = λ i h x. v.outside i x ∙ w.outside i h;
}
