-- Kinds of bytes with like columns share a class. A kind takes the first class whose leader it is alike to, or makes a new one, so classes are numbered by their first
-- kind; and kinds stand in the order of their least bytes, so they are numbered by their smallest byte.
--   merged_inside, merged_few: leaders are columns, so there are no more classes than columns
--   merged_old, merged_new: one kind more
--   mapped_same: where each column has the class of its own number, the bytes keep theirs
--   classed: the classes of the bytes
use Prim.Native.Nat.{ℕ, ◌+◌, ◌≤◌, ◌<◌}
use mathlib.Core.Path.{◌≡◌, refl, sym, ◌∙◌}
use mathlib.Core.List.{List}
use native.Mathlib.Omega.{arith}
use lib.ListN.{length, get_or, set, length-set}
use lib.Seq.{get_or-set_same, get_or-set_other}
use Rattle.scope.specs.Limits.{byte_values, classes_at}
use Rattle.scope.specs.Machines.Room.{classes_of, class_of, Below, SoundTable}
use Rattle.buffers.specs.Numbered.{Numbered}
use Rattle.buffers.proofs.Numbered.{numbered_old, numbered_new, numbered_arrival, numbered_one, numbered_few}
use Rattle.smallest_plan.specs.declared.States.{States}
use Rattle.smallest_plan.specs.declared.Classes.{Classes}
use Rattle.smallest_plan.specs.Classed.{SameColumn, Classed}
use Rattle.smallest_plan.specs.Planned.{SameOrder}
use Rattle.smallest_plan.proofs.Finer.{numbered_finer}
use Rattle.smallest_plan.proofs.Kinded.{Kinded}
use Rattle.class_merging.specs.Merged.{Distinct, Merged, ColumnMap, MergedClasses}

-- ---- one kind more

module _ {a : List ℕ} {s : States} {column sort leader : List ℕ} {k e to limit : ℕ} (m : Merged a s column sort leader k e) (h : e ≤ to) (b : Below column 0 to limit) where
  -- leaders are columns
  pub merged_inside : Below leader 0 k limit
  merged_inside c g l = let x = m.numbered.came c g (omega arith) in rw (← x.leads) (b x.thing (omega (arith, x.inside)) (omega arith))

  -- no two of them are alike, so no two are one
  pub merged_few : k ≤ limit
  merged_few = numbered_few m.numbered limit (λ u. u) (λ c g. merged_inside c g (omega arith)) (λ c d g l z q y. rw z refl)

-- u: the column of the kind e
module _ {a : List ℕ} {s : States} {column sort leader : List ℕ} {k e : ℕ} (b : get_or column e 0 < byte_values) (d : Distinct column (e + 1)) (m : Merged a s column sort leader k e) where
  abbrev u : ℕ
  u = get_or column e 0

  here : (i : ℕ) → get_or (set sort u i) u 0 ≡ i
  here i = get_or-set_same sort u i 0 (omega (arith, m.sort_size))

  off : (i j : ℕ) → j < e → get_or (set sort u i) (get_or column j 0) 0 ≡ get_or sort (get_or column j 0) 0
  off i j l = get_or-set_other sort u (get_or column j 0) i 0 (d j e (omega arith) l)

  -- the kind e is of the class i that is there
  pub merged_old : (i : ℕ) → i < k → SameColumn a s (get_or leader i 0) u → Merged a s column (set sort u i) leader k (e + 1)
  merged_old i l f = record {
    sort_size = length-set sort u i ∙ m.sort_size;
    leader_size = m.leader_size;
    numbered = numbered_old m.numbered (λ j. get_or column j 0) (λ j. get_or (set sort u i) (get_or column j 0) 0) (λ c. get_or leader c 0) (λ j g. refl) (off i) (λ c g. refl)
        (rw (here i) l) (rw (here i) f);
  }

  -- the kind e makes a new class, and leads it
  pub merged_new : k < byte_values → ((c : ℕ) → c < k → SameColumn a s (get_or leader c 0) u → ⊥) → Merged a s column (set sort u k) (set leader k u) (k + 1) (e + 1)
  merged_new l f = record {
    sort_size = length-set sort u k ∙ m.sort_size;
    leader_size = length-set leader k u ∙ m.leader_size;
    numbered =
        numbered_new m.numbered (λ j. get_or column j 0) (λ j. get_or (set sort u k) (get_or column j 0) 0) (λ c. get_or (set leader k u) c 0) (λ j g. refl) (off k)
        (λ c g. get_or-set_other leader k c u 0 (λ y. omega arith)) (here k) (get_or-set_same leader k u 0 (omega (arith, m.leader_size))) (λ q g. refl) f;
  }

-- ---- all kinds, and so all bytes

-- where each column has the class of its own number, the bytes keep theirs
pub mapped_same : {a : List ℕ} (sort class : List ℕ) → SoundTable a → SameOrder sort (classes_of a) → length class ≡ byte_values → ((x : ℕ) → x < byte_values → get_or class x 0 ≡ class_of a x)
    → ColumnMap a sort class
mapped_same {a} sort class s o e w = (e, λ x h. w x h ∙ sym (o (class_of a x) (omega (arith, s.classes (classes_at + x) (omega arith) (omega arith)))))

module _ {a kind least column : List ℕ} {s : States} {c : Classes} (t : SoundTable a) (k : Kinded a kind least column) (m : MergedClasses a s column c) where
  -- a byte has the class of its kind
  by_byte : Numbered (SameColumn a s) (class_of a) (λ x. get_or c.class x 0) (λ i. get_or c.leader i 0) 0 c.count byte_values
  by_byte = numbered_finer m.kinds.numbered k.finer (class_of a) (λ x. get_or c.class x 0) (λ x h. sym (k.class x h)) (λ x h. m.bytes.1 x h ∙ sym (rw (k.class x h) refl))

  -- the first byte of a class
  holds : (i : ℕ) → i < c.count → (x : ℕ) × (x < byte_values) × (get_or c.class x 0 ≡ i) × (class_of a x ≡ get_or c.leader i 0)
  holds i h = let x = by_byte.came i h (omega arith) in (x.thing, x.inside, x.own, x.leads)

  inside : (i : ℕ) → i < c.count → get_or c.leader i 0 < classes_of a
  inside i h = let (x, b, z, f) = holds i h in omega (arith, f, t.classes (classes_at + x) (omega (arith, b)) (omega arith))

  pub classed : Classed a s c
  classed = record {
    few = omega (arith, t.few_classes, numbered_few by_byte (classes_of a) (λ u. u) inside (λ i j g l z q y. rw z refl));
    inside = inside;
    below = by_byte.below;
    alike = by_byte.like;
    share = λ x y h l z. (numbered_one by_byte (λ u v f q g. sym (f q g)) (λ u v w f g q l. f q l ∙ g q l) x y h l).1 z;
    holds = holds;
    smallest = numbered_arrival by_byte;
  }
