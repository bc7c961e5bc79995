-- The kinds of one room's bytes: its classes that hold a byte. Their columns are the first `kinds` of a list.
--   front, own: so many, each the class of the least byte of its kind
--   kinded: kinds and their columns, for whoever goes over them in the place of the bytes
--   distinct: no two kinds have one column
use Prim.Native.Nat.{ℕ, ◌<◌}
use mathlib.Core.Path.{◌≡◌, sym, ◌∙◌}
use mathlib.Core.List.{List}
use native.Mathlib.Omega.{arith}
use lib.ListN.{length, get_or, take, length-replicate}
use Rattle.std.proofs.lemmas.List.{length-take, get_or-take}
use Rattle.scope.specs.Limits.{byte_values}
use Rattle.scope.specs.Machines.Room.{class_of}
use Rattle.two_rooms.specs.Kinds.{KindsOf, Column}
use Rattle.two_rooms.proofs.ByKind.{kind_before}
use Rattle.smallest_plan.proofs.Kinded.{Kinded}
use Rattle.class_merging.specs.Merged.{Distinct}

module _ {a kind least column : List ℕ} {kinds : ℕ} (k : KindsOf a a kind least kinds) (c : Column a least column kinds) where
  pub front : length (take kinds column) ≡ kinds
  front = omega (arith, length-take kinds column, c.size, length-replicate {A = ℕ} byte_values 0, k.few)

  pub own : (i : ℕ) → i < kinds → get_or (take kinds column) i 0 ≡ class_of a (get_or least i 0)
  own i h = get_or-take kinds column i 0 h ∙ c.inside i h

  -- the column of a byte's kind is its class
  pub kinded : Kinded a kind least (take kinds column)
  kinded = record {
    finer = rw front (record { inside = k.below; place = k.byte; own = k.own; before = kind_before k });
    class = λ x h. own (get_or kind x 0) (k.below x h) ∙ k.left x h;
  }

  -- kinds with one column have one least byte
  pub distinct : Distinct (take kinds column) (length (take kinds column))
  distinct i j h l e =
      let u : j < kinds = rw front at h in
      let g : i < kinds = omega arith in
      let same : class_of a (get_or least i 0) ≡ class_of a (get_or least j 0) = sym (own i g) ∙ e ∙ own j u in
      omega (arith, k.own i g, k.own j u, k.one (get_or least i 0) (get_or least j 0) (k.byte i g) (k.byte j u) same same)
