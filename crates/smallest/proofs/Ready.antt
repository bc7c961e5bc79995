-- The plan, from what each pass ensures.
--   ready, apart, rows: what is numbered, and what is merged
--   planned: the plan
use Prim.Native.Nat.{ℕ, ◌+◌, ◌<◌}
use mathlib.Core.List.{List}
use native.Mathlib.Omega.{arith}
use lib.ListN.{get_or, take, length}
use Rattle.scope.specs.Limits.{classes_at}
use Rattle.scope.specs.Machines.Room.{SoundTable}
use Rattle.refinement.specs.Refined.{RefinedAlone}
use Rattle.smallest_plan.specs.declared.States.{States}
use Rattle.smallest_plan.specs.declared.Plan.{Plan}
use Rattle.smallest_plan.specs.Smallest.{StatesIn}
use Rattle.smallest_plan.specs.Planned.{Planned}
use Rattle.arrivals.specs.Swept.{Sweepable, Arrived}
use Rattle.arrivals.proofs.Swept.{swept_few}
use Rattle.arrivals.proofs.Smallest.{smallest}
use Rattle.class_merging.specs.Merged.{Distinct, MergedClasses}
use Rattle.class_merging.proofs.Merged.{classed}
use Rattle.smallest.proofs.ByKind.{front, own, kinded, distinct}

module _ {a column part : List ℕ} {kinds rounds : ℕ} (s : SoundTable a) (r : RefinedAlone a column part kinds rounds) where
  -- the parts and the columns are ready to be numbered
  pub ready : Sweepable a part (take kinds column)
  ready = record {
    sound = s;
    parts = r.parts;
    few = rw (front r.bytes.are r.columns) (r.bytes.are.few);
    columns = λ j h g. let u : j < kinds = rw (front r.bytes.are r.columns) at h in
        rw (own r.bytes.are r.columns j u) (s.classes (classes_at + get_or r.least j 0) (omega (arith, r.bytes.are.byte j u)) (omega arith));
  }

  -- no two columns are one
  pub apart : Distinct (take kinds column) (length (take kinds column))
  apart = distinct r.bytes.are r.columns

  -- the numbers stand for states
  pub rows : {t : States} → Arrived a part (take kinds column) t → StatesIn a t
  rows z = record { sound = s; few = omega (arith, swept_few s z.swept, s.few_states); inside = λ q h g. (z.swept.back q h).inside }

  -- numbered states and merged classes are the plan
  pub planned : {t : Plan} → Arrived a part (take kinds column) t.states → MergedClasses a t.states (take kinds column) t.classes → Planned a t
  planned z m = record { sound = s; smallest = smallest s r.parts (kinded r.bytes.are r.columns) z; classed = classed s (kinded r.bytes.are r.columns) m }
