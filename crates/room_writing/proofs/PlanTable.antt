-- The cells, written row by row: those of the rows before q are stored, and the next row begins at `at`.
--   Cells, cells_fit, cells_more: the rows so far, where the next ends, one more
--   stored_as: a part that was written whole, by what its elements are
use Prim.Native.Nat.{ℕ, ◌+◌, ◌-◌, ◌*◌, ◌≤◌, ◌<◌}
use mathlib.Core.Path.{◌≡◌, ◌∙◌}
use mathlib.Core.List.{List}
use native.Mathlib.Nat.{mul-le-mul, mul-le-mul_right, add-mul}
use native.Mathlib.Omega.{arith}
use borrow.Rule.Slice.PartMut.{put_mid}
use lib.ListN.{length, get_or}
use Rattle.scope.specs.Limits.{class_limit, state_limit, cells_at, ways_at}
use Rattle.buffers.specs.Stored.{Stored}
use Rattle.buffers.proofs.OneMore.{stored_then, stored_part}
use Rattle.smallest_plan.specs.declared.States.{States}
use Rattle.smallest_plan.specs.declared.Classes.{Classes}
use Rattle.smallest_plan.proofs.TableRows.{flat}
use Rattle.room_writing.specs.PlanImage.{table_cell, table_byte}

-- a part from a up to `to` that was written whole
pub stored_as : (f : ℕ → ℕ) (a to : ℕ) (m ys : List ℕ) → a ≤ to → to ≤ length m → length ys ≡ to - a → ((i : ℕ) → i < to - a → get_or ys i 0 ≡ f i)
    → Stored m (put_mid a (to - a) m ys) a to (λ i. f (i - a))
stored_as f a to m ys l h e g =
    let z : a + (to - a) ≡ to = omega arith in
    let s = rw z at (stored_part a (to - a) m ys (omega arith) e) in
    record { size = s.size; inside = λ i k n. s.inside i k n ∙ g (i - a) (omega arith); outside = s.outside }

pub record Cells (a : List ℕ) (s : States) (c : Classes) (old new : List ℕ) (at q : ℕ) : Type 0 where
  pub is_at : at ≡ cells_at + q * c.count
  pub stored : Stored old new cells_at at (table_byte a s c)

module _ {a : List ℕ} {s : States} {c : Classes} {old new : List ℕ} {at q : ℕ} (w : Cells a s c old new at q) (h : q < s.count) where
  -- the next row ends within the room
  pub cells_fit : s.count ≤ state_limit → c.count ≤ class_limit → at + c.count ≤ ways_at
  cells_fit l m = omega (arith, w.is_at, mul-le-mul_right c.count h, mul-le-mul l m)

  pub cells_more : {new' : List ℕ} → Stored new new' at (at + c.count) (λ i. table_cell a s c q (i - at)) → Cells a s c old new' (at + c.count) (q + 1)
  cells_more z = record {
    is_at = omega (arith, w.is_at, add-mul q 1 c.count);
    stored = stored_then (omega (arith, w.is_at)) (omega arith) w.stored z (λ i l m.
        let e : i - cells_at ≡ q * c.count + (i - at) = omega (arith, w.is_at) in
        let d : i - at < c.count = omega arith in
        rw (e, (flat c.count q (i - at) d).0, (flat c.count q (i - at) d).1));
  }
