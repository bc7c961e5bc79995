-- Marks. Of a proposition there is one, so an array of them is determined; like propositions have like marks.
--   mark_by: the mark by a test
--   untold: with another answer than Dead nothing is told
--   mark_one, marks_one: a mark is one; so are the 256
--   mark_moved, marks_moved: the marks of what holds exactly where another thing does
--   mark_no, mark_none: what is marked 0 does not hold; what does not hold is marked 0
use Prim.Native.Nat.{ℕ, ◌<◌}
use mathlib.Core.Path.{◌≡◌, refl, sym, ◌∙◌}
use mathlib.Core.Logic.{◌↔◌}
use mathlib.Core.Bool.{Bool, true, false}
use mathlib.Core.List.{List}
use native.Mathlib.Omega.{arith}
use lib.Seq.{ext_get_or}
use Rattle.std.specs.Int.{from_bool}
use Rattle.scope.specs.Limits.{byte_values}
use Rattle.buffers.specs.Stored.{Decides}
use Rattle.telling.specs.Expected.{Marked, can, cannot, MarksOf, MatchTells, kept}
use Rattle.scope.specs.Answers.{DEAD}

-- a test marks what it decides
pub mark_by : {P : Type 0} {b : Bool} → Decides b P → Marked P (from_bool b)
mark_by {b = true} d = can (d.yes refl)
mark_by {b = false} d = cannot (d.no refl)

-- with another answer than Dead nothing is told
pub untold : {room text e : List ℕ} {n i : ℕ} → (n ≡ DEAD → ⊥) → MatchTells room text e e n i
untold h = kept h refl

-- a proposition has one mark
pub mark_one : {P : Type 0} {x y : ℕ} → Marked P x → Marked P y → x ≡ y
mark_one (can p) (can q) = refl
mark_one (can p) (cannot n) = absurd (n p)
mark_one (cannot n) (can q) = absurd (n q)
mark_one (cannot n) (cannot m) = refl

-- and 256 of them one array
pub marks_one : {P : ℕ → Type 0} {e f : List ℕ} → MarksOf P e → MarksOf P f → e ≡ f
marks_one {P} {e} {f} a b = ext_get_or 0 e f (a.size ∙ sym b.size) (λ i h. let k : i < byte_values = omega (arith, a.size) in mark_one (a.marks i k) (b.marks i k))

-- like propositions have like marks
pub mark_moved : {P Q : Type 0} {x : ℕ} → P ↔ Q → Marked P x → Marked Q x
mark_moved h (can p) = can (h.0 p)
mark_moved h (cannot n) = cannot (λ q. n (h.1 q))

pub marks_moved : {P Q : ℕ → Type 0} {e : List ℕ} → ((b : ℕ) → b < byte_values → P b ↔ Q b) → MarksOf P e → MarksOf Q e
marks_moved h a = record { size = a.size; marks = λ b k. mark_moved (h b k) (a.marks b k) }

-- what is marked 0 does not hold
pub mark_no : {P : Type 0} {x : ℕ} → Marked P x → x ≡ 0 → P → ⊥
mark_no (can p) z h = omega arith
mark_no (cannot n) z h = n h

-- what does not hold is marked 0
pub mark_none : {P : Type 0} {x : ℕ} → (P → ⊥) → Marked P x → x ≡ 0
mark_none n m = mark_one m (cannot n)
