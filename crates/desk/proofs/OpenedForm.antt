-- A form that is opened: its count is stored, and zeros after it.
--   zeros_shown, zeros_tail: the form of nothing
use Prim.Native.Nat.{ℕ, ◌+◌, ◌*◌, ◌≤◌}
use mathlib.Core.Path.{◌∙◌}
use mathlib.Core.Logic.{inl, inr}
use mathlib.Core.List.{List}
use native.Mathlib.Omega.{arith}
use lib.ListN.{length, set, length-set}
use lib.Seq.{get_or-set_same, get_or-set_other}
use Rattle.scope.specs.Operations.Buffers.{TailKept}
use Rattle.buffers.specs.Stored.{Stored}
use Rattle.entry_form.specs.EntryForm.{text_limit, lengths_at, texts_at, form_bytes}
use Rattle.desk_rules.specs.Entry.{nothing}
use Rattle.desk_rules.specs.Show.{Shows}

-- a count and zeros after it are the form of nothing
module _ (n : ℕ) (form : List ℕ) {form' : List ℕ} (s : Stored (set form 0 n) form' 1 form_bytes (λ i. 0)) where
  pub zeros_shown : form_bytes ≤ length form → Shows n nothing form'
  zeros_shown l = record {
    count = s.outside 0 (inl (omega arith)) ∙ get_or-set_same form 0 n 0 (omega arith);
    closed = s.inside 1 (omega arith) (omega arith);
    lengths = λ f h. s.inside (lengths_at + f) (omega arith) (omega arith);
    bytes = λ f i h k. s.inside (texts_at + f * text_limit + i) (omega arith) (omega arith);
  }

  pub zeros_tail : TailKept form_bytes form form'
  zeros_tail = record { size = s.size ∙ length-set form 0 n; outside = λ i h. s.outside i (inr h) ∙ get_or-set_other form 0 i n 0 (λ z. omega arith) }
