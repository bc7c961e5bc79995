-- What a key answers before the open field is judged: a form in which something else fails the test is none that keys can give, and where all fields are closed there is
-- no open one.
--   refused_filled: a closed field is not filled
--   refused_empty, presses_all: all fields are closed, and others are not empty, or are
use Prim.Native.Nat.{ℕ, ◌≤◌, ◌<◌}
use mathlib.Core.Path.{◌≡◌, ◌∙◌}
use mathlib.Core.Logic.{inr, ⊎_elim}
use mathlib.Core.List.{List}
use native.Mathlib.Omega.{arith}
use lib.ListN.{get_or}
use Rattle.scope.specs.Answers.{FORM}
use Rattle.scope.specs.Limits.{byte_values}
use Rattle.scope.proofs.Operations.Buffers.{all_kept}
use Rattle.scope.proofs.Counting.Tests.{split}
use Rattle.entry_form.specs.EntryForm.{field_limit, form_bytes, count_of, closed_of, Fields, DeskLent}
use Rattle.entry_form.specs.ValidForm.{Empty, ClosedField}
use Rattle.entry_form.proofs.Texts.{empty_plain}
use Rattle.standings.proofs.Standings.{accepted_sound}
use Rattle.desk_rules.specs.DeskAnswers.{CLOSED}
use Rattle.desk_rules.specs.Key.{all_closed}
use Rattle.desk_rules.specs.Press.{Presses, answered}
use Rattle.desk_rules.proofs.Exact.{ShownEntry, valid_given}
use Rattle.desk_rules.proofs.Press.{refused}

module _ {rooms form : List ℕ} (lent : DeskLent (count_of form) rooms form) where
  -- one with a closed field that is not filled
  pub refused_filled : {key : ℕ} → closed_of form ≤ field_limit → (((f : ℕ) → f < closed_of form → ClosedField rooms form f) → ⊥) → Presses rooms form form key FORM
  refused_filled h n = refused lent (λ s v. n (λ f k. record { plain = v.plain f (omega arith); accepted = v.closed f k }))

  -- ---- all fields are closed

  module _ (fields : Fields (count_of form)) (all : closed_of form ≡ count_of form) where
    -- and others are not empty
    pub refused_empty : {key : ℕ} → (((g : ℕ) → g < field_limit → closed_of form ≤ g → Empty form g) → ⊥) → Presses rooms form form key FORM
    refused_empty n = refused lent (λ s v. n (λ g h k. v.later g h (inr (omega arith))))

    -- 13, for every key
    pub presses_all : {key : ℕ} → ((i : ℕ) → get_or form i 0 < byte_values) → ((f : ℕ) → f < closed_of form → ClosedField rooms form f)
        → ((g : ℕ) → g < field_limit → closed_of form ≤ g → Empty form g) → Presses rooms form form key CLOSED
    presses_all known filled empty = answered lent (record { sound = λ f h. accepted_sound (filled f (omega arith)).accepted; given = found.given })
        (all_closed (found.closed ∙ all)) found.given.shows (all_kept form form_bytes)
      where
        found : ShownEntry rooms form
        found = valid_given lent.form_long known (record {
          fields = fields;
          within = omega arith;
          plain = λ f h. ⊎_elim (λ k. (filled f k).plain) (λ k. empty_plain (empty f h k)) (split f (closed_of form));
          closed = λ f h. (filled f h).accepted;
          open_kept = λ h. absurd (omega arith);
          later = λ f h j. empty f h (⊎_elim (λ x. omega arith) (λ x. omega arith) j);
        })
