-- The count is judged, then the lengths, then the machines; then the count is stored, and zeros after it.
use mathlib.Core.Path.{refl}
use native.Mathlib.Omega.{arith}
use Rattle.std.proofs.lemmas.Grind.{common_steps}
use Rattle.entry_form.specs.EntryForm.{Fields}
use Rattle.desk_rules.specs.Open.{no_fields, no_room, no_form, opened}
use Rattle.desk.proofs.OpenedForm.{zeros_shown, zeros_tail}
use Rattle.desk.proofs.open_form.Goals as goal
use Rattle.desk.proofs.open_form.Goals.{Else-not-contains}

-- so many fields a form can have
fields : (c : Else-not-contains) → Fields c.args.count
fields c = record { some = grind (arith, common_steps); few = grind (arith, common_steps) }

pub returns-then-not-contains : goal.returns-then-not-contains
returns-then-not-contains c = no_fields (λ f. grind (arith, common_steps, f.some, f.few)) refl

pub returns-then-not-is_lent : goal.returns-then-not-is_lent
returns-then-not-is_lent c = no_room (fields (goal.at.returns-then-not-is_lent c).Else-not-contains) (c.is_lent.ensures.no c.if-not-is_lent.true) refl

pub returns-then-not-are_sound : goal.returns-then-not-are_sound
returns-then-not-are_sound c =
    no_form (fields (goal.at.returns-then-not-are_sound c).Else-not-contains) (c.is_lent.ensures.yes c.if-not-is_lent.false)
    (λ s. c.are_sound.ensures.no c.if-not-are_sound.true (λ f h k. s f h)) refl

pub returns : goal.returns
returns c = let a = c.args in
    let l = c.is_lent.ensures.yes c.if-not-is_lent.false in
    opened (fields (goal.at.returns c).Else-not-contains) l
    (λ f h. c.are_sound.ensures.yes c.if-not-are_sound.false f h (omega arith))
    (zeros_shown a.count a.form.now c.fill.ensures l.form_long) (zeros_tail a.count a.form.now c.fill.ensures)
