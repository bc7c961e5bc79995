-- What is matched is the room and the text of the field; of a text there is one answer.
use native.Mathlib.Omega.{arith}
use Rattle.std.proofs.lemmas.Grind.{common_steps}
use Rattle.entry_form.proofs.FieldTests.{not_accepted}
use Rattle.entry_form.proofs.valid.is_accepted.Goals as goal

pub returns-in_default : goal.returns-in_default
returns-in_default c = not_accepted c.args.rooms.now c.args.form.now c.args.f _ (λ i. omega (arith, c.type_inv.form i)) c.room_at.ensures c.text_at.ensures c.match_text-matched.ensures (λ e. grind (arith, common_steps))

pub returns-in_default-2 : goal.returns-in_default-2
returns-in_default-2 c = not_accepted c.args.rooms.now c.args.form.now c.args.f _ (λ i. omega (arith, c.type_inv.form i)) c.room_at.ensures c.text_at.ensures c.match_text-matched.ensures (λ e. grind (arith, common_steps))
