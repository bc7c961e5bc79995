-- The lengths are judged, and then the rest.
use mathlib.Core.Path.{refl}
use native.Mathlib.Omega.{arith}
use Rattle.desk_rules.specs.Press.{no_room}
use Rattle.desk.proofs.press.Goals as goal
use Rattle.desk.proofs.press.Goals.{then-form-lt-FORM_BYTES-via-then-form-lt-FORM_BYTES, then-form-lt-FORM_BYTES-via-else-form-lt-FORM_BYTES+then-not-is_lent}

pub returns-then-form-lt-FORM_BYTES : goal.returns-then-form-lt-FORM_BYTES
returns-then-form-lt-FORM_BYTES c = no_room
    (λ l. elim c.then-form-lt-FORM_BYTES.branch [
      | then-form-lt-FORM_BYTES-via-then-form-lt-FORM_BYTES w ↦ omega (arith, l.form_long, w.if-form-lt-FORM_BYTES.true)
      | then-form-lt-FORM_BYTES-via-else-form-lt-FORM_BYTES+then-not-is_lent w ↦ w.is_lent.ensures.no w.if-not-is_lent.true l
    ])
    refl
