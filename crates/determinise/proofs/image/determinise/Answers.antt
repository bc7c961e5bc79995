use Rattle.std.proofs.lemmas.Result.{err_from_is_err_and}
use Rattle.determinise.proofs.Images.{refused_as, image_many, image_made}
use Rattle.determinise.proofs.image.determinise.Goals as goal

pub returns-in_err-states : goal.returns-in_err-states
returns-in_err-states c =
    let p = err_from_is_err_and c.from_residual.result c.from_residual.ensures.1 in
    let e = c.in_err-states.ensures in
    rw (p.1, p.2, refused_as e.value e.ok_part) (image_many _ c.requires.row_fits c.requires.class_map c.write_map.ensures c.store.ensures c.rows.ensures e.ok_part)

pub returns : goal.returns
returns c = image_made _ c.requires.row_fits c.requires.class_map c.write_map.ensures c.store.ensures c.rows.ensures c.in_ok-states.ensures.ok_part c.write_states.ensures
