-- Runs, grouping, masks and image, put together for every expression whose sets were given.
use mathlib.Core.Path.{subst}
use Rattle.std.proofs.lemmas.Result.{err_from_is_err_and}
use Rattle.byte_runs.specs.Runs.{Like}
use Rattle.byte_classes.specs.Groups.{GroupsAnswer}
use Rattle.determinise.proofs.Images.{refused_as}
use Rattle.determinise.proofs.Givens.{mapped, built, built_classes}
use Rattle.determinise.proofs.build.Goals as goal

pub returns-in_err-groups : goal.returns-in_err-groups
returns-in_err-groups c =
    let p = err_from_is_err_and c.from_residual.result c.from_residual.ensures.1 in
    let e = c.in_err-groups.ensures in
    rw (p.1, p.2, refused_as e.value e.ok_part) (built_classes _ _ _ c.requires.0 c.requires.1 (subst (GroupsAnswer (Like c.args.bytes.now c.args.count)) e.ok_part c.group.ensures))

pub determinise-requires-clause-class_map : goal.determinise-requires-clause-class_map
determinise-requires-clause-class_map c = mapped (subst (GroupsAnswer (Like c.args.bytes.now c.args.count)) c.in_ok-groups.ensures.ok_part c.group.ensures)

pub returns : goal.returns
returns c =
    let groups = subst (GroupsAnswer (Like c.args.bytes.now c.args.count)) c.in_ok-groups.ensures.ok_part c.group.ensures in
    built _ _ _ c.requires.0 c.requires.1 groups c.class_masks.ensures c.finals.ensures c.determinise.ensures
