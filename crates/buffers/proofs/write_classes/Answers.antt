-- The classes are the part that is copied.
use borrow.Author.Rules.{rules}
use Rattle.buffers.proofs.OneMore.{stored_part}
use Rattle.buffers.proofs.write_classes.Goals as goal

pub returns : goal.returns
returns c = rw c.copy_from_slice.ensures.after (stored_part 2 256 _ _ (search rules) (search rules))
