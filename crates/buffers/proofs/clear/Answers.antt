-- Both buffers are written from the start on.
use borrow.Author.Rules.{rules}
use Rattle.scope.specs.Limits.{scratch_bytes, scratch_words}
use Rattle.buffers.proofs.OneMore.{written_front}
use Rattle.buffers.proofs.clear.Goals as goal

pub returns : goal.returns
returns c = record {
  bytes_zero = written_front scratch_bytes _ c.requires.bytes_long (search rules) (c.fill.ensures.after (λ y e. e));
  words_zero = written_front scratch_words _ c.requires.words_long (search rules) (c.fill-2.ensures.after (λ y e. e));
}
