-- The scratch is made zero, and the text is read into it.
use native.Mathlib.Omega.{arith}
use lib.Seq.{length-take-le}
use Rattle.sets.specs.Layout.{byte_sets, read_words}
use Rattle.compile.proofs.BetweenPasses.{zeroed, clear_zeroed, reads}
use Rattle.compile.proofs.read.Goals as goal

pub slice_bounds-fill-end-2 : goal.slice_bounds-fill-end-2
slice_bounds-fill-end-2 c = omega (arith, length-take-le byte_sets c.args.bytes.now (omega (arith, c.requires.1.bytes_long)))

pub slice_bounds-fill-end-4 : goal.slice_bounds-fill-end-4
slice_bounds-fill-end-4 c = omega (arith, length-take-le read_words c.args.words.now (omega (arith, c.requires.1.words_long)))

pub read-requires : goal.read-requires
read-requires c = record {
  faultless = c.requires.0;
  clear = (
    clear_zeroed c.args.bytes.now byte_sets (omega (arith, c.requires.1.bytes_long)) (zeroed byte_sets c.args.bytes.now (omega (arith, c.requires.1.bytes_long)) (c.fill.ensures.after (λ y e. e))),
    clear_zeroed c.args.words.now read_words (omega (arith, c.requires.1.words_long)) (zeroed read_words c.args.words.now (omega (arith, c.requires.1.words_long)) (c.fill-2.ensures.after (λ y e. e))),
  );
}

pub returns : goal.returns
returns c = reads c.requires.0 (zeroed byte_sets c.args.bytes.now (omega (arith, c.requires.1.bytes_long)) (c.fill.ensures.after (λ y e. e)))
    (zeroed read_words c.args.words.now (omega (arith, c.requires.1.words_long)) (c.fill-2.ensures.after (λ y e. e))) c.read.ensures
