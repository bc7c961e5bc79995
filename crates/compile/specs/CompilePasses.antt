-- What the passes leave, before the scratch is cleared.
--   ReadsText s bytes bytes' words words' r: r, the bytes and the words are what building is given for the tree of s (of which there is one: `one_tree`)
--   AnswersCompile text room room' bytes bytes' words words' number place: once the scratch is cleared, this is what compiling answers and leaves
use Rattle.std.specs.Prelude.{ℕ, ◌≤◌, List}
use Rattle.scope.specs.Operations.Buffers.{TailKept, Cleared}
use Rattle.scope.specs.Operations.Compile.{Compiles}
use Rattle.scope.specs.Text.Judge.{Pattern}
use Rattle.scope.specs.Limits.{position_limit, scratch_bytes, scratch_words}
use Rattle.scope.specs.Text.Tree.{Tree, expr}
use Rattle.sets.specs.Value.{set_value}
use Rattle.pattern.specs.declared.Shape.{Shape}
use Rattle.sets.specs.Layout.{byte_sets, read_words}
use Rattle.determinise.specs.Build.{Given}

pub record ReadsText (s bytes bytes' words words' : List ℕ) (r : Shape) : Type 0 where
  pub few : r.size ≤ position_limit
  pub given : (t : Tree) → Pattern s t → Given (expr t) bytes' words' r.size (set_value r.last.words) r.null
  pub bytes_kept : TailKept byte_sets bytes bytes'
  pub words_kept : TailKept read_words words words'

pub record AnswersCompile (text room room' bytes bytes' words words' : List ℕ) (number place : ℕ) : Type 0 where
  pub bytes_kept : TailKept scratch_bytes bytes bytes'
  pub words_kept : TailKept scratch_words words words'
  pub cleared : (b w : List ℕ) → Cleared bytes b words w → Compiles text room room' bytes b words w number place
