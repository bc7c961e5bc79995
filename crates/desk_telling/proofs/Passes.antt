-- What a key tells. A text dies at one place, so the array that is told is one; it is the one that matching tells of the field with the key. The field's own text is not
-- dead, so it marks what this text goes on with.
--   untold: with another answer than DEAD BYTE nothing is told
--   passes_one: two arrays that one answer tells are equal
--   determined: two results of one key are equal, with every byte of the form and of the array
--   told_alike: desk and matcher agree
--   told_own: what is told is what the open field's own text goes on with
--   key_cannot: the byte that is refused is always no
use Prim.Native.Nat.{ℕ, ◌<◌}
use mathlib.Core.Path.{◌≡◌, refl, sym, ◌∙◌}
use mathlib.Core.List.{List, [], ◌∷◌}
use lib.ListN.{get_or}
use Rattle.scope.specs.Answers.{DEAD}
use Rattle.scope.specs.Limits.{byte_values}
use Rattle.scope.specs.Machines.Room.{machine}
use Rattle.scope.specs.Machines.Machine.{Completable}
use Rattle.scope.specs.Operations.Match.{Matches}
use Rattle.scope.proofs.Operations.Match.{dead_one}
use Rattle.scope.proofs.Machines.Run.{bytes_append}
use Rattle.matching.proofs.Completable.{died}
use Rattle.telling.specs.Expected as expected
use Rattle.telling.specs.Expected.{Expected, MatchTells, CanFollow}
use Rattle.telling.proofs.Marks.{marks_one, mark_none, marks_moved}
use Rattle.telling.proofs.Expecting.{dead_whole}
use Rattle.entry_form.specs.EntryForm.{closed_of, text_of}
use Rattle.entry_form.proofs.Texts.{text_bytes}
use Rattle.desk_rules.specs.DeskAnswers.{DEAD_BYTE}
use Rattle.desk_rules.specs.Press.{Presses}
use Rattle.desk_telling.specs.Pass.{open_room, typed_text, Passes, passed, kept}
use Rattle.desk_histories.proofs.Presses as presses
use Rattle.desk_telling.proofs.Own.{own_dead, own_stands}

-- ---- one array

-- what is told of a dead text
expected_one : {room text f g : List ℕ} {i j : ℕ} → Matches room text DEAD i → Expected (machine room) text i f → Matches room text DEAD j → Expected (machine room) text j g → f ≡ g
expected_one {room} {text} {i = i} {j} m x n y = let e = dead_one (machine room) text i j (died m).1 (died n).1 in marks_one x (rw (← e) at y)

-- with another answer than DEAD BYTE nothing is told
pub untold : {rooms form e : List ℕ} {key n : ℕ} → (n ≡ DEAD_BYTE → ⊥) → Passes rooms form key e e n
untold h = kept h refl

module _ {rooms form e f g : List ℕ} {key : ℕ} where
  -- two arrays that one answer tells
  pub passes_one : {n : ℕ} → Passes rooms form key e f n → Passes rooms form key e g n → f ≡ g
  passes_one (passed d x) (passed c y) = expected_one d.matched x c.matched y
  passes_one (passed d x) (kept n k) = absurd (n refl)
  passes_one (kept n k) (passed c y) = absurd (n refl)
  passes_one (kept n k) (kept m l) = k ∙ sym l

  -- two results of one key: the numbers, the forms, the arrays
  pub determined : {a b : List ℕ} {i j : ℕ} → Presses rooms form a key i → Passes rooms form key e f i → Presses rooms form b key j → Passes rooms form key e g j
      → (i ≡ j) × (a ≡ b) × (f ≡ g)
  determined p x q y = let (n, r) = presses.determined p q in (n, r, passes_one x (rw (← n) at y))

  -- desk and matcher agree: what matching tells of the open field with the key
  pub told_alike : {i : ℕ} {h : List ℕ} → Passes rooms form key e f DEAD_BYTE → Matches (open_room rooms form) (typed_text form key) DEAD i → MatchTells (open_room rooms form) (typed_text form key) h g DEAD i → f ≡ g
  told_alike (passed d x) m (expected.marked y) = expected_one d.matched x m y
  told_alike (passed d x) m (expected.kept n k) = absurd (n refl)
  told_alike (kept n k) m t = absurd (n refl)

-- ---- the field's own text

module _ {rooms form form' : List ℕ} {key : ℕ} (known : (i : ℕ) → get_or form i 0 < byte_values) (a : Presses rooms form form' key DEAD_BYTE) where
  -- what is told is what its own text goes on with
  pub told_own : {e f : List ℕ} → Passes rooms form key e f DEAD_BYTE → CanFollow (machine (open_room rooms form)) (text_of form (closed_of form)) f
  told_own (passed d x) = marks_moved (λ b h. let u = own_stands known a d b h in (u.1, u.0)) x
  told_own (kept n k) = absurd (n refl)

  -- the byte that is refused is always no
  pub key_cannot : {e f : List ℕ} → key < byte_values → Passes rooms form key e f DEAD_BYTE → get_or f key 0 ≡ 0
  key_cannot h p = mark_none no_key ((told_own p).marks key h)
    where
      no_key : Completable (machine (open_room rooms form)) (typed_text form key) → ⊥
      no_key = dead_whole (bytes_append (text_of form (closed_of form)) (key ∷ []) (text_bytes form (closed_of form) known) (h, tt)) (died (own_dead a).matched).1
