-- The open field's own text. A key that is answered by DEAD BYTE found a form that keys can give, so the open field's text is not dead or is empty: with the key it died
-- at once, or with the key. What could have stood there is then what its own text goes on with.
--   open_lent: the open field's room is there and sound, and its text is in the form
--   own_dead: the field with the key is dead
--   own_stands: the bytes that could have stood there are those that keep its own text completable
--   own_passed: so their marks are what is told
use Prim.Native.Nat.{ℕ, ◌<◌}
use mathlib.Core.Path.{◌≡◌, ◌∙◌}
use mathlib.Core.Logic.{◌↔◌, ◌⊎◌}
use mathlib.Core.List.{List, [], ◌∷◌, ◌++◌}
use native.Mathlib.Omega.{arith}
use lib.ListN.{length, get_or, take, length-append}
use lib.Seq.{take-append-le, take_all}
use Rattle.scope.specs.Limits.{byte_values}
use Rattle.scope.specs.Machines.Machine.{Completable}
use Rattle.scope.specs.Machines.Room.{machine}
use Rattle.matching.proofs.Completable.{died}
use Rattle.telling.specs.Expected.{CouldStand, CanFollow}
use Rattle.telling.proofs.Marks.{marks_moved}
use Rattle.telling.proofs.Expecting.{typed_stands}
use Rattle.entry_form.specs.EntryForm.{closed_of, text_of}
use Rattle.entry_form.specs.Text.{IsDead}
use Rattle.entry_form.specs.ValidForm.{OpenText}
use Rattle.entry_form.proofs.Texts.{text_bytes}
use Rattle.standings.proofs.Standings.{died_last}
use Rattle.desk_rules.specs.DeskAnswers.{DEAD_BYTE}
use Rattle.desk_rules.specs.Entry.{open_text}
use Rattle.desk_rules.specs.Key.{dead_byte}
use Rattle.desk_rules.specs.Press.{Presses, answered}
use Rattle.desk_rules.proofs.Exact.{given_valid}
use Rattle.desk_rules.proofs.Shown.{text_shown}
use Rattle.desk_telling.specs.Pass.{open_room, typed_text, Passes, passed}
use Rattle.desk_telling.specs.OpenLent.{OpenLent}

module _ {rooms form form' : List ℕ} {key : ℕ} where
  -- what is known of the open field
  pub open_lent : Presses rooms form form' key DEAD_BYTE → OpenLent rooms form
  open_lent (answered l r (dead_byte h k t d) s w) =
      let v = given_valid l.form_long r.given in
      let at = r.given.shows.closed in
      record {
        inside = omega (arith, v.fields.few);
        form_long = l.form_long;
        rooms_long = omega (arith, l.rooms_long);
        short = (v.plain (closed_of form) (omega (arith, v.fields.few))).short;
        sound = r.sound (closed_of form) (omega arith);
      }

  -- its text is empty, or not dead
  own_open : Presses rooms form form' key DEAD_BYTE → OpenText (open_room rooms form) (text_of form (closed_of form))
  own_open (answered l r (dead_byte h k t d) s w) = (given_valid l.form_long r.given).open_kept (omega (arith, r.given.shows.closed))

  -- with the key it is dead
  pub own_dead : Presses rooms form form' key DEAD_BYTE → IsDead (open_room rooms form) (typed_text form key)
  own_dead (answered l r (dead_byte h k t d) s w) = rw (at, text) d
    where
      at : closed_of form ≡ r.given.entry.closed
      at = r.given.shows.closed

      text : text_of form r.given.entry.closed ≡ open_text r.given.entry
      text = text_shown l.form_long r.given.shows r.given.entry.closed (omega (arith, r.given.fields.few)) (omega arith)

module _ {rooms form form' : List ℕ} {key : ℕ} (known : (i : ℕ) → get_or form i 0 < byte_values) (a : Presses rooms form form' key DEAD_BYTE) where
  -- it died at once, or with the key
  own_place_lem : (d : IsDead (open_room rooms form) (typed_text form key)) → (d.place ≡ 0) ⊎ (length (text_of form (closed_of form)) < d.place)
  own_place_lem d = died_last (omega (arith, length-append own (key ∷ []))) d.matched (rw first (own_open a))
    where
      own : List ℕ
      own = text_of form (closed_of form)

      first : take (length own) (own ++ (key ∷ [])) ≡ own
      first = take-append-le (length own) own (key ∷ []) (omega arith) ∙ take_all (length own) own (omega arith)

  -- so what could have stood there keeps its own text completable
  pub own_stands : (d : IsDead (open_room rooms form) (typed_text form key)) (b : ℕ) → b < byte_values
      → Completable (machine (open_room rooms form)) (text_of form (closed_of form) ++ (b ∷ [])) ↔ CouldStand (machine (open_room rooms form)) (typed_text form key) d.place b
  own_stands d = typed_stands (text_of form (closed_of form)) key (text_bytes form (closed_of form) known) (died d.matched).1 (own_place_lem d)

  -- and its marks are what is told
  pub own_passed : {e f : List ℕ} → CanFollow (machine (open_room rooms form)) (text_of form (closed_of form)) f → Passes rooms form key e f DEAD_BYTE
  own_passed g = passed (own_dead a) (marks_moved (own_stands (own_dead a)) g)
