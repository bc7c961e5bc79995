-- What was entered, with no buffer in it. 02: "After any keys the field's text is what the history of accepted keys gives."
--   Entry: how many fields are closed, and the text of each
--   nothing: nothing is entered yet
--   open_text e: the text of the open field, the first that is not closed
--   typed e key: the entry after a key that was accepted
--   history keys: the entry after accepted keys
use Rattle.std.specs.Prelude.{ℕ, ◌+◌, ◌-◌, cond, List, [], ◌∷◌, ◌++◌, eqb, length, take}
use Rattle.scope.specs.Machines.Machine.{walk}
use Rattle.entry_form.specs.Text.{BACK, CLOSE}

-- "fields closed", and "texts": of every field, those that the form has not are empty
pub record Entry : Type 0 where
  pub closed : ℕ
  pub text : ℕ → List ℕ

-- of an opened form
abbrev pub nothing : Entry
nothing = record { closed = 0; text = λ f. [] }

-- fields are filled in their order
abbrev pub open_text : Entry → List ℕ
open_text e = e.text e.closed

-- the entry with another text in its open field
abbrev pub retyped : Entry → List ℕ → Entry
retyped e t = record { closed = e.closed; text = λ f. cond (eqb f e.closed) t (e.text f) }

-- "takes back the last byte and does nothing on an empty field"; "closes .. and moves on"; "Bytes come singly."
abbrev pub typed : Entry → ℕ → Entry
typed e key =
    cond (eqb key BACK) (retyped e (take (length (open_text e) - 1) (open_text e)))
    (cond (eqb key CLOSE) (record { closed = e.closed + 1; text = e.text }) (retyped e (open_text e ++ (key ∷ []))))

-- "the history of accepted keys"
abbrev pub history : List ℕ → Entry
history keys = walk typed nothing keys
