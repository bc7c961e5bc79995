-- What a key does to an entry, by the matcher's answers alone.
--   Judges rooms n e key: the answer to a key, where n fields have the entry e
--   entry_after e key number: the entry then
--   Gives rooms n e: some keys from an opened form lead to the entry e
use Rattle.std.specs.Prelude.{ℕ, ◌<◌, ◌≤◌, ◌≡◌, cond, List, [], ◌∷◌, ◌++◌, eqb, length}
use Rattle.scope.specs.Answers.{DONE}
use Rattle.scope.specs.Limits.{byte_values}
use Rattle.entry_form.specs.Text.{BACK, CLOSE, Literal, field_room, IsAccepted, IsDead}
use Rattle.entry_form.specs.EntryForm.{text_limit}
use Rattle.desk_rules.specs.DeskAnswers.{DEAD_BYTE, UNFINISHED_KEY, LENGTH, CLOSED}
use Rattle.desk_rules.specs.Entry.{Entry, nothing, open_text, typed}

module _ (rooms : List ℕ) (n : ℕ) (e : Entry) (key : ℕ) where
  pub data Judges : ℕ → Type 0 where
    -- "13 CLOSED after the last field"
    all_closed : e.closed ≡ n → Judges CLOSED
    -- "0x08 takes back the last byte and does nothing on an empty field"
    taken_back : e.closed < n → key ≡ BACK → Judges DONE
    -- "0x0D closes an Accepted field and moves on"
    field_closed : e.closed < n → key ≡ CLOSE → IsAccepted (field_room rooms e.closed) (open_text e) → Judges DONE
    -- "11 UNFINISHED on 0x0D unless Accepted"
    not_finished : e.closed < n → key ≡ CLOSE → (IsAccepted (field_room rooms e.closed) (open_text e) → ⊥) → Judges UNFINISHED_KEY
    -- "12 LENGTH at a 129th byte"
    too_long : e.closed < n → Literal key → text_limit ≤ length (open_text e) → Judges LENGTH
    -- "10 DEAD BYTE if the field with that byte is Dead"
    dead_byte : e.closed < n → Literal key → length (open_text e) < text_limit → IsDead (field_room rooms e.closed) (open_text e ++ (key ∷ [])) → Judges DEAD_BYTE
    byte_taken : e.closed < n → Literal key → length (open_text e) < text_limit → (IsDead (field_room rooms e.closed) (open_text e ++ (key ∷ [])) → ⊥) → Judges DONE

-- "A byte that would make the field Dead is refused, never corrected."
abbrev pub entry_after : Entry → ℕ → ℕ → Entry
entry_after e key number = cond (eqb number DONE) (typed e key) e

-- an opened form has nothing entered, and a key, accepted or refused, leads on
module _ (rooms : List ℕ) (n : ℕ) where
  pub data Gives : Entry → Type 0 where
    opened : Gives nothing
    pressed : {e : Entry} {key number : ℕ} → Gives e → key < byte_values → Judges rooms n e key number → Gives (entry_after e key number)
