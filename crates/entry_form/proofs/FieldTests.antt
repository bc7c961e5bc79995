-- What a match says of a room and of a text.
--   sound_matched: a room is sound exactly if a match is not refused
--   not_accepted: a field with another answer than Accepted
use Prim.Native.Nat.{ℕ, ◌≤◌, ◌<◌}
use mathlib.Core.Path.{◌≡◌}
use mathlib.Core.Bool.{false}
use mathlib.Core.Logic.{◌⊎◌, inl, inr}
use mathlib.Core.List.{List}
use native.Mathlib.Omega.{arith}
use lib.ListN.{get_or}
use Rattle.scope.specs.Answers.{ROOM, FORM}
use Rattle.answers.specs.Numbers.{matched_number, matched_place}
use Rattle.scope.specs.Limits.{byte_values}
use Rattle.scope.specs.Machines.Room.{Sound}
use Rattle.scope.specs.Operations.Match.{Matches, no_room, no_form, accepted, dead, unfinished}
use Rattle.std.specs.Prelude.{Result, Ok, Err, is_ok}
use Rattle.answers.specs.declared.Matched.{Matched}
use Rattle.answers.specs.declared.Refusal.{Refusal}
use Rattle.answers.proofs.Told.{matched_told}
use Rattle.scope.specs.Bytes.{Bytes}
use Rattle.buffers.specs.Stored.{Decides}
use Rattle.scope.proofs.Operations.Match.{determined}
use Rattle.buffers.proofs.OneMore.{holds, fails}
use Rattle.entry_form.specs.Text.{field_room, IsAccepted}
use Rattle.entry_form.specs.EntryForm.{text_of}
use Rattle.entry_form.proofs.Texts.{text_bytes}

-- a match that is not refused is of a sound room
matched_sound : {room text : List ℕ} {n i : ℕ} → Matches room text n i → (n < ROOM) ⊎ (FORM < n) → Sound room
matched_sound (no_room h) o = absurd (elim o [ inl x ↦ omega arith | inr x ↦ omega arith ])
matched_sound (no_form h k) o = absurd (elim o [ inl x ↦ omega arith | inr x ↦ omega arith ])
matched_sound (accepted s h) o = s
matched_sound (dead s h) o = s
matched_sound (unfinished s h k) o = s

-- one that is refused is not
matched_refused : {room text : List ℕ} {n i : ℕ} → Matches room text n i → ROOM ≤ n → n ≤ FORM → Sound room → ⊥
matched_refused (no_room h) x y s = omega (arith, s.table.long)
matched_refused (no_form h k) x y s = k s
matched_refused (accepted s h) x y t = omega arith
matched_refused (dead s h) x y t = omega arith
matched_refused (unfinished s h k) x y t = omega arith

-- a match decides whether the room is sound
pub sound_matched : {room text : List ℕ} (r : Result Matched Refusal) → Matches room text (matched_number r) (matched_place r) → Decides (is_ok r) (Sound room)
sound_matched (Ok Matched.Accepted) m = holds (matched_sound m (inl (omega arith)))
sound_matched (Ok (Matched.Dead i)) m = holds (matched_sound m (inr (omega arith)))
sound_matched (Ok Matched.Unfinished) m = holds (matched_sound m (inr (omega arith)))
sound_matched (Err Refusal.Room) m = fails (matched_refused m (omega arith) (omega arith))
sound_matched (Err Refusal.Form) m = fails (matched_refused m (omega arith) (omega arith))

-- of an accepted text the answer is Accepted
accepted_only : {room text : List ℕ} (r : Result Matched Refusal) → Bytes text → Matches room text (matched_number r) (matched_place r) → IsAccepted room text → r ≡ Ok Matched.Accepted
accepted_only {room} {text} r g m a = let d = determined room text g m a in matched_told r (Ok Matched.Accepted) d.0 d.1

-- a field whose room and text are matched with another answer is not accepted
pub not_accepted : {room text : List ℕ} (rooms form : List ℕ) (f : ℕ) (r : Result Matched Refusal) → ((i : ℕ) → get_or form i 0 < byte_values) → room ≡ field_room rooms f → text ≡ text_of form f
    → Matches room text (matched_number r) (matched_place r) → (r ≡ Ok Matched.Accepted → ⊥) → Decides false (IsAccepted (field_room rooms f) (text_of form f))
not_accepted rooms form f r known e h m n = fails (λ a. n (accepted_only r (text_bytes form f known) (rw (e, h) at m) a))
