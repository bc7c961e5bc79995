-- What a form holds after any keys: the form of the history of those that were accepted. Each accepted key leads from the form of an entry to the form of the
-- entry with that key typed, and a refused key leaves the form.
--   history_shows: after keys from an opened form, the form is that of the history of the accepted keys
--   history_texts: so each text, and the number of closed fields, is what that history gives
--   no_trace: the accepted keys alone lead to the same form
--   Served, served_none, served_keys: after keys from an opened form the machines are sound, and keys can give the form
--   never_form: after keys from an opened form no key is answered by ROOM or FORM
use Prim.Native.Nat.{ℕ, ◌-◌, ◌≤◌, ◌<◌}
use mathlib.Core.Path.{◌≡◌, ◌∙◌}
use mathlib.Core.List.{List, [], ◌∷◌, ◌++◌}
use native.Mathlib.Omega.{arith}
use borrow.Author.Tests.{ne_eqb}
use lib.Dec.{eqb}
use lib.ListN.{length, take, length-append, length-take}
use Rattle.scope.specs.Answers.{DONE, ROOM, FORM}
use Rattle.scope.specs.Operations.Buffers.{TailKept}
use Rattle.scope.specs.Bytes.{Bytes}
use Rattle.scope.specs.Limits.{byte_values}
use Rattle.scope.specs.Machines.Machine.{walk}
use Rattle.entry_form.specs.Text.{BACK, CLOSE}
use Rattle.entry_form.specs.EntryForm.{field_limit, text_limit, form_bytes, count_of, closed_of, text_of, DeskLent}
use Rattle.desk_rules.specs.Entry.{Entry, nothing, open_text, retyped, typed, history}
use Rattle.desk_rules.specs.Show.{Shows}
use Rattle.desk_rules.specs.Key.{Judges, all_closed, taken_back, field_closed, not_finished, too_long, dead_byte, byte_taken, entry_after}
use Rattle.desk_rules.specs.Key as key
use Rattle.desk_rules.specs.Open.{Opens, opened}
use Rattle.desk_rules.specs.Press.{Ready, Presses, no_room, no_form, answered}
use Rattle.desk_histories.specs.History.{KeysPressed, none, accepted, refused}
use Rattle.desk_rules.proofs.Typed.{either}
use Rattle.desk_rules.proofs.Shown.{text_shown}
use Rattle.desk_histories.proofs.One.{shows_moved}
use Rattle.desk_histories.proofs.Presses.{judges_moved, after_one, given_one, refused_stays}

-- ---- texts stay short

-- each text has at most 128 bytes
abbrev Short : Entry → Type 0
Short e = (f : ℕ) → length (e.text f) ≤ text_limit

-- another text in the open field
short_retyped : (e : Entry) (t : List ℕ) → Short e → length t ≤ text_limit → Short (retyped e t)
short_retyped e t s h f = either (λ u. length u ≤ text_limit) (eqb f e.closed) t (e.text f) h (s f)

-- an accepted key
short_typed : {rooms : List ℕ} {n : ℕ} {e : Entry} {key : ℕ} → Judges rooms n e key DONE → Short e → Short (typed e key)
short_typed {e = e} (taken_back h k) s =
    rw k (short_retyped e (take (length (open_text e) - 1) (open_text e)) s (omega (arith, s e.closed, length-take (length (open_text e) - 1) (open_text e))))
short_typed (field_closed h k m) s = rw k s
short_typed {e = e} {key} (byte_taken h k l m) s =
    rw (ne_eqb key BACK k.0, ne_eqb key CLOSE k.1) (short_retyped e (open_text e ++ (key ∷ [])) s (omega (arith, length-append (open_text e) (key ∷ []))))

-- ---- keys

-- the form, made of the old one, is that of the entry
record FormHas (n : ℕ) (old form : List ℕ) (e : Entry) : Type 0 where
  shows : Shows n e form
  tail : TailKept form_bytes old form
  short : Short e

module _ {rooms : List ℕ} where
  -- an opened form
  holds_none : {n : ℕ} {form form' : List ℕ} → Opens n rooms form form' DONE → FormHas n form form' nothing
  holds_none (opened f l s e k) = record { shows = e; tail = k; short = λ f. omega arith }

  -- an accepted key
  holds_key : {n : ℕ} {old form form' : List ℕ} {e : Entry} {key : ℕ} → Presses rooms form form' key DONE → FormHas n old form e → FormHas n old form' (typed e key)
  holds_key (answered l r u s k) h =
      let few = r.given.fields.few in
      let g = given_one r h.shows in
      record {
        shows = rw h.shows.count at (shows_moved (after_one few g u) s);
        tail = record { size = k.size ∙ h.tail.size; outside = λ i j. k.outside i j ∙ h.tail.outside i j };
        short = short_typed (judges_moved few g u) h.short;
      }

  -- any keys
  holds_keys : {n : ℕ} {old form form' keys kept : List ℕ} {e : Entry} → KeysPressed rooms form keys kept form' → FormHas n old form e → FormHas n old form' (walk typed e kept)
  holds_keys none h = h
  holds_keys (accepted p q) h = holds_keys q (holds_key p h)
  holds_keys (refused p d q) h = holds_keys q (rw (refused_stays p d) h)

  module _ {n : ℕ} {form form₁ form₂ keys kept : List ℕ} (o : Opens n rooms form form₁ DONE) (p : KeysPressed rooms form₁ keys kept form₂) where
    -- the form is that of the history
    pub history_shows : Shows n (history kept) form₂ × TailKept form_bytes form form₂
    history_shows = let h = holds_keys p (holds_none o) in (h.shows, h.tail)

    -- and so are its texts
    pub history_texts : (closed_of form₂ ≡ (history kept).closed) × ((f : ℕ) → f < field_limit → text_of form₂ f ≡ (history kept).text f)
    history_texts = let h = holds_keys p (holds_none o) in (h.shows.closed, λ f k. text_shown (long o h) h.shows f k (h.short f))
      where
        long : Opens n rooms form form₁ DONE → FormHas n form form₂ (history kept) → form_bytes ≤ length form₂
        long (opened f l s e k) h = omega (arith, l.form_long, h.tail.size)

  -- a refused key leaves no trace
  pub no_trace : {form form' keys kept : List ℕ} → KeysPressed rooms form keys kept form' → KeysPressed rooms form kept kept form'
  no_trace none = none
  no_trace (accepted p q) = accepted p (no_trace q)
  no_trace (refused p d q) = rw (refused_stays p d) at (no_trace q)

-- ---- what is never answered

-- a key on a form that keys can give has an answer of its own
judges_own : {rooms : List ℕ} {n : ℕ} {e : Entry} {key number : ℕ} → Judges rooms n e key number → (number ≡ ROOM → ⊥) × (number ≡ FORM → ⊥)
judges_own (all_closed h) = (λ z. omega arith, λ z. omega arith)
judges_own (taken_back h k) = (λ z. omega arith, λ z. omega arith)
judges_own (field_closed h k m) = (λ z. omega arith, λ z. omega arith)
judges_own (not_finished h k m) = (λ z. omega arith, λ z. omega arith)
judges_own (too_long h k l) = (λ z. omega arith, λ z. omega arith)
judges_own (dead_byte h k l m) = (λ z. omega arith, λ z. omega arith)
judges_own (byte_taken h k l m) = (λ z. omega arith, λ z. omega arith)

-- what is lent is long enough, the machines are sound, and keys can give the form
pub record Served (rooms form : List ℕ) : Type 0 where
  pub lent : DeskLent (count_of form) rooms form
  pub ready : Ready rooms form

module _ {rooms : List ℕ} where
  -- so it is with an opened form
  pub served_none : {n : ℕ} {form form' : List ℕ} → Opens n rooms form form' DONE → Served rooms form'
  served_none (opened f l s e k) = record {
    lent = record { form_long = omega (arith, l.form_long, k.size); rooms_long = rw e.count l.rooms_long };
    ready = record { sound = rw e.count s; given = record { entry = nothing; fields = rw e.count f; gives = key.opened; shows = rw e.count e } };
  }

  -- and after each key
  served_key : {form form' : List ℕ} {key number : ℕ} → key < byte_values → Presses rooms form form' key number → Served rooms form → Served rooms form'
  served_key b (no_room h k) v = rw k v
  served_key b (no_form l h k) v = rw k v
  served_key {key = x} {number} b (answered l r u s k) v = record {
    lent = record { form_long = omega (arith, l.form_long, k.size); rooms_long = rw s.count l.rooms_long };
    ready = record {
      sound = rw s.count r.sound;
      given = record { entry = entry_after r.given.entry x number; fields = rw s.count r.given.fields; gives = rw s.count (key.pressed r.given.gives b u); shows = rw s.count s };
    };
  }

  -- and after any keys
  pub served_keys : {form form' keys kept : List ℕ} → Bytes keys → KeysPressed rooms form keys kept form' → Served rooms form → Served rooms form'
  served_keys g none v = v
  served_keys g (accepted p q) v = served_keys g.1 q (served_key g.0 p v)
  served_keys g (refused p d q) v = served_keys g.1 q (served_key g.0 p v)

  -- after any keys from an opened form no key is answered by ROOM or FORM
  pub never_form : {n : ℕ} {form form₁ form₂ form₃ keys kept : List ℕ} {key number : ℕ} → Opens n rooms form form₁ DONE → Bytes keys
      → KeysPressed rooms form₁ keys kept form₂ → Presses rooms form₂ form₃ key number → (number ≡ ROOM → ⊥) × (number ≡ FORM → ⊥)
  never_form o g p q = own (served_keys g p (served_none o)) q
    where
      own : {form form' : List ℕ} {key number : ℕ} → Served rooms form → Presses rooms form form' key number → (number ≡ ROOM → ⊥) × (number ≡ FORM → ⊥)
      own v (no_room h k) = absurd (h v.lent)
      own v (no_form l h k) = absurd (h v.ready)
      own v (answered l r u s k) = judges_own u
