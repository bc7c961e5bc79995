-- A key is determined: a form shows one entry, and the answer to a key is found by questions with yes or no, asked in one order. Whether a text is accepted, or
-- Dead, is not decided here: two numbers that are equal either way are equal.
--   judges_moved: a key has the same answers to entries that agree
--   after_one: entries that agree do so after the key
--   given_one: the entry by which a key judges a form agrees with each that the form shows
--   determined: two results of one key are equal, with every byte of the form
--   refused_stays: a refusal changes nothing
use Prim.Native.Nat.{ℕ, ◌≤◌, ◌<◌}
use mathlib.Core.Path.{◌≡◌, refl, sym, ap, ◌∙◌}
use mathlib.Core.Logic.{inl, inr}
use mathlib.Core.List.{List, [], ◌∷◌, ◌++◌}
use native.Mathlib.Omega.{arith}
use native.Mathlib.Decide.{ℕ_discrete, dec_lt}
use lib.Dec.{eqb}
use lib.ListN.{length}
use Rattle.scope.specs.Answers.{DONE}
use Rattle.scope.proofs.Counting.Tests.{which}
use Rattle.scope.proofs.Operations.Buffers.{all_kept}
use Rattle.entry_form.specs.Text.{BACK, CLOSE, Literal, field_room, IsAccepted, IsDead}
use Rattle.entry_form.specs.EntryForm.{field_limit, text_limit, form_bytes}
use Rattle.desk_rules.specs.DeskAnswers.{DEAD_BYTE, UNFINISHED_KEY, LENGTH, CLOSED}
use Rattle.desk_rules.specs.Entry.{Entry, open_text, retyped, typed}
use Rattle.desk_rules.specs.Show.{Shows}
use Rattle.desk_rules.specs.Key.{Judges, all_closed, taken_back, field_closed, not_finished, too_long, dead_byte, byte_taken, entry_after}
use Rattle.desk_rules.specs.Press.{Ready, Presses, no_room, no_form, answered}
use Rattle.desk_rules.proofs.Typed.{refused_same}
use Rattle.desk_rules.proofs.Good.{gives_good}
use Rattle.desk_histories.proofs.One.{SameEntry, agree_self, entry_one, shown_one}

-- ---- one entry

-- the first number if the question is answered by yes, else the second
pick : {A : Type 0} → Dec A → ℕ → ℕ → ℕ
pick (yes a) i j = i
pick (no n) i j = j

-- a yes
picked : {A : Type 0} (d : Dec A) {i : ℕ} (j : ℕ) {k : ℕ} → A → k ≡ i → k ≡ pick d i j
unfolding pick
picked (yes a) j h e = e
picked (no n) j h e = absurd (n h)

-- a no
passed : {A : Type 0} (d : Dec A) (i : ℕ) {j k : ℕ} → (A → ⊥) → k ≡ j → k ≡ pick d i j
unfolding pick
passed (yes a) i h e = absurd (h a)
passed (no n) i h e = e

-- two numbers that are equal whichever way a question is answered are equal
either_way : {A : Type 0} {i j : ℕ} → (Dec A → i ≡ j) → i ≡ j
either_way {i = i} {j} f = elim (ℕ_discrete i j) [ yes e ↦ e | no n ↦ absurd (n (f (no (λ a. n (f (yes a)))))) ]

module _ (rooms : List ℕ) (n : ℕ) (e : Entry) (key : ℕ) where
  module _ (a : Dec (IsAccepted (field_room rooms e.closed) (open_text e))) (d : Dec (IsDead (field_room rooms e.closed) (open_text e ++ (key ∷ [])))) where
    -- the answer to a byte of text, to a key on an open field, and to any key
    abbrev of_byte : ℕ
    of_byte = pick (dec_lt (length (open_text e)) text_limit) (pick d DEAD_BYTE DONE) LENGTH

    abbrev of_key : ℕ
    of_key = pick (ℕ_discrete key BACK) DONE (pick (ℕ_discrete key CLOSE) (pick a DONE UNFINISHED_KEY) of_byte)

    abbrev answer : ℕ
    answer = pick (ℕ_discrete e.closed n) CLOSED of_key

    -- a byte of text
    literal : {i : ℕ} → e.closed < n → Literal key → i ≡ of_byte → i ≡ answer
    literal h k e = passed _ _ (λ z. omega arith) (passed _ _ k.0 (passed _ _ k.1 e))

    -- CLOSE
    closing : {i : ℕ} → e.closed < n → key ≡ CLOSE → i ≡ pick a DONE UNFINISHED_KEY → i ≡ answer
    closing h k e = passed _ _ (λ z. omega arith) (passed _ _ (λ z. omega arith) (picked _ _ k e))

    -- the answer is that one
    answers : {i : ℕ} → Judges rooms n e key i → i ≡ answer
    answers (all_closed h) = picked _ _ h refl
    answers (taken_back h k) = passed _ _ (λ z. omega arith) (picked _ _ k refl)
    answers (field_closed h k m) = closing h k (picked _ _ m refl)
    answers (not_finished h k m) = closing h k (passed _ _ m refl)
    answers (too_long h k l) = literal h k (passed _ _ (λ z. omega arith) refl)
    answers (dead_byte h k l m) = literal h k (picked _ _ l (picked _ _ m refl))
    answers (byte_taken h k l m) = literal h k (picked _ _ l (passed _ _ m refl))

  -- so there is one
  answer_one : {i j : ℕ} → Judges rooms n e key i → Judges rooms n e key j → i ≡ j
  answer_one u v = either_way (λ a. either_way (λ d. answers a d u ∙ sym (answers a d v)))

-- ---- entries that agree

-- they have the same open text
open_one : {e e' : Entry} → SameEntry e e' → e.closed < field_limit → open_text e ≡ open_text e'
open_one {e} {e'} g h = g.texts e.closed h ∙ ap e'.text g.closed

module _ {n : ℕ} {e e' : Entry} (few : n ≤ field_limit) (g : SameEntry e e') where
  -- a field of one is open, and so it is in the other
  there : e.closed < n → e'.closed < n
  there h = omega (arith, g.closed)

  -- with the same text
  texts : e.closed < n → open_text e ≡ open_text e'
  texts h = open_one g (omega arith)

  -- they have the same answers
  pub judges_moved : {rooms : List ℕ} {key i : ℕ} → Judges rooms n e key i → Judges rooms n e' key i
  judges_moved (all_closed h) = all_closed (sym g.closed ∙ h)
  judges_moved (taken_back h k) = taken_back (there h) k
  judges_moved (field_closed h k m) = field_closed (there h) k (rw (← texts h, ← g.closed) m)
  judges_moved (not_finished h k m) = not_finished (there h) k (λ z. m (rw (texts h, g.closed) z))
  judges_moved (too_long h k l) = too_long (there h) k (rw (← texts h) l)
  judges_moved (dead_byte h k l m) = dead_byte (there h) k (rw (← texts h) l) (rw (← texts h, ← g.closed) m)
  judges_moved (byte_taken h k l m) = byte_taken (there h) k (rw (← texts h) l) (λ z. m (rw (texts h, g.closed) z))

  -- a key has one answer to them
  judges_one : {rooms : List ℕ} {key i j : ℕ} → Judges rooms n e key i → Judges rooms n e' key j → i ≡ j
  judges_one {rooms} {key} u v = answer_one rooms n e' key (judges_moved u) v

-- another text in the open field
retyped_one : {e e' : Entry} {t t' : List ℕ} → SameEntry e e' → t ≡ t' → SameEntry (retyped e t) (retyped e' t')
retyped_one g z = record { closed = g.closed; texts = λ f h. rw (g.closed, g.texts f h, z) }

-- an accepted key
typed_one : {e e' : Entry} → SameEntry e e' → e.closed < field_limit → (key : ℕ) → SameEntry (typed e key) (typed e' key)
typed_one {e} {e'} g h key = elim (which (eqb key BACK)) [
  | inl b ↦ rw b (retyped_one g (rw t))
  | inr b ↦ elim (which (eqb key CLOSE)) [
    | inl c ↦ rw (b, c) (record { closed = rw g.closed; texts = g.texts })
    | inr c ↦ rw (b, c) (retyped_one g (rw t))
  ]
]
  where
    t : open_text e ≡ open_text e'
    t = open_one g h

-- they agree after the key
pub after_one : {rooms : List ℕ} {n : ℕ} {e e' : Entry} {key i : ℕ} → n ≤ field_limit → SameEntry e e' → Judges rooms n e key i → SameEntry (entry_after e key i) (entry_after e' key i)
after_one few g (all_closed h) = g
after_one {key = key} few g (taken_back h k) = typed_one g (omega arith) key
after_one {key = key} few g (field_closed h k m) = typed_one g (omega arith) key
after_one few g (not_finished h k m) = g
after_one few g (too_long h k l) = g
after_one few g (dead_byte h k l m) = g
after_one {key = key} few g (byte_taken h k l m) = typed_one g (omega arith) key

-- ---- keys on a form

module _ {rooms form : List ℕ} where
  -- the entry of a form that keys can give
  pub given_one : {n : ℕ} {e : Entry} (r : Ready rooms form) → Shows n e form → SameEntry r.given.entry e
  given_one r s = entry_one (gives_good r.given.gives).short r.given.shows s

  -- two results of one key: the numbers, the forms
  pub determined : {a b : List ℕ} {key i j : ℕ} → Presses rooms form a key i → Presses rooms form b key j → (i ≡ j) × (a ≡ b)
  determined (no_room h k) (no_room h' k') = (refl, k ∙ sym k')
  determined (no_room h k) (no_form l' h' k') = absurd (h l')
  determined (no_room h k) (answered l' r' u' s' k') = absurd (h l')
  determined (no_form l h k) (no_room h' k') = absurd (h' l)
  determined (no_form l h k) (no_form l' h' k') = (refl, k ∙ sym k')
  determined (no_form l h k) (answered l' r' u' s' k') = absurd (h r')
  determined (answered l r u s k) (no_room h' k') = absurd (h' l)
  determined (answered l r u s k) (no_form l' h' k') = absurd (h' r)
  determined (answered l r u s k) (answered l' r' u' s' k') =
      let few = r.given.fields.few in
      let g = given_one r r'.given.shows in
      let e = judges_one few g u u' in
      (e, shown_one (after_one few g u) s k (rw (← e) at s') k')

  -- a refusal changes nothing
  pub refused_stays : {form' : List ℕ} {key number : ℕ} → Presses rooms form form' key number → (number ≡ DONE → ⊥) → form' ≡ form
  refused_stays (no_room h k) d = k
  refused_stays (no_form l h k) d = k
  refused_stays {key = key} {number} (answered l r u s k) d =
      shown_one (agree_self r.given.entry) (rw (refused_same r.given.entry key number d) at s) k r.given.shows (all_kept form form_bytes)
