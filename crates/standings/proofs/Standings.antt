-- How a text stands, from one match of it. A text that died within its first bytes was dead before the others came; one that died later was not.
--   died_last: a text whose first bytes an open field can have died at once, or after them
--   stands_unfinished, stands_dead, stands_lost, stands_refused: how a text stands by each answer
--   stands_held: a field whose text stands somehow has a sound room and a text that it can have while it is open
--   text_held, text_lost: whether the field is one that keys lead to
--   text_first: a text is what a byte after it leaves
--   inside: the open field is one of the form's
use Prim.Native.Nat.{ℕ, ◌≤◌, ◌<◌}
use mathlib.Core.Path.{◌≡◌, refl, sym, ap, ◌∙◌}
use mathlib.Core.Logic.{◌⊎◌, inl, inr, ⊎_elim}
use mathlib.Core.List.{List, [], ◌∷◌, ◌++◌}
use native.Mathlib.Omega.{arith}
use lib.ListN.{length, take, drop, take-append-drop}
use lib.Seq.{length-take-le, take_all, take-append-le}
use Rattle.scope.specs.Answers.{ROOM, FORM, DEAD}
use Rattle.scope.specs.Answers as answers
use Rattle.scope.specs.Bytes.{Bytes}
use Rattle.scope.specs.Operations.Match.{Matches, no_room, no_form, accepted, dead, unfinished}
use Rattle.scope.specs.Machines.Room.{Sound}
use Rattle.scope.proofs.Counting.Tests.{split}
use Rattle.scope.proofs.Operations.Match.{determined}
use Rattle.entry_form.specs.EntryForm.{field_limit}
use Rattle.entry_form.specs.Text.{IsAccepted, IsDead}
use Rattle.entry_form.specs.ValidForm.{OpenText}
use Rattle.entry_form.proofs.Dead.{prefix_kept, accepted_kept}
use Rattle.std.specs.Prelude.{Some, None}
use Rattle.answers.specs.declared.Refusal.{Refusal}
use Rattle.answers.specs.Numbers.{refusal_number}
use Rattle.standings.specs.declared.Standing.{Standing}
use Rattle.standings.specs.Stand as stand
use Rattle.standings.specs.Stand.{Stands, OtherFields}

-- a room that was matched is sound
pub accepted_sound : {room text : List ℕ} → IsAccepted room text → Sound room
accepted_sound (accepted s a) = s

dead_sound : {room text : List ℕ} {i : ℕ} → Matches room text DEAD i → Sound room
dead_sound (dead s d) = s

-- of the first k bytes the first i are the first i
take_within : (i k : ℕ) (t : List ℕ) → k ≤ length t → i ≤ k → take i (take k t) ≡ take i t
take_within i k t l h = sym (take-append-le i (take k t) (drop k t) (omega (arith, length-take-le k t l))) ∙ ap (take i) (take-append-drop k t)

module _ {room text : List ℕ} {kept : ℕ} (within : kept ≤ length text) where
  -- a text that died within its first bytes
  dead_before : {i : ℕ} → Matches room text DEAD i → i ≤ kept → IsDead room (take kept text)
  dead_before (dead {i} s d) h = record {
    place = i;
    matched = dead {i = i} s (record {
      inside = omega (arith, length-take-le kept text within);
      dead = rw (take_within i kept text within h) d.dead;
      before = λ j k. rw (take_within j kept text within (omega arith)) (d.before j k);
    });
  }

  -- one that died after them
  dead_after : {i : ℕ} → Matches room text DEAD i → kept < i → IsDead room (take kept text) → ⊥
  dead_after (dead s d) h e = go e.matched
    where
      go : {j : ℕ} → Matches room (take kept text) DEAD j → ⊥
      go (dead {i = j} t k) = let l : j ≤ kept = omega (arith, k.inside, length-take-le kept text within) in
          k.dead (rw (take_within j kept text within l) (d.before j (omega arith)))

  -- one whose first bytes an open field can have died at once, or after them
  pub died_last : {i : ℕ} → Matches room text DEAD i → OpenText room (take kept text) → (i ≡ 0) ⊎ (kept < i)
  died_last {i} m (inl z) = ⊎_elim (λ h. inr (omega (arith, length-take-le kept text within, ap length z))) (λ h. inl (omega arith)) (split 0 i)
  died_last {i} m (inr n) = ⊎_elim inr (λ h. absurd (n (dead_before m h))) (split kept i)

  -- an unfinished text is neither accepted nor dead
  pub stands_unfinished : Bytes text → Matches room text answers.UNFINISHED 0 → Stands room text kept (Some Standing.Unfinished)
  stands_unfinished g m = go m (λ a. omega (arith, (determined room text g a m).0)) (λ d. omega (arith, (determined room text g d.matched m).0))
    where
      go : Matches room text answers.UNFINISHED 0 → (IsAccepted room text → ⊥) → (IsDead room text → ⊥) → Stands room text kept (Some Standing.Unfinished)
      go (unfinished s l n) a d = stand.unfinished s a d

  -- a text with none of them, or that died after them
  pub stands_dead : {i : ℕ} → Matches room text DEAD i → (kept ≡ 0) ⊎ (kept < i) → Stands room text kept (Some Standing.Dead)
  stands_dead {i} m h = stand.dead (record { place = i; matched = m }) (⊎_elim (λ z. inl (rw z refl)) (λ k. inr (dead_after m k)) h)

  -- a text that died within them
  pub stands_lost : {i : ℕ} → Matches room text DEAD i → 0 < kept → i ≤ kept → Stands room text kept None
  stands_lost m h k = stand.lost (λ s. ⊎_elim (λ z. omega (arith, length-take-le kept text within, ap length z)) (λ n. n (dead_before m k)))

  -- a room that is too short, or not sound
  pub stands_refused : (e : Refusal) → Matches room text (refusal_number e) 0 → Stands room text kept None
  stands_refused Refusal.Room m = short m
    where
      short : Matches room text ROOM 0 → Stands room text kept None
      short (no_room h) = stand.lost (λ s k. omega (arith, s.table.long))
  stands_refused Refusal.Form m = unsound m
    where
      unsound : Matches room text FORM 0 → Stands room text kept None
      unsound (no_form h n) = stand.lost (λ s k. n s)

-- ---- how a text stands

-- a field whose text stands somehow has a sound room, and first bytes that it can have while it is open
pub stands_held : {room text : List ℕ} {kept : ℕ} {s : Standing} → Bytes text → Stands room text kept (Some s) → Sound room × OpenText room (take kept text)
stands_held {kept = k} g (stand.accepted a) = (accepted_sound a, inr (prefix_kept k (accepted_kept g a)))
stands_held {kept = k} g (stand.unfinished s a d) = (s, inr (prefix_kept k d))
stands_held g (stand.dead d k) = (dead_sound d.matched, k)

-- a byte after a text leaves it
pub text_first : (text : List ℕ) (key : ℕ) → take (length text) (text ++ (key ∷ [])) ≡ text
text_first text key = take-append-le (length text) text (key ∷ []) (omega arith) ∙ take_all (length text) text (omega arith)

module _ {room text : List ℕ} where
  -- the text as it is
  pub text_held : {s : Standing} → Bytes text → Stands room text (length text) (Some s) → Sound room × OpenText room text
  text_held g u = rw (take_all (length text) text (omega arith)) at (stands_held g u)

  pub text_lost : Stands room text (length text) None → Sound room → OpenText room text → ⊥
  text_lost (stand.lost n) s k = n s (rw (take_all (length text) text (omega arith)) k)

-- ---- the open field

-- it is one of the form's
pub inside : {rooms form : List ℕ} {f : ℕ} → OtherFields rooms form f → f < field_limit
inside b = omega (arith, b.is_open, b.fields.few)
