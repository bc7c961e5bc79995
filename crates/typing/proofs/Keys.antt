-- What a key answers, where everything but the open field was judged. If its room is sound and its text is one that it can have, the form passes the test, so it
-- shows an entry that keys give, with the field's own text; the answer to the key is then the answer to that entry.
--   presses_unplain, lost: the form is none that keys can give
--   takes_back: the answer to 0x08
--   closes, closes_unfinished, closes_dead: the answers to 0x0D, by how the field stands
--   full: the answer to a byte too many
--   types_accepted, types_unfinished, types_dead, types_lost: the answers to a byte, by how the field stands with it
use Prim.Native.Nat.{ℕ, ◌+◌, ◌*◌, ◌-◌, ◌≤◌, ◌<◌}
use mathlib.Core.Path.{◌≡◌, refl, sym, ap, ◌∙◌}
use mathlib.Core.Logic.{◌⊎◌, inl, inr, ⊎_elim}
use mathlib.Core.List.{List, [], ◌∷◌, ◌++◌}
use native.Mathlib.Omega.{arith}
use native.Mathlib.Decide.{ℕ_discrete}
use borrow.Author.Tests.{ne_eqb}
use lib.ListN.{length, get_or, set, take, length-set}
use lib.Seq.{get_or-set_same, get_or-set_other}
use Rattle.std.specs.Prelude.{Option, Some, None}
use Rattle.scope.specs.Answers.{DONE, FORM}
use Rattle.scope.specs.Bytes.{Bytes}
use Rattle.scope.specs.Operations.Buffers.{TailKept}
use Rattle.scope.specs.Limits.{byte_values}
use Rattle.scope.specs.Machines.Room.{Sound}
use Rattle.scope.proofs.Operations.Buffers.{all_kept}
use Rattle.scope.proofs.Machines.Run.{bytes_append}
use Rattle.scope.proofs.Counting.Tests.{split}
use Rattle.entry_form.specs.Text.{BACK, CLOSE, Literal, field_room, IsAccepted, IsDead}
use Rattle.entry_form.specs.EntryForm.{field_limit, text_limit, lengths_at, texts_at, form_bytes, count_of, length_of, text_of}
use Rattle.entry_form.specs.ValidForm.{Plain, OpenText, Valid}
use Rattle.entry_form.proofs.Dead.{accepted_kept}
use Rattle.entry_form.proofs.Texts.{text_length, text_bytes, empty_plain}
use Rattle.standings.specs.declared.Standing.{Standing}
use Rattle.standings.specs.Stand.{Stands, OtherFields}
use Rattle.standings.specs.Stand as stand
use Rattle.standings.proofs.Standings.{accepted_sound, stands_held, inside, text_first, text_held, text_lost}
use Rattle.desk_rules.specs.DeskAnswers.{DEAD_BYTE, UNFINISHED_KEY, LENGTH}
use Rattle.desk_rules.specs.Entry.{Entry, open_text, retyped}
use Rattle.desk_rules.specs.Show.{Shows}
use Rattle.desk_rules.specs.Key.{taken_back, field_closed, not_finished, too_long, dead_byte, byte_taken}
use Rattle.desk_rules.specs.Press.{Ready, Presses, answered}
use Rattle.desk_rules.proofs.Typed.{retyped_here, retyped_there}
use Rattle.desk_rules.proofs.Exact.{ShownEntry, valid_given}
use Rattle.desk_rules.proofs.Press.{refused}
use Rattle.retyping.specs.Retype.{Retyped}

-- ---- another text in the open field

module _ {form form' : List ℕ} {f : ℕ} {t : List ℕ} (h : f < field_limit) (r : Retyped form form' f t) where
  -- the form shows it
  shows_retyped : {n : ℕ} {e : Entry} → Shows n e form → e.closed ≡ f → Shows n (retyped e t) form'
  shows_retyped {n} {e} s z = record {
    count = r.outside 0 (λ x. omega arith) (inl (omega arith)) ∙ s.count;
    closed = r.outside 1 (λ x. omega arith) (inl (omega arith)) ∙ s.closed;
    lengths = λ g k. elim (ℕ_discrete g e.closed) [
      | yes x ↦ rw (x, retyped_here e t, z) r.long
      | no x ↦ rw (retyped_there e t g x) (r.outside (lengths_at + g) (λ y. x (omega arith)) (inl (omega arith)) ∙ s.lengths g k)
    ];
    bytes = λ g i k l. elim (ℕ_discrete g e.closed) [
      | yes x ↦ rw (x, retyped_here e t, z) (r.bytes i l)
      | no x ↦ rw (retyped_there e t g x) (r.outside (texts_at + g * text_limit + i) (λ y. omega arith)
          (⊎_elim (λ y. inl (omega arith)) (λ y. inr (omega arith)) (apart g e.closed x)) ∙ s.bytes g i k l)
    ];
  }
    where
      apart : (a b : ℕ) → (a ≡ b → ⊥) → (a < b) ⊎ (b < a)
      apart a b n = ⊎_elim inl (λ k. inr (omega arith)) (split a b)

  -- and its tail is kept
  tail_retyped : TailKept form_bytes form form'
  tail_retyped = record { size = r.size; outside = λ j k. r.outside j (λ x. omega arith) (inr (omega arith)) }

-- ---- the open field

module _ {rooms form : List ℕ} {f : ℕ} (b : OtherFields rooms form f) where
  -- it is no field that keys lead to
  pub presses_unplain : {key : ℕ} → (Plain form f → ⊥) → Presses rooms form form key FORM
  presses_unplain n = refused b.lent (λ s v. n (v.plain f (inside b)))

  presses_lost : {key : ℕ} → (Sound (field_room rooms f) → OpenText (field_room rooms f) (text_of form f) → ⊥) → Presses rooms form form key FORM
  presses_lost n = refused b.lent (λ s v. n (s f b.is_open) (rw b.at at (v.open_kept (omega (arith, b.at, b.is_open)))))

  module _ (p : Plain form f) (known : (i : ℕ) → get_or form i 0 < byte_values) (s : Sound (field_room rooms f)) (k : OpenText (field_room rooms f) (text_of form f)) where
    -- what holds of the fields before it, of itself and of those after it holds of all
    each : (P : ℕ → Type 0) → ((g : ℕ) → g < f → P g) → P f → (g : ℕ) → (f + 1 ≤ g → P g) → P g
    each P u v g w = elim (split g f) [
      | inl x ↦ u g x
      | inr x ↦ elim (split f g) [ inl y ↦ w (omega arith) | inr y ↦ let e : g ≡ f = omega arith in rw e v ]
    ]

    -- the form passes the test
    valid : Valid rooms form
    valid = record {
      fields = b.fields;
      within = omega (arith, b.at, b.is_open);
      plain = λ g h. each (Plain form) (λ x y. (b.closed x y).plain) p g (λ y. empty_plain (b.later g h y));
      closed = λ g h. (b.closed g (omega (arith, b.at))).accepted;
      open_kept = λ h. rw b.at k;
      later = λ g h j. b.later g h (⊎_elim (λ x. omega (arith, b.at)) (λ x. omega (arith, b.is_open)) j);
    }

    -- so keys can give it
    found : ShownEntry rooms form
    found = valid_given b.lent.form_long known valid

    abbrev ready : Ready rooms form
    ready = record { sound = λ g h. each (λ x. Sound (field_room rooms x)) (λ x y. accepted_sound (b.closed x y).accepted) s g (b.sound g h); given = found.given }

    -- with this entry
    abbrev entry : Entry
    entry = found.given.entry

    closed_at : entry.closed ≡ f
    closed_at = found.closed ∙ b.at

    open_text_lem : open_text entry ≡ text_of form f
    open_text_lem = ap entry.text closed_at ∙ found.texts f (inside b)

    is_open : entry.closed < count_of form
    is_open = omega (arith, closed_at, b.is_open)

    size : length (open_text entry) ≡ length_of form f
    size = ap length open_text_lem ∙ text_length form f b.lent.form_long (inside b) p.short

    -- 0x08
    presses_back : {form' : List ℕ} → Retyped form form' f (take (length_of form f - 1) (text_of form f)) → Presses rooms form form' BACK DONE
    presses_back r =
        answered b.lent ready (taken_back is_open refl) (rw (size, open_text_lem) (shows_retyped (inside b) r found.given.shows closed_at)) (tail_retyped (inside b) r)

    -- 0x0D on an accepted text
    presses_closed : IsAccepted (field_room rooms f) (text_of form f) → Presses rooms form (set form 1 (f + 1)) CLOSE DONE
    presses_closed a = answered b.lent ready (field_closed is_open refl (rw (closed_at, open_text_lem) a)) (record {
      count = get_or-set_other form 1 0 (f + 1) 0 (λ x. omega arith) ∙ shows.count;
      closed = get_or-set_same form 1 (f + 1) 0 (omega (arith, b.lent.form_long)) ∙ rw closed_at refl;
      lengths = λ g h. get_or-set_other form 1 (lengths_at + g) (f + 1) 0 (λ x. omega arith) ∙ shows.lengths g h;
      bytes = λ g i h j. get_or-set_other form 1 (texts_at + g * text_limit + i) (f + 1) 0 (λ x. omega arith) ∙ shows.bytes g i h j;
    }) (record { size = length-set form 1 (f + 1); outside = λ i h. get_or-set_other form 1 i (f + 1) 0 (λ x. omega arith) })
      where
        shows : Shows (count_of form) entry form
        shows = found.given.shows

    -- on any other
    presses_unfinished : (IsAccepted (field_room rooms f) (text_of form f) → ⊥) → Presses rooms form form CLOSE UNFINISHED_KEY
    presses_unfinished n =
        answered b.lent ready (not_finished is_open refl (λ a. n (rw (closed_at, open_text_lem) at a))) found.given.shows (all_kept form form_bytes)

    -- a byte too many
    presses_long : {key : ℕ} → Literal key → length_of form f ≡ text_limit → Presses rooms form form key LENGTH
    presses_long l e = answered b.lent ready (too_long is_open l (omega (arith, size))) found.given.shows (all_kept form form_bytes)

    -- a byte with which the field is dead
    presses_dead : {key : ℕ} → Literal key → length_of form f < text_limit → IsDead (field_room rooms f) (text_of form f ++ (key ∷ [])) → Presses rooms form form key DEAD_BYTE
    presses_dead l h d = answered b.lent ready (dead_byte is_open l (omega (arith, size)) (rw (closed_at, open_text_lem) d)) found.given.shows (all_kept form form_bytes)

    -- a byte that is taken
    presses_taken : {key : ℕ} {form' : List ℕ} → Literal key → length_of form f < text_limit → (IsDead (field_room rooms f) (text_of form f ++ (key ∷ [])) → ⊥)
        → Retyped form form' f (text_of form f ++ (key ∷ [])) → Presses rooms form form' key DONE
    presses_taken {key} l h n r = answered b.lent ready (byte_taken is_open l (omega (arith, size)) (λ d. n (rw (closed_at, open_text_lem) at d)))
        (rw (ne_eqb key BACK l.0, ne_eqb key CLOSE l.1, open_text_lem) (shows_retyped (inside b) r found.given.shows closed_at)) (tail_retyped (inside b) r)

-- ---- by how the field stands

module _ {rooms form : List ℕ} {f : ℕ} (b : OtherFields rooms form f) (p : Plain form f) (known : (i : ℕ) → get_or form i 0 < byte_values) where
  -- the field as it is
  abbrev Stood : Option Standing → Type 0
  Stood s = Stands (field_room rooms f) (text_of form f) (length (text_of form f)) s

  -- where it stands somehow
  held : {s : Standing} → Stood (Some s) → Sound (field_room rooms f) × OpenText (field_room rooms f) (text_of form f)
  held u = text_held (text_bytes form f known) u

  -- no keys lead to the field
  pub lost : {key : ℕ} → Stood None → Presses rooms form form key FORM
  lost u = presses_lost b (text_lost u)

  -- 0x08
  pub takes_back : {form' : List ℕ} {s : Standing} → Stood (Some s) → Retyped form form' f (take (length_of form f - 1) (text_of form f)) → Presses rooms form form' BACK DONE
  takes_back u r = let h = held u in presses_back b p known h.0 h.1 r

  -- 0x0D
  pub closes : Stood (Some Standing.Accepted) → Presses rooms form (set form 1 (f + 1)) CLOSE DONE
  closes u = let h = held u in presses_closed b p known h.0 h.1 (go u)
    where
      go : Stood (Some Standing.Accepted) → IsAccepted (field_room rooms f) (text_of form f)
      go (stand.accepted a) = a

  pub closes_unfinished : Stood (Some Standing.Unfinished) → Presses rooms form form CLOSE UNFINISHED_KEY
  closes_unfinished u = let h = held u in presses_unfinished b p known h.0 h.1 (go u)
    where
      go : Stood (Some Standing.Unfinished) → IsAccepted (field_room rooms f) (text_of form f) → ⊥
      go (stand.unfinished s n d) = n

  pub closes_dead : Stood (Some Standing.Dead) → Presses rooms form form CLOSE UNFINISHED_KEY
  closes_dead u = let h = held u in presses_unfinished b p known h.0 h.1 (go u)
    where
      go : Stood (Some Standing.Dead) → IsAccepted (field_room rooms f) (text_of form f) → ⊥
      go (stand.dead d k) a = accepted_kept (text_bytes form f known) a d

  module _ {key : ℕ} (l : Literal key) where
    -- a full field
    pub full : {s : Standing} → Stood (Some s) → length (text_of form f) ≡ text_limit → Presses rooms form form key LENGTH
    full u e = let h = held u in presses_long b p known h.0 h.1 l (sym (text_length form f b.lent.form_long (inside b) p.short) ∙ e)

    -- the field with a byte after it
    module _ (byte : key < byte_values) (h : (length (text_of form f) ≡ text_limit) → ⊥) where
      abbrev Typed : Option Standing → Type 0
      Typed s = Stands (field_room rooms f) (text_of form f ++ (key ∷ [])) (length (text_of form f)) s

      -- there is room for it
      room_left : length_of form f < text_limit
      room_left = omega (arith, p.short, text_length form f b.lent.form_long (inside b) p.short)

      typed_bytes : Bytes (text_of form f ++ (key ∷ []))
      typed_bytes = bytes_append (text_of form f) (key ∷ []) (text_bytes form f known) (byte, tt)

      -- where it stands somehow, the field as it is is one that keys lead to
      typed_held : {s : Standing} → Typed (Some s) → Sound (field_room rooms f) × OpenText (field_room rooms f) (text_of form f)
      typed_held u = rw (text_first (text_of form f) key) at (stands_held typed_bytes u)

      module _ {form' : List ℕ} (r : Retyped form form' f (text_of form f ++ (key ∷ []))) where
        pub types_accepted : Typed (Some Standing.Accepted) → Presses rooms form form' key DONE
        types_accepted u = let k = typed_held u in presses_taken b p known k.0 k.1 l room_left (go u) r
          where
            go : Typed (Some Standing.Accepted) → IsDead (field_room rooms f) (text_of form f ++ (key ∷ [])) → ⊥
            go (stand.accepted a) = accepted_kept typed_bytes a

        pub types_unfinished : Typed (Some Standing.Unfinished) → Presses rooms form form' key DONE
        types_unfinished u = let k = typed_held u in presses_taken b p known k.0 k.1 l room_left (go u) r
          where
            go : Typed (Some Standing.Unfinished) → IsDead (field_room rooms f) (text_of form f ++ (key ∷ [])) → ⊥
            go (stand.unfinished s n d) = d

      pub types_dead : Typed (Some Standing.Dead) → Presses rooms form form key DEAD_BYTE
      types_dead u = let k = typed_held u in presses_dead b p known k.0 k.1 l room_left (go u)
        where
          go : Typed (Some Standing.Dead) → IsDead (field_room rooms f) (text_of form f ++ (key ∷ []))
          go (stand.dead d k) = d

      pub types_lost : Typed None → Presses rooms form form key FORM
      types_lost u = presses_lost b (go u)
        where
          go : Typed None → Sound (field_room rooms f) → OpenText (field_room rooms f) (text_of form f) → ⊥
          go (stand.lost n) s k = n s (rw (text_first (text_of form f) key) k)
