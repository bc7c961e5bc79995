-- The test of a form is exact. The entry of a form that passes it has the form's own texts; it is good, so keys give it, and what keys give is good.
--   given_valid: what these machines and keys can give passes
--   ShownEntry, valid_given: what passes can be given, with the entry that the form shows
--   given_exact: both
use Prim.Native.Nat.{ℕ, ◌≤◌, ◌<◌}
use mathlib.Core.Path.{◌≡◌, refl, sym, ap, ◌∙◌}
use mathlib.Core.Bool.{cond}
use mathlib.Core.Logic.{◌↔◌, ◌⊎◌, inl, inr, ⊎_elim}
use mathlib.Core.List.{List, []}
use native.Mathlib.Omega.{arith}
use lib.Dec.{ltb}
use lib.ListN.{length, get_or, get_or-eq_default}
use Rattle.scope.specs.Bytes.{Bytes}
use Rattle.scope.specs.Limits.{byte_values}
use Rattle.scope.proofs.Counting.Tests.{split, below, not_below}
use Rattle.entry_form.specs.EntryForm.{field_limit, text_limit, form_bytes, count_of, closed_of, length_of, entry_byte, text_of}
use Rattle.entry_form.specs.ValidForm.{Plain, Empty, Valid}
use Rattle.entry_form.proofs.Texts.{text_length, text_byte_lem, text_bytes}
use Rattle.desk_rules.specs.Entry.{Entry}
use Rattle.desk_rules.specs.Show.{Shows}
use Rattle.desk_rules.specs.Press.{CanGive}
use Rattle.desk_rules.proofs.Good.{Good, Literals, gives_good, good_gives}
use Rattle.desk_rules.proofs.Shown.{text_shown}

-- ---- what can be given passes

module _ {n : ℕ} {e : Entry} {form : List ℕ} (s : Shows n e form) where
  -- past the end of its text a field has zeros
  zero_after : (f i : ℕ) → f < field_limit → i < text_limit → length_of form f ≤ i → entry_byte form f i ≡ 0
  zero_after f i h j k = s.bytes f i h j ∙ get_or-eq_default (e.text f) 0 (omega (arith, s.lengths f h))

  -- a field that shows a good text passes
  plain_shown : {rooms : List ℕ} → Good rooms n e → (f : ℕ) → f < field_limit → Plain form f
  plain_shown g f h = record {
    short = omega (arith, s.lengths f h, g.short f);
    literal = λ i k. rw (s.bytes f i h (omega (arith, s.lengths f h, g.short f))) (g.literal f i (omega (arith, s.lengths f h)));
    zero = λ i j k. zero_after f i h j k;
  }

  -- and so does one with no text
  empty_shown : (f : ℕ) → f < field_limit → e.text f ≡ [] → Empty form f
  empty_shown f h z = let none : length_of form f ≡ 0 = s.lengths f h ∙ ap length z in record { none = none; zero = λ i j. zero_after f i h j (omega arith) }

-- what these machines and keys can give passes
pub given_valid : {rooms form : List ℕ} → form_bytes ≤ length form → CanGive rooms form → Valid rooms form
given_valid {rooms} {form} long c = record {
  fields = c.fields;
  within = omega (arith, s.closed, g.within);
  plain = plain_shown s g;
  closed = λ f h. let k : f < c.entry.closed = omega (arith, s.closed) in rw (text f (omega (arith, g.within, c.fields.few))) (g.closed f k);
  open_kept = λ h. let k : c.entry.closed < count_of form = omega (arith, s.closed) in rw (s.closed, text c.entry.closed (omega (arith, c.fields.few))) (g.open_kept k);
  later = λ f h j. empty_shown s f h (g.later f (⊎_elim (λ k. inl (omega (arith, s.closed))) inr j));
}
  where
    s : Shows (count_of form) c.entry form
    s = c.shows

    g : Good rooms (count_of form) c.entry
    g = gives_good c.gives

    text : (f : ℕ) → f < field_limit → text_of form f ≡ c.entry.text f
    text f h = text_shown long s f h (g.short f)

-- ---- what passes can be given

-- the entry that a form has
abbrev entry_of : List ℕ → Entry
entry_of form = record { closed = closed_of form; text = λ f. cond (ltb f field_limit) (text_of form f) [] }

-- a field of the form has its text
entry_text : (form : List ℕ) (f : ℕ) → f < field_limit → (entry_of form).text f ≡ text_of form f
entry_text form f h = rw ((below f field_limit).full h)

-- there are no more
entry_none : (form : List ℕ) (f : ℕ) → field_limit ≤ f → (entry_of form).text f ≡ []
entry_none form f h = rw (not_below f field_limit h)

-- what holds of the texts of the form, and of the empty text, holds of all the entry's texts
entry_each : (P : List ℕ → Type 0) (form : List ℕ) → ((f : ℕ) → f < field_limit → P (text_of form f)) → P [] → (f : ℕ) → P ((entry_of form).text f)
entry_each P form g z f = ⊎_elim (λ h. rw (entry_text form f h) (g f h)) (λ h. rw (entry_none form f h) z) (split f field_limit)

-- the entry of a form that passes the test, and that keys give it
pub record ShownEntry (rooms form : List ℕ) : Type 0 where
  pub given : CanGive rooms form
  pub closed : given.entry.closed ≡ closed_of form
  pub texts : (f : ℕ) → f < field_limit → given.entry.text f ≡ text_of form f

module _ {rooms form : List ℕ} (long : form_bytes ≤ length form) (known : (i : ℕ) → get_or form i 0 < byte_values) (v : Valid rooms form) where
  -- a text is as long as the form says
  size : (f : ℕ) → f < field_limit → length (text_of form f) ≡ length_of form f
  size f h = text_length form f long h (v.plain f h).short

  -- past its end it is read as 0
  past : (f i : ℕ) → f < field_limit → length_of form f ≤ i → get_or (text_of form f) i 0 ≡ 0
  past f i h k = get_or-eq_default (text_of form f) 0 (omega (arith, size f h))

  -- it has no keys in it
  bytes_literal : (f : ℕ) → f < field_limit → Literals (text_of form f)
  bytes_literal f h i k = let l : i < length_of form f = omega (arith, size f h) in rw (text_byte_lem form f i l) ((v.plain f h).literal i l)

  -- fields after the open one have no text
  entry_later : (f : ℕ) → (closed_of form < f) ⊎ (count_of form ≤ f) → (entry_of form).text f ≡ []
  entry_later f j = ⊎_elim (λ h. entry_text form f h ∙ rw (v.later f h j).none) (entry_none form f) (split f field_limit)

  -- the entry of the form is good
  entry_good : Good rooms (count_of form) (entry_of form)
  entry_good = record {
    within = v.within;
    closed = λ f h. rw (entry_text form f (omega (arith, v.within, v.fields.few))) (v.closed f h);
    open_kept = λ h. rw (entry_text form (closed_of form) (omega (arith, v.fields.few))) (v.open_kept h);
    later = entry_later;
    short = entry_each (λ t. length t ≤ text_limit) form (λ f h. omega (arith, size f h, (v.plain f h).short)) (omega arith);
    bytes = entry_each Bytes form (λ f h. text_bytes form f known) tt;
    literal = entry_each Literals form bytes_literal (λ i h. absurd (omega arith));
  }

  -- and the form shows it
  entry_shown : Shows (count_of form) (entry_of form) form
  entry_shown = record {
    count = refl;
    closed = refl;
    lengths = λ f h. rw (entry_text form f h) (sym (size f h));
    bytes = λ f i h j. rw (entry_text form f h) (⊎_elim (λ k. sym (text_byte_lem form f i k)) (λ k. (v.plain f h).zero i j k ∙ sym (past f i h k)) (split i (length_of form f)));
  }

  -- what passes can be given, with that entry
  pub valid_given : ShownEntry rooms form
  valid_given = record {
    given = record { entry = entry_of form; fields = v.fields; gives = good_gives entry_good; shows = entry_shown };
    closed = refl;
    texts = entry_text form;
  }

-- the test is exact
pub given_exact : {rooms form : List ℕ} → form_bytes ≤ length form → ((i : ℕ) → get_or form i 0 < byte_values) → CanGive rooms form ↔ Valid rooms form
given_exact long known = (given_valid long, λ v. (valid_given long known v).given)
