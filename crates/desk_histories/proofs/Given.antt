-- A form that can be given is one that keys lead to. Keys give its entry, and each entry on the way has a form; a key that is accepted leads from the form of one entry to the
-- form of the next, and a refused key is left out.
--   written: a buffer with given bytes at its start
--   shown: a buffer with the form of an entry
--   keys_more: one key after others
--   key_leads, keys_lead: one key, and keys, lead to the form of an entry
--   given_keys: from the opened form, in the same buffer, keys lead to the form, and each is accepted
--   given_by_keys: so a form is one that sound machines and keys can give exactly if such keys lead to it
use Prim.Native.Nat.{ℕ, zero, suc, ◌+◌, ◌-◌, ◌*◌, ◌/◌, ◌%◌, ◌≤◌, ◌<◌}
use mathlib.Core.Path.{◌≡◌, refl, sym, subst, ◌∙◌}
use mathlib.Core.Bool.{cond}
use mathlib.Core.Logic.{◌↔◌}
use mathlib.Core.List.{List, [], ◌∷◌, ◌++◌}
use native.Mathlib.Omega.{arith}
use native.Mathlib.Numerals.{add-one}
use native.Mathlib.Decide.{ℕ_discrete}
use borrow.Author.Tests.{eq-eqb}
use lib.Dec.{ltb}
use lib.ListN.{length, get_or, set}
use Rattle.scope.specs.Answers.{DONE}
use Rattle.scope.specs.Operations.Buffers.{Written, TailKept}
use Rattle.scope.specs.Bytes.{Bytes}
use Rattle.scope.proofs.Operations.Buffers.{all_kept}
use Rattle.scope.proofs.Machines.Run.{bytes_append}
use Rattle.scope.proofs.Counting.Tests.{below, not_below}
use Rattle.buffers.proofs.OneMore.{written_start, written_more}
use Rattle.entry_form.specs.EntryForm.{field_limit, text_limit, lengths_at, texts_at, form_bytes, count_of, Fields, DeskLent}
use Rattle.desk_rules.specs.Entry.{Entry, nothing, typed}
use Rattle.desk_rules.specs.Show.{Shows}
use Rattle.desk_rules.specs.Key.{Judges, Gives, pressed}
use Rattle.desk_rules.specs.Key as key
use Rattle.desk_rules.specs.Open.{AllSound, opened}
use Rattle.desk_rules.specs.Press.{Ready, Presses, answered}
use Rattle.desk_histories.specs.History.{KeysPressed, none, accepted, refused, ByKeys}
use Rattle.desk_rules.proofs.Typed.{refused_same}
use Rattle.desk_histories.proofs.One.{agree_self, shown_one}
use Rattle.desk_histories.proofs.History.{served_none, served_keys}

-- ---- a buffer with a form

-- a buffer whose first n bytes are f 0 .. f (n - 1)
written : (f : ℕ → ℕ) (n : ℕ) (old : List ℕ) → n ≤ length old → (new : List ℕ) × Written n f old new
written f zero old h = (old, written_start f old)
written f (suc n) old h = let (new, w) = written f n old (omega arith) in (set new n (f n), rw (add-one n) at (written_more f n (f n) old new h refl w))

-- the byte i of the form of n fields with an entry
abbrev text_byte : Entry → ℕ → ℕ
text_byte e j = get_or (e.text (j / text_limit)) (j % text_limit) 0

abbrev shown_byte : ℕ → Entry → ℕ → ℕ
shown_byte n e i =
    cond (ltb i 1) n (cond (ltb i lengths_at) e.closed (cond (ltb i texts_at) (length (e.text (i - lengths_at))) (text_byte e (i - texts_at))))

-- a buffer with the form of an entry
shown : (n : ℕ) (e : Entry) (old : List ℕ) → form_bytes ≤ length old → (form : List ℕ) × Shows n e form × TailKept form_bytes old form
shown n e old h =
    let (form, w) = written (shown_byte n e) form_bytes old h in (
      form,
      record {
        count = w.inside 0 (omega arith);
        closed = w.inside 1 (omega arith);
        lengths = λ f k. w.inside (lengths_at + f) (omega arith) ∙ length_at f k;
        bytes = λ f i k l. w.inside (texts_at + f * text_limit + i) (omega arith) ∙ byte_at f i k l;
      },
      record { size = w.size; outside = w.outside },
    )
  where
    length_at : (f : ℕ) → f < field_limit → shown_byte n e (lengths_at + f) ≡ length (e.text f)
    length_at f k =
        let z : lengths_at + f - lengths_at ≡ f = omega arith in
        rw (not_below (lengths_at + f) 1 (omega arith), not_below (lengths_at + f) lengths_at (omega arith), (below (lengths_at + f) texts_at).full (omega arith), z) refl

    byte_at : (f i : ℕ) → f < field_limit → i < text_limit → shown_byte n e (texts_at + f * text_limit + i) ≡ get_or (e.text f) i 0
    byte_at f i k l =
        let j = texts_at + f * text_limit + i in
        let x : (texts_at + f * text_limit + i - texts_at) / text_limit ≡ f = omega arith in
        let y : (texts_at + f * text_limit + i - texts_at) % text_limit ≡ i = omega arith in
        rw (not_below j 1 (omega arith), not_below j lengths_at (omega arith), not_below j texts_at (omega arith), x, y) refl

-- ---- keys

module _ {rooms : List ℕ} where
  -- one key after others
  keys_more : {a b c keys kept : List ℕ} {k : ℕ} → KeysPressed rooms a keys kept b → Presses rooms b c k DONE → KeysPressed rooms a (keys ++ (k ∷ [])) (kept ++ (k ∷ [])) c
  keys_more none q = accepted q none
  keys_more (accepted p z) q = accepted p (keys_more z q)
  keys_more (refused p d z) q = refused p d (keys_more z q)

module _ {rooms base : List ℕ} {n : ℕ} (lent : DeskLent n rooms base) (fields : Fields n) (sound : AllSound rooms n) where
  -- an accepted key leads from the form of an entry to the form of the next
  key_leads : {e : Entry} {form form' : List ℕ} {k : ℕ} → Gives rooms n e → Judges rooms n e k DONE → Shows n e form → TailKept form_bytes base form
      → Shows n (typed e k) form' → TailKept form_bytes base form' → Presses rooms form form' k DONE
  key_leads {e} {form} {form'} {k} g j s t s' t' = answered {number = DONE}
      (record { form_long = omega (arith, lent.form_long, t.size); rooms_long = rw s.count lent.rooms_long })
      (record { sound = rw s.count sound; given = record { entry = e; fields = rw s.count fields; gives = rw s.count g; shows = rw s.count s } })
      (rw s.count j) (rw s.count s') (record { size = t'.size ∙ sym t.size; outside = λ i h. t'.outside i h ∙ sym (t.outside i h) })

  -- the opened form
  first : (form : List ℕ) × Shows n nothing form × TailKept form_bytes base form
  first = shown n nothing base lent.form_long

  -- keys lead to the form of an entry that they give
  keys_lead : {e : Entry} → Gives rooms n e → (form : List ℕ) → Shows n e form → TailKept form_bytes base form → (keys : List ℕ) × Bytes keys × KeysPressed rooms first.0 keys keys form
  keys_lead key.opened form s t = ([], tt, subst (λ (f : List ℕ). KeysPressed rooms first.0 [] [] f) (shown_one (agree_self nothing) first.1 first.2 s t) none)
  keys_lead (pressed {e} {key = k} {number} g b j) form s t = elim (ℕ_discrete number DONE) [
    | yes z ↦ (
        let (old, u, v) = shown n e base lent.form_long in
        let (keys, x, p) = keys_lead g old u v in
        (keys ++ (k ∷ []), bytes_append keys (k ∷ []) x (b, tt), keys_more p (key_leads g (rw z at j) u v (rw (eq-eqb number DONE z) at s) t))
        )
    | no d ↦ keys_lead g form (rw (refused_same e k number d) at s) t
  ]

-- for each form that can be given there are keys from an opened form
pub given_keys : {rooms form : List ℕ} → DeskLent (count_of form) rooms form → Ready rooms form → ByKeys rooms form
given_keys {rooms} {form} lent r =
    let g = r.given in
    let f = first lent g.fields r.sound in
    let (keys, b, p) = keys_lead lent g.fields r.sound g.gives form g.shows (all_kept form form_bytes) in
    record { first = f.0; keys = keys; bytes = b; opens = opened g.fields lent r.sound f.1 f.2; presses = p }

-- and only for these
pub given_by_keys : {rooms form : List ℕ} → DeskLent (count_of form) rooms form → Ready rooms form ↔ ByKeys rooms form
given_by_keys lent = (given_keys lent, λ b. (served_keys b.bytes b.presses (served_none b.opens)).ready)
