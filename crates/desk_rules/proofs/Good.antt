-- The invariant of entries: it holds of nothing, every key keeps it, and where it holds the bytes of the texts, one by one, with CLOSE after each closed one, are
-- keys that lead there, since no prefix of a text is Dead.
--   Literals t: no byte of t is a key
--   Good rooms n e: closed texts are accepted, the open one is empty or not Dead, the later ones are empty; all are short, of bytes, and have no keys in them
--   gives_good: what keys give is good
--   good_gives: keys give what is good
use Prim.Native.Nat.{ℕ, zero, suc, ◌+◌, ◌-◌, ◌≤◌, ◌<◌}
use mathlib.Core.Path.{◌≡◌, refl, sym, ◌∙◌, subst, fun_ext}
use mathlib.Core.Logic.{◌⊎◌, inl, inr, ⊎_elim}
use mathlib.Core.List.{List, [], ◌∷◌, ◌++◌}
use native.Mathlib.Omega.{arith}
use native.Mathlib.Numerals.{add-one}
use borrow.Author.Count.{below_more}
use borrow.Author.Tests.{ne_eqb}
use lib.Dec.{eqb}
use lib.ListN.{length, get_or, take, length-append, length-take, get_or-append}
use lib.Seq.{take-nil, take-length, take-suc, get_or-take, get_or-append_seam}
use Rattle.scope.specs.Bytes.{Bytes}
use Rattle.scope.specs.Limits.{byte_values}
use Rattle.scope.proofs.Counting.Tests.{split}
use Rattle.scope.proofs.Machines.Run.{bytes_append, bytes_take}
use Rattle.entry_form.specs.Text.{BACK, CLOSE, Literal, field_room, IsAccepted, IsDead}
use Rattle.entry_form.specs.EntryForm.{text_limit}
use Rattle.entry_form.specs.ValidForm.{OpenText}
use Rattle.entry_form.proofs.Dead.{prefix_kept, accepted_kept}
use Rattle.desk_rules.specs.Entry.{Entry, nothing, open_text, retyped}
use Rattle.desk_rules.specs.Key.{entry_after, Gives, opened, pressed}
use Rattle.desk_rules.specs.Key.{Judges, all_closed, taken_back, field_closed, not_finished, too_long, dead_byte, byte_taken}
use Rattle.desk_rules.proofs.Typed.{retyped_here, retyped_there, either}

-- no byte of a text is a key
abbrev pub Literals : List ℕ → Type 0
Literals t = (i : ℕ) → i < length t → Literal (get_or t i 0)

pub record Good (rooms : List ℕ) (n : ℕ) (e : Entry) : Type 0 where
  pub within : e.closed ≤ n
  pub closed : (f : ℕ) → f < e.closed → IsAccepted (field_room rooms f) (e.text f)
  pub open_kept : e.closed < n → OpenText (field_room rooms e.closed) (open_text e)
  pub later : (f : ℕ) → (e.closed < f) ⊎ (n ≤ f) → e.text f ≡ []
  pub short : (f : ℕ) → length (e.text f) ≤ text_limit
  pub bytes : (f : ℕ) → Bytes (e.text f)
  pub literal : (f : ℕ) → Literals (e.text f)

module _ {rooms : List ℕ} {n : ℕ} where
  -- the open field can have any text that is as the open one must be
  good_retyped : (e : Entry) → Good rooms n e → e.closed < n → (t : List ℕ) → OpenText (field_room rooms e.closed) t → length t ≤ text_limit → Bytes t → Literals t
      → Good rooms n (retyped e t)
  good_retyped e g h t k l b i = record {
    within = g.within;
    closed = λ f j. rw (retyped_there e t f (λ z. omega arith)) (g.closed f j);
    open_kept = λ j. rw (retyped_here e t) k;
    later = λ f j. retyped_there e t f (λ z. ⊎_elim (λ x. omega arith) (λ x. omega arith) j) ∙ g.later f j;
    short = λ f. either (λ s. length s ≤ text_limit) (eqb f e.closed) t (e.text f) l (g.short f);
    bytes = λ f. either Bytes (eqb f e.closed) t (e.text f) b (g.bytes f);
    literal = λ f. either Literals (eqb f e.closed) t (e.text f) i (g.literal f);
  }

-- ---- prefixes, and one byte more

-- a prefix has no keys in it
literals_take : (n : ℕ) (t : List ℕ) → Literals t → Literals (take n t)
literals_take n t l i h = rw (get_or-take n t i 0 (omega (arith, length-take n t))) (l i (omega (arith, length-take n t)))

-- and is not Dead, or empty, where the text is so
kept_take : (room : List ℕ) (i : ℕ) (t : List ℕ) → OpenText room t → OpenText room (take i t)
kept_take room i t (inl e) = inl (rw e (take-nil i))
kept_take room i t (inr n) = inr (prefix_kept i n)

-- a byte more that is no key
literals_more : (t : List ℕ) (key : ℕ) → Literals t → Literal key → Literals (t ++ (key ∷ []))
literals_more t key l k i h = elim (split i (length t)) [
  | inl j ↦ rw (get_or-append t (key ∷ []) 0 i j) (l i j)
  | inr j ↦ let e : i ≡ length t = omega (arith, length-append t (key ∷ [])) in rw (e, get_or-append_seam t key [] 0) k
]

-- ---- what keys give

module _ {rooms : List ℕ} {n : ℕ} where
  -- a key keeps it
  good_after : {e : Entry} {key number : ℕ} → Good rooms n e → key < byte_values → Judges rooms n e key number → Good rooms n (entry_after e key number)
  good_after g b (all_closed h) = g
  good_after {e} g b (taken_back h k) =
      let t = open_text e in
      let i = length t - 1 in
      rw k (good_retyped e g h (take i t) (kept_take (field_room rooms e.closed) i t (g.open_kept h)) (omega (arith, length-take i t, g.short e.closed))
      (bytes_take i t (g.bytes e.closed)) (literals_take i t (g.literal e.closed)))
  good_after {e} g b (field_closed h k a) = rw k (record {
    within = omega arith;
    closed = below_more (λ (f : ℕ). IsAccepted (field_room rooms f) (e.text f)) e.closed g.closed a;
    open_kept = λ j. inl (g.later (e.closed + 1) (inl (omega arith)));
    later = λ f j. g.later f (⊎_elim (λ x. inl (omega arith)) inr j);
    short = g.short;
    bytes = g.bytes;
    literal = g.literal;
  })
  good_after g b (not_finished h k a) = g
  good_after g b (too_long h k l) = g
  good_after g b (dead_byte h k l d) = g
  good_after {e} {key} g b (byte_taken h k l d) =
      let t = open_text e in
      rw (ne_eqb key BACK k.0, ne_eqb key CLOSE k.1) (good_retyped e g h (t ++ (key ∷ [])) (inr d) (omega (arith, length-append t (key ∷ [])))
      (bytes_append t (key ∷ []) (g.bytes e.closed) (b, tt)) (literals_more t key (g.literal e.closed) k))

  -- where nothing is entered it holds
  good_nothing : Good rooms n nothing
  good_nothing = record {
    within = omega arith;
    closed = λ f h. absurd (omega arith);
    open_kept = λ h. inl refl;
    later = λ f h. refl;
    short = λ f. omega arith;
    bytes = λ f. tt;
    literal = λ f i h. absurd (omega arith);
  }

  -- what keys give is good
  pub gives_good : {e : Entry} → Gives rooms n e → Good rooms n e
  gives_good opened = good_nothing
  gives_good (pressed g b j) = good_after (gives_good g) b j

-- ---- keys that give it

-- each element of a string of bytes, and the 0 past its end
bytes_at : (t : List ℕ) → Bytes t → (i : ℕ) → get_or t i 0 < byte_values
bytes_at [] g i = omega arith
bytes_at (b ∷ t) g zero = g.0
bytes_at (b ∷ t) g (suc i) = bytes_at t g.1 i

-- keys gave the texts of the first c fields of e, and the first k bytes of the next
record KeysGave (rooms : List ℕ) (n : ℕ) (e : Entry) (c k : ℕ) : Type 0 where
  texts : ℕ → List ℕ
  gives : Gives rooms n (record { closed = c; text = texts })
  before : (f : ℕ) → f < c → texts f ≡ e.text f
  here : texts c ≡ take k (e.text c)
  later : (f : ℕ) → c < f → texts f ≡ []

module _ {rooms : List ℕ} {n : ℕ} {e : Entry} (g : Good rooms n e) where
  -- no key
  made_none : KeysGave rooms n e 0 0
  made_none = record { texts = λ f. []; gives = opened; before = λ f h. absurd (omega arith); here = refl; later = λ f h. refl }

  -- one byte more
  made_byte : (c k : ℕ) → c < n → k < length (e.text c) → (IsDead (field_room rooms c) (take (suc k) (e.text c)) → ⊥) → KeysGave rooms n e c k → KeysGave rooms n e c (suc k)
  made_byte c k h l d m =
      let t = e.text c in
      let key = get_or t k 0 in
      let new = m.texts c ++ (key ∷ []) in
      let one = take-suc t k 0 l in
      let lit = g.literal c k l in
      let size : length (m.texts c) < text_limit = rw m.here (omega (arith, length-take k t, g.short c)) in
      let kept : IsDead (field_room rooms c) new → ⊥ = rw (m.here, ← one) d in
      let now : Entry = record { closed = c; text = m.texts } in
      record {
        texts = (retyped now new).text;
        gives = rw (ne_eqb key BACK lit.0, ne_eqb key CLOSE lit.1) at (pressed m.gives (bytes_at t (g.bytes c) k) (byte_taken h lit size kept));
        before = λ f j. retyped_there now new f (λ z. omega arith) ∙ m.before f j;
        here = retyped_here now new ∙ rw m.here (sym one);
        later = λ f j. retyped_there now new f (λ z. omega arith) ∙ m.later f j;
      }

  -- k bytes
  made_bytes : (c k : ℕ) → c < n → k ≤ length (e.text c) → (IsDead (field_room rooms c) (e.text c) → ⊥) → KeysGave rooms n e c 0 → KeysGave rooms n e c k
  made_bytes c zero h l d m = m
  made_bytes c (suc k) h l d m = made_byte c k h l (prefix_kept (suc k) d) (made_bytes c k h (omega arith) d m)

  -- CLOSE after the whole text
  made_close : (c : ℕ) → c < e.closed → KeysGave rooms n e c (length (e.text c)) → KeysGave rooms n e (suc c) 0
  made_close c h m =
      let whole : m.texts c ≡ e.text c = m.here ∙ take-length (e.text c) in
      record {
        texts = m.texts;
        gives = rw (add-one c) at (pressed {key = CLOSE} m.gives (omega arith) (field_closed (omega (arith, g.within)) refl (rw whole (g.closed c h))));
        before = λ f j. ⊎_elim (m.before f) (λ k. let z : f ≡ c = omega arith in rw z whole) (split f c);
        here = m.later (suc c) (omega arith);
        later = λ f j. m.later f (omega arith);
      }

  -- c fields
  made_fields : (c : ℕ) → c ≤ e.closed → KeysGave rooms n e c 0
  made_fields zero h = made_none
  made_fields (suc c) h =
      made_close c h (made_bytes c (length (e.text c)) (omega (arith, g.within)) (omega arith) (accepted_kept (g.bytes c) (g.closed c h)) (made_fields c (omega arith)))

  -- the whole of e
  made_all : (k : ℕ) → take k (open_text e) ≡ open_text e → KeysGave rooms n e e.closed k → Gives rooms n e
  made_all k z m = subst (Gives rooms n) (λ i. record { closed = e.closed; text = fun_ext same i }) m.gives
    where
      same : (f : ℕ) → m.texts f ≡ e.text f
      same f = elim (split f e.closed) [
        | inl h ↦ m.before f h
        | inr h ↦ elim (split e.closed f) [
          | inl j ↦ m.later f j ∙ sym (g.later f (inl j))
          | inr j ↦ let q : f ≡ e.closed = omega arith in rw q (m.here ∙ z)
        ]
      ]

  -- keys give what is good: the bytes of each text, one by one, and CLOSE after each closed one
  pub good_gives : Gives rooms n e
  good_gives = ⊎_elim begun (λ h. empty (g.later e.closed (inr h))) (split e.closed n)
    where
      start : KeysGave rooms n e e.closed 0
      start = made_fields e.closed (omega arith)

      empty : open_text e ≡ [] → Gives rooms n e
      empty z = made_all 0 (sym z) start

      begun : e.closed < n → Gives rooms n e
      begun h =
          let k = length (open_text e) in
          ⊎_elim empty (λ d. made_all k (take-length (open_text e)) (made_bytes e.closed k h (omega arith) d start)) (g.open_kept h)
