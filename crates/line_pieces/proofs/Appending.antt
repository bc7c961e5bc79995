-- Bytes put one behind the other are put together. Lengths fall out of `place` and `size`; nothing is computed.
--   appended_as: the same bytes, said otherwise
--   appended_text: a text that is copied to the place
--   appended_one: the buffer and the place are determined
--   put_none, put_as, put_join: nothing is put; the same bytes, said otherwise; what is put behind what was put
--   room_hexes, put_hexes, put_shown: a word that is put up to its byte i: there is room for the next, it is put, and there is none
--   room_behind: room for two is, behind the first, room for the second
use Prim.Native.Nat.{ℕ, ◌+◌, ◌-◌, ◌/◌, ◌%◌, ◌≤◌, ◌<◌}
use mathlib.Core.Path.{◌≡◌, refl, sym, ap, subst, ◌∙◌}
use mathlib.Core.List.{List, [], ◌∷◌, ◌++◌, append_assoc, append-nil}
use native.Mathlib.Omega.{arith}
use native.Mathlib.Numerals.{add-one}
use borrow.Rule.Slice.PartMut.{put_mid, post_of, mid_of, mid_len, same_len_mid, drop_put}
use lib.ListN.{length, get_or, take, drop, length-append, take-append-drop}
use lib.Seq.{length-take-le, take_all, take-suc, take_at, drop-drop}
use Rattle.scope.specs.Lines.{hex_digit, hexes, shown}
use Rattle.line_pieces.specs.Appended.{Appended}
use Rattle.line_pieces.specs.Lines.{RoomFor, PutBehind}
use Rattle.line_pieces.specs.declared.Lines.{Lines}
use Rattle.line_pieces.proofs.Numerals.{hexes_join, hexes_length, shown_some, shown_length}

-- ---- in a buffer

-- the same bytes, said otherwise
pub appended_as : {old new k l : List ℕ} {at next : ℕ} → k ≡ l → Appended old new at k next → Appended old new at l next
appended_as {old} {new} {k} {l} {at} {next} e p = subst (λ (t : List ℕ). Appended old new at t next) e p

appended_join : {a b c k l : List ℕ} {at m r : ℕ} → Appended a b at k m → Appended b c m l r → Appended a c at (k ++ l) r
appended_join {a} {b} {c} {k} {l} {at} {m} {r} p q =
    record {
      place = simp length-append (omega arith);
      size = q.size ∙ p.size;
      front = q.front ∙ ap (λ s. s ++ l) p.front ∙ append_assoc (take at a) k l;
      tail = q.tail ∙ sym (shift b) ∙ ap (drop (length l)) p.tail ∙ shift a;
    }
  where
    shift : (s : List ℕ) → drop (length l) (drop m s) ≡ drop r s
    shift s = drop-drop (length l) m s ∙ ap (λ n. drop n s) (sym q.place)

-- a text that is copied to the part from `at` up to `next`
pub appended_text :
    (old text part : List ℕ) (at next : ℕ) → next ≡ at + length text → next ≤ length old → part ≡ text → Appended old (put_mid at (next - at) old part) at text next
appended_text old text part at next e h whole =
    let size : length part ≡ length (mid_of at (next - at) old) = rw whole (omega (arith, mid_len at next old h)) in
    record {
      place = e;
      size = same_len_mid at (next - at) old part size;
      front = rw whole
          (ap (take next) (sym (append_assoc (take at old) text (post_of at (next - at) old)))
          ∙ take_at (take at old ++ text) (post_of at (next - at) old) next (length-append (take at old) text ∙ omega (arith, length-take-le at old (omega arith))));
      tail = drop_put at next old part (omega arith) h (rw whole (omega arith));
    }

-- the buffer and the place are determined
pub appended_one : {old a b l : List ℕ} {at m n : ℕ} → Appended old a at l m → Appended old b at l n → (m ≡ n) × (a ≡ b)
appended_one {old} {a} {b} {l} {at} {m} {n} p q =
    let same : m ≡ n = p.place ∙ sym q.place in (
      same,
      sym (take-append-drop m a) ∙ ap (λ t. t ++ drop m a) (p.front ∙ sym q.front) ∙ ap (λ t. take n b ++ t) (p.tail ∙ ap (λ k. drop k old) same ∙ sym q.tail)
          ∙ take-append-drop n b,
    )

-- ---- behind lines

pub put_none : (a : Lines) → PutBehind [] a a
put_none a = record {
  same_buffer = refl;
  appended = record { place = omega arith; size = refl; front = sym (append-nil (take a.at a.out.now)); tail = refl };
}

pub put_as : {a b : Lines} {k l : List ℕ} → k ≡ l → PutBehind k a b → PutBehind l a b
put_as {a} {b} e p = subst (λ (t : List ℕ). PutBehind t a b) e p

pub put_join : {a b c : Lines} {k l : List ℕ} → PutBehind k a b → PutBehind l b c → PutBehind (k ++ l) a c
put_join p q = record { same_buffer = q.same_buffer ∙ p.same_buffer; appended = appended_join p.appended q.appended }

pub room_behind : {a b : Lines} {k : List ℕ} (l : List ℕ) → PutBehind k a b → RoomFor (length (k ++ l)) a → RoomFor (length l) b
room_behind {k = k} l p h = omega (arith, length-append k l, p.appended.place, p.appended.size)

-- ---- a word

module _ {a b : Lines} (word : List ℕ) (i : ℕ) (p : PutBehind (hexes (take i word)) a b) where
  pub room_hexes : i < length word → RoomFor (length (shown word)) a → RoomFor 2 b
  room_hexes h r =
      omega (arith, p.appended.place, p.appended.size, hexes_length (take i word), length-take-le i word (omega arith), shown_length word (omega arith))

  -- the two digits of the next byte
  pub put_hexes : {c e : Lines} {high low : ℕ} → i < length word → high ≡ hex_digit (get_or word i 0 / 16) → low ≡ hex_digit (get_or word i 0 % 16)
      → PutBehind (high ∷ []) b c → PutBehind (low ∷ []) c e → PutBehind (hexes (take (i + 1) word)) a e
  unfolding hexes
  put_hexes {c} {e} {high} {low} h f g q s =
      let two-more : high ∷ low ∷ [] ≡ hexes (get_or word i 0 ∷ []) = rw (f, g) in
      let one_more : take i word ++ (get_or word i 0 ∷ []) ≡ take (i + 1) word = rw (add-one i, take-suc word i 0) in
      put_as
      (append_assoc (hexes (take i word)) (high ∷ []) (low ∷ []) ∙ ap (λ l. hexes (take i word) ++ l) two-more
      ∙ sym (hexes_join (take i word) (get_or word i 0 ∷ []))
      ∙ ap hexes one_more)
      (put_join (put_join p q) s)

  pub put_shown : 0 < length word → length word ≤ i → PutBehind (shown word) a b
  put_shown some h = put_as (ap hexes (take_all i word h) ∙ sym (shown_some word some)) p
