-- The atoms of one position: the first byte tells the dot, a class, an escape and a literal apart. One reading is every reading (`single-one`).
--   dot_ranges: the dot's bytes are those before the line end and those after it
--   single_dot, single_class, single_byte, single_literal: each was read
--   single_items, single_escape: what can be read of it
--   end_one, end_class, end_byte: where it ends, by one reading; a class; the dot or a literal
use Prim.Native.Nat.{ℕ, ◌+◌, ◌<◌}
use Prim.Native.Char.{code}
use mathlib.Core.Path.{◌≡◌, refl, sym, ◌∙◌}
use mathlib.Core.Bool.{true, ◌||◌, beq}
use mathlib.Core.List.{List}
use native.Mathlib.Omega.{arith}
use Rattle.scope.specs.Bytes.{byte, between}
use Rattle.scope.specs.Text.Grammar.{literal, Escape, Single, a_dot, a_literal, an_escape, a_class}
use Rattle.scope.specs.Limits.{byte_values}
use Rattle.scope.specs.Text.Tree.{Leaf, dot_set, items_set, set_of}
use Rattle.scope.proofs.Counting.Tests.{all_is, same_bool}
use Rattle.scope.proofs.Text.Grammar.{other, escape_head, escape_on, items_on, single_on, single_one}
use Rattle.leaves.specs.GrownSets.{SetGrown}
use Rattle.leaves.specs.ReadAt.{Some, WholeItems, EndsAt, Took}
use Rattle.leaves.proofs.ByteByByte.{escape_in, items_in, single_in}
use Rattle.leaves.proofs.GrownSets.{grown_both, grown_as, between_one}
use Rattle.leaves.proofs.ClassItems.{some, took}

-- the bytes before the line end, and those after it
dot_both : (n : ℕ) → n < byte_values → dot_set n ≡ (between 0x00 0x09 n || between 0x0B 0xFF n)
unfolding between dot_set
dot_both n h = (same_bool _ _).sound ((all_is (λ b. beq (dot_set b) (between 0x00 0x09 b || between 0x0B 0xFF b)) byte_values).sound refl n h)

pub dot_ranges : {k z a b : ℕ} {m m' m'' : List ℕ} → SetGrown k (between z a) m m' → SetGrown k (between b 0xFF) m' m'' → z ≡ 0x00 → a ≡ 0x09 → b ≡ 0x0B → SetGrown k dot_set m m''
dot_ranges x y d e f = grown_both x y (λ n h. rw (d, e, f) (dot_both n h))

-- one reading tells the end of every one
pub end_one : {s : List ℕ} {i r : ℕ} {x : Leaf} → Single s i r x → EndsAt Single s i r
end_one y = record { on = single_on y; inside = single_in y; says = λ j z w. (single_one y w).0 }

module _ {s : List ℕ} {i b : ℕ} (p : Some Single s i) (q : b ≡ byte s i) where
  -- one reading is every reading
  alone : {k r : ℕ} {x : Leaf} {m m' : List ℕ} → Single s i r x → SetGrown k (set_of x) m m' → Took Single set_of s i k m m' r
  alone y m = took p (λ j z w. (single_on w, single_in w)) (λ j z w. let (e, d) = single_one y w in (e, rw d at m))

  pub single_dot : {k : ℕ} {m m' : List ℕ} → b ≡ code "." → SetGrown k dot_set m m' → Took Single set_of s i k m m' (i + 1)
  unfolding set_of
  single_dot e m = alone (a_dot (sym q ∙ e)) m

  class_of : {j : ℕ} {x : Leaf} → Single s i j x → b ≡ code "[" → Some WholeItems s (i + 1)
  unfolding literal
  class_of (a_dot h) e = absurd (omega arith)
  class_of (a_literal h) e = absurd (other literal h refl (sym q ∙ e))
  class_of (an_escape x) e = absurd (omega (arith, escape_head x))
  class_of (a_class h l k) e = some WholeItems p.short (l, k) (items_on l) (items_in l)

  pub single_items : b ≡ code "[" → Some WholeItems s (i + 1)
  single_items = class_of p.reads

  pub single_class : {k r : ℕ} {m m' : List ℕ} → b ≡ code "[" → Took WholeItems items_set s (i + 1) k m m' r → Took Single set_of s i k m m' (r + 1)
  unfolding set_of
  single_class e t =
      let w = single_items e in
      let (z, m) = t.says w.end w.what w.reads in
      rw z (alone (a_class (sym q ∙ e) w.reads.0 w.reads.1) m)

  byte_of : {j : ℕ} {x : Leaf} → Single s i j x → b ≡ code "\\" → Some Escape s i
  unfolding literal
  byte_of (a_dot h) e = absurd (omega arith)
  byte_of (a_literal h) e = absurd (other literal h refl (sym q ∙ e))
  byte_of (an_escape x) e = some Escape p.short x (escape_on x) (escape_in x)
  byte_of (a_class h l k) e = absurd (omega arith)

  pub single_escape : b ≡ code "\\" → Some Escape s i
  single_escape = byte_of p.reads

  pub single_byte : {k r c : ℕ} {m m' : List ℕ} → Escape s i r c → SetGrown k (between c c) m m' → Took Single set_of s i k m m' r
  unfolding set_of
  single_byte {c = c} x m = alone (an_escape x) (grown_as m (λ n h. between_one c n))

  literal_of : {j : ℕ} {x : Leaf} → Single s i j x → (b ≡ code "." → ⊥) → (b ≡ code "[" → ⊥) → (b ≡ code "\\" → ⊥) → literal b ≡ true
  literal_of (a_dot h) d c e = absurd (d (q ∙ h))
  literal_of (a_literal h) d c e = rw q h
  literal_of (an_escape x) d c e = absurd (e (q ∙ escape_head x))
  literal_of (a_class h l k) d c e = absurd (c (q ∙ h))

  pub single_literal : {k : ℕ} {m m' : List ℕ} → (b ≡ code "." → ⊥) → (b ≡ code "[" → ⊥) → (b ≡ code "\\" → ⊥) → SetGrown k (between b b) m m' → Took Single set_of s i k m m' (i + 1)
  unfolding set_of
  single_literal d c e m = let h = rw q at (literal_of p.reads d c e) in alone (a_literal h) (grown_as m (λ n h. between_one b n ∙ rw q refl))

  -- ---- its end

  pub end_class : {r : ℕ} → b ≡ code "[" → EndsAt WholeItems s (i + 1) r → EndsAt Single s i (r + 1)
  end_class e t = let w = single_items e in rw (t.says w.end w.what w.reads) (end_one (a_class (sym q ∙ e) w.reads.0 w.reads.1))

  byte_end : {j : ℕ} {x : Leaf} → (b ≡ code "[" → ⊥) → (b ≡ code "\\" → ⊥) → Single s i j x → i + 1 ≡ j
  byte_end c e (a_dot h) = refl
  byte_end c e (a_literal h) = refl
  byte_end c e (an_escape x) = absurd (e (q ∙ escape_head x))
  byte_end c e (a_class h l k) = absurd (c (q ∙ h))

  pub end_byte : (b ≡ code "[" → ⊥) → (b ≡ code "\\" → ⊥) → EndsAt Single s i (i + 1)
  end_byte c e = rw (byte_end c e p.reads) (end_one p.reads)
