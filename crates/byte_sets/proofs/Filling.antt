-- The leaves of a reading, from left to right, are the positions of its expression, and hold its bytes. What is held now, with what the leaves that are left will
-- put in, is always what was held at first, with all that is to come.
--   held_by l k q b: one of the leaves l, which have k others before them, puts the byte b into the set number q
--   Flat s i e l: from i on there are the leaves of e, and then l
--   flat: so it is for what is read before the leaves l
--   PutIn t k l m m': of the tree t, k positions are put in, and the others are the leaves l; put_more, put_none: one more is put in; none is left
--   ToFill s i t k m m': so it is for leaves of which the first begins at i; BytesLeft: so it is for every tree of the text
--   BytesToCome s i k m m': so it is for the next leaf at i or after it
--   filling_all, filling_some, filling_room, filling_more, filling_none: all leaves are left; there is one more; there is room for it; it was put in; none is left
use Prim.Native.Nat.{ℕ, ◌+◌, ◌^◌, ◌<◌, ◌≤◌}
use mathlib.Core.Path.{◌≡◌, refl, sym, ap, ◌∙◌}
use mathlib.Core.Bool.{Bool, true, false, ◌&&◌, ◌||◌, and_comm, or-false, or_assoc}
use mathlib.Core.List.{List, [], ◌∷◌}
use native.Mathlib.Nat.{add-zero, add_assoc}
use native.Mathlib.Omega.{arith}
use lib.Bits.{bit_or}
use lib.Dec.{eqb}
use lib.ListN.{length}
use Rattle.scope.specs.Bytes.{ByteSet, byte}
use Rattle.scope.specs.Limits.{byte_values, position_limit}
use Rattle.scope.specs.Operations.Buffers.{TailKept}
use Rattle.scope.specs.Positions.Bits.{has, given, holders}
use Rattle.scope.specs.Text.Grammar.{is_mark, mark_byte, Single, Level, Reads, single, no_byte, no_word, in_group, one_atom, one_mark, one_factor, next_factor, one_branch, next_branch}
use Rattle.scope.specs.Text.Judge.{Pattern}
use Rattle.scope.specs.Text.Re.{Re, alt, cat, size}
use Rattle.scope.specs.Text.Tree.{Leaf, Mark, marking, Tree, set_of, expr}
use Rattle.scope.proofs.Counting.Tests.{same_test, equals}
use Rattle.scope.proofs.Operations.Buffers.{all_kept, tail_then}
use Rattle.scope.proofs.Positions.Bits.{has_or, has_zero, has_pow, has_given}
use Rattle.scope.proofs.Positions.Marked.{size_marked, holders_marked}
use Rattle.scope.proofs.Text.Grammar.{single_on}
use Rattle.scope.proofs.Text.Marks.{marks}
use Rattle.sets.specs.Layout.{byte_sets, held}
use Rattle.leaves.specs.GrownSets.{SetGrown}
use Rattle.leaves.specs.ReadAt.{Some, Took}
use Rattle.leaves.proofs.ByteByByte.{single_in}
use Rattle.leaves.proofs.ClassItems.{some}
use Rattle.byte_sets.specs.LeavesOf.{is_frame, is_blank, LeavesFrom, over, frame, blank, leaf, LeafAt, none_left, here, NextLeaf}
use Rattle.byte_sets.specs.BytesCame.{BytesCame, Fillable, Filled}

unfoldable pub held_by : List Leaf → ℕ → ℕ → ℕ → Bool
held_by [] k q b = false
held_by (x ∷ l) k q b = (eqb q k && set_of x b) || held_by l (k + 1) q b

-- ---- the leaves of a reading

record Flat (s : List ℕ) (i : ℕ) (e : Re) (l : List Leaf) : Type 0 where
  all : List Leaf
  stand : LeavesFrom s i all
  count : length all ≡ size e + length l
  holds : (k q b : ℕ) → held_by all k q b ≡ (has (holders e k b) (q + 1) || held_by l (k + size e) q b)

-- the bytes of one position
one_held : (s : ByteSet) (k q b : ℕ) → (eqb q k && s b) ≡ has (given (s b) (2 ^ (k + 1))) (q + 1)
one_held s k q b = and_comm (eqb q k) (s b) ∙ ap (λ (y : Bool). s b && y) swap ∙ sym (has_given (s b) (2 ^ (k + 1)) (q + 1) ∙ ap (λ (y : Bool). s b && y) (has_pow (k + 1) (q + 1)))
  where
    swap : eqb q k ≡ eqb (k + 1) (q + 1)
    swap = same_test _ _ (λ e. (equals (k + 1) (q + 1)).full (omega (arith, (equals q k).sound e))) (λ e. (equals q k).full (omega (arith, (equals (k + 1) (q + 1)).sound e)))

-- a mark is a byte of the frame
mark_frame : (b : ℕ) (m : Mark) → b ≡ mark_byte m → is_frame b ≡ true
unfolding is_frame
mark_frame b m h = rw ((marks b).full (m, h)) refl

module _ {s : List ℕ} where
  -- an expression without positions
  flat_none : {i : ℕ} {l : List Leaf} (e : Re) → size e ≡ 0 → ((k b : ℕ) → holders e k b ≡ 0) → LeavesFrom s i l → Flat s i e l
  flat_none {l = l} e z h y = record { all = l; stand = y; count = omega arith; holds = λ k q b. rw (h k b, has_zero, z, add-zero) }

  -- the same positions
  flat_as : {i : ℕ} {e : Re} {l : List Leaf} (g : Re) → size g ≡ size e → ((k b : ℕ) → holders g k b ≡ holders e k b) → Flat s i e l → Flat s i g l
  flat_as g z h x = record { all = x.all; stand = x.stand; count = omega (arith, x.count); holds = λ k q b. rw (h k b, z) (x.holds k q b) }

  -- those of two expressions
  flat_both : {i j : ℕ} {e f : Re} {l : List Leaf} (g : Re) → size g ≡ size e + size f → ((k b : ℕ) → holders g k b ≡ bit_or (holders e k b) (holders f (k + size e) b))
      → (y : Flat s j f l) → Flat s i e y.all → Flat s i g l
  flat_both {e = e} {f = f} {l = l} g z h y x = record {
    all = x.all;
    stand = x.stand;
    count = omega (arith, x.count, y.count);
    holds = λ k q b. x.holds k q b ∙ ap (λ (v : Bool). has (holders e k b) (q + 1) || v) (y.holds (k + size e) q b) ∙ rw (h k b, z, has_or, or_assoc, add_assoc);
  }

  -- a byte of the frame before them
  framed : {i : ℕ} {e : Re} {l : List Leaf} → is_frame (byte s i) ≡ true → Flat s (i + 1) e l → Flat s i e l
  framed h x = record { all = x.all; stand = frame h x.stand; count = x.count; holds = x.holds }

  flat : {v : Level} {i j : ℕ} {t : Tree} {l : List Leaf} → Reads s v i j t → LeavesFrom s j l → Flat s i (expr t) l
  unfolding expr holders held_by is_frame is_mark is_blank
  flat {l = l} (single {x = x} r) y = record { all = x ∷ l; stand = leaf r y; count = omega arith; holds = λ k q b. ap (λ (v : Bool). v || held_by l (k + 1) q b) (one_held (set_of x) k q b) }
  flat (no_byte h k) y = flat_none _ refl (λ k b. refl) (blank h (rw k refl) y)
  flat (no_word h k) y = flat_none _ refl (λ k b. refl) (blank h (rw k refl) y)
  flat (in_group h r k) y = framed (rw h refl) (flat r (frame (rw k refl) y))
  flat (one_atom r) y = flat r y
  flat (one_mark {t = t} m r h) y = flat_as (marking m (expr t)) (size_marked m (expr t)) (holders_marked m (expr t)) (flat r (frame (mark_frame _ m h) y))
  flat (one_factor r) y = flat r y
  flat (next_factor {t = t} {u = u} r g) y = let x = flat g y in flat_both (cat (expr t) (expr u)) refl (λ k b. refl) x (flat r x.stand)
  flat (one_branch r) y = flat r y
  flat (next_branch {t = t} {u = u} r h g) y = let x = flat g y in flat_both (alt (expr t) (expr u)) refl (λ k b. refl) x (flat r (frame (rw h refl) x.stand))

-- ---- leaf by leaf

pub record PutIn (t : Tree) (k : ℕ) (l : List Leaf) (m m' : List ℕ) : Type 0 where
  pub count : k + length l ≡ size (expr t)
  pub kept : TailKept byte_sets m m'
  pub bits : (q b : ℕ) → b < byte_values → (held m' q b || held_by l k q b) ≡ (held m q b || has (holders (expr t) 0 b) (q + 1))

pub record ToFill (s : List ℕ) (i : ℕ) (t : Tree) (k : ℕ) (m m' : List ℕ) : Type 0 where
  pub rest : List Leaf
  pub todo : LeafAt s i rest
  pub put : PutIn t k rest m m'

pub record BytesLeft (s : List ℕ) (i k : ℕ) (m m' : List ℕ) : Type 0 where
  pub says : (t : Tree) → Pattern s t → ToFill s i t k m m'

abbrev pub BytesToCome : List ℕ → ℕ → ℕ → List ℕ → List ℕ → Type 0
BytesToCome s i k m m' = (r : ℕ) → NextLeaf s i r → BytesLeft s r k m m'

put_more : {t : Tree} {k : ℕ} {x : Leaf} {l : List Leaf} {m m' m'' : List ℕ} → PutIn t k (x ∷ l) m m' → SetGrown k (set_of x) m' m'' → PutIn t (k + 1) l m m''
unfolding held_by
put_more {k = k} {x = x} {l = l} {m' = m'} p g = record {
  count = omega (arith, p.count);
  kept = tail_then p.kept g.kept;
  bits = λ q b h. ap (λ (y : Bool). y || held_by l (k + 1) q b) (g.bits q b h) ∙ or_assoc (held m' q b) (eqb q k && set_of x b) (held_by l (k + 1) q b) ∙ p.bits q b h;
}

put_none : {t : Tree} {k : ℕ} {m m' : List ℕ} → PutIn t k [] m m' → BytesCame (expr t) 0 m m'
unfolding held_by
put_none {m' = m'} p = record { kept = p.kept; bits = λ q b h. sym (or-false (held m' q b)) ∙ p.bits q b h }

module _ {s : List ℕ} where
  -- the leaf at a place inside of the text
  leaf_some : {i : ℕ} {l : List Leaf} → LeafAt s i l → i < length s → (j : ℕ) × (x : Leaf) × Single s i j x × (0 < length l)
  leaf_some none_left n = absurd (omega arith)
  leaf_some (here x r) n = (_, _, x, omega arith)

  -- it was put in
  leaf_put : {i k r z : ℕ} {t : Tree} {l : List Leaf} {m m' m'' : List ℕ} → LeafAt s i l → i < length s → PutIn t k l m m' → Took Single set_of s i k m' m'' r → NextLeaf s r z → ToFill s z t (k + 1) m m''
  leaf_put none_left n p f a = absurd (omega arith)
  leaf_put (here {j = j} {x = x} {l = l} v w) n p f a = let (e, g) = f.says j x v in record { rest = l; todo = a l (rw e w); put = put_more p g }

  -- at the end of the text there is none
  leaf_over : {i k : ℕ} {t : Tree} {l : List Leaf} {m m' : List ℕ} → LeafAt s i l → length s ≤ i → PutIn t k l m m' → BytesCame (expr t) 0 m m'
  leaf_over none_left n p = put_none p
  leaf_over (here x r) n p = absurd (omega (arith, single_on x, single_in x))

  pub filling_all : (m : List ℕ) → BytesToCome s 0 0 m m
  unfolding held_by
  filling_all m r n = record {
    says = λ t p.
        let x = flat p over in
        record { rest = x.all; todo = n x.all x.stand; put = record { count = omega (arith, x.count); kept = all_kept m byte_sets; bits = λ q b h. ap (λ (v : Bool). held m q b || v) (x.holds 0 q b ∙ or-false _) } };
  }

  module _ {i k : ℕ} {m m' : List ℕ} (f : BytesLeft s i k m m') where
    pub filling_some : Fillable s → i < length s → Some Single s i
    filling_some p n = let (j, x, y, z) = leaf_some (f.says p.tree p.reads).todo n in some Single p.short y (single_on y) (single_in y)

    pub filling_room : Fillable s → i < length s → k < position_limit
    filling_room p n = let u = f.says p.tree p.reads in let (j, x, y, z) = leaf_some u.todo n in omega (arith, u.put.count, p.brief)

    pub filling_more : {m'' : List ℕ} {r : ℕ} → i < length s → Took Single set_of s i k m' m'' r → BytesToCome s r (k + 1) m m''
    filling_more n g z a = record { says = λ t x. let u = f.says t x in leaf_put u.todo n u.put g a }

    pub filling_none : length s ≤ i → Filled s m m'
    filling_none n = record { says = λ t x. let u = f.says t x in leaf_over u.todo n u.put }
