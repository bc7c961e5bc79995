-- The grammar moves on, stays inside the text, and an atom of one position is read in one way only. An atom's first byte decides its rule; a class goes
-- on with `-` exactly after a low end, since a bare dash is no byte of a class.
--   escape_on .. reads_on: each family moves on
--   other: a byte that passes a test is none that fails it
--   escape_head, class_byte_head, item_head, items_head: the first byte of an escape, and of what stands in a class
--   escape_one .. single_one: what begins at a place is read in one way
--   single_group, single_back: an atom of one position opens no group, and its escape is of a byte
use Prim.Native.Nat.{ℕ, ◌+◌, ◌<◌}
use mathlib.Core.Path.{◌≡◌, refl, sym, ap, subst, ◌∙◌}
use mathlib.Core.Bool.{Bool, true, false, false≢true}
use mathlib.Core.List.{List}
use native.Mathlib.Omega.{arith}
use Rattle.scope.specs.Bytes.{byte}
use Rattle.scope.specs.Text.Tree.{Item, lone, Leaf, letter, class, Tree}
use Rattle.scope.specs.Text.Grammar.{literal, escapable, class_literal, Escape, plain, coded, ClassByte, bare, escaped, OneItem, one_byte, low_high, Items, last_item, more_items, Single, a_dot, a_literal, an_escape, a_class, Level, Reads, single, no_byte, no_word, in_group, one_atom, one_mark, one_factor, next_factor, one_branch, next_branch}

module _ {s : List ℕ} where
  pub escape_on : {i j b : ℕ} → Escape s i j b → i < j
  escape_on (plain h k) = omega arith
  escape_on (coded h k l m) = omega arith

  pub class_byte_on : {i j b : ℕ} → ClassByte s i j b → i < j
  class_byte_on (bare h) = omega arith
  class_byte_on (escaped e) = escape_on e

  pub item_on : {i j : ℕ} {x : Item} → OneItem s i j x → i < j
  item_on (one_byte c) = class_byte_on c
  item_on (low_high c h d) = omega (arith, class_byte_on c, class_byte_on d)

  pub items_on : {i j : ℕ} {l : List Item} → Items s i j l → i < j
  items_on (last_item x) = item_on x
  items_on (more_items x l) = omega (arith, item_on x, items_on l)

  pub single_on : {i j : ℕ} {x : Leaf} → Single s i j x → i < j
  single_on (a_dot h) = omega arith
  single_on (a_literal h) = omega arith
  single_on (an_escape e) = escape_on e
  single_on (a_class h l k) = omega (arith, items_on l)

  pub reads_on : {l : Level} {i j : ℕ} {t : Tree} → Reads s l i j t → i < j
  reads_on (single x) = single_on x
  reads_on (no_byte h k) = omega arith
  reads_on (no_word h k) = omega arith
  reads_on (in_group h r k) = omega (arith, reads_on r)
  reads_on (one_atom r) = reads_on r
  reads_on (one_mark m r h) = omega (arith, reads_on r)
  reads_on (one_factor r) = reads_on r
  reads_on (next_factor r q) = omega (arith, reads_on r, reads_on q)
  reads_on (one_branch r) = reads_on r
  reads_on (next_branch r h q) = omega (arith, reads_on r, reads_on q)

-- ---- one reading of an atom of one position

-- a byte that passes a test is none that fails it
pub other : (f : ℕ → Bool) {n c : ℕ} → f n ≡ true → f c ≡ false → n ≡ c → ⊥
other f h k e = false≢true (sym k ∙ ap f (sym e) ∙ h)

module _ {s : List ℕ} where
  -- an escape begins with a backslash
  pub escape_head : {i j b : ℕ} → Escape s i j b → byte s i ≡ 92
  escape_head (plain h k) = h
  escape_head (coded h k l m) = h

  pub escape_one : {i j k b c : ℕ} → Escape s i j b → Escape s i k c → (j ≡ k) × (b ≡ c)
  unfolding escapable
  escape_one (plain h p) (plain h' p') = (refl, refl)
  escape_one (plain h p) (coded h' x d e) = absurd (other escapable p refl x)
  escape_one (coded h x d e) (plain h' p') = absurd (other escapable p' refl x)
  escape_one (coded h x d e) (coded h' x' d' e') = (refl, refl)

  -- a byte of a class begins with no byte that is neither bare nor a backslash
  pub class_byte_head : {i j b : ℕ} → ClassByte s i j b → (c : ℕ) → class_literal c ≡ false → (c ≡ 92 → ⊥) → byte s i ≡ c → ⊥
  class_byte_head (bare h) c f n e = other class_literal h f e
  class_byte_head (escaped x) c f n e = n (sym e ∙ escape_head x)

  pub class_byte_one : {i j k b c : ℕ} → ClassByte s i j b → ClassByte s i k c → (j ≡ k) × (b ≡ c)
  unfolding class_literal
  class_byte_one (bare h) (bare h') = (refl, refl)
  class_byte_one (bare h) (escaped y) = absurd (other class_literal h refl (escape_head y))
  class_byte_one (escaped x) (bare h') = absurd (other class_literal h' refl (escape_head x))
  class_byte_one (escaped x) (escaped y) = escape_one x y

  class_byte_next : {i j k l b c : ℕ} → i ≡ j → ClassByte s (i + 1) k b → ClassByte s (j + 1) l c → (k ≡ l) × (b ≡ c)
  class_byte_next {l = l} {c = c} e x y = class_byte_one x (subst (λ (n : ℕ). ClassByte s (n + 1) l c) (sym e) y)

  -- nor does an item
  pub item_head : {i j : ℕ} {x : Item} → OneItem s i j x → (c : ℕ) → class_literal c ≡ false → (c ≡ 92 → ⊥) → byte s i ≡ c → ⊥
  item_head (one_byte c) = class_byte_head c
  item_head (low_high c h d) = class_byte_head c

  -- nor do items
  pub items_head : {i j : ℕ} {l : List Item} → Items s i j l → (c : ℕ) → class_literal c ≡ false → (c ≡ 92 → ⊥) → byte s i ≡ c → ⊥
  items_head (last_item x) = item_head x
  items_head (more_items x l) = item_head x

  -- an item is the whole of what stands there, if no dash goes on with it
  pub item_one : {i j k : ℕ} {x y : Item} → OneItem s i j x → (byte s j ≡ 45 → ⊥) → OneItem s i k y → (byte s k ≡ 45 → ⊥) → (j ≡ k) × (x ≡ y)
  item_one (one_byte c) n (one_byte d) m = let e = class_byte_one c d in (e.0, ap lone e.1)
  item_one (one_byte c) n (low_high d h e) m = absurd (n (ap (byte s) (class_byte_one c d).0 ∙ h))
  item_one (low_high c h d) n (one_byte e) m = absurd (m (ap (byte s) (class_byte_one e c).0 ∙ h))
  item_one (low_high c h d) n (low_high c' h' d') m =
      let (a, p) = class_byte_one c c' in
      let (b, q) = class_byte_next a d d' in
      (b, cc)

  items_at : {i j k : ℕ} {l : List Item} → i ≡ j → Items s j k l → Items s i k l
  items_at {k = k} {l = l} e x = subst (λ (n : ℕ). Items s n k l) (sym e) x

  -- one or more items before a `]`
  pub items_one : {i j k : ℕ} {l m : List Item} → Items s i j l → byte s j ≡ 93 → Items s i k m → byte s k ≡ 93 → (j ≡ k) × (l ≡ m)
  unfolding class_literal
  items_one (last_item x) h (last_item y) k = let (a, p) = item_one x (λ e. omega arith) y (λ e. omega arith) in (a, cc)
  items_one (last_item x) h (more_items y m) k =
      let (a, p) = item_one x (λ e. omega arith) y (items_head m 45 refl (λ e. omega arith)) in
      absurd (items_head m 93 refl (λ e. omega arith) (ap (byte s) (sym a) ∙ h))
  items_one (more_items x l) h (last_item y) k =
      let (a, p) = item_one x (items_head l 45 refl (λ e. omega arith)) y (λ e. omega arith) in
      absurd (items_head l 93 refl (λ e. omega arith) (ap (byte s) a ∙ k))
  items_one (more_items x l) h (more_items y m) k =
      let (a, p) = item_one x (items_head l 45 refl (λ e. omega arith)) y (items_head m 45 refl (λ e. omega arith)) in
      let (b, q) = items_one l h (items_at a m) k in
      (b, cc)

  -- an atom of one position is read in one way
  pub single_one : {i j k : ℕ} {x y : Leaf} → Single s i j x → Single s i k y → (j ≡ k) × (x ≡ y)
  unfolding literal
  single_one (a_dot h) (a_dot k) = (refl, refl)
  single_one (a_dot h) (a_literal k) = absurd (other literal k refl h)
  single_one (a_dot h) (an_escape e) = absurd (omega (arith, escape_head e))
  single_one (a_dot h) (a_class k l m) = absurd (omega arith)
  single_one (a_literal h) (a_dot k) = absurd (other literal h refl k)
  single_one (a_literal h) (a_literal k) = (refl, refl)
  single_one (a_literal h) (an_escape e) = absurd (other literal h refl (escape_head e))
  single_one (a_literal h) (a_class k l m) = absurd (other literal h refl k)
  single_one (an_escape e) (a_dot k) = absurd (omega (arith, escape_head e))
  single_one (an_escape e) (a_literal k) = absurd (other literal k refl (escape_head e))
  single_one (an_escape e) (an_escape f) = let (a, p) = escape_one e f in (a, ap letter p)
  single_one (an_escape e) (a_class k l m) = absurd (omega (arith, escape_head e))
  single_one (a_class h l m) (a_dot k) = absurd (omega arith)
  single_one (a_class h l m) (a_literal k) = absurd (other literal k refl h)
  single_one (a_class h l m) (an_escape e) = absurd (omega (arith, escape_head e))
  single_one (a_class h l m) (a_class h' l' m') = let (a, p) = items_one l m l' m' in (ap (λ (n : ℕ). n + 1) a, ap class p)

  -- it opens no group
  pub single_group : {i j : ℕ} {x : Leaf} → Single s i j x → byte s i ≡ 40 → ⊥
  unfolding literal
  single_group (a_dot h) e = omega arith
  single_group (a_literal h) e = other literal h refl e
  single_group (an_escape x) e = omega (arith, escape_head x)
  single_group (a_class h l k) e = omega arith

  -- its escape is of a byte
  pub single_back : {i j : ℕ} {x : Leaf} → Single s i j x → byte s i ≡ 92 → (c : ℕ) → byte s (i + 1) ≡ c → escapable c ≡ false → (c ≡ 120 → ⊥) → ⊥
  unfolding literal
  single_back (a_dot h) e c d f n = omega arith
  single_back (a_literal h) e c d f n = other literal h refl e
  single_back (an_escape (plain h k)) e c d f n = other escapable k f d
  single_back (an_escape (coded h k l m)) e c d f n = n (sym d ∙ k)
  single_back (a_class h l k) e c d f n = omega arith
