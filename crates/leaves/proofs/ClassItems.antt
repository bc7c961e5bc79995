-- Classes item by item: whatever can be read there is what the reader takes, since the bytes that it looks at decide.
--   some: something that can be read begins inside of the text
--   ends, took: what is said of every reading, with one that there is
--   items_bounds, closed_in: the items of a class move on and end inside of the text, and so does their `]`
--   item_high: the second byte of an item can be read
--   item_range, item_lone: an item was read
--   Todo s i j l: the items l, or none, are left between i and j
--   Rest s i k m m' j l: of the items l of a class that ends at j, some are left at i; Rests: so it is for every class that can be read
--   rest_all, rest_in, rest_item, rest_more, rest_none: all are left; the place is inside of the text; there is one more item; it was read; none is left
use Prim.Native.Nat.{ℕ, ◌+◌, ◌<◌, ◌≤◌}
use Prim.Native.Char.{code}
use mathlib.Core.Path.{◌≡◌, refl, sym, ap, subst, ◌∙◌}
use mathlib.Core.Bool.{◌||◌}
use mathlib.Core.List.{List, []}
use native.Mathlib.Omega.{arith}
use lib.ListN.{length}
use Rattle.scope.specs.Bytes.{ByteSet, byte, between}
use Rattle.scope.specs.Text.Grammar.{class_literal, ClassByte, OneItem, one_byte, low_high, Items, last_item, more_items}
use Rattle.scope.specs.Limits.{pattern_limit}
use Rattle.scope.specs.Text.Tree.{Item, lone, range, item_set, items_set}
use Rattle.scope.proofs.Text.Grammar.{class_byte_on, class_byte_one, item_on, items_on, items_head}
use Rattle.leaves.specs.GrownSets.{SetGrown}
use Rattle.leaves.specs.ReadAt.{Some, WholeItem, WholeItems, EndsAt, Took}
use Rattle.leaves.proofs.ByteByByte.{inside, class_byte_in, item_in, items_in}
use Rattle.leaves.proofs.GrownSets.{Left, left_all, left_more, left_none, grown_as, between_one}

-- a reading that moves on and ends inside of the text begins there
pub some : {A : Type 0} (R : List ℕ → ℕ → ℕ → A → Type 0) {s : List ℕ} {i j : ℕ} {x : A} → length s ≤ pattern_limit → R s i j x → i < j → j ≤ length s → Some R s i
some R {j = j} {x = x} h r a b = record { short = h; inside = omega arith; end = j; what = x; reads = r }

-- what is said of every reading, with one that there is
pub ends : {A : Type 0} {R : List ℕ → ℕ → ℕ → A → Type 0} {s : List ℕ} {i r : ℕ} → Some R s i → ((j : ℕ) (x : A) → R s i j x → (i < j) × (j ≤ length s)) → ((j : ℕ) (x : A) → R s i j x → r ≡ j)
    → EndsAt R s i r
ends p b f = let e = f p.end p.what p.reads in let (on, inside) = b p.end p.what p.reads in record { on = omega arith; inside = omega arith; says = f }

pub took : {A : Type 0} {R : List ℕ → ℕ → ℕ → A → Type 0} {set : A → ByteSet} {s : List ℕ} {i k : ℕ} {m m' : List ℕ} {r : ℕ} → Some R s i
    → ((j : ℕ) (x : A) → R s i j x → (i < j) × (j ≤ length s)) → ((j : ℕ) (x : A) → R s i j x → (r ≡ j) × SetGrown k (set x) m m') → Took R set s i k m m' r
took p b f = let e = ends p b (λ j x w. (f j x w).0) in record { on = e.on; inside = e.inside; says = f }

module _ {s : List ℕ} where
  item_bounds : {i : ℕ} (j : ℕ) (x : Item) → WholeItem s i j x → (i < j) × (j ≤ length s)
  item_bounds j x (r, n) = (item_on r, item_in r)

  pub items_bounds : {i : ℕ} (j : ℕ) (l : List Item) → WholeItems s i j l → (i < j) × (j ≤ length s)
  items_bounds j l (r, h) = (items_on r, items_in r)

  -- the `]` at their end does, too
  pub closed_in : {i j : ℕ} {l : List Item} → WholeItems s i j l → j < length s
  closed_in {j = j} (r, h) = inside s j (λ e. omega arith)

  -- ---- an item

  at : {i j a : ℕ} {b : ℕ} → i ≡ a → ClassByte s (i + 1) j b → ClassByte s (a + 1) j b
  at {j = j} {b = b} e c = subst (λ (n : ℕ). ClassByte s (n + 1) j b) e c

  module _ {i a low b : ℕ} (c : ClassByte s i a low) (p : b ≡ byte s a) where
    high_of : {j : ℕ} {x : Item} → length s ≤ pattern_limit → OneItem s i j x → (byte s j ≡ code "-" → ⊥) → b ≡ code "-" → Some ClassByte s (a + 1)
    high_of h (one_byte d) n e = absurd (n (ap (byte s) (class_byte_one d c).0 ∙ sym p ∙ e))
    high_of h (low_high d g u) n e = let v = at (class_byte_one d c).0 u in some ClassByte h v (class_byte_on v) (class_byte_in v)

    pub item_high : Some WholeItem s i → b ≡ code "-" → Some ClassByte s (a + 1)
    item_high q e = high_of q.short q.reads.0 q.reads.1 e

    range_of : {z high j : ℕ} {x : Item} → ClassByte s (a + 1) z high → b ≡ code "-" → OneItem s i j x → (byte s j ≡ code "-" → ⊥) → (z ≡ j) × (x ≡ range low high a)
    range_of u e (one_byte d) n = absurd (n (ap (byte s) (class_byte_one d c).0 ∙ sym p ∙ e))
    range_of u e (low_high d g v) n = let (o, l) = class_byte_one d c in let (o₂, l₂) = class_byte_one u (at o v) in (o₂, cc)

    lone_of : {j : ℕ} {x : Item} → (b ≡ code "-" → ⊥) → OneItem s i j x → (a ≡ j) × (x ≡ lone low)
    lone_of e (one_byte d) = let (o, l) = class_byte_one d c in (sym o, ap lone l)
    lone_of e (low_high d g v) = absurd (e (p ∙ ap (byte s) (sym (class_byte_one d c).0) ∙ g))

    pub item_range : {z high k : ℕ} {m m' : List ℕ} → Some WholeItem s i → ClassByte s (a + 1) z high → b ≡ code "-" → SetGrown k (between low high) m m' → Took WholeItem item_set s i k m m' z
    unfolding item_set
    item_range q u e m = took q item_bounds (λ j x (r, n). let (o, l) = range_of u e r n in (o, rw l m))

    pub item_lone : {k : ℕ} {m m' : List ℕ} → Some WholeItem s i → (b ≡ code "-" → ⊥) → SetGrown k (between low low) m m' → Took WholeItem item_set s i k m m' a
    unfolding item_set
    item_lone q e m = took q item_bounds (λ j x (r, n). let (o, l) = lone_of e r in (o, rw l (grown_as m (λ n h. between_one low n))))

-- ---- the items of a class

pub data Todo (s : List ℕ) : ℕ → ℕ → List Item → Type 0 where
  none : {j : ℕ} → Todo s j j []
  more : {i j : ℕ} {l : List Item} → Items s i j l → Todo s i j l

pub record Rest (s : List ℕ) (i k : ℕ) (m m' : List ℕ) (j : ℕ) (l : List Item) : Type 0 where
  pub rest : List Item
  pub todo : Todo s i j rest
  pub left : Left k (items_set l) (items_set rest) m m'

pub record ItemsLeft (s : List ℕ) (at i k : ℕ) (m m' : List ℕ) : Type 0 where
  pub says : (j : ℕ) (l : List Item) → WholeItems s at j l → Rest s i k m m' j l

-- the item that comes next, and what is left after it
record NextItem (s : List ℕ) (i j : ℕ) (l : List Item) : Type 0 where
  end : ℕ
  item : Item
  first : WholeItem s i end item
  after : List Item
  todo : Todo s end j after
  all : (n : ℕ) → items_set l n ≡ (item_set item n || items_set after n)

module _ {s : List ℕ} where
  of_items : {i j : ℕ} {l : List Item} → Items s i j l → byte s j ≡ code "]" → NextItem s i j l
  unfolding items_set class_literal
  of_items (last_item x) h = record { end = _; item = _; first = (x, λ e. omega arith); after = []; todo = none; all = λ n. refl }
  of_items (more_items x l) h = record { end = _; item = _; first = (x, items_head l (code "-") refl (λ e. omega arith)); after = _; todo = more l; all = λ n. refl }

  next : {i j b : ℕ} {l : List Item} → Todo s i j l → byte s j ≡ code "]" → b ≡ byte s i → (b ≡ code "]" → ⊥) → NextItem s i j l
  next none h p n = absurd (n (p ∙ h))
  next (more l) h p n = of_items l h

  stop : {i j b : ℕ} {l : List Item} → Todo s i j l → b ≡ byte s i → b ≡ code "]" → (i ≡ j) × (l ≡ [])
  unfolding class_literal
  stop none p e = (refl, refl)
  stop (more l) p e = absurd (items_head l (code "]") refl (λ z. omega arith) (sym p ∙ e))

  pub rest_all : (i k : ℕ) (m : List ℕ) → ItemsLeft s i i k m m
  rest_all i k m = record { says = λ j l (r, h). record { rest = l; todo = more r; left = left_all k (items_set l) m } }

  todo_in : {i j : ℕ} {l : List Item} → Todo s i j l → j < length s → i < length s
  todo_in none h = h
  todo_in (more l) h = omega (arith, items_on l)

  -- the place is inside of the text
  pub rest_in : {at i k : ℕ} {m m' : List ℕ} → Some WholeItems s at → ItemsLeft s at i k m m' → i < length s
  rest_in p f = todo_in (f.says p.end p.what p.reads).todo (closed_in p.reads)

  module _ {at i k b : ℕ} {m m' : List ℕ} (p : Some WholeItems s at) (f : ItemsLeft s at i k m m') (q : b ≡ byte s i) where
    -- there is one more item
    pub rest_item : (b ≡ code "]" → ⊥) → Some WholeItem s i
    rest_item n = let x = next (f.says p.end p.what p.reads).todo p.reads.1 q n in some WholeItem p.short x.first (item_on x.first.0) (item_in x.first.0)

    -- it was read
    pub rest_more : {m'' : List ℕ} {r : ℕ} → (b ≡ code "]" → ⊥) → Took WholeItem item_set s i k m' m'' r → ItemsLeft s at r k m m''
    rest_more {m''} {r} n t = record { says = go }
      where
        go : (j : ℕ) (l : List Item) → WholeItems s at j l → Rest s r k m m'' j l
        go j l w =
            let x = f.says j l w in
            let y = next x.todo w.1 q n in
            let (e, z) = t.says y.end y.item y.first in
            record { rest = y.after; todo = subst (λ (v : ℕ). Todo s v j y.after) (sym e) y.todo; left = left_more x.left z (λ v h. y.all v) }

    -- none is left
    pub rest_none : b ≡ code "]" → Took WholeItems items_set s at k m m' i
    unfolding items_set
    rest_none e = took p items_bounds (λ j l w. let x = f.says j l w in let (z, y) = stop x.todo q e in (z, left_none x.left (λ n h. rw y refl)))
