-- A test that a text has a given tree, for samples: where each part of the tree would end if its bytes stood bare, and whether the bytes of the text are those.
--   reads_by: a tree that passes is the tree of the text
use Prim.Native.Nat.{ℕ, ◌+◌}
use mathlib.Core.Path.{◌≡◌, sym, subst}
use mathlib.Core.Bool.{Bool, true, false, ◌&&◌, false≢true}
use mathlib.Core.List.{List, [], ◌∷◌}
use lib.Dec.{eqb}
use lib.ListN.{length}
use Rattle.scope.specs.Bytes.{byte}
use Rattle.scope.specs.Text.Tree.{Item, lone, range, Leaf, dot, letter, class, Tree, nothing, empty, position, group, marked, beside, either}
use Rattle.scope.specs.Text.Grammar.{literal, class_literal, mark_byte, ClassByte, bare, OneItem, one_byte, low_high, Items, last_item, more_items, Single, a_dot, a_literal, a_class, Level, atoms, factors, branches, exprs, Reads, single, no_byte, no_word, in_group, one_atom, one_mark, one_factor, next_factor, one_branch, next_branch}
use Rattle.scope.specs.Text.Judge.{Pattern}
use Rattle.scope.proofs.Counting.Tests.{equals, itself, pair}

-- ---- where a part ends

abbrev pub item_end : Item → ℕ → ℕ
item_end (lone c) i = i + 1
item_end (range low high dash) i = i + 1 + 1 + 1

abbrev pub items_end : List Item → ℕ → ℕ
items_end [] i = i
items_end (x ∷ l) i = items_end l (item_end x i)

abbrev pub leaf_end : Leaf → ℕ → ℕ
leaf_end dot i = i + 1
leaf_end (letter c) i = i + 1
leaf_end (class l) i = items_end l (i + 1) + 1

abbrev pub end : Tree → ℕ → ℕ
end nothing i = i + 2
end empty i = i + 2
end (position p x) i = leaf_end x i
end (group p t) i = end t (i + 1) + 1
end (marked m t) i = end t i + 1
end (beside t u) i = end u (end t i)
end (either t u) i = end u (end t i + 1)

module _ (s : List ℕ) where
  -- ---- the test

  unfoldable pub is : ℕ → ℕ → Bool
  is i c = eqb (byte s i) c

  unfoldable pub is_bare : ℕ → ℕ → Bool
  unfolding is class_literal
  is_bare i c = class_literal (byte s i) && is i c

  unfoldable pub is_item : Item → ℕ → Bool
  unfolding is_bare
  is_item (lone c) i = is_bare i c
  is_item (range low high dash) i = is_bare i low && (is (i + 1) 45 && (is_bare (i + 1 + 1) high && eqb dash (i + 1)))

  unfoldable pub is_items : List Item → ℕ → Bool
  unfolding is_item
  is_items [] i = false
  is_items (x ∷ []) i = is_item x i
  is_items (x ∷ y ∷ l) i = is_item x i && is_items (y ∷ l) (item_end x i)

  unfoldable pub is_leaf : Leaf → ℕ → Bool
  unfolding is_items literal
  is_leaf dot i = is i 46
  is_leaf (letter c) i = literal (byte s i) && is i c
  is_leaf (class l) i = is i 91 && (is_items l (i + 1) && is (items_end l (i + 1)) 93)

  unfoldable pub is_tree : Level → Tree → ℕ → Bool
  unfolding is_leaf
  is_tree l nothing i = is i 92 && is (i + 1) 48
  is_tree l empty i = is i 92 && is (i + 1) 101
  is_tree l (position p x) i = eqb p i && is_leaf x i
  is_tree l (group p t) i = eqb p i && (is i 40 && (is_tree exprs t (i + 1) && is (end t (i + 1)) 41))
  is_tree atoms (marked m t) i = false
  is_tree factors (marked m t) i = is_tree factors t i && is (end t i) (mark_byte m)
  is_tree branches (marked m t) i = is_tree factors t i && is (end t i) (mark_byte m)
  is_tree exprs (marked m t) i = is_tree factors t i && is (end t i) (mark_byte m)
  is_tree atoms (beside t u) i = false
  is_tree factors (beside t u) i = false
  is_tree branches (beside t u) i = is_tree branches t i && is_tree factors u (end t i)
  is_tree exprs (beside t u) i = is_tree branches t i && is_tree factors u (end t i)
  is_tree atoms (either t u) i = false
  is_tree factors (either t u) i = false
  is_tree branches (either t u) i = false
  is_tree exprs (either t u) i = is_tree exprs t i && (is (end t i) 124 && is_tree branches u (end t i + 1))

  -- ---- what it shows

  is_by : (i c : ℕ) → is i c ≡ true → byte s i ≡ c
  unfolding is
  is_by i c e = sym ((equals (byte s i) c).sound e)

  bare_by : (i c : ℕ) → is_bare i c ≡ true → ClassByte s i (i + 1) c
  unfolding is_bare
  bare_by i c e = let (h, k) = pair (itself (class_literal (byte s i))).sound (is_by i c) e in subst (λ (x : ℕ). ClassByte s i (i + 1) x) k (bare h)

  item_by : (x : Item) (i : ℕ) → is_item x i ≡ true → OneItem s i (item_end x i) x
  unfolding is_item
  item_by (lone c) i e = one_byte (bare_by i c e)
  item_by (range low high dash) i e =
      let (a, b) = pair (bare_by i low) (pair (is_by (i + 1) 45) (pair (bare_by (i + 1 + 1) high) (equals dash (i + 1)).sound)) e in
      subst (λ (x : ℕ). OneItem s i (i + 1 + 1 + 1) (range low high x)) b.1.1 (low_high a b.0 b.1.0)

  items_by : (l : List Item) (i : ℕ) → is_items l i ≡ true → Items s i (items_end l i) l
  unfolding is_items
  items_by [] i e = absurd (false≢true e)
  items_by (x ∷ []) i e = last_item (item_by x i e)
  items_by (x ∷ y ∷ l) i e = let (a, b) = pair (item_by x i) (items_by (y ∷ l) (item_end x i)) e in more_items a b

  leaf_by : (x : Leaf) (i : ℕ) → is_leaf x i ≡ true → Single s i (leaf_end x i) x
  unfolding is_leaf
  leaf_by dot i e = a_dot (is_by i 46 e)
  leaf_by (letter c) i e = let (h, k) = pair (itself (literal (byte s i))).sound (is_by i c) e in subst (λ (x : ℕ). Single s i (i + 1) (letter x)) k (a_literal h)
  leaf_by (class l) i e = let (a, b) = pair (is_by i 91) (pair (items_by l (i + 1)) (is_by (items_end l (i + 1)) 93)) e in a_class a b.0 b.1

  lift : (l : Level) {i j : ℕ} {t : Tree} → Reads s atoms i j t → Reads s l i j t
  lift atoms r = r
  lift factors r = one_atom r
  lift branches r = one_factor (one_atom r)
  lift exprs r = one_branch (one_factor (one_atom r))

  tree_by : (l : Level) (t : Tree) (i : ℕ) → is_tree l t i ≡ true → Reads s l i (end t i) t
  unfolding is_tree
  tree_by l nothing i e = let (a, b) = pair (is_by i 92) (is_by (i + 1) 48) e in lift l (no_word a b)
  tree_by l empty i e = let (a, b) = pair (is_by i 92) (is_by (i + 1) 101) e in lift l (no_byte a b)
  tree_by l (position p x) i e =
      let (a, b) = pair (equals p i).sound (leaf_by x i) e in
      lift l (subst (λ (n : ℕ). Reads s atoms i (leaf_end x i) (position n x)) a (single b))
  tree_by l (group p t) i e =
      let (a, b) = pair (equals p i).sound (pair (is_by i 40) (pair (tree_by exprs t (i + 1)) (is_by (end t (i + 1)) 41))) e in
      lift l (subst (λ (n : ℕ). Reads s atoms i (end t (i + 1) + 1) (group n t)) a (in_group b.0 b.1.0 b.1.1))
  tree_by atoms (marked m t) i e = absurd (false≢true e)
  tree_by factors (marked m t) i e = let (a, b) = pair (tree_by factors t i) (is_by (end t i) (mark_byte m)) e in one_mark m a b
  tree_by branches (marked m t) i e = let (a, b) = pair (tree_by factors t i) (is_by (end t i) (mark_byte m)) e in one_factor (one_mark m a b)
  tree_by exprs (marked m t) i e = let (a, b) = pair (tree_by factors t i) (is_by (end t i) (mark_byte m)) e in one_branch (one_factor (one_mark m a b))
  tree_by atoms (beside t u) i e = absurd (false≢true e)
  tree_by factors (beside t u) i e = absurd (false≢true e)
  tree_by branches (beside t u) i e = let (a, b) = pair (tree_by branches t i) (tree_by factors u (end t i)) e in next_factor a b
  tree_by exprs (beside t u) i e = let (a, b) = pair (tree_by branches t i) (tree_by factors u (end t i)) e in one_branch (next_factor a b)
  tree_by atoms (either t u) i e = absurd (false≢true e)
  tree_by factors (either t u) i e = absurd (false≢true e)
  tree_by branches (either t u) i e = absurd (false≢true e)
  tree_by exprs (either t u) i e =
      let (a, b) = pair (tree_by exprs t i) (pair (is_by (end t i) 124) (tree_by branches u (end t i + 1))) e in
      next_branch a b.0 b.1

  -- the whole text
  unfoldable pub is_pattern : Tree → Bool
  unfolding is_tree
  is_pattern t = is_tree exprs t 0 && eqb (end t 0) (length s)

  pub reads_by : (t : Tree) → is_pattern t ≡ true → Pattern s t
  unfolding is_pattern
  reads_by t e = let (a, b) = pair (tree_by exprs t 0) (equals (end t 0) (length s)).sound e in subst (λ (j : ℕ). Reads s exprs 0 j t) (sym b) a
