-- A text has one tree. The grammar recurses on the left, so two readings that begin at one place are compared by what the longer has more: marks after a
-- factor, factors after a branch, branches after an expression. The byte after the shorter one tells whether there is more, so two that end at the end of the
-- text, or before one `)`, are the same.
--   one_tree: a text has at most one tree
use Prim.Native.Nat.{ℕ, ◌+◌}
use mathlib.Core.Path.{◌≡◌, refl, sym, ap, subst, subst₂, ◌∙◌}
use mathlib.Core.Bool.{true, false}
use mathlib.Core.Logic.{◌⊎◌, inl, inr}
use mathlib.Core.List.{List}
use native.Mathlib.Omega.{arith}
use lib.ListN.{length, get_or-eq_default}
use Rattle.scope.specs.Bytes.{byte}
use Rattle.scope.specs.Text.Tree.{Leaf, Mark, Tree, nothing, empty, position, group, marked, beside, either}
use Rattle.scope.specs.Text.Grammar.{escapable, is_mark, mark_byte, Single, Level, atoms, factors, branches, exprs, Reads, single, no_byte, no_word, in_group, one_atom, one_mark, one_factor, next_factor, one_branch, next_branch}
use Rattle.scope.specs.Text.Judge.{Pattern}
use Rattle.scope.proofs.Text.Grammar.{other, single_one, single_group, single_back}
use Rattle.scope.proofs.Text.Marks.{mark_one, unmarked}
use Rattle.scope.proofs.Text.Begins.{starts_atom, reads_begins, not_mark}

-- a byte that ends a branch: `)`, `|`, or the end of the text
data Stop (b : ℕ) : Type 0 where
  close : b ≡ 41 → Stop b
  bar : b ≡ 124 → Stop b
  over : b ≡ 256 → Stop b

stop_unmarked : {b : ℕ} → Stop b → is_mark b ≡ false
unfolding is_mark
stop_unmarked (close h) = rw h refl
stop_unmarked (bar h) = rw h refl
stop_unmarked (over h) = rw h refl

-- a byte that begins an atom is none of these
stop_not : {b : ℕ} → starts_atom b ≡ true → Stop b → ⊥
unfolding starts_atom
stop_not t (close h) = other starts_atom t refl h
stop_not t (bar h) = other starts_atom t refl h
stop_not t (over h) = other starts_atom t refl h

module _ (s : List ℕ) where
  -- ---- what a longer reading has more

  data Marks : Tree → ℕ → Tree → ℕ → Type 0 where
    stay : {t : Tree} {j : ℕ} → Marks t j t j
    mark : {t u : Tree} {j k : ℕ} (m : Mark) → byte s j ≡ mark_byte m → Marks (marked m t) (j + 1) u k → Marks t j u k

  data More : Tree → ℕ → Tree → ℕ → Type 0 where
    stay : {t : Tree} {j : ℕ} → More t j t j
    next : {t u f : Tree} {j k m : ℕ} → Reads s factors j m f → is_mark (byte s m) ≡ false → More (beside t f) m u k → More t j u k

  data Alts : Tree → ℕ → Tree → ℕ → Type 0 where
    stay : {t : Tree} {j : ℕ} → Alts t j t j
    next : {t u f : Tree} {j k m : ℕ} → byte s j ≡ 124 → Reads s branches (j + 1) m f → Stop (byte s m) → Alts (either t f) m u k → Alts t j u k

  abbrev Both : (Tree → ℕ → Tree → ℕ → Type 0) → Tree → ℕ → Tree → ℕ → Type 0
  Both R t j u k = R t j u k ⊎ R u k t j

  abbrev Equal : Tree → ℕ → Tree → ℕ → Type 0
  Equal t j u k = (j ≡ k) × (t ≡ u)

  -- what is to be shown of a reading, level by level
  abbrev One : Level → ℕ → ℕ → Tree → Type 0
  One atoms i j t = (k : ℕ) (u : Tree) → Reads s atoms i k u → Equal t j u k
  One factors i j t = (k : ℕ) (u : Tree) → Reads s factors i k u → Both Marks t j u k
  One branches i j t = is_mark (byte s j) ≡ false → (k : ℕ) (u : Tree) → Reads s branches i k u → is_mark (byte s k) ≡ false → Both More t j u k
  One exprs i j t = Stop (byte s j) → (k : ℕ) (u : Tree) → Reads s exprs i k u → Stop (byte s k) → Both Alts t j u k

  -- ---- marks

  marks_eq : {t u : Tree} {j k : ℕ} → Equal t j u k → Marks t j u k
  marks_eq {t} {j = j} (e, d) = subst₂ (λ (x : Tree) (y : ℕ). Marks t j x y) d e stay

  marks_then : {t u : Tree} {j k : ℕ} (m : Mark) → Marks t j u k → byte s k ≡ mark_byte m → Marks t j (marked m u) (k + 1)
  marks_then m stay h = mark m h stay
  marks_then m (mark n g r) h = mark n g (marks_then m r h)

  marks_one : {t u : Tree} {j k : ℕ} → Marks t j u k → is_mark (byte s j) ≡ false → Equal t j u k
  marks_one stay n = (refl, refl)
  marks_one (mark m h r) n = absurd (unmarked m h n)

  factor_one : {t u : Tree} {j k : ℕ} → Both Marks t j u k → is_mark (byte s j) ≡ false → is_mark (byte s k) ≡ false → Equal t j u k
  factor_one (inl r) n m = marks_one r n
  factor_one (inr r) n m = let (e, d) = marks_one r m in (sym e, sym d)

  atom_marks : {i j k : ℕ} {t u : Tree} → One atoms i j t → Reads s factors i k u → Marks t j u k
  atom_marks a (one_atom r) = marks_eq (a _ _ r)
  atom_marks a (one_mark m r h) = marks_then m (atom_marks a r) h

  mark_step : {t u : Tree} {j k : ℕ} (m : Mark) → byte s j ≡ mark_byte m → Both Marks t j u k → Both Marks (marked m t) (j + 1) u k
  mark_step m h (inl stay) = inr (mark m h stay)
  mark_step {t} {u} {j} {k} m h (inl (mark n g r)) = inl (subst (λ (x : Mark). Marks (marked x t) (j + 1) u k) (mark_one n m (sym g ∙ h)) r)
  mark_step m h (inr r) = inr (marks_then m r h)

  -- ---- factors

  more_eq : {t u : Tree} {j k : ℕ} → Equal t j u k → More t j u k
  more_eq {t} {j = j} (e, d) = subst₂ (λ (x : Tree) (y : ℕ). More t j x y) d e stay

  more_then : {t u f : Tree} {j k m : ℕ} → More t j u k → Reads s factors k m f → is_mark (byte s m) ≡ false → More t j (beside u f) m
  more_then stay g n = next g n stay
  more_then (next h l r) g n = next h l (more_then r g n)

  more_one : {t u : Tree} {j k : ℕ} → More t j u k → Stop (byte s j) → Equal t j u k
  more_one stay n = (refl, refl)
  more_one (next g l r) n = absurd (stop_not (reads_begins g) n)

  branch_one : {t u : Tree} {j k : ℕ} → Both More t j u k → Stop (byte s j) → Stop (byte s k) → Equal t j u k
  branch_one (inl r) n m = more_one r n
  branch_one (inr r) n m = let (e, d) = more_one r m in (sym e, sym d)

  factor_more : {i j k : ℕ} {t u : Tree} → One factors i j t → is_mark (byte s j) ≡ false → Reads s branches i k u → is_mark (byte s k) ≡ false → More t j u k
  factor_more f n (one_factor r) m = more_eq (factor_one (f _ _ r) n m)
  factor_more f n (next_factor r q) m = more_then (factor_more f n r (not_mark q)) q m

  more_on : {t u f f' : Tree} {k m m' : ℕ} → Equal f m f' m' → More (beside t f') m' u k → More (beside t f) m u k
  more_on {t} {u} {k = k} (e, d) r = subst₂ (λ (x : Tree) (y : ℕ). More (beside t x) y u k) (sym d) (sym e) r

  factor_step : {t u f : Tree} {j k m : ℕ} → Reads s factors j m f → is_mark (byte s m) ≡ false → One factors j m f → Both More t j u k → Both More (beside t f) m u k
  factor_step g n o (inl stay) = inr (next g n stay)
  factor_step g n o (inl (next h l r)) = inl (more_on (factor_one (o _ _ h) n l) r)
  factor_step g n o (inr r) = inr (more_then r g n)

  -- ---- branches

  alts_eq : {t u : Tree} {j k : ℕ} → Equal t j u k → Alts t j u k
  alts_eq {t} {j = j} (e, d) = subst₂ (λ (x : Tree) (y : ℕ). Alts t j x y) d e stay

  alts_then : {t u f : Tree} {j k m : ℕ} → Alts t j u k → byte s k ≡ 124 → Reads s branches (k + 1) m f → Stop (byte s m) → Alts t j (either u f) m
  alts_then stay b g n = next b g n stay
  alts_then (next a h l r) b g n = next a h l (alts_then r b g n)

  alts_one : {t u : Tree} {j k : ℕ} → Alts t j u k → (byte s j ≡ 124 → ⊥) → Equal t j u k
  alts_one stay n = (refl, refl)
  alts_one (next a g l r) n = absurd (n a)

  expr_one : {t u : Tree} {j k : ℕ} → Both Alts t j u k → (byte s j ≡ 124 → ⊥) → (byte s k ≡ 124 → ⊥) → Equal t j u k
  expr_one (inl r) n m = alts_one r n
  expr_one (inr r) n m = let (e, d) = alts_one r m in (sym e, sym d)

  branch_alts : {i j k : ℕ} {t u : Tree} → One branches i j t → Stop (byte s j) → Reads s exprs i k u → Stop (byte s k) → Alts t j u k
  branch_alts f n (one_branch r) m = alts_eq (branch_one (f (stop_unmarked n) _ _ r (stop_unmarked m)) n m)
  branch_alts f n (next_branch r b q) m = alts_then (branch_alts f n r (bar b)) b q m

  alts_on : {t u f f' : Tree} {k m m' : ℕ} → Equal f m f' m' → Alts (either t f') m' u k → Alts (either t f) m u k
  alts_on {t} {u} {k = k} (e, d) r = subst₂ (λ (x : Tree) (y : ℕ). Alts (either t x) y u k) (sym d) (sym e) r

  branch_step : {t u f : Tree} {j k m : ℕ} → byte s j ≡ 124 → Reads s branches (j + 1) m f → Stop (byte s m) → One branches (j + 1) m f → Both Alts t j u k → Both Alts (either t f) m u k
  branch_step b g n o (inl stay) = inr (next b g n stay)
  branch_step b g n o (inl (next c h l r)) = inl (alts_on (branch_one (o (stop_unmarked n) _ _ h (stop_unmarked l)) n l) r)
  branch_step b g n o (inr r) = inr (alts_then r b g n)

  -- ---- atoms

  single_atom : {i j : ℕ} {x : Leaf} → Single s i j x → One atoms i j (position i x)
  unfolding escapable
  single_atom {i} x k u (single y) = let (e, d) = single_one x y in (e, ap (position i) d)
  single_atom x k u (no_byte h l) = absurd (single_back x h 101 l refl (λ e. omega arith))
  single_atom x k u (no_word h l) = absurd (single_back x h 48 l refl (λ e. omega arith))
  single_atom x k u (in_group h r l) = absurd (single_group x h)

  no_byte_atom : {i : ℕ} → byte s i ≡ 92 → byte s (i + 1) ≡ 101 → One atoms i (i + 2) empty
  unfolding escapable
  no_byte_atom h l k u (single y) = absurd (single_back y h 101 l refl (λ e. omega arith))
  no_byte_atom h l k u (no_byte h' l') = (refl, refl)
  no_byte_atom h l k u (no_word h' l') = absurd (omega arith)
  no_byte_atom h l k u (in_group h' r l') = absurd (omega arith)

  no_word_atom : {i : ℕ} → byte s i ≡ 92 → byte s (i + 1) ≡ 48 → One atoms i (i + 2) nothing
  unfolding escapable
  no_word_atom h l k u (single y) = absurd (single_back y h 48 l refl (λ e. omega arith))
  no_word_atom h l k u (no_byte h' l') = absurd (omega arith)
  no_word_atom h l k u (no_word h' l') = (refl, refl)
  no_word_atom h l k u (in_group h' r l') = absurd (omega arith)

  group_atom : {i j : ℕ} {t : Tree} → byte s i ≡ 40 → One exprs (i + 1) j t → byte s j ≡ 41 → One atoms i (j + 1) (group i t)
  group_atom h o l k u (single y) = absurd (single_group y h)
  group_atom h o l k u (no_byte h' l') = absurd (omega arith)
  group_atom h o l k u (no_word h' l') = absurd (omega arith)
  group_atom {i} h o l k u (in_group h' r l') =
      let (e, d) = expr_one (o (close l) _ _ r (close l')) (λ x. omega arith) (λ x. omega arith) in
      (ap (λ (n : ℕ). n + 1) e, ap (group i) d)

  -- ---- every reading

  one : {l : Level} {i j : ℕ} {t : Tree} → Reads s l i j t → One l i j t
  one (single x) = single_atom x
  one (no_byte h k) = no_byte_atom h k
  one (no_word h k) = no_word_atom h k
  one (in_group h r k) = group_atom h (one r) k
  one (one_atom r) = λ k u q. inl (atom_marks (one r) q)
  one (one_mark m r h) = λ k u q. mark_step m h (one r k u q)
  one (one_factor r) = λ n k u q m. inl (factor_more (one r) n q m)
  one (next_factor r g) = λ n k u q m. factor_step g n (one g) (one r (not_mark g) k u q m)
  one (one_branch r) = λ n k u q m. inl (branch_alts (one r) n q m)
  one (next_branch r b g) = λ n k u q m. branch_step b g n (one g) (one r (bar b) k u q m)

-- a text has at most one tree
pub one_tree : (s : List ℕ) (t u : Tree) → Pattern s t → Pattern s u → t ≡ u
one_tree s t u a b =
    let e : byte s (length s) ≡ 256 = get_or-eq_default s 256 (omega arith) in
    (expr_one s (one s a (over e) (length s) u b (over e)) (λ x. omega arith) (λ x. omega arith)).1
