-- The parentheses of a tree that open inside exactly as many others as may be, counted upwards: n stand around the tree.
--   inside n t: their places, left to right
--   inside_opened: with none around it, they are those of `opened`
use Prim.Native.Nat.{ℕ, zero, suc, ◌+◌, ◌<◌}
use mathlib.Core.Path.{◌≡◌, refl}
use mathlib.Core.List.{List, [], ◌++◌}
use native.Mathlib.Omega.{arith}
use borrow.Author.Tests.{ne_eqb}
use lib.Dec.{eqb}
use Rattle.scope.specs.Limits.{nest_limit}
use Rattle.scope.specs.Text.Tree.{only_if, Tree, nothing, empty, position, group, marked, beside, either, opened}

unfoldable pub inside : ℕ → Tree → List ℕ
inside n nothing = []
inside n empty = []
inside n (position i x) = []
inside n (group i t) = only_if (eqb n nest_limit) i ++ inside (suc n) t
inside n (marked m t) = inside n t
inside n (beside t u) = inside n t ++ inside n u
inside n (either t u) = inside n t ++ inside n u

-- further inside there are none
inside_none : (t : Tree) (n : ℕ) → nest_limit < n → inside n t ≡ []
unfolding inside only_if
inside_none nothing n h = refl
inside_none empty n h = refl
inside_none (position i x) n h = refl
inside_none (group i t) n h = rw (ne_eqb n nest_limit (λ e. omega arith), inside_none t (suc n) (omega arith)) refl
inside_none (marked m t) n h = inside_none t n h
inside_none (beside t u) n h = rw (inside_none t n h, inside_none u n h) refl
inside_none (either t u) n h = rw (inside_none t n h, inside_none u n h) refl

-- d more may open around what is looked for
inside_is : (t : Tree) (n d : ℕ) → n + d ≡ nest_limit → inside n t ≡ opened d t
unfolding inside opened only_if
inside_is nothing n d h = refl
inside_is empty n d h = refl
inside_is (position i x) n d h = refl
inside_is (group i t) n zero h = let e : n ≡ nest_limit = omega arith in rw (e, inside_none t (suc nest_limit) (omega arith)) refl
inside_is (group i t) n (suc d) h = rw (ne_eqb n nest_limit (λ e. omega arith)) (inside_is t (suc n) d (omega arith))
inside_is (marked m t) n d h = inside_is t n d h
inside_is (beside t u) n d h = rw (inside_is t n d h, inside_is u n d h) refl
inside_is (either t u) n d h = rw (inside_is t n d h, inside_is u n d h) refl

pub inside_opened : (t : Tree) → inside 0 t ≡ opened nest_limit t
inside_opened t = inside_is t 0 nest_limit (omega arith)
