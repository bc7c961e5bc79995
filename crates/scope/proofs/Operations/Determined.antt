-- A way to show that a contract determines its answer. Judgements are taken in an order, and the answer is the first that applies: where each has one
-- answer, so has the whole.
--   FirstApplies, EachSingle: the first judgement that applies gives the answer; each gives one
--   judged_one: then the answer is one
use mathlib.Core.Path.{◌≡◌}
use mathlib.Core.Logic.{◌⊎◌, inl, inr}
use mathlib.Core.List.{List, [], ◌∷◌}

module _ {A : Type 0} where
  -- the first judgement that applies gives a
  abbrev pub FirstApplies : List (A → Type 0) → A → Type 0
  FirstApplies [] a = ⊥
  FirstApplies (P ∷ l) a = P a ⊎ (((x : A) → P x → ⊥) × FirstApplies l a)

  -- each judgement gives one answer
  abbrev pub EachSingle : List (A → Type 0) → Type 0
  EachSingle [] = Unit {0}
  EachSingle (P ∷ l) = ((a b : A) → P a → P b → a ≡ b) × EachSingle l

  pub judged_one : (l : List (A → Type 0)) → EachSingle l → (a b : A) → FirstApplies l a → FirstApplies l b → a ≡ b
  judged_one (P ∷ l) o a b (inl x) (inl y) = o.0 a b x y
  judged_one (P ∷ l) o a b (inl x) (inr y) = absurd (y.0 a x)
  judged_one (P ∷ l) o a b (inr x) (inl y) = absurd (x.0 b y)
  judged_one (P ∷ l) o a b (inr x) (inr y) = judged_one l o.1 a b x.1 y.1
  judged_one [] o a b x3 _ = elim x3 [ ]
