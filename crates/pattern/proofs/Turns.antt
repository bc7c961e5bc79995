-- The loops, turn by turn: an l goes on exactly if the byte after a part says so. What a reader has read is a first part of everything that can be read there; one
-- turn makes it a longer one, and when none is left it is the whole.
--   stop_told: what the test of a branch's loop says
--   factor_fit, factor_found: the marks after an atom
--   no_factor, no_branch: nothing was read yet
--   going, going_some, going_small: of what can be read it is a first part; its count
--   parts_more, parts_found: one more part; the last one
--   join_factor, join_branch: a factor more, a branch more
use Prim.Native.Nat.{ℕ, ◌<◌, ◌≤◌}
use mathlib.Core.Path.{◌≡◌, refl, sym, ap, subst, ◌∙◌}
use mathlib.Core.Bool.{Bool, true, false, false≢true}
use mathlib.Core.List.{List}
use native.Mathlib.Omega.{arith}
use lib.ListN.{length}
use Rattle.scope.specs.Bytes.{byte}
use Rattle.scope.specs.Text.Grammar.{Level, atoms, factors, branches, exprs}
use Rattle.scope.specs.Text.Tree.{Tree, expr}
use Rattle.scope.proofs.Text.Grammar.{other}
use Rattle.sets.specs.Value.{set_bits}
use Rattle.sets.specs.Layout.{read_words}
use Rattle.fragments.specs.declared.Fragment.{Fragment}
use Rattle.fragments.specs.Shapes.{Blank, Beside, Either}
use Rattle.factors.specs.Tails.{closes_expr, stops, EndsLevel}
use Rattle.factors.specs.Right.{Right}
use Rattle.factors.specs.Answer.{Fit, Readable, ReadTree, Answer, WithMarks}
use Rattle.factors.proofs.Rights.{right_empty, right_nothing, right_beside, right_either, after_empty, or_nothing}
use Rattle.factors.proofs.Atoms.{answer}
use Rattle.factors.proofs.Carried.{mark_last}
use Rattle.pattern.specs.Parts.{part_of, GoesOn, after_bar, SoFar, nothing_yet, so_far, grown, re_of, PartsLeft, last_part, more_parts, Going, Begun}
use Rattle.pattern.proofs.Tails.{all_factors, all_branches, marks_size, marks_begun, parts_size}

-- what the test of a byte says of the place after a part
pub stop_told : (s : List ℕ) {i j n : ℕ} {r v : Bool} → n ≡ byte s i → i ≡ j → r ≡ stops n → r ≡ v → stops (byte s j) ≡ v
stop_told s e d h t = ap stops (sym (e ∙ ap (byte s) d)) ∙ sym h ∙ t

-- ---- an atom and its marks

module _ {s : List ℕ} {k i : ℕ} {w w' : List ℕ} {g : Fragment} (p : Readable factors k s i) (a : Answer atoms s i k w w' g) where
  -- the marks after an atom can be read, and what is read then is the factor
  pub factor_fit : {w'' : List ℕ} → read_words ≤ length w'' → Fit s k w'' g
  factor_fit h = let q = marks_begun a p.whole.0 in record { short = p.short; inside = a.inside; words = h; some = omega (arith, q.right.counts); few = omega (arith, q.right.counts, marks_size q.left, p.brief) }

  pub factor_found : {w'' : List ℕ} {r : Fragment} → WithMarks s k w' g w'' r → Answer factors s i k w w'' r
  factor_found t = answer p (λ j u v.
      let q = t.carried.says w u j v.1 (marks_begun a v.0) in
      let (e, d) = mark_last q.left t.ends in
      record { next = e; right = rw d at q.right })

-- ---- part by part

-- an l that has ended does not go on
ended : (l : Level) (b : ℕ) → EndsLevel l b → GoesOn l b → ⊥
unfolding closes_expr
ended exprs b e h = other closes_expr e refl h
ended branches b e h = false≢true (sym h ∙ e)
ended factors b e h = h
ended atoms b e h = h

-- nothing was read yet
module _ {s : List ℕ} {k i : ℕ} {w : List ℕ} {g : Fragment} where
  pub no_factor : Blank i k true g → Begun branches s i k w w g
  no_factor m = record { says = λ j t v. record { so = nothing_yet; right = right_empty m; left = subst (λ (n : ℕ). PartsLeft s branches nothing_yet n t j) (sym m.nexts) (all_factors v) } }

  pub no_branch : Blank i k false g → Begun exprs s i k w w g
  no_branch m = record { says = λ j t v. record { so = nothing_yet; right = right_nothing m; left = subst (λ (n : ℕ). PartsLeft s exprs nothing_yet n t j) (sym m.nexts) (all_branches v) } }

module _ (l : Level) {s : List ℕ} {k i : ℕ} {w w' : List ℕ} {g : Fragment} (p : Readable l k s i) (b : Begun l s i k w w' g) where
  -- of what can be read it is a first part
  pub going : Going l s k w w' g p.tree p.end
  going = b.says p.end p.tree p.whole

  -- its positions come after the k, and leave room for those of the whole
  pub going_some : k ≤ g.count
  going_some = omega (arith, going.right.counts)

  pub going_small : g.count < set_bits
  going_small = omega (arith, going.right.counts, parts_size l going.left, p.brief)

-- one more part was read, and r is made of all of them
module _ (l : Level) {s : List ℕ} {k i : ℕ} {w w₁ w₂ w₃ : List ℕ} {g h r : Fragment} (b : Begun l s i k w w₁ g) (a : Answer (part_of l) s g.next g.count w₁ w₂ h)
    (join : (so : SoFar) (t : Tree) → Right (re_of l so) k w w₁ g → Right (expr t) g.count w₁ w₂ h → Right (expr (grown l so t)) k w w₃ r) where
  -- others are left
  pub parts_more : r.next ≡ after_bar l h.next → GoesOn l (byte s h.next) → Begun l s i k w w₃ r
  parts_more e n = record { says = λ j u v. let q = b.says j u v in on v.1 q.right q.left }
    where
      on : {so : SoFar} {u : Tree} {j : ℕ} → EndsLevel l (byte s j) → Right (re_of l so) k w w₁ g → PartsLeft s l so g.next u j → Going l s k w w₃ r u j
      on {j = j} z x (last_part {t = t} v d) = absurd (ended l (byte s j) z (subst (λ (m : ℕ). GoesOn l (byte s m)) (a.says j t v).next n))
      on {so} {u} {j} z x (more_parts {t = t} {m = m} v d q) =
          let f = a.says m t v in
          record { so = so_far (grown l so t); right = join so t x f.right; left = subst (λ (o : ℕ). PartsLeft s l (so_far (grown l so t)) o u j) (sym (e ∙ ap (after_bar l) f.next)) q }

  -- it was the last
  pub parts_found : Readable l k s i → r.next ≡ h.next → (GoesOn l (byte s h.next) → ⊥) → Answer l s i k w w₃ r
  parts_found p e n = answer p (λ j u v. let q = b.says j u v in all q.right q.left)
    where
      all : {so : SoFar} {u : Tree} {j : ℕ} → Right (re_of l so) k w w₁ g → PartsLeft s l so g.next u j → ReadTree u k w w₃ r j
      all {so} {u} {j} x (last_part {t = t} v d) = let f = a.says j t v in record { next = e ∙ f.next; right = rw d (join so t x f.right) }
      all x (more_parts {t = t} {m = m} v d q) = absurd (n (subst (λ (o : ℕ). GoesOn l (byte s o)) (sym (a.says m t v).next) d))

-- ---- factors side by side, branches joined

module _ {k : ℕ} {w w₁ w₂ : List ℕ} {g h r : Fragment} where
  pub join_factor : {w₃ : List ℕ} → g.count < set_bits → Beside k g h w₂ w₃ r
      → (so : SoFar) (t : Tree) → Right (re_of branches so) k w w₁ g → Right (expr t) g.count w₁ w₂ h → Right (expr (grown branches so t)) k w w₃ r
  unfolding expr
  join_factor n m nothing_yet t x z = after_empty (right_beside x z n m)
  join_factor n m (so_far u) t x z = right_beside x z n m

  pub join_branch : Either g h r → (so : SoFar) (t : Tree) → Right (re_of exprs so) k w w₁ g → Right (expr t) g.count w₁ w₂ h → Right (expr (grown exprs so t)) k w w₂ r
  unfolding expr
  join_branch m nothing_yet t x z = or_nothing (right_either x z m)
  join_branch m (so_far u) t x z = right_either x z m
