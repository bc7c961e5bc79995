-- An expression in parentheses: what stands in them can be read, and with the `)` it is the atom.
--   ready_inner: it can be read
--   answer_inner: it was read
use Prim.Native.Nat.{ℕ, ◌+◌}
use Prim.Native.Char.{code}
use mathlib.Core.Path.{◌≡◌, refl, sym, ap, ◌∙◌}
use mathlib.Core.List.{List}
use native.Mathlib.Omega.{arith}
use Rattle.scope.specs.Bytes.{byte}
use Rattle.scope.specs.Text.Grammar.{atoms, exprs, Reads, single, no_byte, no_word, in_group}
use Rattle.scope.specs.Text.Tree.{Tree, group, expr}
use Rattle.scope.proofs.Text.Grammar.{single_group}
use Rattle.fragments.specs.declared.Fragment.{Fragment}
use Rattle.fragments.specs.Shapes.{Moved}
use Rattle.factors.specs.Tails.{closes_expr, WholeLevel}
use Rattle.factors.specs.Answer.{Readable, Answer}
use Rattle.factors.proofs.Rights.{right_moved}
use Rattle.factors.proofs.Atoms.{answer}
use Rattle.pattern.proofs.Tails.{ready}

record Inner (s : List ℕ) (i j : ℕ) (t : Tree) : Type 0 where
  end : ℕ
  tree : Tree
  whole : WholeLevel exprs s (i + 1) end tree
  next : end + 1 ≡ j
  is : t ≡ group i tree

module _ {s : List ℕ} where
  inner : {i j : ℕ} {t : Tree} → byte s i ≡ code "(" → Reads s atoms i j t → Inner s i j t
  unfolding closes_expr
  inner h (single x) = absurd (single_group x h)
  inner h (no_byte h' k) = absurd (omega arith)
  inner h (no_word h' k) = absurd (omega arith)
  inner h (in_group h' r k) = record { end = _; tree = _; whole = (r, rw k refl); next = refl; is = refl }

  module _ {i k b : ℕ} (p : Readable atoms k s i) (q : b ≡ byte s i) (e : b ≡ code "(") where
    pub ready_inner : Readable exprs k s (i + 1)
    unfolding expr
    ready_inner = let x = inner (sym q ∙ e) p.whole.0 in ready exprs p.short x.whole (rw x.is at p.brief)

    pub answer_inner : {w w' : List ℕ} {g r : Fragment} → Answer exprs s (i + 1) k w w' g → Moved g (g.next + 1) g.null r → Answer atoms s i k w w' r
    unfolding expr
    answer_inner a m = answer p (λ j t v. let x = inner (sym q ∙ e) v.0 in let f = a.says x.end x.tree x.whole in record { next = m.nexts ∙ ap (λ (n : ℕ). n + 1) f.next ∙ x.next; right = rw x.is (right_moved f.right m) })
