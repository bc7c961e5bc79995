-- Parts, one after the other. The first part is found by going down the grammar's left recursion; what comes after it is put behind the others. A byte that
-- ends an l ends its last part, and a part that follows another one begins with a byte that ends that one.
--   not_stop: what is read begins with no byte that ends a branch
--   all_factors, all_branches: all parts of a branch, of an expression, where none was read yet
--   ready: what can be read at a place
--   ready_atom, ready_part: the atom of a factor, and the next part of an l, can be read
--   marks_begun: an atom that was read is a first part of whatever the factor may be
use Prim.Native.Nat.{ℕ, ◌+◌, ◌≤◌}
use Prim.Native.Char.{code}
use mathlib.Core.Path.{◌≡◌, refl, sym, ap, subst}
use mathlib.Core.Bool.{true, false}
use mathlib.Core.List.{List}
use mathlib.Core.Logic.{inl, inr}
use native.Mathlib.Omega.{arith}
use lib.ListN.{length}
use Rattle.scope.specs.Bytes.{byte}
use Rattle.scope.specs.Text.Grammar.{is_mark, mark_byte, Level, atoms, factors, branches, exprs, Reads, one_atom, one_mark, one_factor, next_factor, one_branch, next_branch}
use Rattle.scope.specs.Limits.{byte_values, pattern_limit, position_limit}
use Rattle.scope.specs.Text.Re.{size}
use Rattle.scope.specs.Text.Tree.{Mark, Tree, marked, expr}
use Rattle.scope.proofs.Counting.Tests.{or, equals, which}
use Rattle.scope.proofs.Text.Grammar.{other, reads_on}
use Rattle.scope.proofs.Text.Marks.{mark_other}
use Rattle.scope.proofs.Text.Begins.{starts_atom, reads_begins, not_mark}
use Rattle.scope.proofs.Positions.Marked.{size_marked}
use Rattle.fragments.specs.declared.Fragment.{Fragment}
use Rattle.factors.specs.Tails.{closes_expr, stops, WholeLevel, MarksLeft, done, a_mark}
use Rattle.factors.specs.Answer.{Readable, Answer, Marking}
use Rattle.factors.proofs.ReadsIn.{reads_in}
use Rattle.pattern.specs.Parts.{part_of, GoesOn, after_bar, SoFar, nothing_yet, so_far, grown, re_of, PartsLeft, last_part, more_parts, Going}

-- ---- what ends what

-- what is read begins with no byte that ends a branch
pub not_stop : {s : List ℕ} {l : Level} {i j : ℕ} {t : Tree} → Reads s l i j t → stops (byte s i) ≡ true → ⊥
unfolding starts_atom stops
not_stop {s} {i = i} r h =
    elim ((or (or (equals (byte s i) (code ")")) (equals (byte s i) byte_values)) (equals (byte s i) (code "|"))).sound h) [
      | inl (inl e) ↦ other starts_atom (reads_begins r) refl (sym e)
      | inl (inr e) ↦ other starts_atom (reads_begins r) refl (sym e)
      | inr e ↦ other starts_atom (reads_begins r) refl (sym e)
    ]

stop_unmarked : (b : ℕ) → stops b ≡ true → is_mark b ≡ false
unfolding stops
stop_unmarked b h = mark_other stops h refl refl refl

bar_stops : {b : ℕ} → b ≡ code "|" → stops b ≡ true
unfolding stops
bar_stops h = rw h refl

close_stops : (b : ℕ) → closes_expr b ≡ true → stops b ≡ true
unfolding stops
close_stops b h = rw h refl

-- ---- the parts of a branch and of an expression

-- a part more, and its positions
grown_size : (l : Level) (so : SoFar) (t : Tree) → size (expr (grown l so t)) ≡ size (re_of l so) + size (expr t)
unfolding expr
grown_size exprs nothing_yet t = omega arith
grown_size branches nothing_yet t = omega arith
grown_size factors nothing_yet t = omega arith
grown_size atoms nothing_yet t = omega arith
grown_size exprs (so_far u) t = refl
grown_size branches (so_far u) t = refl
grown_size factors (so_far u) t = refl
grown_size atoms (so_far u) t = refl

-- an atom that a factor begins with, and its marks
record AtomFirst (s : List ℕ) (i : ℕ) (u : Tree) (j : ℕ) : Type 0 where
  end : ℕ
  tree : Tree
  head : WholeLevel atoms s i end tree
  left : MarksLeft s tree end u j

module _ {s : List ℕ} where
  then_mark : {t u : Tree} {j k : ℕ} (m : Mark) → MarksLeft s t j u k → byte s k ≡ mark_byte m → MarksLeft s t j (marked m u) (k + 1)
  then_mark m done h = a_mark m h done
  then_mark m (a_mark n g r) h = a_mark n g (then_mark m r h)

  then_part : (l : Level) {so : SoFar} {t u : Tree} {j k m : ℕ} → PartsLeft s l so j u m → GoesOn l (byte s m) → WholeLevel (part_of l) s (after_bar l m) k t → PartsLeft s l so j (grown l (so_far u) t) k
  then_part l {t = t} (last_part w e) g h = more_parts w g (last_part h (ap (λ (x : Tree). grown l (so_far x) t) e))
  then_part l (more_parts w g r) g' h = more_parts w g (then_part l r g' h)

  factors_left : {i j : ℕ} {t : Tree} → Reads s branches i j t → is_mark (byte s j) ≡ false → PartsLeft s branches nothing_yet i t j
  factors_left (one_factor r) e = last_part (r, e) refl
  factors_left {j = j} (next_factor {j = m} r q) e = then_part branches (factors_left r (not_mark q)) (elim (which (stops (byte s m))) [ inl z ↦ absurd (not_stop q z) | inr z ↦ z ]) (q, e)

  branches_left : {i j : ℕ} {t : Tree} → Reads s exprs i j t → stops (byte s j) ≡ true → PartsLeft s exprs nothing_yet i t j
  branches_left (one_branch r) e = last_part (r, e) refl
  branches_left (next_branch r h q) e = then_part exprs (branches_left r (bar_stops h)) h (q, e)

  pub all_factors : {i j : ℕ} {t : Tree} → WholeLevel branches s i j t → PartsLeft s branches nothing_yet i t j
  all_factors (r, e) = factors_left r (stop_unmarked _ e)

  pub all_branches : {i j : ℕ} {t : Tree} → WholeLevel exprs s i j t → PartsLeft s exprs nothing_yet i t j
  all_branches (r, e) = branches_left r (close_stops _ e)

  -- ---- what can be read

  pub ready : (l : Level) {i j k : ℕ} {t : Tree} → length s ≤ pattern_limit → WholeLevel l s i j t → k + size (expr t) ≤ position_limit → Readable l k s i
  ready l h w b = record { short = h; inside = omega (arith, reads_on w.0, reads_in w.0); end = _; tree = _; whole = w; brief = b }

  -- what was read has no more positions than all of it
  pub parts_size : (l : Level) {so : SoFar} {u : Tree} {i j : ℕ} → PartsLeft s l so i u j → size (re_of l so) ≤ size (expr u)
  parts_size l {so} (last_part {t = t} w e) = omega (arith, grown_size l so t, ap (λ (x : Tree). size (expr x)) e)
  parts_size l {so} (more_parts {t = t} w g r) = omega (arith, grown_size l so t, parts_size l r)

  -- the next part
  part_ready : (l : Level) {so : SoFar} {u : Tree} {i j n : ℕ} (k : ℕ) → length s ≤ pattern_limit → n ≡ k + size (re_of l so) → PartsLeft s l so i u j → k + size (expr u) ≤ position_limit → Readable (part_of l) n s i
  part_ready l {so} k h c (last_part {t = t} w e) b = ready (part_of l) h w (omega (arith, grown_size l so t, ap (λ (x : Tree). size (expr x)) e))
  part_ready l {so} k h c (more_parts {t = t} w g r) b = ready (part_of l) h w (omega (arith, grown_size l so t, parts_size l r))

  pub ready_part : (l : Level) {k i : ℕ} {w w' : List ℕ} {g : Fragment} (p : Readable l k s i) → Going l s k w w' g p.tree p.end → Readable (part_of l) g.count s g.next
  ready_part l p q = part_ready l _ p.short q.right.counts q.left p.brief

  -- ---- an atom and its marks

  atom_first : {i j : ℕ} {t : Tree} → Reads s factors i j t → AtomFirst s i t j
  atom_first (one_atom r) = record { end = _; tree = _; head = (r, tt); left = done }
  atom_first (one_mark m r h) = let a = atom_first r in record { end = a.end; tree = a.tree; head = a.head; left = then_mark m a.left h }

  pub marks_size : {t u : Tree} {j k : ℕ} → MarksLeft s t j u k → size (expr t) ≤ size (expr u)
  unfolding expr
  marks_size done = omega arith
  marks_size {t = t} (a_mark m h r) = omega (arith, marks_size r, size_marked m (expr t))

  pub ready_atom : {k i : ℕ} → Readable factors k s i → Readable atoms k s i
  ready_atom p = let a = atom_first p.whole.0 in ready atoms p.short a.head (omega (arith, marks_size a.left, p.brief))

  pub marks_begun : {i k j : ℕ} {u : Tree} {w w' : List ℕ} {g : Fragment} → Answer atoms s i k w w' g → Reads s factors i j u → Marking s k w w' g u j
  marks_begun {j = j} {u = u} a r =
      let f = atom_first r in
      let x = a.says f.end f.tree f.head in
      record { tree = f.tree; right = x.right; left = subst (λ (n : ℕ). MarksLeft s f.tree n u j) (sym x.next) f.left }
