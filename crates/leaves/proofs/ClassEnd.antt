-- The end of a class. After a backslash stands no `]` that ends it, and the bytes of an escape after those two are none.
--   Along s i j: from i on, each byte passed, with the one after it if it is a backslash, the `]` at j is reached, and none before it
--   WithinClass s at i: so it is for the end of every class whose items begin at at
--   class_all, class_inside, class_one, class_two, class_end: at the first item; before the end; one byte further; two; at the end
use Prim.Native.Nat.{ℕ, ◌+◌, ◌<◌, ◌≤◌}
use Prim.Native.Char.{code}
use mathlib.Core.Path.{◌≡◌, refl, sym, ap, ◌∙◌}
use mathlib.Core.List.{List}
use native.Mathlib.Omega.{arith}
use lib.ListN.{length}
use Rattle.scope.specs.Bytes.{byte}
use Rattle.scope.specs.Text.Grammar.{class_literal, hex, Escape, plain, coded, ClassByte, bare, escaped, OneItem, one_byte, low_high, Items, last_item, more_items}
use Rattle.scope.specs.Text.Tree.{Item}
use Rattle.scope.proofs.Text.Grammar.{other}
use Rattle.leaves.specs.ReadAt.{Some, WholeItems, EndsAt}
use Rattle.leaves.proofs.ClassItems.{ends, items_bounds, closed_in}

pub data Along (s : List ℕ) : ℕ → ℕ → Type 0 where
  here : {j : ℕ} → byte s j ≡ code "]" → Along s j j
  over : {i j : ℕ} → (byte s i ≡ code "]" → ⊥) → (byte s i ≡ code "\\" → ⊥) → Along s (i + 1) j → Along s i j
  pair : {i j : ℕ} → byte s i ≡ code "\\" → Along s (i + 2) j → Along s i j

pub record WithinClass (s : List ℕ) (at i : ℕ) : Type 0 where
  pub says : (j : ℕ) (l : List Item) → WholeItems s at j l → Along s i j

module _ {s : List ℕ} where
  -- ---- what stands in a class

  digit : (i : ℕ) {j k : ℕ} → j ≡ i + 1 → hex (byte s i) < 16 → Along s j k → Along s i k
  unfolding hex
  digit i e h r = over {i = i} (λ z. omega (arith, ap hex z)) (λ z. omega (arith, ap hex z)) (rw e at r)

  escape_along : {i j k b : ℕ} → Escape s i j b → Along s j k → Along s i k
  escape_along (plain h p) r = pair h r
  escape_along {i} (coded h x d e) r = pair h (digit (i + 2) {j = i + 3} (omega arith) d (digit (i + 3) (omega arith) e r))

  byte_along : {i j k b : ℕ} → ClassByte s i j b → Along s j k → Along s i k
  unfolding class_literal
  byte_along (bare h) r = over (other class_literal h refl) (other class_literal h refl) r
  byte_along (escaped x) r = escape_along x r

  item_along : {i j k : ℕ} {x : Item} → OneItem s i j x → Along s j k → Along s i k
  item_along (one_byte c) r = byte_along c r
  item_along (low_high c h d) r = byte_along c (over (λ e. omega arith) (λ e. omega arith) (byte_along d r))

  items_along : {i j k : ℕ} {l : List Item} → Items s i j l → Along s j k → Along s i k
  items_along (last_item x) r = item_along x r
  items_along (more_items x l) r = item_along x (items_along l r)

  -- ---- passing over it

  along_up : {i j : ℕ} → Along s i j → i ≤ j
  along_up (here h) = omega arith
  along_up (over n m r) = omega (arith, along_up r)
  along_up (pair h r) = omega (arith, along_up r)

  module _ {b : ℕ} where
    along_one : {i j : ℕ} → b ≡ byte s i → (b ≡ code "]" → ⊥) → (b ≡ code "\\" → ⊥) → Along s i j → Along s (i + 1) j
    along_one q n m (here h) = absurd (n (q ∙ h))
    along_one q n m (over k l r) = r
    along_one q n m (pair h r) = absurd (m (q ∙ h))

    along_two : {i j : ℕ} → b ≡ byte s i → b ≡ code "\\" → Along s i j → Along s (i + 2) j
    along_two q e (here h) = absurd (omega arith)
    along_two q e (over k l r) = absurd (l (sym q ∙ e))
    along_two q e (pair h r) = r

    along_end : {i j : ℕ} → b ≡ byte s i → b ≡ code "]" → Along s i j → i ≡ j
    along_end q e (here h) = refl
    along_end q e (over k l r) = absurd (k (sym q ∙ e))
    along_end q e (pair h r) = absurd (omega arith)

  pub class_all : (i : ℕ) → WithinClass s i i
  class_all i = record { says = λ j l (r, h). items_along r (here h) }

  pub class_inside : {at i : ℕ} → Some WholeItems s at → WithinClass s at i → i < length s
  class_inside p f = omega (arith, along_up (f.says p.end p.what p.reads), closed_in p.reads)

  module _ {at i b : ℕ} (f : WithinClass s at i) (q : b ≡ byte s i) where
    pub class_one : (b ≡ code "]" → ⊥) → (b ≡ code "\\" → ⊥) → WithinClass s at (i + 1)
    class_one n m = record { says = λ j l w. along_one q n m (f.says j l w) }

    pub class_two : b ≡ code "\\" → WithinClass s at (i + 2)
    class_two e = record { says = λ j l w. along_two q e (f.says j l w) }

    pub class_end : Some WholeItems s at → b ≡ code "]" → EndsAt WholeItems s at i
    class_end p e = ends p items_bounds (λ j l w. along_end q e (f.says j l w))
