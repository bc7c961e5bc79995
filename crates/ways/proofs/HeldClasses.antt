-- The classes that some byte has, found one by one: none of those below the class is missing, and all that are listed are such classes.
--   occurs_none, occurs_more, occurs_not: no element; one more that is the class, or is not
--   block_at from t: where the block begins that is tried after t others, the first being `from`
--   NoBlock, blocks_more, blocks_here, blocks_all: blocks without the class; one more without it, or with it; no block is left
--   HeldBelow m l n c: the list of the classes below c; held_none, held_skip, held_more, held_all: none; one more that no byte has, or that some byte has; all
--   held_some: there is one
use Prim.Native.Nat.{ℕ, ◌+◌, ◌-◌, ◌*◌, ◌/◌, ◌%◌, ◌≤◌, ◌<◌}
use mathlib.Core.Path.{◌≡◌, sym, ◌∙◌}
use mathlib.Core.Bool.{Bool, true, false}
use mathlib.Core.Logic.{inl, inr}
use mathlib.Core.List.{List}
use Rattle.std.specs.Prelude.{None, Some}
use native.Mathlib.Omega.{arith}
use native.Mathlib.Decide.{ℕ_discrete}
use lib.ListN.{length, get_or, set, length-set}
use lib.Seq.{get_or-set_same, get_or-set_other}
use Rattle.scope.specs.Limits.{byte_values, class_limit, classes_at, marks_at}
use Rattle.scope.specs.Machines.Room.{classes_of, class_of, SoundTable}
use Rattle.scope.proofs.Counting.Tests.{split}
use Rattle.buffers.specs.Stored.{Decides}
use Rattle.buffers.proofs.OneMore.{holds, fails}
use Rattle.ways.specs.Held.{block, blocks, Occurs, BlockFound, HeldClasses}

-- ---- a class among the elements

pub occurs_none : (m : List ℕ) (from c : ℕ) → Decides false (Occurs m from from c)
occurs_none m from c = fails (λ a. omega (arith, a.high, a.low))

module _ {m : List ℕ} {from i c : ℕ} {b : Bool} (d : Decides b (Occurs m from i c)) where
  pub occurs_more : from ≤ i → get_or m i 0 ≡ c → Decides true (Occurs m from (i + 1) c)
  occurs_more l e = holds (record { place = i; high = omega arith; low = l; is = e })

  pub occurs_not : (get_or m i 0 ≡ c → ⊥) → Decides b (Occurs m from (i + 1) c)
  occurs_not n = record {
    yes = λ t. (let a = d.yes t in record { place = a.place; high = omega (arith, a.high); low = a.low; is = a.is });
    no = λ t a. elim (split a.place i) [
      | inl k ↦ d.no t (record { place = a.place; high = k; low = a.low; is = a.is })
      | inr k ↦ (let e : a.place ≡ i = omega (arith, a.high) in n (rw e at a.is))
    ];
  }

-- ---- block by block

-- where the block begins that is tried after t others, the first being `from`
abbrev pub block_at : ℕ → ℕ → ℕ
block_at from t = classes_at + (from + t) % blocks * block

-- no byte of the first t blocks has the class
abbrev pub NoBlock : List ℕ → ℕ → ℕ → ℕ → Type 0
NoBlock m from t c = (s : ℕ) → s < t → Occurs m (block_at from s) (block_at from s + block) c → ⊥

module _ {m : List ℕ} {c : ℕ} (from t : ℕ) where
  -- one block more without it
  pub blocks_more : NoBlock m from t c → (Occurs m (block_at from t) (block_at from t + block) c → ⊥) → NoBlock m from (t + 1) c
  blocks_more n o s h = elim (split s t) [ inl k ↦ n s k | inr k ↦ (let e : s ≡ t = omega arith in rw e o) ]

  -- or with it
  pub blocks_here : Occurs m (block_at from t) (block_at from t + block) c → BlockFound m c (Some ((from + t) % blocks))
  blocks_here a = record {
    found = (omega arith, record { place = a.place; high = omega (arith, a.high); low = omega (arith, a.low); is = a.is });
    none = λ e. absurd (cc);
  }

  -- no block is left: each was tried
  pub blocks_all : NoBlock m from t c → blocks ≤ t → BlockFound m c None
  blocks_all n h = record {
    found = tt;
    none = λ e a. (let p = (a.place - classes_at) / block in let s = (p + (blocks - from % blocks)) % blocks in
        n s (omega arith) (record { place = a.place; high = omega (arith, a.high, a.low); low = omega (arith, a.high, a.low); is = a.is }));
  }

-- ---- the list

pub record HeldBelow (m l : List ℕ) (n c : ℕ) : Type 0 where
  pub size : length l ≡ class_limit
  pub few : n ≤ c
  pub byte : (i : ℕ) → i < n → (b : ℕ) × (b < byte_values) × (class_of m b ≡ get_or l i 0)
  pub all : (b : ℕ) → b < byte_values → class_of m b < c → (i : ℕ) × (i < n) × (get_or l i 0 ≡ class_of m b)

pub held_none : (m l : List ℕ) → length l ≡ class_limit → HeldBelow m l 0 0
held_none m l e = record { size = e; few = omega arith; byte = λ i h. absurd (omega arith); all = λ b h k. absurd (omega arith) }

module _ {m l : List ℕ} {n c : ℕ} (r : HeldBelow m l n c) where
  -- no byte has the class
  pub held_skip : (Occurs m classes_at marks_at c → ⊥) → HeldBelow m l n (c + 1)
  held_skip o = record {
    size = r.size;
    few = omega (arith, r.few);
    byte = r.byte;
    all = λ b h k. elim (split (class_of m b) c) [
      | inl g ↦ r.all b h g
      | inr g ↦ absurd (o (record { place = classes_at + b; high = omega arith; low = omega arith; is = omega arith }))
    ];
  }

  -- some byte has it
  pub held_more : c < class_limit → Occurs m classes_at marks_at c → HeldBelow m (set l n c) (n + 1) (c + 1)
  held_more h a = record {
    size = length-set l n c ∙ r.size;
    few = omega (arith, r.few);
    byte = λ i g. elim (ℕ_discrete i n) [
      | yes e ↦ (a.place - classes_at, omega (arith, a.high, a.low), here ∙ sym (rw e last))
      | no e ↦ (let (b, k, z) = r.byte i (omega arith) in (b, k, z ∙ sym (other i e)))
    ];
    all = λ b g k. elim (split (class_of m b) c) [
      | inl x ↦ (let (i, y, z) = r.all b g x in (i, omega arith, other i (λ e. omega arith) ∙ z))
      | inr x ↦ (n, omega arith, last ∙ omega arith)
    ];
  }
    where
      last : get_or (set l n c) n 0 ≡ c
      last = get_or-set_same l n c 0 (omega (arith, r.size, r.few))

      other : (i : ℕ) → (i ≡ n → ⊥) → get_or (set l n c) i 0 ≡ get_or l i 0
      other i e = get_or-set_other l n i c 0 e

      here : class_of m (a.place - classes_at) ≡ c
      here = let e : classes_at + (a.place - classes_at) ≡ a.place = omega (arith, a.low) in rw e a.is

  -- all classes
  pub held_all : SoundTable m → c ≡ classes_of m → HeldClasses m l n
  held_all s e = record {
    size = r.size;
    few = omega (arith, r.few, s.few_classes);
    below = λ i h g. (let (b, x, z) = r.byte i h in rw (← z) (s.classes (classes_at + b) (omega arith) (omega arith)));
    byte = r.byte;
    all = λ b h. r.all b h (rw e (s.classes (classes_at + b) (omega arith) (omega arith)));
  }

-- there is one: that of the byte 0
pub held_some : {m l : List ℕ} {n : ℕ} → HeldClasses m l n → 0 < n
held_some h = let (i, k, e) = h.all 0 (omega arith) in omega arith
