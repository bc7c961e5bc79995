-- The three demands hold: each is put together from the theorems on its contracts.
--   demand1: refusals
--   demand2: compiling, packing and unpacking
--   demand3: comparing
use Prim.Native.Nat.{ℕ, ◌≤◌}
use mathlib.Core.Path.{◌≡◌, refl}
use mathlib.Core.Logic.{inl, inr}
use mathlib.Core.List.{List}
use native.Mathlib.Omega.{arith}
use lib.ListN.{take}
use Rattle.scope.specs.Answers.{DONE}
use Rattle.scope.specs.Machines.Room.{machine, Sound}
use Rattle.scope.specs.Operations.Compile.{Compiles, compiled}
use Rattle.scope.specs.Operations.Compare.{CompareLent, Compares, same, separated}
use Rattle.scope.specs.Demands.{Demand1, Compilation, Demand2, Comparison, Demand3}
use Rattle.scope.proofs.Operations.Buffers.{written_take}
use Rattle.scope.proofs.Machines.Run.{sound_closed}
use Rattle.scope.proofs.Machines.Aside.{rounds_two}
use Rattle.scope.proofs.Text.Tree.{one_tree}
use Rattle.scope.proofs.Operations.Compile.{compiled_least}
use Rattle.scope.proofs.Operations.Unpack.{unpack_pack, pack_unpack}
use Rattle.scope.proofs.Machines.Separate.{same_exact, word_within}
use Rattle.scope.proofs.Told.{rounds_suffice, rounds_least}
use Rattle.scope.proofs.Refusals.{compile_rows, compile_leaves, minimise_first, match_first, compare_first, pack_first, unpack_first, taken_exact}

-- ---- the first

pub demand1 : Demand1
demand1 = record {
  compiles = λ u. (compile_rows u, compile_leaves u);
  minimises = minimise_first;
  matches = match_first;
  compares = compare_first;
  packs = pack_first;
  unpacks = unpack_first;
}

-- ---- the second

-- what a compiled room is
compilation : {text room room' bytes bytes' words words' : List ℕ} {i : ℕ} → Compiles text room room' bytes bytes' words words' DONE i → Compilation text room'
compilation {text} (compiled {t} y s m n k e h f) =
    let p = s.pattern in
    let x = compiled y s m n k e h f in
    record { tree = t; reads = p; only = λ u q. one_tree text u t q p; exact = e; least = compiled_least x t p }

pub demand2 : Demand2
demand2 = record { compiles = compilation; unpacks = unpack_pack; packs = pack_unpack; takes = taken_exact }

-- ---- the third

module _ {left right word word' bytes bytes' words words' : List ℕ} where
  comparison : {i n r : ℕ} → CompareLent left right word bytes words → Sound left → Sound right → Compares left right word word' bytes bytes' words words' i n r
      → Comparison left right word' i n r
  comparison lent s t (Compares.no_room h k c) = absurd (h lent)
  comparison lent s t (Compares.no_form l (inl f) k c) = absurd (f s)
  comparison lent s t (Compares.no_form l (inr f) k c) = absurd (f t)
  comparison {r = r} lent s t (same l s' t' e z k c) =
      let m = sound_closed left s.table in
      let o = sound_closed right t.table in
      record {
        same = (λ x. (same_exact (machine left) (machine right)).0 e, λ f. refl);
        otherwise = λ f. absurd (f refl);
        rounds = rounds_suffice (machine left) (machine right) m o r z;
        least = λ j. rounds_least (machine left) (machine right) m o r j z;
        string = omega arith;
        bound = rounds_two (machine left) (machine right) m o r z;
      }
  comparison {n = n} {r} lent s t (separated {w = w} l s' t' e d z k c) =
      let m = sound_closed left s.table in
      let o = sound_closed right t.table in
      let a : n ≤ r = omega (arith, word_within (machine left) (machine right) m o r w z e) in
      let b = rounds_two (machine left) (machine right) m o r z in
      let x : take n word' ≡ w = written_take w word word' n d (omega (arith, b, s.table.few_states, t.table.few_states, lent.word_long)) k in
      record {
        same = (λ x. absurd (omega arith), λ f. absurd (f w e.separates));
        otherwise = λ f. (refl, rw x d, rw x e);
        rounds = rounds_suffice (machine left) (machine right) m o r z;
        least = λ j. rounds_least (machine left) (machine right) m o r j z;
        string = a;
        bound = b;
      }

pub demand3 : Demand3
demand3 = record { compares = comparison }
