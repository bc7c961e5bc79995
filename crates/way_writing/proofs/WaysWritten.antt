-- Two bytes for each state, then zeros. Nothing before them changes, so the room's machine and its ways home stay.
--   put_none, put_more: no way is written; one more
--   ways_written: the ways home are written, and zeros behind them
--   written_sound, written_canonical, written_equal: a sound table becomes a sound room, a canonical one a canonical room, of the same strings
use Prim.Native.Nat.{ℕ, ◌+◌, ◌*◌, ◌/◌, ◌%◌, ◌≤◌, ◌<◌}
use mathlib.Core.Path.{◌≡◌, refl, sym, ◌∙◌}
use mathlib.Core.Logic.{inl, inr, ⊎_elim}
use mathlib.Core.List.{List}
use native.Mathlib.Omega.{arith}
use lib.ListN.{length, get_or, set, length-set}
use lib.Seq.{get_or-set_same, get_or-set_other}
use Rattle.scope.specs.Limits.{byte_values, state_limit, ways_at, room_bytes}
use Rattle.scope.specs.Machines.Machine.{Equal}
use Rattle.scope.specs.Machines.Room.{states_of, machine, SoundTable, Sound, SameTables}
use Rattle.scope.specs.Machines.Canonical.{CanonicalTable, Canonical}
use Rattle.scope.proofs.Counting.Tests.{split}
use Rattle.scope.proofs.Machines.Moved.{moved_agree, moved_same, table_moved, canonical_table_moved}
use Rattle.scope.proofs.Machines.Ways.{way_same}
use Rattle.buffers.specs.Stored.{Stored}
use Rattle.way_writing.specs.WaysWritten.{WaysHome, WaysPut, WaysWritten}

-- two bytes stored side by side
module _ (b : List ℕ) (at x y : ℕ) where
  first : at < length b → get_or (set (set b at x) (at + 1) y) at 0 ≡ x
  first h = get_or-set_other (set b at x) (at + 1) at y 0 (λ e. omega arith) ∙ get_or-set_same b at x 0 h

  second : at + 1 < length b → get_or (set (set b at x) (at + 1) y) (at + 1) 0 ≡ y
  second h = get_or-set_same (set b at x) (at + 1) y 0 (rw length-set h)

  others : (i : ℕ) → (i ≡ at → ⊥) → (i ≡ at + 1 → ⊥) → get_or (set (set b at x) (at + 1) y) i 0 ≡ get_or b i 0
  others i n k = get_or-set_other (set b at x) (at + 1) i y 0 k ∙ get_or-set_other b at i x 0 n

-- no way is written
pub put_none : (w m : List ℕ) → WaysPut w 0 m m
put_none w m = record { size = refl; high = λ q h. absurd (omega arith); low = λ q h. absurd (omega arith); outside = λ i h. refl }

-- the way of one state more
pub put_more : {w a b : List ℕ} {q : ℕ} → room_bytes ≤ length a → q < state_limit → WaysPut w q a b
    → WaysPut w (q + 1) a (set (set b (ways_at + q * 2) (get_or w q 0 / byte_values)) (ways_at + q * 2 + 1) (get_or w q 0 % byte_values))
put_more {w} {a} {b} {q} long lt p = record {
  size = simp length-set p.size;
  high = λ i h. elim (split i q) [
    | inl k ↦ others b _ _ _ (ways_at + i * 2) (λ e. omega arith) (λ e. omega arith) ∙ p.high i k
    | inr k ↦ (let e : i ≡ q = omega arith in rw e (first b _ _ _ (omega (arith, p.size))))
  ];
  low = λ i h. elim (split i q) [
    | inl k ↦ others b _ _ _ (ways_at + i * 2 + 1) (λ e. omega arith) (λ e. omega arith) ∙ p.low i k
    | inr k ↦ (let e : i ≡ q = omega arith in rw e (second b _ _ _ (omega (arith, p.size))))
  ];
  outside = λ i h. others b _ _ _ i (λ e. ⊎_elim (λ k. omega arith) (λ k. omega arith) h) (λ e. ⊎_elim (λ k. omega arith) (λ k. omega arith) h)
      ∙ p.outside i (⊎_elim (λ k. inl k) (λ k. inr (omega arith)) h);
}

-- the ways home are written, and zeros behind them
pub ways_written : {w a b c : List ℕ} {n : ℕ} → SoundTable a → n ≡ states_of a → WaysHome a w → WaysPut w n a b
    → Stored b c (ways_at + n * 2) room_bytes (λ i. 0) → WaysWritten a c
ways_written {w} {a} {b} {c} {n} s e f p z = record {
  ways = record {
    beside = λ q h. (let k : q < states_of a = rw states h in
        record {
          way = get_or w q 0;
          right = way_same (moved_same a c same s q k) (f q k);
          high = z.outside (ways_at + q * 2) (inl (omega arith)) ∙ p.high q (omega arith);
          low = z.outside (ways_at + q * 2 + 1) (inl (omega arith)) ∙ p.low q (omega arith);
        });
    ways_off = λ i h k. omega (arith, z.inside i h (omega (arith, states)));
  };
  table = same;
  tail = record { size = z.size ∙ p.size; outside = λ i h. z.outside i (inr h) ∙ p.outside i (inr (omega (arith, s.few_states))) };
}
  where
    same : SameTables a c
    same i h = sym (z.outside i (inl (omega arith)) ∙ p.outside i (inl h))

    states : states_of a ≡ states_of c
    states = (moved_agree a c same s).states

-- ---- what is written

module _ {old new : List ℕ} (s : SoundTable old) (w : WaysWritten old new) where
  -- a sound table becomes a sound room
  pub written_sound : Sound new
  written_sound = record { table = table_moved old new (omega (arith, s.long, w.tail.size)) w.table s; ways = w.ways }

  -- a canonical one a canonical room
  pub written_canonical : CanonicalTable old → Canonical new
  written_canonical c = record { sound = written_sound; table = canonical_table_moved old new w.table s c }

  -- of the same strings
  pub written_equal : Equal (machine old) (machine new)
  written_equal = moved_same old new w.table s 0 s.some_state
