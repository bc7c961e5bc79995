-- A text that is Dead stays so with more bytes, and an accepted text is not Dead. So no prefix of an accepted text, or of one that is not Dead, is Dead.
--   prefix_kept: a prefix of a text that is not dead
--   accepted_kept: an accepted text is not dead
use Prim.Native.Nat.{ℕ}
use mathlib.Core.List.{List, ◌++◌}
use native.Mathlib.Omega.{arith}
use lib.ListN.{take, drop, length-append, take-append-drop}
use lib.Seq.{take-append-le}
use Rattle.scope.specs.Answers.{DEAD}
use Rattle.scope.specs.Bytes.{Bytes}
use Rattle.scope.specs.Operations.Match.{Matches, dead}
use Rattle.scope.proofs.Operations.Match.{determined}
use Rattle.entry_form.specs.Text.{IsAccepted, IsDead}

-- a prefix that no continuation would make accepted is one of the longer text too
dead_more : {room t : List ℕ} (u : List ℕ) → IsDead room t → IsDead room (t ++ u)
dead_more {room} {t} u d = record { place = d.place; matched = more d.matched }
  where
    more : {i : ℕ} → Matches room t DEAD i → Matches room (t ++ u) DEAD i
    more (dead {i} s k) = dead {i = i} s (record {
      inside = omega (arith, length-append t u, k.inside);
      dead = rw (take-append-le i t u k.inside) k.dead;
      before = λ j h. rw (take-append-le j t u (omega (arith, k.inside))) (k.before j h);
    })

-- a prefix of a text that is not dead is not dead
pub prefix_kept : {room t : List ℕ} (i : ℕ) → (IsDead room t → ⊥) → IsDead room (take i t) → ⊥
prefix_kept {room} {t} i n d = n (rw (take-append-drop i t) at (dead_more (drop i t) d))

-- an accepted text is not dead
pub accepted_kept : {room t : List ℕ} → Bytes t → IsAccepted room t → IsDead room t → ⊥
accepted_kept {room} {t} g a d = omega (arith, (determined room t g a d.matched).0)
