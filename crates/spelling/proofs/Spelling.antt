-- Spelling. Of d bytes `at` are written, and lead the two starts to p and q, which d - at bytes tell apart and no fewer do: whatever is spelled for p and q
-- then completes what is written. The next byte is the first that leads p and q to two parts after d - (at + 1) rounds; bytes of the kinds before i do not.
--   Writing a b word word' d p q at: so much is written into word, which is word' by now
--   LeadTogether a b r p q x: the byte x leads p and q to states that are together after r rounds
--   KindsTried a b least r p q i: so do the bytes of each kind before i
--   climb_ready: a state can climb
--   untried: some kind is still to be tried
--   tried_more: one kind more is tried
--   writing_none, writing_more, writing_done: a byte more is written, until all are
use Prim.Native.Nat.{ℕ, suc, ◌+◌, ◌-◌, ◌≤◌, ◌<◌}
use mathlib.Core.Path.{◌≡◌, refl, ◌∙◌}
use mathlib.Core.Logic.{inl, inr, ◌↔◌}
use mathlib.Core.List.{List, [], ◌∷◌, ◌++◌, append-nil, append_assoc}
use native.Mathlib.Numerals.{add-one}
use native.Mathlib.Omega.{arith}
use borrow.Author.Count.{below_more}
use lib.ListN.{length, take, get_or, set, length-set}
use lib.Seq.{get_or-take, get_or-set_other, take-suc-set}
use Rattle.scope.specs.Limits.{byte_values}
use Rattle.scope.specs.Machines.Room.{states_of, machine}
use Rattle.scope.specs.Machines.Rounds.{Together}
use Rattle.scope.specs.Operations.Buffers.{TailKept}
use Rattle.scope.proofs.Counting.Tests.{split}
use Rattle.scope.proofs.Machines.Run.{sound_closed}
use Rattle.scope.proofs.Machines.Separate.{Spelled, spelled_more, spelled_separation}
use Rattle.two_rooms.specs.Side.{both}
use Rattle.two_rooms.specs.Kinds.{KindsOf}
use Rattle.spelling.specs.Climb.{Climbs, Climbed}
use Rattle.two_rooms.proofs.ByKind.{kind_next, kind_before}
use Rattle.spelling.proofs.Climbing.{climbs, climbed_together}
use Rattle.spelling.specs.Word.{Parted, Spells, WordHas}

pub record Writing (a b word word' : List ℕ) (d p q at : ℕ) : Type 0 where
  pub within : at ≤ d
  pub left : p < states_of a + states_of b
  pub right : q < states_of a + states_of b
  pub parted : Parted (both a b) (d - at) (d - at) p q
  pub completed : (v : List ℕ) → Spelled (both a b) (d - at) p q v → Spelled (both a b) d 0 (states_of a) (take at word' ++ v)
  pub kept : TailKept at word word'

abbrev pub LeadTogether : List ℕ → List ℕ → ℕ → ℕ → ℕ → ℕ → Type 0
LeadTogether a b r p q x = Together (both a b) r ((both a b).next p x) ((both a b).next q x)

abbrev pub KindsTried : List ℕ → List ℕ → List ℕ → ℕ → ℕ → ℕ → ℕ → Type 0
KindsTried a b least r p q i = (j : ℕ) → j < i → LeadTogether a b r p q (get_or least j 0)

module _ {a b part parent born : List ℕ} {d : ℕ} (s : Spells a b part parent born d) where
  -- a state can climb to any round up to d
  pub climb_ready : (y r : ℕ) → y < states_of a + states_of b → r ≤ d → Climbs part parent born y r
  climb_ready y r h l = climbs (both a b) part parent born s.rounds s.refined y r
      (omega (arith, s.left.few_states, s.right.few_states)) h (omega (arith, s.within))

  -- nothing is written
  pub writing_none : (word : List ℕ) → Writing a b word word d 0 (states_of a) 0
  writing_none word = record {
    within = omega arith;
    left = omega (arith, s.left.some_state);
    right = omega (arith, s.right.some_state);
    parted = rw all s.parted;
    completed = λ v t. rw all at t;
    kept = record { size = refl; outside = λ i h. refl };
  }
    where
      all : d - 0 ≡ d
      all = omega arith

  -- all is written
  pub writing_done : {word word' : List ℕ} {p q at : ℕ} → at ≡ d → Writing a b word word' d p q at → WordHas a b word word' d
  writing_done {word} {word'} {p} {q} {at} e w = record {
    string = take d word';
    separation = spelled_separation (machine a) (machine b) (sound_closed a s.left) (sound_closed b s.right) d (take d word') s.parted.before spelled;
    long = spelled.long;
    written = record { size = w.kept.size; inside = λ i h. rw get_or-take refl; outside = λ i h. w.kept.outside i (omega arith) };
  }
    where
      none : d - at ≡ 0
      none = omega arith

      spelled : Spelled (both a b) d 0 (states_of a) (take d word')
      spelled = rw (e, append-nil) at (w.completed []
          (rw none (record { bytes = tt; long = refl; told = rw none at w.parted.apart; first = λ i c v l. absurd (omega arith) })))

  module _ {kind least word word' : List ℕ} {count p q at : ℕ} (k : KindsOf a b kind least count) (w : Writing a b word word' d p q at) (n : at ≡ d → ⊥) where
    more : d - at ≡ suc (d - (at + 1))
    more = omega (arith, w.within)

    parted : Parted (both a b) (suc (d - (at + 1))) (suc (d - (at + 1))) p q
    parted = rw more at w.parted

    by_kind : (x : ℕ) → x < byte_values → LeadTogether a b (d - (at + 1)) p q (get_or least (get_or kind x 0) 0) → LeadTogether a b (d - (at + 1)) p q x
    by_kind x h t = rw (← kind_next a b kind least count k x h p, ← kind_next a b kind least count k x h q) t

    -- a kind is left to be tried: else the two were together one round longer
    pub untried : (i : ℕ) → KindsTried a b least (d - (at + 1)) p q i → i < count
    untried i t = elim (split i count) [
      | inl l ↦ l
      | inr l ↦ absurd (parted.apart (parted.before (d - (at + 1)) (omega arith), λ x h. by_kind x h (t (get_or kind x 0) (omega (arith, k.below x h)))))
    ]

    module _ (i : ℕ) {y z u v : ℕ} (t : KindsTried a b least (d - (at + 1)) p q i)
        (ey : (y ≡ (both a b).next p (get_or least i 0)) × (y < states_of a + states_of b)) (ez : (z ≡ (both a b).next q (get_or least i 0)) × (z < states_of a + states_of b))
        (f : Climbed part parent born y (d - (at + 1)) u) (g : Climbed part parent born z (d - (at + 1)) v) where
      together : (u ≡ v) ↔ Together (both a b) (d - (at + 1)) y z
      together = climbed_together (both a b) part parent born s.rounds s.refined y z (d - (at + 1)) u v ey.1 ez.1 (omega (arith, s.within)) f g

      -- the kind i leads to one part: one kind more is tried
      pub tried_more : u ≡ v → KindsTried a b least (d - (at + 1)) p q (i + 1)
      tried_more e = below_more (λ (j : ℕ). LeadTogether a b (d - (at + 1)) p q (get_or least j 0)) i t (rw (← ey.0, ← ez.0) (together.0 e))

      byte : get_or least i 0 < byte_values
      byte = k.byte i (untried i t)

      -- a smaller byte is of a kind before i
      lower : (c : ℕ) → c < get_or least i 0 → LeadTogether a b (d - (at + 1)) p q c
      lower c l =
          let h : c < byte_values = omega (arith, byte) in
          by_kind c h (t (get_or kind c 0) (kind_before k c i (untried i t) l))

      -- it leads to two: a byte more is written
      pub writing_more : at < length word → (u ≡ v → ⊥) → Writing a b word (set word' at (get_or least i 0)) d y z (at + 1)
      writing_more m e = record {
        within = omega (arith, w.within);
        left = ey.1;
        right = ez.1;
        parted = record { before = λ j l. rw (ey.0, ez.0) ((parted.before (suc j) (omega arith)).1 (get_or least i 0) byte); apart = λ o. e (together.1 o) };
        completed = λ o r. rw (add-one, take-suc-set word' at (get_or least i 0) (omega (arith, w.kept.size)), append_assoc)
            (w.completed (get_or least i 0 ∷ o) (rw more (spelled_more (both a b) byte lower (rw (ey.0, ez.0) at r))));
        kept = record {
          size = length-set word' at (get_or least i 0) ∙ w.kept.size;
          outside = λ j h. get_or-set_other word' at j (get_or least i 0) 0 (λ o. omega arith) ∙ w.kept.outside j (omega arith);
        };
      }
