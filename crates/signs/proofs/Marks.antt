-- Round 0. Marks are 0 or 1, so there are at most two parts: that of the state 0, and that of the first state with another mark.
--   OneMark a b p q: p and q have one mark
--   FirstOther a b other q, MarksNamed a b part other q: the first state below q with another mark than the state 0; the states below q are named
--   begun_none, begun_same, begun_other: no state, one more with the mark of the state 0, one more with another
--   begun_all: states have one mark exactly if both accept or neither, so the names are those of round 0
use Prim.Native.Nat.{ℕ, ◌+◌, ◌≤◌, ◌<◌}
use mathlib.Core.Path.{◌≡◌, refl, sym, ap, ◌∙◌}
use mathlib.Core.List.{List}
use native.Mathlib.Omega.{arith}
use borrow.Author.Count.{below_more}
use lib.Dec.{eqb}
use Rattle.std.proofs.Common.{Option, Some, None}
use Rattle.std.specs.Prelude.{MatchOption, unwrap_or}
use lib.Seq.{get_or-set_other}
use lib.ListN.{length, get_or, set, replicate, length-set}
use Rattle.scope.specs.Machines.Room.{states_of, SoundTable}
use Rattle.scope.specs.Machines.Rounds.{Together}
use Rattle.scope.proofs.Counting.Tests.{bit_same}
use Rattle.scope.proofs.Counting.Lists.{zeros}
use Rattle.two_rooms.specs.Side.{both_limit, mark_in, side, FirstStates}
use Rattle.two_rooms.proofs.Rooms.{accepts_mark, mark_small}
use Rattle.parting.specs.Named.{LeastLike, Named}
use Rattle.parting.proofs.Names.{named_none, named_more}

-- two states have one mark
abbrev pub OneMark : List ℕ → List ℕ → ℕ → ℕ → Type 0
OneMark a b p q = mark_in a b p ≡ mark_in a b q

-- other is the first state below q with another mark than 0, if there is one
abbrev pub FirstOther : List ℕ → List ℕ → Option ℕ → ℕ → Type 0
FirstOther a b other q = MatchOption other ((p : ℕ) → p < q → OneMark a b p 0) (λ o. (o < q) × (OneMark a b o 0 → ⊥) × ((p : ℕ) → p < o → OneMark a b p 0))

pub record MarksNamed (a b part : List ℕ) (other : Option ℕ) (q : ℕ) : Type 0 where
  pub long : length part ≡ both_limit
  pub named : Named (OneMark a b) part q
  pub zero : (x : ℕ) → q ≤ x → get_or part x 0 ≡ 0
  pub first : FirstOther a b other q

pub begun_none : (a b : List ℕ) → MarksNamed a b (replicate both_limit 0) None 0
begun_none a b = record {
  long = refl;
  named = named_none (OneMark a b) (replicate both_limit 0);
  zero = λ x l. zeros both_limit x;
  first = λ p l. absurd (omega arith);
}

module _ (a b part : List ℕ) (other : Option ℕ) (q : ℕ) (d : MarksNamed a b part other q) where
  -- one more state has the mark of 0
  pub begun_same : OneMark a b q 0 → MarksNamed a b part other (q + 1)
  begun_same e = record {
    long = d.long;
    named = below_more (λ (x : ℕ). LeastLike (OneMark a b) x (get_or part x 0)) q d.named
        (rw (d.zero q (omega arith)) (record { low = omega arith; like = sym e; least = λ p l. absurd (omega arith) }));
    zero = λ x l. d.zero x (omega arith);
    first = still other d.first;
  }
    where
      still : (o : Option ℕ) → FirstOther a b o q → FirstOther a b o (q + 1)
      still None f = below_more (λ (p : ℕ). OneMark a b p 0) q f e
      still (Some o) f = (omega (arith, f.0), f.1, f.2)

  -- one more has another: that of the first of these
  pub begun_other : SoundTable a → SoundTable b → q < states_of a + states_of b → q < both_limit → (OneMark a b q 0 → ⊥) → MarksNamed a b (set part q (unwrap_or other q)) (Some (unwrap_or other q)) (q + 1)
  begun_other s t k h n = go other d.first
    where
      stored : (o : ℕ) → OneMark a b o q → o < q + 1 → ((p : ℕ) → p < o → OneMark a b p 0) → MarksNamed a b (set part q o) (Some o) (q + 1)
      stored o e l g = record {
        long = length-set part q o ∙ d.long;
        named = named_more (OneMark a b) part q o (omega (arith, d.long)) d.named (record { low = omega arith; like = e; least = λ p k z. n (sym z ∙ g p k) });
        zero = λ x l. get_or-set_other part q x o 0 (λ e. omega arith) ∙ d.zero x (omega arith);
        first = (l, λ z. n (sym e ∙ z), g);
      }

      go : (o : Option ℕ) → FirstOther a b o q → MarksNamed a b (set part q (unwrap_or o q)) (Some (unwrap_or o q)) (q + 1)
      go None f = stored q refl (omega arith) f
      go (Some o) (l, m, g) = stored o (omega (arith, n, m, mark_small a b q s t k, mark_small a b o s t (omega arith), mark_small a b 0 s t (omega arith))) (omega arith) g

-- states have one mark exactly if both accept or neither
pub begun_all : (a b part : List ℕ) (other : Option ℕ) (n : ℕ) → FirstStates a b n → MarksNamed a b part other n → Named (Together (side a b n) 0) part n
begun_all a b part other n s d q h =
    let f = d.named q h in
    record {
      low = f.low;
      like = accepts_mark a b (get_or part q 0) ∙ ap (λ (m : ℕ). eqb m 1) f.like ∙ sym (accepts_mark a b q);
      least = λ p l e. f.least p l (bit_same (mark_in a b p) (mark_in a b q)
          (mark_small a b p s.left s.right (omega (arith, f.low, s.few)))
          (mark_small a b q s.left s.right (omega (arith, s.few)))
          (sym (accepts_mark a b p) ∙ e ∙ accepts_mark a b q));
    }
