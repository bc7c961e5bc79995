-- The states from `at` up to the next are calm.
use Prim.Native.Nat.{ℕ, ◌-◌, ◌≤◌, ◌<◌}
use Rattle.signs.specs.Signs.{Seen, Calm}
use Rattle.round.proofs.looked.Given as goal

abbrev pub invariant-loop-q : goal.invariant-loop-q
invariant-loop-q l = record {
  low : l.at ≤ l.next;
  high : l.next ≤ l.n;
  seen : Seen l.part l.touched l.seen l.next;
  calm : (x : ℕ) → x < l.next → l.at ≤ x → Calm l.part l.touched x;
}

abbrev pub decreases-loop-q : goal.decreases-loop-q
decreases-loop-q l = l.n - l.next
