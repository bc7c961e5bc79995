-- Rounds. 01: "Round 0 splits the states of both machines together, reached or not, by their accept mark; each next round splits states sent
-- by some byte into different parts; rounds is the number after which nothing splits."
--   aside M N: both machines together, the states of N after those of M
--   Together M r p q: after round r the states p and q are in one part
--   Rests M r: nothing splits after round r
--   Rounds M r: r is the least such number
--   Untold M r p q: no string of at most r bytes tells p from q
--   Enough M r: strings of at most r bytes tell apart any two states that some string does
use Rattle.std.specs.Prelude.{ℕ, zero, suc, ◌+◌, ◌-◌, ◌≤◌, ◌<◌, ◌≡◌, cond, List, ltb, length}
use Rattle.scope.specs.Limits.{byte_values}
use Rattle.scope.specs.Bytes.{Bytes}
use Rattle.scope.specs.Machines.Machine.{Machine, run, Same}

abbrev pub aside : Machine → Machine → Machine
aside M N = record {
  states = M.states + N.states;
  next = λ q b. cond (ltb q M.states) (M.next q b) (M.states + N.next (q - M.states) b);
  accepts = λ q. cond (ltb q M.states) (M.accepts q) (N.accepts (q - M.states));
}

abbrev pub Together : Machine → ℕ → ℕ → ℕ → Type 0
Together M zero p q = M.accepts p ≡ M.accepts q
Together M (suc r) p q = Together M r p q × ((b : ℕ) → b < byte_values → Together M r (M.next p b) (M.next q b))

abbrev pub Rests : Machine → ℕ → Type 0
Rests M r = (p q : ℕ) → p < M.states → q < M.states → Together M r p q → Together M (suc r) p q

pub record Rounds (M : Machine) (r : ℕ) : Type 0 where
  pub rests : Rests M r
  pub least : (k : ℕ) → k < r → Rests M k → ⊥

abbrev pub Untold : Machine → ℕ → ℕ → ℕ → Type 0
Untold M r p q = (w : List ℕ) → Bytes w → length w ≤ r → M.accepts (run M p w) ≡ M.accepts (run M q w)

-- "the least length within which any two states .. that some string tells apart are told apart": that such a length is
abbrev pub Enough : Machine → ℕ → Type 0
Enough M r = (p q : ℕ) → p < M.states → q < M.states → Untold M r p q → Same M p M q
