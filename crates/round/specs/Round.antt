-- One round: old has the parts before, new those after it. A state that begins a part keeps it for ever; the part that it lay in before is its parent.
--   Opening q h r link link' parent parent' born born': q is now the last of the chain of h, and born from h in round r
--   OpensPart old new x: x begins a part in new and not in old
--   Opened old new e: some state below e does
--   Births old new parent parent' born born' r e: the states below e that do are born in round r; for the others nothing has changed
use Rattle.std.specs.Prelude.{ℕ, ◌<◌, ◌≡◌, List, length, get_or, set}

pub record Opening (q h r : ℕ) (link link' parent parent' born born' : List ℕ) : Type 0 where
  pub links : link' ≡ set (set link q (get_or link h 0)) h q
  pub parents : parent' ≡ set parent q h
  pub births : born' ≡ set born q r

pub record OpensPart (old new : List ℕ) (x : ℕ) : Type 0 where
  pub begins : get_or new x 0 ≡ x
  pub began : get_or old x 0 ≡ x → ⊥

pub record Opened (old new : List ℕ) (e : ℕ) : Type 0 where
  pub state : ℕ
  pub is_state : state < e
  pub opens : OpensPart old new state

pub record Births (old new parent parent' born born' : List ℕ) (r e : ℕ) : Type 0 where
  pub made : (x : ℕ) → x < e → OpensPart old new x → (get_or parent' x 0 ≡ get_or old x 0) × (get_or born' x 0 ≡ r)
  pub kept : (x : ℕ) → (x < e → OpensPart old new x → ⊥) → (get_or parent' x 0 ≡ get_or parent x 0) × (get_or born' x 0 ≡ get_or born x 0)
  pub parent_long : length parent' ≡ length parent
  pub born_long : length born' ≡ length born
