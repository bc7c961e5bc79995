-- Sets of positions, as predicates. 01: "Null, First, Last and Follow are 000's, over sets of positions."
-- Positions are "numbered from 1, left to right": those of e, where k positions stand to its left, are k + 1 .. k + size e.
--   Null e: e has the empty word
--   First e k p, Last e k p: p is in First(e), in Last(e)
--   Follow e k p q: q is in Follow(e) of p
--   At e k p b: the byte b is in the set of the position p
--   Edge e p q, Final e p: the position automaton, whose state 0 starts
--   Path e p w: it has a path for w from p to a state that accepts
-- `Bits` has the same sets as numbers.
use Rattle.std.specs.Prelude.{ℕ, zero, suc, ◌+◌, ◌≡◌, true, ◌⊎◌, List, [], ◌∷◌}
use Rattle.scope.specs.Text.Re.{Re, none, eps, one, alt, cat, star, plus, size}

-- 02, C-11: "F+ is nullable exactly if F is"
abbrev pub Null : Re → Type 0
Null none = ⊥
Null eps = Unit {0}
Null (one s) = ⊥
Null (alt e f) = Null e ⊎ Null f
Null (cat e f) = Null e × Null f
Null (star e) = Unit {0}
Null (plus e) = Null e

-- "In F·G: First adds First(G) if F is nullable"
abbrev pub First : Re → ℕ → ℕ → Type 0
First none k p = ⊥
First eps k p = ⊥
First (one s) k p = p ≡ k + 1
First (alt e f) k p = First e k p ⊎ First f (k + size e) p
First (cat e f) k p = First e k p ⊎ (Null e × First f (k + size e) p)
First (star e) k p = First e k p
First (plus e) k p = First e k p

-- "Last is Last(G), with Last(F) if G is nullable"
abbrev pub Last : Re → ℕ → ℕ → Type 0
Last none k p = ⊥
Last eps k p = ⊥
Last (one s) k p = p ≡ k + 1
Last (alt e f) k p = Last e k p ⊎ Last f (k + size e) p
Last (cat e f) k p = Last f (k + size e) p ⊎ (Null f × Last e k p)
Last (star e) k p = Last e k p
Last (plus e) k p = Last e k p

-- "Follow adds First(G) after each of Last(F). In F*: nullable, and Follow adds First(F) after each of Last(F)."
-- 02, C-11: "Follow of F+ adds First(F) after Last(F)"
abbrev pub Follow : Re → ℕ → ℕ → ℕ → Type 0
Follow none k p q = ⊥
Follow eps k p q = ⊥
Follow (one s) k p q = ⊥
Follow (alt e f) k p q = Follow e k p q ⊎ Follow f (k + size e) p q
Follow (cat e f) k p q = (Follow e k p q ⊎ Follow f (k + size e) p q) ⊎ (Last e k p × First f (k + size e) q)
Follow (star e) k p q = Follow e k p q ⊎ (Last e k p × First e k q)
Follow (plus e) k p q = Follow e k p q ⊎ (Last e k p × First e k q)

abbrev pub At : Re → ℕ → ℕ → ℕ → Type 0
At none k p b = ⊥
At eps k p b = ⊥
At (one s) k p b = (p ≡ k + 1) × (s b ≡ true)
At (alt e f) k p b = At e k p b ⊎ At f (k + size e) p b
At (cat e f) k p b = At e k p b ⊎ At f (k + size e) p b
At (star e) k p b = At e k p b
At (plus e) k p b = At e k p b

-- "State 0 starts"
abbrev pub Edge : Re → ℕ → ℕ → Type 0
Edge e zero q = First e 0 q
Edge e (suc p) q = Follow e 0 (suc p) q

-- "it accepts if the expression is nullable; so do the positions in Last"
abbrev pub Final : Re → ℕ → Type 0
Final e zero = Null e
Final e (suc p) = Last e 0 (suc p)

-- a byte leads along an edge to a position that holds it
pub data Path (e : Re) : ℕ → List ℕ → Type 0 where
  end : {p : ℕ} → Final e p → Path e p []
  to : {p q b : ℕ} {w : List ℕ} → Edge e p q → At e 0 q b → Path e q w → Path e p (b ∷ w)
