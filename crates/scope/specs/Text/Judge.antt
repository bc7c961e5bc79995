-- The judgements 3 to 6 of 01 on a text, with their places.
--   Pattern s t: the whole of s is an expression with the tree t
--   Legal s: s is an expression of the language, "limits and the order of a range's ends aside"
--   Viable s: some continuation would make s legal
--   SyntaxAt s i: SYNTAX at the place i
--   Beyond l n i: the list of places l has more than n, and i is the first beyond them
--   RangeAt, DepthAt, PositionAt t i: RANGE, DEPTH, POSITIONS at the place i
--   Ordered, Shallow, Brief t: not RANGE, not DEPTH, not POSITIONS
use Rattle.std.specs.Prelude.{ℕ, ◌<◌, ◌≤◌, ◌≡◌, List, ◌++◌, length, take, get_or}
use Rattle.scope.specs.Limits.{nest_limit, position_limit}
use Rattle.scope.specs.Text.Tree.{Tree, falling, opened, places}
use Rattle.scope.specs.Text.Grammar.{Reads, exprs}

abbrev pub Pattern : List ℕ → Tree → Type 0
Pattern s t = Reads s exprs 0 (length s) t

pub record Legal (s : List ℕ) : Type 0 where
  pub tree : Tree
  pub reads : Pattern s tree

-- a continuation of any length: LONG is no part of it. Its bytes are bytes, since a legal text has no others
pub record Viable (s : List ℕ) : Type 0 where
  pub rest : List ℕ
  pub legal : Legal (s ++ rest)

-- "length of the longest prefix that some continuation would make legal": the whole length, where the text is such a prefix itself
pub record SyntaxAt (s : List ℕ) (i : ℕ) : Type 0 where
  pub illegal : Legal s → ⊥
  pub inside : i ≤ length s
  pub viable : Viable (take i s)
  pub longest : (j : ℕ) → j ≤ length s → i < j → Viable (take j s) → ⊥

pub record Beyond (l : List ℕ) (n i : ℕ) : Type 0 where
  pub more : n < length l
  pub place : i ≡ get_or l n 0

-- "a range has low above high | its dash, first one"
abbrev pub RangeAt : Tree → ℕ → Type 0
RangeAt t i = Beyond (falling t) 0 i

abbrev pub Ordered : Tree → Type 0
Ordered t = length (falling t) ≤ 0

-- "a 33rd nested parenthesis opens | the first such `(`"
abbrev pub DepthAt : Tree → ℕ → Type 0
DepthAt t i = Beyond (opened nest_limit t) 0 i

abbrev pub Shallow : Tree → Type 0
Shallow t = length (opened nest_limit t) ≤ 0

-- "a 64th position | its first byte"
abbrev pub PositionAt : Tree → ℕ → Type 0
PositionAt t i = Beyond (places t) position_limit i

abbrev pub Brief : Tree → Type 0
Brief t = length (places t) ≤ position_limit
