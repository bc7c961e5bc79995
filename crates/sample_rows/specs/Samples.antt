-- 01, "Sample patterns and rulings": the rows marked P, the places of SYNTAX and RANGE, and the program's example; rows of 02's C-11 and C-16; what each says of the definitions.
--   Sample: a pattern with the machine that 01 gives for it, and its ways home; home_in g q: that of the state q
--   sample_room g: the room of that machine, byte by byte
--   Compiled g: compiling the pattern gives that room
--   positions l: the set of the positions l, as a number
--   Row, Says: a row, and what it says; Each l: what each row of a list says
--   rows: the rows of both
use Rattle.std.specs.Prelude.{ℕ, suc, ◌+◌, ◌-◌, ◌/◌, ◌%◌, ◌^◌, ◌≤◌, ◌<◌, ◌≡◌, Bool, true, false, cond, List, [], ◌∷◌, eqb, ltb, length, get_or}
use Prim.Native.String.{String}
use Rattle.std.specs.Int.Bits.{bit_or}
use Rattle.scope.specs.Limits.{byte_values, classes_at, marks_at, cells_at, ways_at, room_bytes, no_way, word_bytes}
use Rattle.scope.specs.Bytes.{is_in, ascii, listed}
use Rattle.scope.specs.Text.Re.{Re, size}
use Rattle.scope.specs.Positions.Bits.{null, first, last, follow}
use Rattle.scope.specs.Text.Tree.{Tree, expr}
use Rattle.scope.specs.Text.Judge.{Pattern, SyntaxAt, RangeAt}
use Rattle.scope.specs.Answers.{DONE, ACCEPTED, DEAD, UNFINISHED, SAME, SEPARATED}
use Rattle.scope.specs.Packing.PackedForm.{form_length}
use Rattle.scope.specs.Operations.Buffers.{Written, Scratch, Cleared}
use Rattle.scope.specs.Operations.Compile.{Compiles}
use Rattle.scope.specs.Operations.Match.{Matches}
use Rattle.scope.specs.Operations.Compare.{Compares}
use Rattle.scope.specs.Lines.{Side, Outcome, printed}

-- ---- machines as 01 writes them

pub record Sample : Type 0 where
  pub text : List ℕ
  -- the bytes of the classes 1, 2, ..; all others are in the class 0
  pub classes : List (List ℕ)
  -- a row for each state, with a cell for each class
  pub rows : List (List ℕ)
  -- an accept mark for each state
  pub marks : List ℕ
  -- the way home of each state (02, C-17)
  pub home : List ℕ

abbrev pub states_in : Sample → ℕ
states_in g = length g.rows

abbrev pub classes_in : Sample → ℕ
classes_in g = suc (length g.classes)

-- the class of b, where the first list of l is that of the class c
unfoldable pub class_from : List (List ℕ) → ℕ → ℕ → ℕ
unfolding is_in
class_from [] c b = 0
class_from (x ∷ l) c b = cond (is_in x b) c (class_from l (suc c) b)

unfoldable pub class_in : Sample → ℕ → ℕ
unfolding class_from
class_in g b = class_from g.classes 1 b

abbrev pub sample_cell : Sample → ℕ → ℕ → ℕ
sample_cell g q c = get_or (get_or g.rows q []) c 0

abbrev pub home_in : Sample → ℕ → ℕ
home_in g q = get_or g.home q 0

-- "number of states n, number of classes k, the class of each of the 256 byte values, 128 accept marks, 8,192 table cells by row", and the ways home, "high byte first"
unfoldable pub byte_in : Sample → ℕ → ℕ
unfolding class_in
byte_in g i =
    cond (ltb i classes_at) (get_or (states_in g ∷ classes_in g ∷ []) i 0)
    (cond (ltb i marks_at) (class_in g (i - classes_at))
    (cond (ltb i cells_at) (get_or g.marks (i - marks_at) 0)
    (cond (ltb i ways_at) (sample_cell g ((i - cells_at) / classes_in g) ((i - cells_at) % classes_in g))
    (cond (eqb ((i - ways_at) % 2) 0) (home_in g ((i - ways_at) / 2) / byte_values) (home_in g ((i - ways_at) / 2) % byte_values)))))

unfoldable pub sample_room : Sample → List ℕ
unfolding listed byte_in
sample_room g = listed (byte_in g) room_bytes

-- ---- what rows say

abbrev pub Compiled : Sample → Type 0
Compiled g =
    (room bytes bytes' words words' : List ℕ) → length room ≡ room_bytes → Scratch bytes words → Cleared bytes bytes' words words'
    → Compiles g.text room (sample_room g) bytes bytes' words words' DONE 0

unfoldable pub positions : List ℕ → ℕ
positions [] = 0
positions (p ∷ l) = bit_or (2 ^ p) (positions l)

pub record HasSets (e : Re) (n : Bool) (f l : List ℕ) (w : List (List ℕ)) : Type 0 where
  pub nullable : null e ≡ n
  pub firsts : first e 0 ≡ positions f
  pub lasts : last e 0 ≡ positions l
  pub count : size e ≡ length w
  pub follows : (i : ℕ) → i < length w → follow e 0 (i + 1) ≡ positions (get_or w i [])

pub data Row : Type 0 where
  -- nullable, First, Last, and Follow of each position
  sets : List ℕ → Bool → List ℕ → List ℕ → List (List ℕ) → Row
  machine : Sample → Row
  -- so many bytes packed
  packed : Sample → ℕ → Row
  -- a string, the answer's number and place
  matched : Sample → List ℕ → ℕ → ℕ → Row
  -- the answer's number, the string, the rounds
  compared : Sample → Sample → ℕ → List ℕ → ℕ → Row
  -- SYNTAX, RANGE at a place
  syntax : List ℕ → ℕ → Row
  falls : List ℕ → ℕ → Row
  -- the program's lines
  prints : Side → Side → Outcome → List ℕ → Row

abbrev pub Says : Row → Type 0
Says (sets s n f l w) = (t : Tree) × Pattern s t × HasSets (expr t) n f l w
Says (machine g) = Compiled g
Says (packed g n) = Compiled g × (form_length (sample_room g) ≡ n)
Says (matched g s n i) = Compiled g × Matches (sample_room g) s n i
Says (compared g h c w r) =
    Compiled g × Compiled h
    × ((word word' bytes bytes' words words' : List ℕ) → word_bytes ≤ length word → Scratch bytes words
    → Written (length w) (λ i. get_or w i 0) word word' → Cleared bytes bytes' words words'
    → Compares (sample_room g) (sample_room h) word word' bytes bytes' words words' c (length w) r)
Says (syntax s i) = SyntaxAt s i
Says (falls s i) = (t : Tree) × Pattern s t × RangeAt t i
Says (prints a b c l) = printed a b c ≡ l

abbrev pub Each : List Row → Type 0
Each [] = Unit {0}
Each (r ∷ l) = Says r × Each l

-- ---- the rows

-- n 4, k 3; rows (1,2,1), (1,1,1), (1,1,3), (1,1,3); state 3 accepts
abbrev pub glushkov : Sample
glushkov = record {
  text = ascii "(ab*|a)b";
  classes = ascii "a" ∷ ascii "b" ∷ [];
  rows = (1 ∷ 2 ∷ 1 ∷ []) ∷ (1 ∷ 1 ∷ 1 ∷ []) ∷ (1 ∷ 1 ∷ 3 ∷ []) ∷ (1 ∷ 1 ∷ 3 ∷ []) ∷ [];
  marks = 0 ∷ 0 ∷ 0 ∷ 1 ∷ [];
  home = 2 ∷ no_way ∷ 1 ∷ 0 ∷ [];
}

-- n 2, k 2; rows (1,0), (1,1); state 0 accepts
abbrev pub star_of_a : Sample
star_of_a = record {
  text = ascii "a*";
  classes = ascii "a" ∷ [];
  rows = (1 ∷ 0 ∷ []) ∷ (1 ∷ 1 ∷ []) ∷ [];
  marks = 1 ∷ 0 ∷ [];
  home = 0 ∷ no_way ∷ [];
}

-- one or more a, however written: n 3, k 2
abbrev pub one_or_more : String → Sample
one_or_more s = record {
  text = ascii s;
  classes = ascii "a" ∷ [];
  rows = (1 ∷ 2 ∷ []) ∷ (1 ∷ 1 ∷ []) ∷ (1 ∷ 2 ∷ []) ∷ [];
  marks = 0 ∷ 0 ∷ 1 ∷ [];
  home = 1 ∷ no_way ∷ 0 ∷ [];
}

-- n 5, k 3; rows (1,2,3), (1,1,1), (1,1,4), (1,4,1), (1,1,1); state 4 accepts
abbrev pub parity : Sample
parity = record {
  text = ascii "([03569ACF][12478BDE]|[12478BDE][03569ACF])";
  classes = ascii "03569ACF" ∷ ascii "12478BDE" ∷ [];
  rows = (1 ∷ 2 ∷ 3 ∷ []) ∷ (1 ∷ 1 ∷ 1 ∷ []) ∷ (1 ∷ 1 ∷ 4 ∷ []) ∷ (1 ∷ 4 ∷ 1 ∷ []) ∷ (1 ∷ 1 ∷ 1 ∷ []) ∷ [];
  marks = 0 ∷ 0 ∷ 0 ∷ 0 ∷ 1 ∷ [];
  home = 2 ∷ no_way ∷ 1 ∷ 1 ∷ 0 ∷ [];
}

-- n 1, k 1
abbrev pub no_word : Sample
no_word = record { text = ascii "\\0"; classes = []; rows = (0 ∷ []) ∷ []; marks = 0 ∷ []; home = no_way ∷ [] }

-- n 2, k 1
abbrev pub empty_word : Sample
empty_word = record { text = ascii "\\e"; classes = []; rows = (1 ∷ []) ∷ (1 ∷ []) ∷ []; marks = 1 ∷ 0 ∷ []; home = 0 ∷ no_way ∷ [] }

-- `.*`: n 2, k 2; the line end leads out of it
abbrev pub remark : Sample
remark = record { text = ascii ".*"; classes = ascii "\n" ∷ []; rows = (0 ∷ 1 ∷ []) ∷ (1 ∷ 1 ∷ []) ∷ []; marks = 1 ∷ 0 ∷ []; home = 0 ∷ no_way ∷ [] }

-- one byte, and no other
abbrev pub only : String → Sample
only b = record {
  text = ascii b;
  classes = ascii b ∷ [];
  rows = (1 ∷ 2 ∷ []) ∷ (1 ∷ 1 ∷ []) ∷ (1 ∷ 1 ∷ []) ∷ [];
  marks = 0 ∷ 0 ∷ 1 ∷ [];
  home = 1 ∷ no_way ∷ 0 ∷ [];
}

-- any number of a and b, however written
abbrev pub mixed : String → Sample
mixed s = record {
  text = ascii s;
  classes = ascii "ab" ∷ [];
  rows = (1 ∷ 0 ∷ []) ∷ (1 ∷ 1 ∷ []) ∷ [];
  marks = 1 ∷ 0 ∷ [];
  home = 0 ∷ no_way ∷ [];
}

abbrev pub sorted : Sample
sorted = record {
  text = ascii "a*b*";
  classes = ascii "a" ∷ ascii "b" ∷ [];
  rows = (1 ∷ 0 ∷ 2 ∷ []) ∷ (1 ∷ 1 ∷ 1 ∷ []) ∷ (1 ∷ 1 ∷ 2 ∷ []) ∷ [];
  marks = 1 ∷ 0 ∷ 1 ∷ [];
  home = 0 ∷ no_way ∷ 0 ∷ [];
}

unfoldable pub rows : List Row
rows =
    -- P `(ab*|a)b` (000): First {1,3}, Last {4}, Follow {2,4}, {2,4}, {4}, {}
    sets (ascii "(ab*|a)b") false (1 ∷ 3 ∷ []) (4 ∷ []) ((2 ∷ 4 ∷ []) ∷ (2 ∷ 4 ∷ []) ∷ (4 ∷ []) ∷ [] ∷ [])
    -- P `(ab|b)*(bb|a*)` (001): nullable, First {1,3,4,6}, Last {2,3,5,6}
    ∷ sets (ascii "(ab|b)*(bb|a*)") true (1 ∷ 3 ∷ 4 ∷ 6 ∷ []) (2 ∷ 3 ∷ 5 ∷ 6 ∷ [])
    ((2 ∷ []) ∷ (1 ∷ 3 ∷ 4 ∷ 6 ∷ []) ∷ (1 ∷ 3 ∷ 4 ∷ 6 ∷ []) ∷ (5 ∷ []) ∷ [] ∷ (6 ∷ []) ∷ [])
    -- P the machine of `(ab*|a)b`
    ∷ machine glushkov
    -- P `a*`: 198 bytes packed
    ∷ packed star_of_a 198
    -- P one odd-parity byte in hex: 208 bytes
    ∷ packed parity 208
    -- P `\0`: 196 bytes; the empty string is Dead at 0
    ∷ packed no_word 196
    ∷ matched no_word [] DEAD 0
    -- P `\e`: 197 bytes
    ∷ packed empty_word 197
    -- P on `(ab*|a)b`: `ab` Accepted, `a` Unfinished, `ac` Dead at 2
    ∷ matched glushkov (ascii "ab") ACCEPTED 0
    ∷ matched glushkov (ascii "a") UNFINISHED 0
    ∷ matched glushkov (ascii "ac") DEAD 2
    -- P `.*` against `\0`: Separated, length 0, rounds 0
    ∷ compared remark no_word SEPARATED [] 0
    -- 02, C-16: `.*` on a remark of two lines Dead at the line end
    ∷ matched remark (ascii "a\nb") DEAD 2
    -- P `a` against `b`: `a`, rounds 1
    ∷ compared (only "a") (only "b") SEPARATED (ascii "a") 1
    -- P `(a*|b*)*` against `(a|b)*`: Same, rounds 0
    ∷ compared (mixed "(a*|b*)*") (mixed "(a|b)*") SAME [] 0
    -- 02, C-11: `(ab?)+` has two positions, First {1}, Last {1,2}, Follow {1,2}, {1}
    ∷ sets (ascii "(ab?)+") false (1 ∷ []) (1 ∷ 2 ∷ []) ((1 ∷ 2 ∷ []) ∷ (1 ∷ []) ∷ [])
    -- 02, C-11: `a+`: 200 bytes packed; `a+` against `aa*`: Same, rounds 1
    ∷ packed (one_or_more "a+") 200
    ∷ compared (one_or_more "a+") (one_or_more "aa*") SAME [] 1
    -- 02, C-11: a mark where an atom is awaited
    ∷ syntax (ascii "+a") 0
    ∷ syntax (ascii "a|?") 2
    -- SYNTAX places: empty 0; `a|` 2; `(a` 2; `a)` 1; `a{` 1; `\xG1` 2; `[]` 1
    ∷ syntax [] 0
    ∷ syntax (ascii "a|") 2
    ∷ syntax (ascii "(a") 2
    ∷ syntax (ascii "a)") 1
    ∷ syntax (ascii "a{") 1
    ∷ syntax (ascii "\\xG1") 2
    ∷ syntax (ascii "[]") 1
    -- RANGE: `[b-a]` 2
    ∷ falls (ascii "[b-a]") 2
    -- the program's example: `a*b*` and `(a|b)*`
    ∷ compared sorted (mixed "(a|b)*") SEPARATED (ascii "ba") 2
    ∷ prints
    (record { number = DONE; place = 0; states = 3; classes = 3 })
    (record { number = DONE; place = 0; states = 2; classes = 2 })
    (record { number = SEPARATED; rounds = 2; word = ascii "ba" })
    (ascii "left states 3 classes 3\nright states 2 classes 2\nseparated length 2 rounds 2\nword 6261\n")
    -- `left refused 3 at 2`, and nothing follows the two lines
    ∷ prints
    (record { number = 3; place = 2; states = 0; classes = 0 })
    (record { number = DONE; place = 0; states = 128; classes = 64 })
    (record { number = SAME; rounds = 0; word = [] })
    (ascii "left refused 3 at 2\nright states 128 classes 64\n")
    ∷ []
