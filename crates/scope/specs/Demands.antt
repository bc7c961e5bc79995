-- The three demands, each as one statement on the contracts. That every operation takes every input and ends is the toolchain's: a function is proved to end,
-- and none of the operations has a `requires`.
--   Packing f: packing writes the bytes f
--   Refusal n: n is the number of a refusal
--   TableRow n i m P: the answer, with the number n and the place i, has the number m exactly where P says so, with that place
--   CompileRows, TwoRows, PackRows: when each refusal is given: of compiling; of operations that judge ROOM, then FORM; of packing
--   Leaves: what a call leaves
--   Compilation: what a compiled room is
--   StateOf M N K q: q is a state of K, which is M or N
--   Tells K p L q w: w is accepted from one of the states p of K and q of L, and refused from the other
--   Suffices M N r: any two states of M and N that some string tells apart are told apart by one of at most r bytes
--   Comparison: what comparing two sound rooms answers
--   Demand1, Demand2, Demand3: the demands
use Rattle.std.specs.Prelude.{ℕ, ◌+◌, ◌<◌, ◌≤◌, ◌≡◌, ◌⊎◌, ◌↔◌, List, length, take, get_or}
use Rattle.scope.specs.Answers.{DONE, ROOM, LONG, SYNTAX, RANGE, DEPTH, POSITIONS, CLASSES, STATES, FORM, SAME, SEPARATED}
use Rattle.scope.specs.Limits.{pattern_limit, room_bytes}
use Rattle.scope.specs.Bytes.{Bytes}
use Rattle.scope.specs.Text.Re.{Words}
use Rattle.scope.specs.Text.Tree.{Tree, expr}
use Rattle.scope.specs.Text.Judge.{Pattern, SyntaxAt, RangeAt, Ordered, DepthAt, Shallow, PositionAt}
use Rattle.scope.specs.Positions.Reached.{ManyClasses, FewClasses, ManySets}
use Rattle.scope.specs.Machines.Machine.{Machine, run, Recognises, Closed}
use Rattle.scope.specs.Machines.Room.{states_of, machine, Sound}
use Rattle.scope.specs.Machines.Canonical.{Canonical}
use Rattle.scope.specs.Packing.PackedForm.{form_length}
use Rattle.scope.specs.Machines.Separate.{Separates, Separation}
use Rattle.scope.specs.Operations.Buffers.{Lent, Cleared, Untouched}
use Rattle.scope.specs.Operations.Compile.{Fits, Sized, Compiles}
use Rattle.scope.specs.Operations.Minimise.{MinimiseLent, Minimises}
use Rattle.scope.specs.Operations.Match.{Matches}
use Rattle.scope.specs.Operations.Compare.{CompareLent, Compares}
use Rattle.scope.specs.Operations.Pack.{Packs}
use Rattle.scope.specs.Operations.Unpack.{Unpacks}

-- ---- the first

-- what packing writes, of some room into some output
pub record Packing (f : List ℕ) : Type 0 where
  pub room : List ℕ
  pub out : List ℕ
  pub out' : List ℕ
  pub bytes : List ℕ
  pub bytes' : List ℕ
  pub words : List ℕ
  pub words' : List ℕ
  pub packs : Packs room out out' bytes bytes' words words' DONE (length f)
  pub written : take (length f) out' ≡ f

abbrev pub Refusal : ℕ → Type 0
Refusal n = (ROOM ≤ n) × (n ≤ FORM)

abbrev pub TableRow : ℕ → ℕ → ℕ → (ℕ → Type 0) → Type 0
TableRow n i m P = (p : ℕ) → ((n ≡ m) × (i ≡ p)) ↔ P p

-- "Given exactly when", "Place", "in order of judgement": each row has the conditions of those before it that were passed
pub record CompileRows (text room bytes words : List ℕ) (n i : ℕ) : Type 0 where
  pub at_room : TableRow n i ROOM (λ p. (p ≡ 0) × (Lent room bytes words → ⊥))
  pub at_long : TableRow n i LONG (λ p. (p ≡ 0) × Lent room bytes words × (pattern_limit < length text))
  pub at_syntax : TableRow n i SYNTAX (λ p. Fits text room bytes words × SyntaxAt text p)
  pub at_range : TableRow n i RANGE (λ p. Fits text room bytes words × ((t : Tree) × Pattern text t × RangeAt t p))
  pub at_depth : TableRow n i DEPTH (λ p. Fits text room bytes words × ((t : Tree) × Pattern text t × Ordered t × DepthAt t p))
  pub at_positions : TableRow n i POSITIONS (λ p. Fits text room bytes words × ((t : Tree) × Pattern text t × Ordered t × Shallow t × PositionAt t p))
  pub at_classes : TableRow n i CLASSES (λ p. (p ≡ 0) × Fits text room bytes words × ((t : Tree) × Sized text t × ManyClasses (expr t)))
  pub at_states : TableRow n i STATES (λ p. (p ≡ 0) × Fits text room bytes words × ((t : Tree) × Sized text t × FewClasses (expr t) × ManySets (expr t)))

-- "judge 1, then 9": what is lent is not enough; or it is, and there is a fault
pub record TwoRows (n : ℕ) (Enough Fault : Type 0) : Type 0 where
  pub at_room : (n ≡ ROOM) ↔ (Enough → ⊥)
  pub at_form : (n ≡ FORM) ↔ (Enough × Fault)

-- "Packing judges 1, 9, then its output"
pub record PackRows (room form bytes words : List ℕ) (n : ℕ) : Type 0 where
  pub at_room : (n ≡ ROOM) ↔ ((Lent room bytes words → ⊥) ⊎ (Lent room bytes words × Canonical room × (length form < form_length room)))
  pub at_form : (n ≡ FORM) ↔ (Lent room bytes words × (Canonical room → ⊥))

-- the room or output that is written, and the scratch
pub record Leaves (n : ℕ) (Enough : Type 0) (out out' bytes bytes' words words' : List ℕ) : Type 0 where
  -- "leaves machine rooms and output as they were"; a room that is only read can't be written to
  pub kept : Refusal n → out' ≡ out
  -- "scratch is cleared", "on every return but a ROOM judged first"; "after that one it is unchanged"
  pub cleared : Enough → Cleared bytes bytes' words words'
  pub untouched : (Enough → ⊥) → Untouched bytes bytes' words words'

-- "Each refusal is given exactly when document 01 says so, with its place, and leaves machine rooms and output as they were; scratch is cleared as stated there."
pub record Demand1 : Type 0 where
  pub compiles : {text room room' bytes bytes' words words' : List ℕ} {n i : ℕ} → Compiles text room room' bytes bytes' words words' n i
      → CompileRows text room bytes words n i × Leaves n (Lent room bytes words) room room' bytes bytes' words words'
  pub minimises : {from room room' bytes bytes' words words' : List ℕ} {n : ℕ} → Minimises from room room' bytes bytes' words words' n
      → TwoRows n (MinimiseLent from room bytes words) (Sound from → ⊥) × Leaves n (MinimiseLent from room bytes words) room room' bytes bytes' words words'
  -- no scratch is lent, and nothing is written
  pub matches : {room text : List ℕ} {n i : ℕ} → Matches room text n i → TwoRows n (room_bytes ≤ length room) (Sound room → ⊥) × (Refusal n → i ≡ 0)
  pub compares : {left right word word' bytes bytes' words words' : List ℕ} {n i r : ℕ} → Compares left right word word' bytes bytes' words words' n i r
      → TwoRows n (CompareLent left right word bytes words) ((Sound left → ⊥) ⊎ (Sound right → ⊥))
      × Leaves n (CompareLent left right word bytes words) word word' bytes bytes' words words'
  pub packs : {room form form' bytes bytes' words words' : List ℕ} {n i : ℕ} → Packs room form form' bytes bytes' words words' n i
      → PackRows room form bytes words n × Leaves n (Lent room bytes words) form form' bytes bytes' words words'
  -- "for unpacking, bytes that packing can't write"
  pub unpacks : {form room room' bytes bytes' words words' : List ℕ} {n : ℕ} → Unpacks form room room' bytes bytes' words words' n
      → TwoRows n (Lent room bytes words) (Packing form → ⊥) × Leaves n (Lent room bytes words) room room' bytes bytes' words words'

-- ---- the second

pub record Compilation (text room' : List ℕ) : Type 0 where
  -- the expression is that of the text's tree, of which there is one
  pub tree : Tree
  pub reads : Pattern text tree
  pub only : (t : Tree) → Pattern text t → t ≡ tree
  -- "accepts exactly the strings that Kleene's definition gives the expression"
  pub exact : Recognises (machine room') (Words (expr tree))
  -- "no complete machine for them has fewer states"
  pub least : (N : Machine) → Closed N → Recognises N (Words (expr tree)) → states_of room' ≤ N.states

pub record Demand2 : Type 0 where
  -- "A compiled machine accepts exactly the strings that Kleene's definition gives the expression, and no complete machine for them has fewer states."
  pub compiles : {text room room' bytes bytes' words words' : List ℕ} {i : ℕ} → Compiles text room room' bytes bytes' words words' DONE i → Compilation text room'
  -- "Packing and unpacking undo each other": what was packed is unpacked to the room's own bytes
  pub unpacks : {room out out' a a' d d' other other' bytes bytes' words words' : List ℕ} {n i : ℕ} → Packs room out out' a a' d d' DONE n → Lent other bytes words
      → Unpacks (take n out') other other' bytes bytes' words words' i → (i ≡ DONE) × ((j : ℕ) → j < room_bytes → get_or room j 0 ≡ get_or other' j 0)
  -- and what was unpacked is packed to the same form
  pub packs : {form room room' a a' d d' out out' bytes bytes' words words' : List ℕ} {i n : ℕ} → Unpacks form room room' a a' d d' DONE → Lent room' bytes words
      → length form ≤ length out → Packs room' out out' bytes bytes' words words' i n → (i ≡ DONE) × (n ≡ length form) × (take n out' ≡ form)
  -- "unpacking takes nothing that packing wouldn't write", and takes all that it writes
  pub takes : {form room room' bytes bytes' words words' : List ℕ} {i : ℕ} → Lent room bytes words → Unpacks form room room' bytes bytes' words words' i
      → (i ≡ DONE) ↔ Packing form

-- ---- the third

-- a state of the two machines
pub data StateOf (M N : Machine) : Machine → ℕ → Type 0 where
  of_left : {q : ℕ} → q < M.states → StateOf M N M q
  of_right : {q : ℕ} → q < N.states → StateOf M N N q

-- "some string tells apart"
pub record Tells (K : Machine) (p : ℕ) (L : Machine) (q : ℕ) (w : List ℕ) : Type 0 where
  pub bytes : Bytes w
  pub differ : K.accepts (run K p w) ≡ L.accepts (run L q w) → ⊥

-- "within which any two states of the two machines that some string tells apart are told apart"
abbrev pub Suffices : Machine → Machine → ℕ → Type 0
Suffices M N r =
    (K L : Machine) (p q : ℕ) → StateOf M N K p → StateOf M N L q → (w : List ℕ) → Tells K p L q w → (v : List ℕ) × (length v ≤ r) × Tells K p L q v

pub record Comparison (left right word' : List ℕ) (i n r : ℕ) : Type 0 where
  -- "says 'same' exactly when no string, of whatever length, is accepted by one and refused by the other"
  pub same : (i ≡ SAME) ↔ ((w : List ℕ) → Separates (machine left) (machine right) w → ⊥)
  -- "Otherwise it returns the shortest such string, of those the first in byte order."
  pub otherwise : (i ≡ SAME → ⊥) → (i ≡ SEPARATED) × (length (take n word') ≡ n) × Separation (machine left) (machine right) (take n word')
  -- "rounds: the least length within which any two states of the two machines that some string tells apart are told apart"
  pub rounds : Suffices (machine left) (machine right) r
  pub least : (k : ℕ) → k < r → Suffices (machine left) (machine right) k → ⊥
  -- "The string is never longer than the rounds"
  pub string : n ≤ r
  -- "nor the rounds greater than both state counts added, less two"
  pub bound : r + 2 ≤ states_of left + states_of right

pub record Demand3 : Type 0 where
  -- "For any two sound machines"
  pub compares : {left right word word' bytes bytes' words words' : List ℕ} {i n r : ℕ} → CompareLent left right word bytes words → Sound left → Sound right
      → Compares left right word word' bytes bytes' words words' i n r → Comparison left right word' i n r
