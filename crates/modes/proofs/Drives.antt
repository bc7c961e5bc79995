-- A derivation drives the machine: from a place where an atom is awaited, or another may follow, to the mode after an atom, with as many open parentheses. What
-- is noted on its way are the places of its tree: its falling ranges, the parentheses that open inside as many others as may be, and its positions, each added
-- at the end of what was noted before. By induction on the derivation; each of its bytes is one step, which the byte's test or its value decides, for the
-- state and for the notes.
--   legal_runs: on a legal text the machine ends after an atom, with nothing open
--   NotedAll, legal_notes: what is noted at the end of a legal text
use Prim.Native.Nat.{ℕ, suc, ◌+◌, ◌*◌, ◌<◌}
use Prim.Native.Char.{code}
use mathlib.Core.Path.{◌≡◌, refl, ◌∙◌}
use mathlib.Core.List.{List, [], ◌∷◌, ◌++◌, append_assoc, append-nil}
use native.Mathlib.Numerals.{add-one}
use native.Mathlib.Nat.{add-suc}
use lib.Dec.{eqb}
use lib.ListN.{length}
use Rattle.scope.specs.Limits.{nest_limit}
use Rattle.scope.specs.Bytes.{byte}
use Rattle.scope.specs.Text.Tree.{Item, lone, range, Leaf, Mark, Tree, only_if, falling_items, falling_leaf, falling, opened, places}
use Rattle.scope.specs.Text.Grammar.{literal, escapable, class_literal, is_mark, mark_byte, hex, Escape, plain, coded, ClassByte, bare, escaped, OneItem, one_byte, low_high, Items, last_item, more_items, Single, a_dot, a_literal, an_escape, a_class, Level, Reads, single, no_byte, no_word, in_group, one_atom, one_mark, one_factor, next_factor, one_branch, next_branch}
use Rattle.scope.specs.Text.Judge.{Pattern, Legal}
use Rattle.scope.proofs.Counting.Tests.{below}
use Rattle.scope.proofs.Text.Marks.{marks}
use Rattle.modes.specs.Modes.{Piece, atom, low, high, Mode, await, done, back, digit, State, stuck, at, after_atom, bare_in, begins, again, ends, next, run_to}
use Rattle.modes.specs.Modes as mode
use Rattle.modes.specs.Notes.{Sheet, since, started, as_read, nested, begun, dashed, sheet_after, blank, notes_to}
use Rattle.modes.proofs.Nested.{inside, inside_opened}
use Rattle.modes.proofs.MarkSteps.{mark_step, mark_notes}

-- after i bytes the machine is in the mode m, with n open parentheses, and k is noted
record InMode (s : List ℕ) (i : ℕ) (m : Mode) (n : ℕ) (k : Sheet) : Type 0 where
  state : run_to s i ≡ at m n
  sheet : (notes_to s i).sheet ≡ k

-- at i the piece p may begin
record Awaits (s : List ℕ) (i : ℕ) (p : Piece) (n : ℕ) (k : Sheet) : Type 0 where
  other : State
  others : Sheet
  state : run_to s (suc i) ≡ begins p n (byte s i) other
  sheet : (notes_to s (suc i)).sheet ≡ begun p n (byte s i) i k others

-- k' has what k has, and then f, o and p
record NotesGrown (k k' : Sheet) (f o p : List ℕ) : Type 0 where
  falls : k'.falls ≡ k.falls ++ f
  opens : k'.opens ≡ k.opens ++ o
  firsts : k'.firsts ≡ k.firsts ++ p

-- an atom ends at j, and f, o and p were noted since k
record AtomEnds (s : List ℕ) (j n : ℕ) (k : Sheet) (f o p : List ℕ) : Type 0 where
  sheet : Sheet
  ends : InMode s j after_atom n sheet
  grown : NotesGrown k sheet f o p

items_cons : (x : Item) (l : List Item) → falling_items (x ∷ l) ≡ falling_items (x ∷ []) ++ falling_items l
unfolding falling_items
items_cons (lone b) l = refl
items_cons (range a b i) l = rw append-nil

-- after an item another may follow, or the class ends, and f was noted since k
record Items-end (s : List ℕ) (j n : ℕ) (k : Sheet) (f : List ℕ) : Type 0 where
  sheet : Sheet
  goes : Awaits s j low n sheet
  closes : byte s j ≡ code "]" → InMode s (j + 1) after_atom n sheet
  grown : NotesGrown k sheet f [] []

grown_on : {k k' k'' : Sheet} {f f' o o' p p' : List ℕ} → NotesGrown k k' f o p → NotesGrown k' k'' f' o' p' → NotesGrown k k'' (f ++ f') (o ++ o') (p ++ p')
grown_on a b =
    record { falls = rw (b.falls, a.falls, append_assoc); opens = rw (b.opens, a.opens, append_assoc); firsts = rw (b.firsts, a.firsts, append_assoc) }

-- nothing was noted
none_grown : {k k' : Sheet} → k'.falls ≡ k.falls → k'.opens ≡ k.opens → k'.firsts ≡ k.firsts → NotesGrown k k' [] [] []
none_grown a b c = record { falls = rw (append-nil, a); opens = rw (append-nil, b); firsts = rw (append-nil, c) }

-- a position was noted
first_grown : {k k' : Sheet} {i : ℕ} → k'.falls ≡ k.falls → k'.opens ≡ k.opens → k'.firsts ≡ k.firsts ++ i ∷ [] → NotesGrown k k' [] [] (i ∷ [])
first_grown a b c = record { falls = rw (append-nil, a); opens = rw (append-nil, b); firsts = c }

-- a parenthesis opened
group_grown : (k : Sheet) (n i : ℕ) → NotesGrown k (nested n i (since i k)) [] (only_if (eqb n nest_limit) i) []
group_grown k n i = record { falls = rw append-nil; opens = refl; firsts = rw append-nil }

-- what was noted before
since_ends : {s : List ℕ} {j n : ℕ} {k k' : Sheet} {f f' o o' p p' : List ℕ} → NotesGrown k k' f o p → AtomEnds s j n k' f' o' p' → AtomEnds s j n k (f ++ f') (o ++ o') (p ++ p')
since_ends g e = record { sheet = e.sheet; ends = e.ends; grown = grown_on g e.grown }

-- a byte more, that notes nothing
ends_with : {s : List ℕ} {j j' n n' : ℕ} {k : Sheet} {f o p : List ℕ} → ((x : Sheet) → InMode s j after_atom n x → InMode s j' after_atom n' x) → AtomEnds s j n k f o p → AtomEnds s j' n' k f o p
ends_with f e = record { sheet = e.sheet; ends = f e.sheet e.ends; grown = e.grown }

module _ {s : List ℕ} where
  -- one step
  on : {i n n' : ℕ} {m m' : Mode} {k k' : Sheet} → InMode s i m n k → next m n (byte s i) ≡ at m' n' → ((h : ℕ) → sheet_after m n (byte s i) i h k ≡ k') → InMode s (i + 1) m' n' k'
  on {i} x e d = record { state = rw (add-one, x.state) e; sheet = rw (add-one, x.state, x.sheet) (d (notes_to s i).half) }

  -- the same, j bytes after i
  further : {n : ℕ} {m m' : Mode} {k k' : Sheet} (i j : ℕ) → InMode s (i + j) m n k → next m n (byte s (i + j)) ≡ at m' n → ((h : ℕ) → sheet_after m n (byte s (i + j)) (i + j) h k ≡ k')
      → InMode s (i + suc j) m' n k'
  further i j x e d = record { state = rw (add-suc, x.state) e; sheet = rw (add-suc, x.state, x.sheet) (d (notes_to s (i + j)).half) }

  -- a piece may begin where it is awaited, and where one is done that it may follow
  awaited : {i n : ℕ} {p : Piece} {k : Sheet} → InMode s i (await p) n k → Awaits s i p n k
  awaited {k = k} x = record { other = stuck; others = k; state = rw x.state refl; sheet = rw (x.state, x.sheet) refl }

  more : {i n : ℕ} {p : Piece} {k : Sheet} → InMode s i (done p) n k → Awaits s i (again p) n k
  more {i} {n} {p} {k} x = record { other = ends p n (byte s i); others = dashed p (byte s i) i k; state = rw x.state refl; sheet = rw (x.state, x.sheet) refl }

  -- the byte with which it begins
  taken : {i n n' : ℕ} {p : Piece} {m : Mode} {k k' : Sheet} → Awaits s i p n k → ((x : State) → begins p n (byte s i) x ≡ at m n') → ((x : Sheet) → begun p n (byte s i) i k x ≡ k')
      → InMode s (i + 1) m n' k'
  taken a e d = record { state = rw (add-one, a.state) (e a.other); sheet = rw (add-one, a.sheet) (d a.others) }

  to_back : {i n : ℕ} {p : Piece} {k : Sheet} → Awaits s i p n k → byte s i ≡ code "\\" → InMode s (i + 1) (back p) n (started p i k)
  unfolding literal class_literal
  to_back {p = atom} a h = taken a (λ x. rw h refl) (λ x. rw h refl)
  to_back {p = low} a h = taken a (λ x. rw h refl) (λ x. rw h refl)
  to_back {p = high} a h = taken a (λ x. rw h refl) (λ x. rw h refl)

  -- the first digit is kept
  first_digit : {n : ℕ} {p : Piece} {k : Sheet} (i j : ℕ) → InMode s (i + j) (mode.code p) n k → (notes_to s (i + suc j)).half ≡ hex (byte s (i + j))
  first_digit i j x = rw (add-suc, x.state) refl

  -- and the second makes the byte of the two
  second_digit : {h n : ℕ} {p : Piece} {k : Sheet} (i j : ℕ) → InMode s (i + j) (digit p) n k → (notes_to s (i + j)).half ≡ h → hex (byte s (i + j)) < 16
      → InMode s (i + suc j) (done p) n (as_read p (h * 16 + hex (byte s (i + j))) k)
  second_digit i j x e r = record { state = rw (add-suc, x.state, (below _ 16).full r) refl; sheet = rw (add-suc, x.state, x.sheet, e) refl }

  code_drives : {n : ℕ} {p : Piece} {k : Sheet} (i : ℕ) → InMode s (i + 2) (mode.code p) n k → hex (byte s (i + 2)) < 16 → hex (byte s (i + 3)) < 16
      → InMode s (i + 4) (done p) n (as_read p (hex (byte s (i + 2)) * 16 + hex (byte s (i + 3))) k)
  code_drives {p = p} i x l r = second_digit i 3 (further {m' = digit p} i 2 x (rw ((below _ 16).full l) refl) (λ _. refl)) (first_digit i 2 x) r

  escape_drives : {i j b n : ℕ} {p : Piece} {k : Sheet} → Escape s i j b → Awaits s i p n k → InMode s j (done p) n (as_read p b (started p i k))
  unfolding escapable
  escape_drives (plain h e) a = further _ 1 (to_back a h) (rw e refl) (λ _. rw e refl)
  escape_drives (coded h e l r) a = code_drives _ (further _ 1 (to_back a h) (rw e refl) (λ _. rw e refl)) l r

  byte_drives : {i j b n : ℕ} {p : Piece} {k : Sheet} → bare_in p ≡ class_literal → ClassByte s i j b → Awaits s i p n k → InMode s j (done p) n (as_read p b (started p i k))
  byte_drives e (bare h) a = taken a (λ x. rw (e, h) refl) (λ x. rw (e, h) refl)
  byte_drives e (escaped c) a = escape_drives c a

  to_dash : {j n : ℕ} {k : Sheet} → InMode s j (done low) n k → byte s j ≡ code "-" → InMode s (j + 1) (await high) n (since j k)
  unfolding class_literal
  to_dash x h = on x (rw h refl) (λ _. rw h refl)

  item_drives : {i j n : ℕ} {x : Item} {k : Sheet} → OneItem s i j x → Awaits s i low n k → Items-end s j n k (falling_items (x ∷ []))
  unfolding class_literal falling_items
  item_drives (one_byte c) a =
      let x = byte_drives refl c a in
      record { sheet = _; goes = more x; closes = λ h. on x (rw h refl) (λ _. rw h refl); grown = none_grown refl refl refl }
  item_drives {n = n} (low_high c h d) a =
      let x = byte_drives {n = n} {p = high} refl d (awaited (to_dash (byte_drives refl c a) h)) in
      record { sheet = _; goes = more x; closes = λ h. on x (rw h refl) (λ _. rw h refl); grown = record { falls = rw append-nil; opens = rw append-nil; firsts = rw append-nil } }

  class_drives : {i j n : ℕ} {l : List Item} {k : Sheet} → Items s i j l → byte s j ≡ code "]" → Awaits s i low n k → AtomEnds s (j + 1) n k (falling_items l) [] []
  unfolding falling_items
  class_drives (last_item x) h a = let e = item_drives x a in record { sheet = e.sheet; ends = e.closes h; grown = e.grown }
  class_drives (more_items x l) h a = let e = item_drives x a in rw items_cons (since_ends e.grown (class_drives l h e.goes))

  -- a position, whatever its byte
  positioned : {i j n : ℕ} {k : Sheet} → InMode s j after_atom n (as_read atom 0 (since i k)) → AtomEnds s j n k [] [] (i ∷ [])
  positioned x = record { sheet = _; ends = x; grown = first_grown refl refl refl }

  -- `[`
  to_class : {i n : ℕ} {k : Sheet} → Awaits s i atom n k → byte s i ≡ code "[" → InMode s (i + 1) (await low) n (as_read atom 0 (since i k))
  unfolding literal
  to_class a h = taken a (λ x. rw h refl) (λ x. rw h refl)

  single_drives : {i j n : ℕ} {y : Leaf} {k : Sheet} → Single s i j y → Awaits s i atom n k → AtomEnds s j n k (falling_leaf y) [] (i ∷ [])
  unfolding literal falling_leaf
  single_drives (a_dot h) a = positioned (taken a (λ x. rw h refl) (λ x. rw h refl))
  single_drives (a_literal h) a = positioned (taken a (λ x. rw h refl) (λ x. rw h refl))
  single_drives (an_escape e) a = positioned (escape_drives e a)
  single_drives (a_class h l c) a = since_ends (first_grown refl refl refl) (class_drives l c (awaited (to_class a h)))

  -- `\e` and `\0`
  unplaced : {i j n : ℕ} {k : Sheet} → InMode s j after_atom n (since i k) → AtomEnds s j n k [] [] []
  unplaced x = record { sheet = _; ends = x; grown = none_grown refl refl refl }

  -- `(`
  to_group : {i n : ℕ} {k : Sheet} → Awaits s i atom n k → byte s i ≡ code "(" → InMode s (i + 1) (await atom) (suc n) (nested n i (since i k))
  unfolding literal
  to_group a h = taken a (λ x. rw h refl) (λ x. rw h refl)

  -- a byte after an atom notes nothing but where another atom begins
  then : {j n n' : ℕ} {m : Mode} {k : Sheet} → InMode s j after_atom n k → next after_atom n (byte s j) ≡ at m n' → ((x : Sheet) → begun atom n (byte s j) j k x ≡ x) → InMode s (j + 1) m n' k
  then x e d = on x e (λ _. d _)

  to_mark : {j n : ℕ} {k : Sheet} (m : Mark) → InMode s j after_atom n k → byte s j ≡ mark_byte m → InMode s (j + 1) after_atom n k
  to_mark {j} {n} {k} m x h = let t = (marks (byte s j)).full (m, h) in then x (mark_step (byte s j) t n) (mark_notes (byte s j) t n j k)

  to_bar : {j n : ℕ} {k : Sheet} → InMode s j after_atom n k → byte s j ≡ code "|" → InMode s (j + 1) (await atom) n k
  unfolding literal is_mark
  to_bar x h = then x (rw h refl) (λ x. rw h refl)

  to_close : {j n : ℕ} {k : Sheet} → InMode s j after_atom (suc n) k → byte s j ≡ code ")" → InMode s (j + 1) after_atom n k
  unfolding literal is_mark
  to_close x h = then x (rw h refl) (λ x. rw h refl)

  drives : {l : Level} {i j n : ℕ} {t : Tree} {k : Sheet} → Reads s l i j t → Awaits s i atom n k → AtomEnds s j n k (falling t) (inside n t) (places t)
  unfolding escapable falling inside places
  drives (single y) a = single_drives y a
  drives (no_byte {i = i} h e) a = unplaced {i = i} (further _ 1 (to_back a h) (rw e refl) (λ _. rw e refl))
  drives (no_word {i = i} h e) a = unplaced {i = i} (further _ 1 (to_back a h) (rw e refl) (λ _. rw e refl))
  drives {n = n} (in_group h r e) a = since_ends (group_grown _ n _) (ends_with (λ _ x. to_close x e) (drives r (awaited (to_group a h))))
  drives (one_atom r) a = drives r a
  drives (one_mark m r h) a = ends_with (λ _ x. to_mark m x h) (drives r a)
  drives (one_factor r) a = drives r a
  drives (next_factor r q) a = let d = drives r a in since_ends d.grown (drives q (more d.ends))
  drives (one_branch r) a = drives r a
  drives (next_branch r h q) a = let d = drives r a in since_ends d.grown (drives q (awaited (to_bar d.ends h)))

-- a text with the tree t ends so
text_ends : (s : List ℕ) (t : Tree) → Pattern s t → AtomEnds s (length s) 0 blank.sheet (falling t) (inside 0 t) (places t)
text_ends s t r = drives r (awaited (record { state = refl; sheet = refl }))

-- on a legal text the machine ends after an atom, with nothing open
pub legal_runs : (s : List ℕ) → Legal s → run_to s (length s) ≡ at after_atom 0
legal_runs s l = (text_ends s l.tree l.reads).ends.state

-- what is noted at the end of a text with the tree t
pub record NotedAll (s : List ℕ) (t : Tree) : Type 0 where
  pub falls_noted : (notes_to s (length s)).sheet.falls ≡ falling t
  pub opens_noted : (notes_to s (length s)).sheet.opens ≡ opened nest_limit t
  pub firsts_noted : (notes_to s (length s)).sheet.firsts ≡ places t

pub legal_notes : (s : List ℕ) (t : Tree) → Pattern s t → NotedAll s t
legal_notes s t r =
    let d = text_ends s t r in
    record { falls_noted = rw d.ends.sheet d.grown.falls; opens_noted = rw d.ends.sheet (d.grown.opens ∙ inside_opened t); firsts_noted = rw d.ends.sheet d.grown.firsts }
