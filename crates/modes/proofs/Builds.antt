-- From the machine's state back to what has been read: in each mode, what of a derivation ends at the place, and a pending part for each open parenthesis.
-- A part that is not yet whole is kept as what it makes of its continuation. Each step keeps this up; at the end of the text, after an atom and with
-- nothing open, it is a derivation of the whole.
--   runs_legal: a text is legal, if the machine ends on it after an atom, with nothing open
use Prim.Native.Nat.{ℕ, zero, suc, ◌+◌, ◌<◌}
use mathlib.Core.Path.{◌≡◌, refl, subst}
use mathlib.Core.Bool.{Bool, true, false, cond}
use mathlib.Core.List.{List}
use native.Mathlib.Omega.{arith}
use lib.ListN.{length}
use Rattle.scope.specs.Bytes.{byte}
use Rattle.scope.specs.Text.Tree.{Item, Tree}
use Rattle.scope.specs.Text.Grammar.{hex, Escape, plain, coded, ClassByte, bare, escaped, OneItem, one_byte, low_high, Items, last_item, more_items, a_dot, a_literal, an_escape, a_class, Level, atoms, factors, branches, exprs, Reads, single, no_byte, no_word, in_group, one_atom, one_mark, one_factor, next_factor, one_branch, next_branch}
use Rattle.scope.specs.Text.Judge.{Legal}
use Rattle.scope.specs.Tests.{Tests}
use Rattle.scope.proofs.Counting.Tests.{itself, equals, below}
use Rattle.scope.proofs.Text.Marks.{marks}
use Rattle.modes.specs.Modes.{Piece, atom, low, high, await, done, back, code, digit, State, stuck, at, after_atom, bare_in, opens, begins, again, closes, ends, empties, step, run_to}

module _ (s : List ℕ) where
  -- the bytes i .. j are an l
  abbrev Part : Level → ℕ → ℕ → Type 0
  Part l i j = (t : Tree) × Reads s l i j t

  -- an expression that began at p has come to i: a factor from there goes on with its last branch, and that branch with the expression
  record Open (p i : ℕ) : Type 0 where
    from : ℕ
    factored : {j : ℕ} {t : Tree} → Reads s factors i j t → Part branches from j
    branched : {j : ℕ} {t : Tree} → Reads s branches from j t → Part exprs p j

  -- an atom may begin at i, inside n parentheses
  data Atom : ℕ → ℕ → Type 0 where
    outside : {i : ℕ} → Open 0 i → Atom 0 i
    inside : {n g i : ℕ} → Atom n g → byte s g ≡ 40 → Open (g + 1) i → Atom (suc n) i

  -- a factor ends at i
  data Factor (n i : ℕ) : Type 0 where
    factor : {q : ℕ} {t : Tree} → Atom n q → Reads s factors q i t → Factor n i

  -- an item of a class may begin at i: items and the `]` make it an atom
  record Class (n i : ℕ) : Type 0 where
    closed : {j : ℕ} {l : List Item} → Items s i j l → byte s j ≡ 93 → Factor n (j + 1)

  -- the piece may begin at i
  data MayBegin (n : ℕ) : Piece → ℕ → Type 0 where
    for_atom : {i : ℕ} → Atom n i → MayBegin n atom i
    for_low : {i : ℕ} → Class n i → MayBegin n low i
    for_high : {i j b : ℕ} → Class n i → ClassByte s i j b → byte s j ≡ 45 → MayBegin n high (j + 1)

  -- the piece ends at i
  data Done (n : ℕ) : Piece → ℕ → Type 0 where
    an_atom : {i : ℕ} → Factor n i → Done n atom i
    a_low : {i j b : ℕ} → Class n i → ClassByte s i j b → Done n low j
    a_range : {i j : ℕ} {x : Item} → Class n i → OneItem s i j x → Done n high j

  -- what the state says of the text before i
  data StateSays : State → ℕ → Type 0 where
    lost : {i : ℕ} → StateSays stuck i
    ready : {p : Piece} {n i : ℕ} → MayBegin n p i → StateSays (at (await p) n) i
    ended : {p : Piece} {n i : ℕ} → Done n p i → StateSays (at (done p) n) i
    backs : {p : Piece} {n i : ℕ} → MayBegin n p i → byte s i ≡ 92 → StateSays (at (back p) n) (i + 1)
    codes : {p : Piece} {n i : ℕ} → MayBegin n p i → byte s i ≡ 92 → byte s (i + 1) ≡ 120 → StateSays (at (code p) n) (i + 2)
    digits : {p : Piece} {n i : ℕ} → MayBegin n p i → byte s i ≡ 92 → byte s (i + 1) ≡ 120 → hex (byte s (i + 2)) < 16 → StateSays (at (digit p) n) (i + 3)

module _ {s : List ℕ} where
  -- a test decides the state, and what it decides may be used
  choose : {c : Bool} {A : Type 0} {x y : State} {i : ℕ} → Tests c A → (A → StateSays s x i) → StateSays s y i → StateSays s (cond c x y) i
  choose {c = true} t f g = f (t.sound refl)
  choose {c = false} t f g = g

  placed : {x : State} {i j : ℕ} → i ≡ j → StateSays s x i → StateSays s x j
  placed {x} e g = subst (λ (k : ℕ). StateSays s x k) e g

  -- ---- expressions

  -- nothing yet
  fresh : {p : ℕ} → Open s p p
  fresh = record { from = _; factored = λ r. (_, one_factor r); branched = λ r. (_, one_branch r) }

  -- the last factor ends the expression
  whole : {p i j : ℕ} {t : Tree} → Open s p i → Reads s factors i j t → Part s exprs p j
  whole o r = o.branched (o.factored r).1

  -- one factor more
  longer : {p i j : ℕ} {t : Tree} → Reads s factors i j t → Open s p i → Open s p j
  longer r o = record { from = o.from; factored = λ q. (_, next_factor (o.factored r).1 q); branched = o.branched }

  -- one factor more, and `|`
  barred : {p i j : ℕ} {t : Tree} → Reads s factors i j t → byte s j ≡ 124 → Open s p i → Open s p (j + 1)
  barred r h o = record { from = _; factored = λ q. (_, one_factor q); branched = λ q. (_, next_branch (whole o r).1 h q) }

  -- the same inside the parentheses
  inner : {n i j : ℕ} → ((p : ℕ) → Open s p i → Open s p j) → Atom s n i → Atom s n j
  inner f (outside o) = outside (f _ o)
  inner f (inside a h o) = inside a h (f _ o)

  -- ---- what a byte makes of them

  atom_read : {n i j : ℕ} {t : Tree} → Atom s n i → Reads s atoms i j t → StateSays s (at after_atom n) j
  atom_read a r = ended (an_atom (factor a (one_atom r)))

  class_opened : {n i : ℕ} → Atom s n i → byte s i ≡ 91 → Class s n (i + 1)
  class_opened a h = record { closed = λ l k. factor a (one_atom (single (a_class h l k))) }

  class_more : {n i j : ℕ} {x : Item} → Class s n i → OneItem s i j x → Class s n j
  class_more c x = record { closed = λ l k. c.closed (more_items x l) k }

  -- another piece may follow
  next_ready : {n i : ℕ} {p : Piece} → Done s n p i → MayBegin s n (again p) i
  next_ready (an_atom (factor a r)) = for_atom (inner (λ p. longer r) a)
  next_ready (a_low c b) = for_low (class_more c (one_byte b))
  next_ready (a_range c x) = for_low (class_more c x)

  bare_done : {n i : ℕ} {p : Piece} → MayBegin s n p i → bare_in p (byte s i) ≡ true → StateSays s (at (done p) n) (i + 1)
  bare_done (for_atom a) h = atom_read a (single (a_literal h))
  bare_done (for_low c) h = ended (a_low c (bare h))
  bare_done (for_high c b d) h = ended (a_range c (low_high b d (bare h)))

  escape_done : {n i j b : ℕ} {p : Piece} → MayBegin s n p i → Escape s i j b → StateSays s (at (done p) n) j
  escape_done (for_atom a) e = atom_read a (single (an_escape e))
  escape_done (for_low c) e = ended (a_low c (escaped e))
  escape_done (for_high c b d) e = ended (a_range c (low_high b d (escaped e)))

  opened : {n i : ℕ} {p : Piece} {x : State} → MayBegin s n p i → StateSays s x (i + 1) → StateSays s (opens p n (byte s i) x) (i + 1)
  opened (for_atom a) o =
      choose (equals 46 _) (λ h. atom_read a (single (a_dot h)))
      (choose (equals 91 _) (λ h. ready (for_low (class_opened a h))) (choose (equals 40 _) (λ h. ready (for_atom (inside a h fresh))) o))
  opened (for_low c) o = o
  opened (for_high c b d) o = o

  begun : {n i : ℕ} {p : Piece} {x : State} → MayBegin s n p i → StateSays s x (i + 1) → StateSays s (begins p n (byte s i) x) (i + 1)
  begun r o = choose (itself _) (bare_done r) (choose (equals 92 _) (backs r) (opened r o))

  grouped : {n i j : ℕ} {t : Tree} → Atom s n i → Reads s factors i j t → byte s j ≡ 41 → StateSays s (closes n) (j + 1)
  grouped (outside o) r h = lost
  grouped (inside a g o) r h = atom_read a (in_group g (whole o r).1 h)

  finished : {n i : ℕ} {p : Piece} → Done s n p i → StateSays s (ends p n (byte s i)) (i + 1)
  finished (an_atom (factor a r)) =
      choose (marks _) (λ (m, h). ended (an_atom (factor a (one_mark m r h))))
      (choose (equals 124 _) (λ h. ready (for_atom (inner (λ p. barred r h) a))) (choose (equals 41 _) (grouped a r) lost))
  finished (a_low c b) =
      choose (equals 45 _) (λ h. ready (for_high c b h))
      (choose (equals 93 _) (λ h. ended (an_atom (c.closed (last_item (one_byte b)) h))) lost)
  finished (a_range c x) = choose (equals 93 _) (λ h. ended (an_atom (c.closed (last_item x) h))) lost

  emptied : {n i : ℕ} {p : Piece} → MayBegin s n p i → byte s i ≡ 92 → StateSays s (empties p n (byte s (i + 1))) (i + 2)
  emptied (for_atom a) h = choose (equals 101 _) (λ k. atom_read a (no_byte h k)) (choose (equals 48 _) (λ k. atom_read a (no_word h k)) lost)
  emptied (for_low c) h = lost
  emptied (for_high c b d) h = lost

  good_step : {i : ℕ} {x : State} → StateSays s x i → StateSays s (step x (byte s i)) (i + 1)
  good_step lost = lost
  good_step (ready r) = begun r lost
  good_step (ended d) = begun (next_ready d) (finished d)
  good_step (backs {i = i} r h) =
      placed {i = i + 2} (omega arith) (choose (itself _) (λ k. escape_done r (plain h k)) (choose (equals 120 _) (codes r h) (emptied r h)))
  good_step (codes {i = i} r h k) = placed {i = i + 3} (omega arith) (choose (below _ 16) (digits r h k) lost)
  good_step (digits {i = i} r h k d) = placed {i = i + 4} (omega arith) (choose (below _ 16) (λ e. escape_done r (coded h k d e)) lost)

-- so the state after i bytes says what has been read
builds : (s : List ℕ) (i : ℕ) → StateSays s (run_to s i) i
builds s zero = ready (for_atom (outside fresh))
builds s (suc i) = placed (omega arith) (good_step (builds s i))

-- a text is legal, if the machine ends on it after an atom, with nothing open
pub runs_legal : (s : List ℕ) → run_to s (length s) ≡ at after_atom 0 → Legal s
runs_legal s e = elim (rw e at (builds s (length s))) [ ended (an_atom (factor (outside o) r)) ↦ record { tree = (whole o r).0; reads = (whole o r).1 } ]
