-- The report is determined. Whatever rooms and scratch a text is compiled into, number and place are one, and after Done so are the 8,834 bytes of the room; whatever string
-- room two such rooms are compared into, the answer and the string are one. A side that is refused shows number and place alone, and then nothing is shown of the comparison.
--   compiling_one: two sides of one text have one line, and after Done rooms of the same bytes
--   comparing_one: two comparisons of rooms with the same bytes have the same lines
--   printed_one: what is printed is one
--   determined: two results of one call are equal: the answer, and every byte of the buffer
use Prim.Native.Nat.{ℕ}
use mathlib.Core.Path.{◌≡◌, refl, sym, ap₂, ◌∙◌}
use mathlib.Core.List.{List, ◌++◌}
use native.Mathlib.Omega.{arith}
use native.Mathlib.Decide.{ℕ_discrete}
use lib.ListN.{take}
use Rattle.scope.specs.Answers.{DONE}
use Rattle.scope.specs.Bytes.{ascii}
use Rattle.scope.specs.Operations.Compile.{Compiles, compiled}
use Rattle.scope.specs.Operations.Compare.{CompareLent, Compares, no_room, no_form, same, separated}
use Rattle.scope.specs.Lines.{Side, Outcome, outcome_lines, printed}
use Rattle.scope.specs.Machines.Machine.{Equal, Closed}
use Rattle.scope.specs.Machines.Room.{machine, Sound, SameBytes}
use Rattle.scope.specs.Machines.Rounds.{aside, Rounds}
use Rattle.scope.specs.Machines.Separate.{Separation}
use Rattle.scope.proofs.Machines.SameMoves.{SameMoves, agree_aside, agree_rounds, agree_equal, agree_separation}
use Rattle.scope.proofs.Machines.Aside.{aside_closed}
use Rattle.scope.proofs.Operations.Buffers.{written_take}
use Rattle.scope.proofs.Operations.Compare.{rounds_one, separation_one, equal_separates, unsound}
use Rattle.scope.proofs.Operations.Compile.{lent_one, one_room}
use Rattle.scope.proofs.Machines.Moved.{moved_agree, sound_moved}
use Rattle.scope.proofs.Machines.Run.{sound_closed}
use Rattle.room.proofs.HeadAndParts.{head_same}
use Rattle.compare.proofs.Results.{compares_fits}
use Rattle.put_lines.specs.Printing.{counted, told}
use Rattle.put_lines.proofs.Lining.{told_done, told_refused, printed_left, printed_right, printed_both}
use Rattle.line_pieces.proofs.Appending.{appended_as, appended_one}
use Rattle.alike_report.specs.Report.{Compiling, compiling, Comparing, comparing, puts, Reports, reports}

-- ---- one side

-- two sides of one text: the same line, and after Done sound rooms of the same bytes
record SideOne (a b : Side) (room other : List ℕ) : Type 0 where
  number : a.number ≡ b.number
  line : told a ≡ told b
  sound : a.number ≡ DONE → Sound room
  bytes : a.number ≡ DONE → SameBytes room other

-- a compiled room is sound
done_sound : {text room room' bytes bytes' words words' : List ℕ} {i : ℕ} → Compiles text room room' bytes bytes' words words' DONE i → Sound room'
done_sound (compiled y s m n k e h f) = k.sound

compiling_one : {text room other : List ℕ} {a b : Side} → Compiling text room a → Compiling text other b → SideOne a b room other
compiling_one {text} {room} {other} {a} {b} (compiling {before} {bytes} {bytes'} {words} {words'} l x s k) (compiling {before = o} {bytes = p} {bytes' = p'} {words = q} {words' = q'} m y t j) =
    record { number = n; line = line (ℕ_discrete a.number DONE); sound = λ e. done_sound (left e); bytes = same_bytes }
  where
    one : (a.number ≡ b.number) × (a.place ≡ b.place)
    one = lent_one l m x y

    n : a.number ≡ b.number
    n = one.0

    left : a.number ≡ DONE → Compiles text before room bytes bytes' words words' DONE a.place
    left e = rw e at x

    right : a.number ≡ DONE → Compiles text o other p p' q q' DONE b.place
    right e = rw (sym n ∙ e) at y

    same_bytes : a.number ≡ DONE → SameBytes room other
    same_bytes e = one_room (left e) (right e)

    line : Dec (a.number ≡ DONE) → told a ≡ told b
    line (yes e) =
        let h = head_same room other (λ i l. same_bytes e i (omega arith)) in
        let u : a.states ≡ b.states = s ∙ h.0 ∙ sym t in
        let v : a.classes ≡ b.classes = k ∙ h.1 ∙ sym j in
        told_done a e ∙ ap₂ (λ (p q : ℕ). counted (ascii " states ") p (ascii " classes ") q) u v ∙ sym (told_done b (sym n ∙ e))
    line (no d) =
        told_refused a d ∙ ap₂ (λ (p q : ℕ). counted (ascii " refused ") p (ascii " at ") q) n one.1 ∙ sym (told_refused b (λ e. d (n ∙ e)))

-- ---- the comparison

module _ (left right left' right' : List ℕ) (s : Sound left) (t : Sound right) (e : SameBytes left left') (f : SameBytes right right') where
  m : Closed (machine left)
  m = sound_closed left s.table

  n : Closed (machine right)
  n = sound_closed right t.table

  a : SameMoves (machine left) (machine left')
  a = moved_agree left left' (λ i h. e i (omega arith)) s.table

  d : SameMoves (machine right) (machine right')
  d = moved_agree right right' (λ i h. f i (omega arith)) t.table

  rounds_moved : {r k : ℕ} → Rounds (aside (machine left) (machine right)) r → Rounds (aside (machine left') (machine right')) k → r ≡ k
  rounds_moved {r} {k} x y = rounds_one (aside (machine left') (machine right')) r k
      (agree_rounds (aside (machine left) (machine right)) (aside (machine left') (machine right')) (aside_closed (machine left) (machine right) m n)
      (agree_aside (machine left) (machine left') (machine right) (machine right') a d) r x) y

  separation_moved : (w : List ℕ) → Separation (machine left) (machine right) w → Separation (machine left') (machine right') w
  separation_moved = agree_separation (machine left) (machine left') (machine right) (machine right') m n a d

  equal_moved : Equal (machine left) (machine right) → Equal (machine left') (machine right')
  equal_moved = agree_equal (machine left) (machine left') (machine right) (machine right') m n a d

  -- number, rounds and string are one, whatever else is lent
  compares_one : {word word' bytes bytes' words words' v v' b b' w w' : List ℕ} {i n r j m k : ℕ} → CompareLent left right word bytes words
      → CompareLent left' right' v b w → Compares left right word word' bytes bytes' words words' i n r → Compares left' right' v v' b b' w w' j m k
      → (i ≡ j) × (r ≡ k) × (take n word' ≡ take m v')
  compares_one l o (no_room h x y) z = absurd (h l)
  compares_one l o (no_form h x y u) z = absurd (unsound x s t)
  compares_one l o (same h x y p q u c) (no_room h' x' y') = absurd (h' o)
  compares_one l o (same h x y p q u c) (no_form h' x' y' u') = absurd (unsound x' (sound_moved left left' o.left_long e s) (sound_moved right right' o.right_long f t))
  compares_one l o (same h x y p q u c) (same h' x' y' p' q' u' c') = (refl, rounds_moved q q', refl)
  compares_one l o (same h x y p q u c) (separated {w = z} h' x' y' p' g' q' u' c') = absurd (equal_separates (machine left') (machine right') z (equal_moved p) p')
  compares_one l o (separated h x y p g q u c) (no_room h' x' y') = absurd (h' o)
  compares_one l o (separated h x y p g q u c) (no_form h' x' y' u') = absurd (unsound x' (sound_moved left left' o.left_long e s) (sound_moved right right' o.right_long f t))
  compares_one l o (separated {w = z} h x y p g q u c) (same h' x' y' p' q' u' c') = absurd (equal_separates (machine left') (machine right') z p' (separation_moved z p))
  compares_one {word} {word'} {v = v} {v'} {n = n} {m = m} l o (separated {w = z} h x y p g q u c) (separated {w = z'} h' x' y' p' g' q' u' c') =
      let b = compares_fits (separated h x y p g q u c) in
      let b' = compares_fits (separated h' x' y' p' g' q' u' c') in (
        refl,
        rounds_moved q q',
        written_take z word word' n g (omega (arith, b, l.word_long)) u ∙ separation_one (machine left') (machine right') z z' (separation_moved z p) p'
            ∙ sym (written_take z' v v' m g' (omega (arith, b', o.word_long)) u'),
      )

-- what is shown of a comparison: number, rounds and string
record OutcomeOne (c d : Outcome) : Type 0 where
  number : c.number ≡ d.number
  rounds : c.rounds ≡ d.rounds
  word : c.word ≡ d.word

comparing_one : {left right left' right' : List ℕ} {c d : Outcome} → Sound left → Sound right → SameBytes left left' → SameBytes right right'
    → Comparing left right c → Comparing left' right' d → OutcomeOne c d
comparing_one {left} {right} {left'} {right'} s t e f (comparing l x p) (comparing m y q) =
    let (a, b, w) = compares_one left right left' right' s t e f l m x y in
    record { number = a; rounds = b; word = p ∙ w ∙ sym q }

outcome_lines_lem : (c d : Outcome) → OutcomeOne c d → outcome_lines c ≡ outcome_lines d
unfolding outcome_lines
outcome_lines_lem c d o = rw (o.number, o.rounds, o.word) refl

-- ---- the whole

printed_one : (a a' b b' : Side) (c c' : Outcome) {left left' right right' : List ℕ} → SideOne a a' left left' → SideOne b b' right right'
    → (a.number ≡ DONE → b.number ≡ DONE → outcome_lines c ≡ outcome_lines c') → printed a b c ≡ printed a' b' c'
printed_one a a' b b' c c' x y f = go (ℕ_discrete a.number DONE) (ℕ_discrete b.number DONE)
  where
    sides : (ascii "left" ++ told a) ++ (ascii "right" ++ told b) ≡ (ascii "left" ++ told a') ++ (ascii "right" ++ told b')
    sides = ap₂ (λ (u v : List ℕ). (ascii "left" ++ u) ++ (ascii "right" ++ v)) x.line y.line

    go : Dec (a.number ≡ DONE) → Dec (b.number ≡ DONE) → printed a b c ≡ printed a' b' c'
    go (no d) g = printed_left a b c d ∙ sides ∙ sym (printed_left a' b' c' (λ e. d (x.number ∙ e)))
    go (yes e) (no d) = printed_right a b c e d ∙ sides ∙ sym (printed_right a' b' c' (sym x.number ∙ e) (λ e. d (y.number ∙ e)))
    go (yes e) (yes d) = printed_both a b c e d ∙ ap₂ (λ (u v : List ℕ). u ++ v) sides (f e d) ∙ sym (printed_both a' b' c' (sym x.number ∙ e) (sym y.number ∙ d))

-- two results of one call: the answers, the buffers
pub determined : {left right out u v : List ℕ} {n m : ℕ} → Reports left right out u n → Reports left right out v m → (n ≡ m) × (u ≡ v)
determined (reports {a = a} {b} x y (puts {c} z p)) (reports {a = a'} {b = b'} x' y' (puts {c = c'} z' p')) =
    let i = compiling_one x x' in
    let j = compiling_one y y' in
    let e = printed_one a a' b b' c c' i j (λ g h. outcome_lines_lem c c' (comparing_one (i.sound g) (j.sound h) (i.bytes g) (j.bytes h) z z')) in
    appended_one (appended_as e p) p'
