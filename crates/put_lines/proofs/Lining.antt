-- The program's lines are the pieces that the code puts, one behind the other, and there is room for them. Joins are moved by `append_assoc`; the cases are tests on the answers' numbers.
--   side_line_lem, told_done, told_refused: a side's line, by its number
--   told_ok, told_err: the same by what compiling answered
--   outcome_same, outcome_apart: the lines of the comparison, by the answer
--   printed_left, printed_right, printed_both: what is printed if the left side is refused, if only the right one is, and else
--   told_short, outcome_short: how many bytes these are at most
use Prim.Native.Nat.{ℕ, ◌+◌, ◌^◌, ◌≤◌, ◌<◌}
use Prim.Native.String.{String}
use mathlib.Core.Logic.{◌⊎◌, inl, inr}
use mathlib.Core.Path.{◌≡◌, refl, ap, ◌∙◌}
use mathlib.Core.Bool.{Bool, true, false, cond}
use mathlib.Core.List.{List, [], ◌∷◌, ◌++◌, append_assoc, append-nil}
use native.Mathlib.Omega.{arith}
use lib.Dec.{eqb}
use lib.ListN.{length, length-append}
use borrow.Author.Tests.{eq-eqb, ne_eqb}
use Rattle.scope.specs.Bytes.{ascii}
use Rattle.scope.specs.Answers.{DONE, SAME, SEPARATED, ROOM, FORM}
use Rattle.scope.specs.Lines.{Side, Outcome, decimal, side_line, outcome_lines, printed}
use Rattle.std.specs.Prelude.{Result, Ok, Err}
use Rattle.std.specs.Result.{is_ok}
use Rattle.scope.specs.declared.Machine.{Machine}
use Rattle.answers.specs.declared.CompileRefusal.{CompileRefusal}
use Rattle.answers.specs.declared.Refusal.{Refusal}
use Rattle.answers.specs.declared.Compared.{Compared}
use Rattle.answers.specs.Numbers.{compile_refusal_number, compared_number, compared_rounds}
use Rattle.put_lines.specs.declared.sides.Refused.{Refused}
use Rattle.put_lines.specs.Printing.{side_of, outcome, counted, told, same, separated}
use Rattle.line_pieces.proofs.Numerals.{number_short}

-- ---- by pieces

counted_end : (u : List ℕ) (n : ℕ) (v : List ℕ) (m : ℕ) → (u ++ (decimal n ++ (v ++ decimal m))) ++ (0x0A ∷ []) ≡ counted u n v m
counted_end u n v m = simp append_assoc

pub side_line_lem : (name : String) (a : Side) → side_line name a ≡ ascii name ++ told a
unfolding side_line told
side_line_lem name a = ap (λ l. ascii name ++ l) (go (eqb a.number DONE))
  where
    go : (b : Bool)
        → cond b (ascii " states " ++ (decimal a.states ++ (ascii " classes " ++ decimal a.classes))) (ascii " refused " ++ (decimal a.number ++ (ascii " at " ++ decimal a.place))) ++ (0x0A ∷ [])
        ≡ cond b (counted (ascii " states ") a.states (ascii " classes ") a.classes) (counted (ascii " refused ") a.number (ascii " at ") a.place)
    go true = counted_end (ascii " states ") a.states (ascii " classes ") a.classes
    go false = counted_end (ascii " refused ") a.number (ascii " at ") a.place

pub refused_number : (e : CompileRefusal) → compile_refusal_number e ≡ DONE → ⊥
refused_number CompileRefusal.Room h = omega arith
refused_number CompileRefusal.Long h = omega arith
refused_number (CompileRefusal.Syntax i) h = omega arith
refused_number (CompileRefusal.Range i) h = omega arith
refused_number (CompileRefusal.Depth i) h = omega arith
refused_number (CompileRefusal.Positions i) h = omega arith
refused_number CompileRefusal.Classes h = omega arith
refused_number CompileRefusal.States h = omega arith

pub told_done : (a : Side) → a.number ≡ DONE → told a ≡ counted (ascii " states ") a.states (ascii " classes ") a.classes
unfolding told
told_done a e = rw (eq-eqb a.number DONE e)

pub told_refused : (a : Side) → (a.number ≡ DONE → ⊥) → told a ≡ counted (ascii " refused ") a.number (ascii " at ") a.place
unfolding told
told_refused a e = rw (ne_eqb a.number DONE e)

pub told_ok : (m : Machine) → told (side_of (Ok m)) ≡ counted (ascii " states ") m.states (ascii " classes ") m.classes
told_ok m = told_done (side_of (Ok m)) refl

pub told_err : (e : Refused) → told (side_of (Err e)) ≡ counted (ascii " refused ") e.number (ascii " at ") e.place
told_err e = told_refused (side_of (Err e)) e.refused

outcome_same : (c : Outcome) → c.number ≡ SAME → outcome_lines c ≡ same c.rounds
unfolding outcome_lines
outcome_same c e = rw (eq-eqb c.number SAME e)

outcome_apart : (c : Outcome) → (c.number ≡ SAME → ⊥) → outcome_lines c ≡ separated c.word c.rounds
unfolding outcome_lines
outcome_apart c e = rw (ne_eqb c.number SAME e) (simp append_assoc)

-- the lines of what comparing answered
abbrev pub compared_lines : Result Compared Refusal → List ℕ → List ℕ
compared_lines (Ok (Compared.Same r)) w = same r
compared_lines (Ok (Compared.Separated n r)) w = separated w r
compared_lines (Err e) w = separated w 0

pub outcome_of : (c : Result Compared Refusal) (w : List ℕ) → outcome_lines (outcome (compared_number c) (compared_rounds c) w) ≡ compared_lines c w
outcome_of (Ok (Compared.Same r)) w = outcome_same (outcome SAME r w) refl
outcome_of (Ok (Compared.Separated n r)) w = outcome_apart (outcome SEPARATED r w) (λ h. absurd (omega arith))
outcome_of (Err Refusal.Room) w = outcome_apart (outcome ROOM 0 w) (λ h. absurd (omega arith))
outcome_of (Err Refusal.Form) w = outcome_apart (outcome FORM 0 w) (λ h. absurd (omega arith))

-- ---- which are printed

-- what stands behind the lines of the two sides
behind : Side → Side → Outcome → List ℕ
behind l r c = cond (eqb l.number DONE) (cond (eqb r.number DONE) (outcome_lines c) []) []

printed_lines : (l r : Side) (c : Outcome) → printed l r c ≡ side_line "left" l ++ (side_line "right" r ++ behind l r c)
unfolding printed behind
printed_lines l r c = refl

printed_pieces : (l r : Side) (c : Outcome) → printed l r c ≡ ((ascii "left" ++ told l) ++ (ascii "right" ++ told r)) ++ behind l r c
printed_pieces l r c = printed_lines l r c ∙ simp (side_line_lem, append_assoc)

pub printed_left : (l r : Side) (c : Outcome) → (l.number ≡ DONE → ⊥) → printed l r c ≡ (ascii "left" ++ told l) ++ (ascii "right" ++ told r)
unfolding behind
printed_left l r c e = printed_pieces l r c ∙ rw (ne_eqb l.number DONE e) (append-nil ((ascii "left" ++ told l) ++ (ascii "right" ++ told r)))

pub printed_right : (l r : Side) (c : Outcome) → l.number ≡ DONE → (r.number ≡ DONE → ⊥) → printed l r c ≡ (ascii "left" ++ told l) ++ (ascii "right" ++ told r)
unfolding behind
printed_right l r c d e = printed_pieces l r c ∙ rw (eq-eqb l.number DONE d, ne_eqb r.number DONE e) (append-nil ((ascii "left" ++ told l) ++ (ascii "right" ++ told r)))

pub printed_both : (l r : Side) (c : Outcome) → l.number ≡ DONE → r.number ≡ DONE → printed l r c ≡ ((ascii "left" ++ told l) ++ (ascii "right" ++ told r)) ++ outcome_lines c
unfolding behind
printed_both l r c d e = printed_pieces l r c ∙ rw (eq-eqb l.number DONE d, eq-eqb r.number DONE e)

-- the same by what compiling the sides answered
ok_number : (s : Result Machine Refused) → is_ok s ≡ true → (side_of s).number ≡ DONE
ok_number (Ok machine) h = refl
ok_number (Err refusal) h = cc

err_number : (s : Result Machine Refused) → is_ok s ≡ false → (side_of s).number ≡ DONE → ⊥
err_number (Ok machine) h = cc
err_number (Err refused) h = refused.refused

module _ (l r : Result Machine Refused) (c : Outcome) where
  pub printed_ok : is_ok l ≡ true → is_ok r ≡ true → printed (side_of l) (side_of r) c ≡ ((ascii "left" ++ told (side_of l)) ++ (ascii "right" ++ told (side_of r))) ++ outcome_lines c
  printed_ok d e = printed_both (side_of l) (side_of r) c (ok_number l d) (ok_number r e)

  pub printed_err : (is_ok l ≡ false) ⊎ (is_ok l ≡ true) × (is_ok r ≡ false) → printed (side_of l) (side_of r) c ≡ (ascii "left" ++ told (side_of l)) ++ (ascii "right" ++ told (side_of r))
  printed_err (inl d) = printed_left (side_of l) (side_of r) c (err_number l d)
  printed_err (inr (d, e)) = printed_right (side_of l) (side_of r) c (ok_number l d) (err_number r e)

-- ---- how many bytes

-- a number of 64 bits has at most 20 digits
pub counted_short : (u : List ℕ) (n : ℕ) (v : List ℕ) (m : ℕ) → n < 2 ^ 64 → m < 2 ^ 64 → length (counted u n v m) ≤ length u + length v + 41
counted_short u n v m f g = simp length-append (omega (arith, number_short n f, number_short m g))
