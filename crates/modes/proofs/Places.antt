-- The mode machine is exact: it accepts the legal texts, and a prefix is viable as long as it is not stuck, since from every mode there is a way to the
-- end. So SYNTAX is at the byte on which it gets stuck; or at the end of the text, if it ends neither stuck nor after an atom with nothing open.
--   legal_exact, viable_exact: legal texts and viable prefixes, by the state at their end
--   prefix_free, free_prefix: the same of the first i bytes of a text
--   stuck_at, unfinished: SYNTAX at the byte on which the machine gets stuck; at the end of the text
--   Verdict, verdict s: legal, or the place of SYNTAX, computed in one pass; Judges, judges: it is so, of every text
--   judged: every text is legal or has a place of SYNTAX
use Prim.Native.Nat.{ℕ, zero, suc, ◌+◌, ◌<◌, ◌≤◌}
use mathlib.Core.Path.{◌≡◌, refl, sym, ap, ◌∙◌}
use mathlib.Core.Bool.{true, false, cond, false≢true}
use mathlib.Core.Logic.{◌↔◌, ◌⊎◌, inl, inr}
use mathlib.Core.List.{List, [], ◌∷◌, ◌++◌}
use native.Mathlib.Numerals.{add-one}
use native.Mathlib.Omega.{arith}
use lib.ListN.{length, take, drop, take-append-drop}
use lib.Seq.{take-suc, take-length}
use Rattle.scope.specs.Limits.{byte_values}
use Rattle.scope.specs.Text.Grammar.{literal, escapable, class_literal, is_mark, hex}
use Rattle.scope.specs.Text.Judge.{Legal, Viable, SyntaxAt}
use Rattle.scope.proofs.Counting.Tests.{which}
use Rattle.scope.proofs.Text.Judge.{syntax_at}
use Rattle.modes.specs.Modes.{Piece, atom, low, high, Mode, await, done, back, code, digit, State, stuck, at, initial, is_stuck, after_atom, step, run_modes, run_to}
use Rattle.modes.proofs.Drives.{legal_runs}
use Rattle.modes.proofs.Builds.{runs_legal}

-- ---- the run over a list

run_append : (x : State) (u w : List ℕ) → run_modes x (u ++ w) ≡ run_modes (run_modes x u) w
run_append x [] w = refl
run_append x (b ∷ u) w = run_append (step x b) u w

-- the first i bytes, by the place or as a list
run_take : (s : List ℕ) (i : ℕ) → i ≤ length s → run_to s i ≡ run_modes initial (take i s)
run_take s zero h = refl
run_take s (suc i) h = rw (run_take s i (omega arith), take-suc s i byte_values h, run_append) refl

run_whole : (s : List ℕ) → run_to s (length s) ≡ run_modes initial s
run_whole s = run_take s (length s) (omega arith) ∙ rw take-length refl

-- no byte leads out of being stuck
free_before : (x : State) (w : List ℕ) → is_stuck (run_modes x w) ≡ false → is_stuck x ≡ false
free_before x [] h = h
free_before stuck (b ∷ w) h = free_before stuck w h
free_before (at m n) (b ∷ w) h = refl

-- ---- a way to the end

-- what closes the parentheses; what ends the piece and closes them; what takes a mode there
abbrev closing : ℕ → List ℕ
closing zero = []
closing (suc n) = 41 ∷ closing n

abbrev ending : Piece → ℕ → List ℕ
ending atom n = closing n
ending low n = 93 ∷ closing n
ending high n = 93 ∷ closing n

abbrev completion : Mode → ℕ → List ℕ
completion (await p) n = 97 ∷ ending p n
completion (done p) n = ending p n
completion (back p) n = 46 ∷ ending p n
completion (code p) n = 48 ∷ 48 ∷ ending p n
completion (digit p) n = 48 ∷ ending p n

closes_all : (n : ℕ) → run_modes (at after_atom n) (closing n) ≡ at after_atom 0
unfolding literal is_mark
closes_all zero = refl
closes_all (suc n) = closes_all n

ends_all : (p : Piece) (n : ℕ) → run_modes (at (done p) n) (ending p n) ≡ at after_atom 0
unfolding class_literal
ends_all atom n = closes_all n
ends_all low n = closes_all n
ends_all high n = closes_all n

completes : (m : Mode) (n : ℕ) → run_modes (at m n) (completion m n) ≡ at after_atom 0
unfolding literal escapable class_literal hex
completes (await atom) n = ends_all atom n
completes (await low) n = ends_all low n
completes (await high) n = ends_all high n
completes (done p) n = ends_all p n
completes (back p) n = ends_all p n
completes (code p) n = ends_all p n
completes (digit p) n = ends_all p n

-- ---- legal and viable

-- the machine accepts exactly the legal texts
pub legal_exact : (s : List ℕ) → Legal s ↔ (run_to s (length s) ≡ at after_atom 0)
legal_exact s = (legal_runs s, runs_legal s)

-- a prefix is viable exactly if the machine is not stuck on it
pub viable_exact : (s : List ℕ) → Viable s ↔ (is_stuck (run_to s (length s)) ≡ false)
viable_exact s = (λ v. rw run_whole (free_before _ v.rest (ap is_stuck (sym (ends v.rest) ∙ (legal_exact _).0 v.legal))), complete _ refl)
  where
    ends : (w : List ℕ) → run_to (s ++ w) (length (s ++ w)) ≡ run_modes (run_modes initial s) w
    ends w = run_whole (s ++ w) ∙ run_append _ s w

    complete : (x : State) → run_to s (length s) ≡ x → is_stuck x ≡ false → Viable s
    complete stuck e h = absurd (false≢true (sym h))
    complete (at m n) e h = record { rest = completion m n; legal = (legal_exact _).1 (ends (completion m n) ∙ rw (← run_whole s, e) (completes m n)) }

same_run : (s : List ℕ) (i : ℕ) → i ≤ length s → run_to (take i s) (length (take i s)) ≡ run_to s i
same_run s i h = run_whole (take i s) ∙ sym (run_take s i h)

-- the machine is not stuck on the first i bytes, if they are viable
pub prefix_free : (s : List ℕ) (i : ℕ) → i ≤ length s → Viable (take i s) → is_stuck (run_to s i) ≡ false
prefix_free s i h v = rw (same_run s i h) at ((viable_exact (take i s)).0 v)

-- the first i bytes are viable, if the machine is not stuck on them
pub free_prefix : (s : List ℕ) (i : ℕ) → i ≤ length s → is_stuck (run_to s i) ≡ false → Viable (take i s)
free_prefix s i h f = (viable_exact (take i s)).1 (rw (same_run s i h) f)

-- ---- the place of SYNTAX

-- the byte on which the machine gets stuck
pub stuck_at : (s : List ℕ) (i : ℕ) → i < length s → is_stuck (run_to s i) ≡ false → is_stuck (run_to s (i + 1)) ≡ true → SyntaxAt s i
stuck_at s i h f g =
    syntax_at s i (λ l. bad (record { rest = drop (i + 1) s; legal = rw take-append-drop l })) (omega arith) (free_prefix s i (omega arith) f) (λ _ v. bad v)
  where
    bad : Viable (take (i + 1) s) → ⊥
    bad v = false≢true (sym (prefix_free s (i + 1) (omega arith) v) ∙ g)

-- the end, where the machine is neither stuck nor accepts
pub unfinished : (s : List ℕ) → is_stuck (run_to s (length s)) ≡ false → (run_to s (length s) ≡ at after_atom 0 → ⊥) → SyntaxAt s (length s)
unfinished s f n = syntax_at s (length s) (λ l. n ((legal_exact s).0 l)) (omega arith) (free_prefix s (length s) (omega arith) f) (λ k v. omega arith)

-- ---- the verdict

pub data Verdict : Type 0 where
  legal : Verdict
  syntax : ℕ → Verdict

abbrev pub VerdictSays : List ℕ → Verdict → Type 0
VerdictSays s legal = Legal s
VerdictSays s (syntax i) = SyntaxAt s i

abbrev later : Verdict → Verdict
later legal = legal
later (syntax i) = syntax (suc i)

-- where the text ends: legal, if its completion is empty
abbrev lastly : List ℕ → Verdict
lastly [] = legal
lastly (b ∷ w) = syntax 0

abbrev verdict_from : State → List ℕ → Verdict
verdict_from stuck [] = syntax 0
verdict_from (at m n) [] = lastly (completion m n)
verdict_from x (b ∷ w) = cond (is_stuck (step x b)) (syntax 0) (later (verdict_from (step x b) w))

-- legal, or the place of SYNTAX
abbrev pub verdict : List ℕ → Verdict
verdict s = verdict_from initial s

-- what the machine does on w from the state x
data RunsTo (x : State) (w : List ℕ) : Verdict → Type 0 where
  accepts : run_modes x w ≡ at after_atom 0 → RunsTo x w legal
  stops : {i : ℕ} → i < length w → is_stuck (run_modes x (take i w)) ≡ false → is_stuck (run_modes x (take (suc i) w)) ≡ true → RunsTo x w (syntax i)
  lacks : is_stuck (run_modes x w) ≡ false → (run_modes x w ≡ at after_atom 0 → ⊥) → RunsTo x w (syntax (length w))

found_later : {x : State} {b : ℕ} {w : List ℕ} {v : Verdict} → RunsTo (step x b) w v → RunsTo x (b ∷ w) (later v)
found_later (accepts e) = accepts e
found_later (stops {i = i} h f g) = stops {i = suc i} (omega arith) f g
found_later (lacks f n) = lacks f n

found : (x : State) (w : List ℕ) → is_stuck x ≡ false → RunsTo x w (verdict_from x w)
found stuck [] h = absurd (false≢true (sym h))
found (at m n) [] h = go (completion m n) refl
  where
    go : (l : List ℕ) → completion m n ≡ l → RunsTo (at m n) [] (lastly l)
    go [] e = accepts (rw e at (completes m n))
    go (b ∷ l) e = lacks refl (λ f. let z : ◌≡◌ {A = ℕ} 0 1 = cc in omega arith)
found x (b ∷ w) h = elim (which (is_stuck (step x b))) [ inl e ↦ rw e (stops {i = 0} (omega arith) h e) | inr e ↦ rw e (found_later (found (step x b) w e)) ]

-- the machine finds whether a text is legal, and the place of SYNTAX if it is not
pub judges : (s : List ℕ) → VerdictSays s (verdict s)
judges s = go (found initial s refl)
  where
    go : {v : Verdict} → RunsTo initial s v → VerdictSays s v
    go (accepts e) = (legal_exact s).1 (run_whole s ∙ e)
    go (stops {i = i} h f g) = stuck_at s i h (rw (run_take s i (omega arith)) f) (rw (add-one, run_take s (suc i) h) g)
    go (lacks f n) = unfinished s (rw run_whole f) (λ e. n (sym (run_whole s) ∙ e))

-- every text is legal or has a place of SYNTAX, the only one by `syntax-one`
pub judged : (s : List ℕ) → Legal s ⊎ ((i : ℕ) × SyntaxAt s i)
judged s = either (verdict s) (judges s)
  where
    either : (v : Verdict) → VerdictSays s v → Legal s ⊎ ((i : ℕ) × SyntaxAt s i)
    either legal l = inl l
    either (syntax i) p = inr (i, p)
