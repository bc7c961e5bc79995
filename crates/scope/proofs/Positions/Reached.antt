-- The subset construction: the machine of reached sets accepts exactly the words. A set of positions accepts after a string exactly if one of its positions
-- has a path for the string, by induction on it; from {0} these are the paths of Glushkov's theorem. A machine whose states stand for the sets does as they do.
--   accepting_is: a set accepts exactly if it has a position that does
--   sets_exact: from {0}, the sets accept exactly the words
--   share_move: bytes of one pattern class lead to the same set
--   reached_start, reached_next: the reached sets are a complete machine
--   Covers, covers_recognises: a machine that covers the sets recognises the words
--   sets_fit: a machine of reached sets has no more states than sets are reached
--   words_bytes: where positions hold only bytes, words are strings of bytes
use mathlib.Core.Path.{◌≡◌, refl, sym, ap, ◌∙◌}
use mathlib.Core.Bool.{true, not, false≢true}
use mathlib.Core.Logic.{◌⊎◌, inl, inr, ◌↔◌}
use mathlib.Core.List.{List, [], ◌∷◌, ◌++◌}
use Prim.Native.Nat.{ℕ, zero, suc, ◌/◌, ◌≤◌, ◌<◌}
use native.Mathlib.Nat.{div-one}
use native.Mathlib.Omega.{arith}
use lib.Dec.{eqb, eqb-suc-zero}
use lib.Bits.{bit_and}
use Rattle.scope.specs.Limits.{byte_values, state_limit}
use Rattle.scope.specs.Bytes.{Bytes}
use Rattle.scope.specs.Text.Re.{Re, size, Words}
use Rattle.scope.specs.Positions.Sets.{Null, Last, At, Final, Path, end, to}
use Rattle.scope.specs.Positions.Bits.{has, final, move, accepting}
use Rattle.scope.specs.Machines.Machine.{Machine, walk, run, Recognises, Closed}
use Rattle.scope.specs.Positions.Reached.{Share, ReachedSet, FewSets}
use Rattle.scope.specs.Tests.{Tests}
use Rattle.scope.proofs.Counting.Tests.{split, never, always, or, and, amounts, itself, equals}
use Rattle.scope.proofs.Counting.Count.{over_within}
use Rattle.scope.proofs.Machines.Run.{walk_append, bytes_append}
use Rattle.scope.proofs.Positions.Bits.{null_is, last_is, has_or, has_given, has_pow, has_zero, has_half, digit}
use Rattle.scope.proofs.Positions.Moves.{has_and, move_is}
use Rattle.scope.proofs.Positions.Glushkov.{last_in, at_in, glushkov}

-- ---- accepting sets

final_is : (e : Re) (p : ℕ) → Tests (has (final e) p) (Final e p)
unfolding final
final_is e p = rw (has_or, has_given, has_pow 0) (amounts (or (last_is e 0 p) (and (null_is e) (equals 0 p))) (there p) (back p))
  where
    there : (p : ℕ) → Last e 0 p ⊎ (Null e × (p ≡ 0)) → Final e p
    there zero (inl h) = absurd (omega (arith, last_in e 0 0 h))
    there zero (inr h) = h.0
    there (suc p) (inl h) = h
    there (suc p) (inr h) = absurd (omega arith)

    back : (p : ℕ) → Final e p → Last e 0 p ⊎ (Null e × (p ≡ 0))
    back zero h = inr (h, refl)
    back (suc p) h = inl h

final_in : (e : Re) (p : ℕ) → Final e p → p ≤ size e
final_in e zero h = omega arith
final_in e (suc p) h = omega (arith, last_in e 0 (suc p) h)

some_bit : (m n : ℕ) → n ≤ m → 0 < n → (p : ℕ) × (has n p ≡ true)
some_bit zero n h l = absurd (omega arith)
some_bit (suc m) n h l = elim (digit n) [
  | inl u ↦ let (p, x) = some_bit m (n / 2) (omega arith) (omega arith) in (suc p, has_half n p ∙ x)
  | inr u ↦ (0, rw (div-one, u))
]

-- a set that is not empty has a position
filled : (n : ℕ) → Tests (not (eqb n 0)) ((p : ℕ) × (has n p ≡ true))
filled zero = never (λ (p, x). false≢true (sym (has_zero p) ∙ x))
filled (suc n) = rw eqb-suc-zero (always (some_bit (suc n) (suc n) (omega arith) (omega arith)))

-- a set accepts exactly if it has a position that does
pub accepting_is : (e : Re) (s : ℕ) → Tests (accepting e s) ((p : ℕ) × (p ≤ size e) × (has s p ≡ true) × Final e p)
unfolding accepting
accepting_is e s =
    amounts (filled (bit_and s (final e))) (λ (p, x). let (y, f) = (both p).sound x in (p, final_in e p f, y, f)) (λ (p, h, x, f). (p, (both p).full (x, f)))
  where
    both : (p : ℕ) → Tests (has (bit_and s (final e)) p) ((has s p ≡ true) × Final e p)
    both p = rw has_and (and (itself (has s p)) (final_is e p))

-- ---- the machine of sets

-- some position of the set s has a path for w
abbrev Leads : Re → ℕ → List ℕ → Type 0
Leads e s w = (p : ℕ) × (p ≤ size e) × (has s p ≡ true) × Path e p w

walk_is : (e : Re) (w : List ℕ) (s : ℕ) → Tests (accepting e (walk (move e) s w)) (Leads e s w)
walk_is e [] s = amounts (accepting_is e s) (λ (p, h, x, f). (p, h, x, end f)) back
  where
    back : Leads e s [] → (p : ℕ) × (p ≤ size e) × (has s p ≡ true) × Final e p
    back (p, h, x, end f) = (p, h, x, f)
walk_is e (b ∷ w) s = amounts (walk_is e w (move e s b)) (λ (q, h, x, r). let ((p, i, y, g), a) = (move_is e s b q).sound x in (p, i, y, to g a r)) back
  where
    back : Leads e s (b ∷ w) → Leads e (move e s b) w
    back (p, h, x, to {q = q} g a r) = (q, omega (arith, at_in e 0 q b a), (move_is e s b q).full ((p, h, x, g), a), r)

-- the machine of reached sets, begun at {0}, accepts exactly the words
pub sets_exact : (e : Re) (w : List ℕ) → (accepting e (walk (move e) 1 w) ≡ true) ↔ Words e w
sets_exact e w = (λ x. (glushkov e w).1 (zeroth ((walk_is e w 1).sound x)), λ h. (walk_is e w 1).full (0, omega arith, refl, (glushkov e w).0 h))
  where
    zeroth : Leads e 1 w → Path e 0 w
    zeroth (p, h, x, r) = let z : p ≡ 0 = (equals 0 p).sound (sym (has_pow 0 p) ∙ x) in rw z at r

-- bytes of one pattern class lead to the same set
pub share_move : (e : Re) (s b c : ℕ) → Share e b c → move e s b ≡ move e s c
unfolding move
share_move e s b c h = rw h

-- ---- the reached sets, the empty one included, are a complete machine

-- {0} is reached
pub reached_start : (e : Re) → ReachedSet e 1
reached_start e = record { word = []; bytes = tt; leads = refl }

-- every byte leads from a reached set to a reached set
pub reached_next : (e : Re) (s b : ℕ) → ReachedSet e s → b < byte_values → ReachedSet e (move e s b)
reached_next e s b r h = record {
  word = r.word ++ (b ∷ []);
  bytes = bytes_append r.word (b ∷ []) r.bytes (h, tt);
  leads = walk_append (move e) 1 r.word (b ∷ []) ∙ ap (λ (t : ℕ). move e t b) r.leads;
}

-- ---- machines whose states stand for sets

-- the state q of M stands for the set `set q`
pub record Covers (e : Re) (M : Machine) (set : ℕ → ℕ) : Type 0 where
  pub start : set 0 ≡ 1
  pub moves : (q b : ℕ) → q < M.states → b < byte_values → set (M.next q b) ≡ move e (set q) b
  pub marks : (q : ℕ) → q < M.states → M.accepts q ≡ accepting e (set q)

-- a machine that covers the sets recognises the words
pub covers_recognises : (e : Re) (M : Machine) (set : ℕ → ℕ) → Closed M → Covers e M set → Recognises M (Words e)
covers_recognises e M set m c w g = rw (same w 0 m.some g, c.start) (sets_exact e w)
  where
    same : (w : List ℕ) (q : ℕ) → q < M.states → Bytes w → M.accepts (run M q w) ≡ accepting e (walk (move e) (set q) w)
    same [] q h g = c.marks q h
    same (b ∷ w) q h g = same w (M.next q b) (m.inside q b h g.0) g.1 ∙ ap (λ (s : ℕ). accepting e (walk (move e) s w)) (c.moves q b h g.0)

-- a machine of reached sets, a state for each, has at most 128 states where at most 128 sets are reached
pub sets_fit : (e : Re) (M : Machine) (set : ℕ → ℕ) → FewSets e → ((q : ℕ) → q < M.states → ReachedSet e (set q))
    → ((p q : ℕ) → p < q → q < M.states → set p ≡ set q → ⊥) → M.states ≤ state_limit
sets_fit e M set f r d = elim (split state_limit M.states) [
  | inl h ↦ absurd (over_within _ (λ (s t : ℕ). s ≡ t) (λ x y p. sym p) (λ x y z p q. p ∙ q) state_limit
      (record { thing = set; have = λ i k. r i (omega arith); differ = λ i j k l. d i j k (omega arith) }) f)
  | inr h ↦ h
]

-- where positions hold only bytes, words are strings of bytes
pub words_bytes : (e : Re) (w : List ℕ) → ((p b : ℕ) → At e 0 p b → b < byte_values) → Words e w → Bytes w
words_bytes e w f h = go ((glushkov e w).0 h)
  where
    go : {p : ℕ} {w : List ℕ} → Path e p w → Bytes w
    go (end n) = tt
    go (to {q = q} {b = b} g a r) = (f q b a, go r)
