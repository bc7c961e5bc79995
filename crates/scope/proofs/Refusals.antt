-- Refusals: when each is given, and what it leaves, of each contract. The answer is one, so a condition that gives it is the one under which it is given; unpacking
-- takes exactly what packing writes.
--   compile_rows, compile_leaves, minimise_first, match_first, compare_first, pack_first, unpack_first: of each operation
--   taken_exact: what unpacking takes is what packing writes
use Prim.Native.Nat.{ℕ, ◌<◌, ◌≤◌}
use mathlib.Core.Path.{◌≡◌, refl, ap}
use mathlib.Core.Logic.{◌⊎◌, inl, inr, ◌↔◌}
use mathlib.Core.List.{List}
use native.Mathlib.Omega.{arith}
use lib.ListN.{length, take}
use lib.Seq.{take-length}
use Rattle.scope.specs.Answers.{DONE, ROOM, LONG, CLASSES, STATES, FORM}
use Rattle.scope.specs.Limits.{pattern_limit, room_bytes}
use Rattle.scope.specs.Text.Tree.{Tree, expr}
use Rattle.scope.specs.Positions.Reached.{ManyClasses, FewClasses, ManySets}
use Rattle.scope.specs.Machines.Room.{Sound}
use Rattle.scope.specs.Packing.PackedForm.{form_byte, FormOf}
use Rattle.scope.specs.Operations.Buffers.{Written, Lent, Cleared, Untouched}
use Rattle.scope.specs.Operations.Compile.{Fits, Sized, CompileRefused, Compiles, no_room, too_long, no_syntax, falls, too_deep, too_many, many_classes, many_sets, compiled}
use Rattle.scope.specs.Operations.Minimise.{MinimiseLent, Minimises, minimised}
use Rattle.scope.specs.Operations.Match.{Matches, accepted, dead, unfinished}
use Rattle.scope.specs.Operations.Compare.{CompareLent, Compares, same, separated}
use Rattle.scope.specs.Operations.Pack.{Packs}
use Rattle.scope.specs.Operations.Unpack.{Unpacks, unpacked}
use Rattle.scope.specs.Demands.{Packing, Refusal, TableRow, CompileRows, TwoRows, PackRows, Leaves}
use Rattle.scope.proofs.Operations.Compile.{judgements, past1, past2, past3, past4, past5, past6, past7, answer_one}
use Rattle.scope.proofs.Operations.Determined.{FirstApplies}
use Rattle.scope.proofs.Operations.Compare.{unsound}
use Rattle.scope.proofs.Operations.Unpack.{unpack_pack}

-- the place 0
nowhere : (m p : ℕ) → p ≡ 0 → ◌≡◌ {A = ℕ × ℕ} (m, p) (m, 0)
nowhere m p e = ap (λ (k : ℕ). (m, k)) e

module _ {text room room' bytes bytes' words words' : List ℕ} where
  -- a row of compiling: what its answer shows, and what gives that answer
  compile_row : {n i m : ℕ} {P : ℕ → Type 0} → Compiles text room room' bytes bytes' words words' n i
      → ((p : ℕ) → Compiles text room room' bytes bytes' words words' m p → P p) → ((p : ℕ) → P p → FirstApplies (judgements text room bytes words) (m, p)) → TableRow n i m P
  compile_row u f g p = (λ e. f p (rw (e.0, e.1) at u), λ x. answer_one text room bytes words u (g p x))

  -- compiling: when each refusal is given
  pub compile_rows : {n i : ℕ} → Compiles text room room' bytes bytes' words words' n i → CompileRows text room bytes words n i
  compile_rows u = record {
    at_room = compile_row u short (λ p (e, h). inl (nowhere ROOM p e, h));
    at_long = compile_row u long (λ p (e, l, h). past1 text room bytes words l (inl (nowhere LONG p e, h)));
    at_syntax = compile_row u (λ p v. elim v [ no_syntax y s f ↦ (y, s) ]) (λ p (y, s). past2 text room bytes words y (inl (p, refl, s)));
    at_range = compile_row u (λ p v. elim v [ falls {t = t} y q x f ↦ (y, (t, q, x)) ]) (λ p (y, (t, q, x)). past3 text room bytes words y q (inl (p, t, refl, q, x)));
    at_depth = compile_row u (λ p v. elim v [ too_deep {t = t} y q o x f ↦ (y, (t, q, o, x)) ]) (λ p (y, (t, q, o, x)). past4 text room bytes words y q o (inl (p, t, refl, q, x)));
    at_positions = compile_row u (λ p v. elim v [ too_many {t = t} y q o d x f ↦ (y, (t, q, o, d, x)) ])
        (λ p (y, (t, q, o, d, x)). past5 text room bytes words y q o d (inl (p, t, refl, q, x)));
    at_classes = compile_row u classes (λ p (e, y, (t, z, m)). past6 text room bytes words y z (inl (t, nowhere CLASSES p e, z.pattern, m)));
    at_states = compile_row u states (λ p (e, y, (t, z, c, m)). past7 text room bytes words y z c (inl (t, nowhere STATES p e, z.pattern, m)));
  }
    where
      short : (p : ℕ) → Compiles text room room' bytes bytes' words words' ROOM p → (p ≡ 0) × (Lent room bytes words → ⊥)
      short p (no_room h k t) = (refl, h)

      long : (p : ℕ) → Compiles text room room' bytes bytes' words words' LONG p → (p ≡ 0) × Lent room bytes words × (pattern_limit < length text)
      long p (too_long l h f) = (refl, l, h)

      classes : (p : ℕ) → Compiles text room room' bytes bytes' words words' CLASSES p → (p ≡ 0) × Fits text room bytes words × ((t : Tree) × Sized text t × ManyClasses (expr t))
      classes p (many_classes {t} y z m f) = (refl, y, (t, z, m))

      states : (p : ℕ) → Compiles text room room' bytes bytes' words words' STATES p
          → (p ≡ 0) × Fits text room bytes words × ((t : Tree) × Sized text t × FewClasses (expr t) × ManySets (expr t))
      states p (many_sets {t} y z c m f) = (refl, y, (t, z, c, m))

-- ROOM, FORM, and what is no refusal
rows_room : {E F : Type 0} → (E → ⊥) → TwoRows ROOM E F
rows_room h = record { at_room = (λ e. h, λ f. refl); at_form = (λ e. absurd (omega arith), λ x. absurd (h x.0)) }

rows_form : {E F : Type 0} → E → F → TwoRows FORM E F
rows_form l f = record { at_room = (λ e. absurd (omega arith), λ h. absurd (h l)); at_form = (λ e. (l, f), λ x. refl) }

rows_else : {n : ℕ} {E F : Type 0} → (Refusal n → ⊥) → E → (F → ⊥) → TwoRows n E F
rows_else {n} r l f = record {
  at_room = (λ e. absurd (r (omega arith)), λ h. absurd (h l));
  at_form = (λ e. absurd (r (omega arith)), λ x. absurd (f x.1));
}

module _ {out out' bytes bytes' words words' : List ℕ} {n : ℕ} {E : Type 0} where
  -- what a ROOM judged first leaves
  leaves_first : (E → ⊥) → out' ≡ out → Untouched bytes bytes' words words' → Leaves n E out out' bytes bytes' words words'
  leaves_first h k t = record { kept = λ r. k; cleared = λ l. absurd (h l); untouched = λ f. t }

  -- and every other answer
  leaves : E → (Refusal n → out' ≡ out) → Cleared bytes bytes' words words' → Leaves n E out out' bytes bytes' words words'
  leaves l k t = record { kept = k; cleared = λ l. t; untouched = λ h. absurd (h l) }

module _ {room room' bytes bytes' words words' : List ℕ} where
  -- every other refusal of compiling
  compile_refused : {n : ℕ} → Lent room bytes words → CompileRefused room room' bytes bytes' words words' → Leaves n (Lent room bytes words) room room' bytes bytes' words words'
  compile_refused l f = leaves l (λ r. f.kept) f.cleared

module _ {text room room' bytes bytes' words words' : List ℕ} where
  -- and what it leaves
  pub compile_leaves : {n i : ℕ} → Compiles text room room' bytes bytes' words words' n i → Leaves n (Lent room bytes words) room room' bytes bytes' words words'
  compile_leaves (no_room h k t) = leaves_first h k t
  compile_leaves (too_long l h f) = compile_refused l f
  compile_leaves (no_syntax y s f) = compile_refused y.lent f
  compile_leaves (falls y p x f) = compile_refused y.lent f
  compile_leaves (too_deep y p o x f) = compile_refused y.lent f
  compile_leaves (too_many y p o d x f) = compile_refused y.lent f
  compile_leaves (many_classes y z m f) = compile_refused y.lent f
  compile_leaves (many_sets y z c m f) = compile_refused y.lent f
  compile_leaves (compiled y z c m k e h f) = leaves y.lent (λ r. absurd (omega arith)) f

-- minimising
pub minimise_first : {from room room' bytes bytes' words words' : List ℕ} {n : ℕ} → Minimises from room room' bytes bytes' words words' n
    → TwoRows n (MinimiseLent from room bytes words) (Sound from → ⊥) × Leaves n (MinimiseLent from room bytes words) room room' bytes bytes' words words'
minimise_first (Minimises.no_room h k t) = (rows_room h, leaves_first h k t)
minimise_first (Minimises.no_form l f k t) = (rows_form l f, leaves l (λ r. k) t)
minimise_first (minimised l s c e k t) = (rows_else (λ r. omega arith) l (λ f. f s), leaves l (λ r. absurd (omega arith)) t)

-- matching
pub match_first : {room text : List ℕ} {n i : ℕ} → Matches room text n i → TwoRows n (room_bytes ≤ length room) (Sound room → ⊥) × (Refusal n → i ≡ 0)
match_first (Matches.no_room h) = (rows_room (λ l. omega arith), λ r. refl)
match_first (Matches.no_form l f) = (rows_form l f, λ r. refl)
match_first (accepted s a) = (rows_else (λ r. omega arith) s.table.long (λ f. f s), λ r. refl)
match_first (dead s a) = (rows_else (λ r. omega arith) s.table.long (λ f. f s), λ r. absurd (omega arith))
match_first (unfinished s a b) = (rows_else (λ r. omega arith) s.table.long (λ f. f s), λ r. refl)

-- comparing
pub compare_first : {left right word word' bytes bytes' words words' : List ℕ} {n long rounds : ℕ} → Compares left right word word' bytes bytes' words words' n long rounds
    → TwoRows n (CompareLent left right word bytes words) ((Sound left → ⊥) ⊎ (Sound right → ⊥))
    × Leaves n (CompareLent left right word bytes words) word word' bytes bytes' words words'
compare_first (Compares.no_room h k t) = (rows_room h, leaves_first h k t)
compare_first (Compares.no_form l f k t) = (rows_form l f, leaves l (λ r. k) t)
compare_first (same l a b e z k t) = (rows_else (λ r. omega arith) l (λ f. unsound f a b), leaves l (λ r. k) t)
compare_first (separated l a b e d z k t) = (rows_else (λ r. omega arith) l (λ f. unsound f a b), leaves l (λ r. absurd (omega arith)) t)

-- packing
pub pack_first : {room form form' bytes bytes' words words' : List ℕ} {n long : ℕ} → Packs room form form' bytes bytes' words words' n long
    → PackRows room form bytes words n × Leaves n (Lent room bytes words) form form' bytes bytes' words words'
pack_first (Packs.no_room h k t) = (
  record { at_room = (λ e. inl h, λ x. refl); at_form = (λ e. absurd (omega arith), λ x. absurd (h x.0)) },
  leaves_first h k t,
)
pack_first (Packs.no_form l f k t) = (
  record { at_room = (λ e. absurd (omega arith), λ x. elim x [ inl h ↦ absurd (h l) | inr (m, c, s) ↦ absurd (f c) ]); at_form = (λ e. (l, f), λ x. refl) },
  leaves l (λ r. k) t,
)
pack_first (Packs.no_output l c s k t) = (
  record { at_room = (λ e. inr (l, c, s), λ x. refl); at_form = (λ e. absurd (omega arith), λ x. absurd (x.1 c)) },
  leaves l (λ r. k) t,
)
pack_first (Packs.packed l c d s k t) = (
  record {
    at_room = (λ e. absurd (omega arith), λ x. elim x [ inl h ↦ absurd (h l) | inr (m, c, o) ↦ absurd (omega arith) ]);
    at_form = (λ e. absurd (omega arith), λ x. absurd (x.1 c));
  },
  leaves l (λ r. absurd (omega arith)) t,
)

-- the form of a room is what packing it over itself leaves
form_written : (m f : List ℕ) → FormOf m f → Written (length f) (form_byte m) f f
form_written m f a = record { size = refl; inside = λ i h. a.bytes i (omega (arith, a.size)); outside = λ i h. refl }

-- what is taken_exact is what packing writes
pub taken_exact : {form room room' bytes bytes' words words' : List ℕ} {i : ℕ} → Lent room bytes words → Unpacks form room room' bytes bytes' words words' i
    → (i ≡ DONE) ↔ Packing form
taken_exact {form} {room} {room'} {bytes} {bytes'} {words} {words'} {i} l u = (λ e. out (rw e at u), into)
  where
    out : Unpacks form room room' bytes bytes' words words' DONE → Packing form
    out (Unpacks.unpacked l n f k t) = record {
      room = room';
      out = form;
      out' = form;
      bytes = bytes;
      bytes' = bytes';
      words = words;
      words' = words';
      packs = Packs.packed (record { room_long = n.sound.table.long; scratch = l.scratch }) n f.size (omega arith) (form_written room' form f) t;
      written = take-length form;
    }

    into : Packing form → i ≡ DONE
    into p = let v : Unpacks (take (length form) p.out') room room' bytes bytes' words words' i = rw p.written u in (unpack_pack p.packs l v).0

-- unpacking
pub unpack_first : {form room room' bytes bytes' words words' : List ℕ} {n : ℕ} → Unpacks form room room' bytes bytes' words words' n
    → TwoRows n (Lent room bytes words) (Packing form → ⊥) × Leaves n (Lent room bytes words) room room' bytes bytes' words words'
unpack_first (Unpacks.no_room h k t) = (rows_room h, leaves_first h k t)
unpack_first {n = n} (Unpacks.no_form l f k t) = (rows_form l (λ p. let e = (taken_exact l (Unpacks.no_form l f k t)).1 p in omega arith), leaves l (λ r. k) t)
unpack_first (unpacked l c f k t) = (rows_else (λ r. omega arith) l (λ g. g ((taken_exact l (unpacked l c f k t)).0 refl)), leaves l (λ r. absurd (omega arith)) t)
