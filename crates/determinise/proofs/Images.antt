-- The image as a room: sound, and its states stand for the reached sets, so that it recognises the words; and every reached set is one of its states.
--   refused_as: what is refused where nothing is there
--   covers_walk: a string leads to the state of the set that it leads to
--   image_made: what an image with all rows and marks is; image_many: where too many sets are reached
use Prim.Native.Nat.{ℕ, ◌+◌, ◌-◌, ◌*◌, ◌≤◌, ◌<◌}
use mathlib.Core.Path.{◌≡◌, refl, sym, ap, subst, ◌∙◌}
use mathlib.Core.Bool.{Bool, true, false, not, cond}
use mathlib.Core.List.{List, [], ◌∷◌}
use mathlib.Core.Logic.{◌⊎◌, inl, inr}
use native.Mathlib.Nat.{mul-le-mul}
use native.Mathlib.Omega.{arith}
use lib.Bits.{bit_and}
use lib.Dec.{eqb}
use lib.ListN.{get_or}
use Rattle.std.specs.Option.{ok_or}
use Rattle.std.specs.Prelude.{Option, Some, None, Ok, Err}
use Rattle.scope.specs.Limits.{byte_values, state_limit, classes_at, marks_at, cells_at, ways_at, set_words}
use Rattle.scope.specs.Bytes.{Bytes}
use Rattle.scope.specs.Text.Re.{Re}
use Rattle.scope.specs.Positions.Bits.{move, final, accepting}
use Rattle.scope.specs.Operations.Buffers.{TailKept}
use Rattle.scope.specs.Machines.Machine.{Machine, walk, run, Closed}
use Rattle.scope.specs.Positions.Reached.{FewSets}
use Rattle.scope.specs.Machines.Room.{states_of, classes_of, class_of, next_of, machine, SoundTable}
use Rattle.scope.proofs.Positions.Reached.{Covers, covers_recognises}
use Rattle.scope.proofs.Operations.Buffers.{tail_then, tail_within}
use Rattle.scope.proofs.Machines.Room.{flat_in}
use Rattle.scope.proofs.Machines.Run.{run_below, sound_closed}
use Rattle.sets.specs.Value.{set_at, Put}
use Rattle.sets.specs.Layout.{sets_at}
use Rattle.seats.specs.SeatLayout.{reached_set}
use Rattle.reach.specs.Reach.{follows, cell_at, ReachedRows, RowFits, SetsOf, RowsCase, RowsAnswer}
use Rattle.determinise.specs.Image.{mark_by, MapWritten, Stated, ClassMap, DescribedBy, ImageAnswer}
use Rattle.answers.specs.declared.Excess.{Excess}
use Rattle.reach.proofs.Cells.{rows_leads}
use Rattle.seats.proofs.Kept.{kept_sets, put_kept, kept_tail}

-- what is refused where nothing is there
pub refused_as : {T E : Type 0} {o : Option T} {e x : E} → Err e ≡ ok_or o x → o ≡ None → e ≡ x
refused_as v z = let q = rw z at v in cc

-- a string leads to the state of the set that it leads to
pub covers_walk : (e : Re) (M : Machine) (sets : ℕ → ℕ) → Closed M → Covers e M sets → (w : List ℕ) (q : ℕ) → q < M.states → Bytes w
    → sets (run M q w) ≡ walk (move e) (sets q) w
covers_walk e M sets m c [] q h g = refl
covers_walk e M sets m c (b ∷ w) q h g =
    covers_walk e M sets m c w (M.next q b) (m.inside q b h g.0) g.1 ∙ ap (λ (s : ℕ). walk (move e) s w) (c.moves q b h g.0)

-- every reached set is one of a machine's
covers_all : (e : Re) (M : Machine) (sets : ℕ → ℕ) → Closed M → Covers e M sets → M.states ≤ state_limit → FewSets e
covers_all e M sets m c few = record {
  thing = sets;
  all = λ s r. (
    run M 0 r.word,
    omega (arith, run_below M m 0 r.word m.some r.bytes),
    sym (covers_walk e M sets m c r.word 0 m.some r.bytes ∙ ap (λ (t : ℕ). walk (move e) t r.word) c.start ∙ r.leads),
  );
}

-- the test of a mark
mark_test : (b : Bool) → eqb (cond b 0 1) 1 ≡ not b
mark_test true = refl
mark_test false = refl

mark_small : (b : Bool) → cond b 0 1 < 2
mark_small true = omega arith
mark_small false = omega arith

-- o₁: the classes, w₁: the words with {0}, o₂, w₂: with the rows
module _ (finals : ℕ) {o w m map : List ℕ} {k s : ℕ} {o₁ w₁ o₂ w₂ : List ℕ} {r : Option ℕ} (t : RowFits o w m k 0 1) (mp : ClassMap map k)
    (h : MapWritten o o₁ map) (p : Put w w₁ sets_at s) (a : RowsAnswer o₁ w₁ m k o₂ w₂ r) where
  sets_of : (e : Re) → DescribedBy e w m map finals → SetsOf e w₁ m k
  sets_of e d = record {
    small = d.small;
    follow = λ i l. kept_sets (put_kept p) i (omega (arith, d.small)) ∙ d.follow i l;
    masks = λ c l. (let (b, l, x) = mp.used c l in (b, l, ap (set_at m) (sym x) ∙ d.masks b l));
  }

  words_tail : TailKept ((sets_at + state_limit) * set_words) w w₂
  words_tail = tail_then (tail_within (omega arith) (kept_tail (put_kept p))) (kept_tail a.words)

  -- too many sets
  pub image_many : r ≡ None → ImageAnswer o w m map finals o₂ w₂ (Err Excess.States)
  image_many y = record {
    image = record { size = a.image.size ∙ h.size; outside = λ i l. a.image.outside i (inr l) ∙ h.tail i l };
    words = words_tail;
    made = λ e d. subst (RowsCase o₁ w₁ m k o₂ w₂) y a.rows e (sets_of e d);
  }

  -- o₃: with the head and the marks of the n sets
  module _ {o₃ : List ℕ} {n : ℕ} (y : r ≡ Some n) (v : Stated o₂ o₃ (reached_set w₂) n k finals) where
    filled : RowsCase o₁ w₁ m k o₂ w₂ (Some n)
    filled = subst (RowsCase o₁ w₁ m k o₂ w₂) y a.rows

    -- outside of the head, the marks and the cells the image is as it began
    from_start : (i : ℕ) → classes_at ≤ i → (i < marks_at) ⊎ (marks_at + n ≤ i) → (i < cells_at) ⊎ (cells_at + n * k ≤ i) → get_or o₃ i 0 ≡ get_or o₁ i 0
    from_start i l x z = v.others i l x ∙ filled.1.outside i z

    class : (b : ℕ) → b < byte_values → class_of o₃ b ≡ get_or map b 0
    class b l = from_start (classes_at + b) (omega arith) (inl (omega arith)) (inl (omega arith)) ∙ h.classes b l

    cell : (i : ℕ) → cell_at o₃ i ≡ cell_at o₂ i
    cell i = v.others (cells_at + i) (omega arith) (inr (omega (arith, filled.0)))

    used : states_of o₃ * classes_of o₃ ≡ n * k
    used = rw (v.states, v.count)

    tail : TailKept ways_at o o₃
    tail = record {
      size = v.size ∙ a.image.size ∙ h.size;
      outside = λ i l. from_start i (omega arith) (inr (omega (arith, filled.0))) (inr (omega (arith, mul-le-mul filled.0 mp.few))) ∙ h.tail i l;
    }

    module _ (e : Re) (d : DescribedBy e w m map finals) where
      rows : ReachedRows e k (set_at m) (reached_set w₂) (cell_at o₂) n (n * k)
      rows = filled.2 e (sets_of e d)

      sound : SoundTable o₃
      sound = record {
        long = omega (arith, tail.size, t.image);
        some_state = omega (arith, v.states, rows.numbered.some);
        few_states = omega (arith, v.states, filled.0);
        some_class = omega (arith, v.count, mp.some);
        few_classes = omega (arith, v.count, mp.few);
        classes = λ i l g. (let z : i ≡ classes_at + (i - classes_at) = omega arith in
            rw (v.count, z, class (i - classes_at) (omega arith)) (mp.below (i - classes_at) (omega arith)));
        marks = λ i l g. (let z : i ≡ marks_at + (i - marks_at) = omega arith in
            rw (z, v.marks (i - marks_at) (omega (arith, v.states))) (mark_small (eqb (bit_and (reached_set w₂ (i - marks_at)) finals) 0)));
        marks_off = λ i l g. omega (arith, from_start i (omega arith) (inr (omega (arith, v.states))) (inl l), h.rest i (omega arith) (omega arith));
        cells = λ i l g. (let z : i ≡ cells_at + (i - cells_at) = omega arith in
            rw (z, cell (i - cells_at), v.states) (rows.numbered.below (i - cells_at) (omega (arith, used))));
        cells_off = λ i l g. omega (arith, from_start i (omega arith) (inr (omega (arith, filled.0))) (inr (omega (arith, used))), h.rest i l (omega arith));
      }

      covers : Covers e (machine o₃) (reached_set w₂)
      unfolding next_of move accepting
      covers = record {
        start = rows.begins;
        moves = λ q b l g.
            (let c = get_or map b 0 in
            rw (v.count, class b g, cell (q * k + c)) (rows_leads rows q c (mp.below b g) (flat_in n k q c (rw v.states at l) (mp.below b g)))
            ∙ ap (bit_and (follows e (reached_set w₂ q))) (d.masks b g));
        marks = λ q l. ap (λ (i : ℕ). eqb i 1) (v.marks q (rw v.states at l) ∙ ap (λ (i : ℕ). mark_by i (reached_set w₂ q)) d.ends)
            ∙ mark_test (eqb (bit_and (reached_set w₂ q) (final e)) 0);
      }

    -- the image is made
    pub image_made : ImageAnswer o w m map finals o₃ w₂ (Ok tt)
    image_made = record {
      image = tail;
      words = words_tail;
      made = λ e d. (let s = sound e d in
          let closed = sound_closed o₃ s in
          (s, covers_recognises e (machine o₃) (reached_set w₂) closed (covers e d), covers_all e (machine o₃) (reached_set w₂) closed (covers e d) s.few_states));
    }
