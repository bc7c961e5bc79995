-- When the row of every number is read, the numbered parts are a closed machine. It does what the room does; all its states are reached, each from a row before its own;
-- no two are alike; and they are numbered on first arrival over all bytes, since so they are over the kinds.
--   smallest: the machine of the numbered parts
use Prim.Native.Nat.{ℕ, zero, suc, ◌+◌, ◌*◌, ◌/◌, ◌%◌, ◌≤◌, ◌<◌}
use mathlib.Core.Path.{◌≡◌, refl, sym, ap, ◌∙◌}
use mathlib.Core.List.{List, [], ◌∷◌, ◌++◌}
use native.Mathlib.Nat.{mul-le-mul_right, mod-lt, div-lt_iff_lt-mul, div-add-mod'}
use native.Mathlib.Omega.{arith}
use lib.ListN.{length, get_or}
use Rattle.std.specs.Prelude.{None}
use Rattle.scope.specs.Limits.{byte_values, state_limit}
use Rattle.scope.specs.Machines.Machine.{Machine, Same, Equal, Reached}
use Rattle.scope.specs.Machines.Room.{states_of, next_of, machine, SoundTable}
use Rattle.scope.specs.Machines.Canonical.{entry}
use Rattle.scope.proofs.Machines.Run.{run_append, bytes_append, sound_closed}
use Rattle.buffers.proofs.Numbered.{numbered_arrival}
use Rattle.refinement.specs.Refined.{PartsOf}
use Rattle.smallest_plan.specs.declared.States.{States}
use Rattle.smallest_plan.specs.Smallest.{smaller, Smallest}
use Rattle.smallest_plan.proofs.Finer.{numbered_finer, finer_rows}
use Rattle.smallest_plan.proofs.Kinded.{Kinded}
use Rattle.smallest_plan.proofs.TableRows.{flat}
use Rattle.arrivals.specs.Swept.{placed, number_of, PlacesSwept, Arrived}
use Rattle.arrivals.proofs.Swept.{given, swept_few}

module _ {a part kind least column : List ℕ} {t : States} (s : SoundTable a) (f : PartsOf (machine a) part) (k : Kinded a kind least column) (d : Arrived a part column t) where
  abbrev N : Machine
  N = smaller a t

  abbrev w : PlacesSwept a part column t.order d.number t.count (t.count * length column)
  w = d.swept

  -- the place at which the byte x is read in the row q
  abbrev at : ℕ → ℕ → ℕ
  at q x = q * length column + get_or kind x 0

  at_inside : (q x : ℕ) → q < t.count → x < byte_values → at q x < t.count * length column
  at_inside q x h l = omega (arith, k.finer.inside x l, mul-le-mul_right (length column) h)

  inside : (q x : ℕ) → q < t.count → x < byte_values → next_of a (get_or t.order q 0) x < states_of a
  inside q x h l = (sound_closed a s).inside (get_or t.order q 0) x (w.back q h).inside l

  -- it leads where the byte leads
  led : (q x : ℕ) → x < byte_values → placed a part column t.order (at q x) ≡ get_or part (next_of a (get_or t.order q 0) x) 0
  unfolding next_of
  led q x l = let (y, z) = flat (length column) q (get_or kind x 0) (k.finer.inside x l) in rw (y, z, k.class x l) refl

  few : t.count ≤ state_limit
  few = omega (arith, swept_few s w, s.few_states)

  next : (q x : ℕ) → q < t.count → x < byte_values → N.next q x ≡ number_of d.number (placed a part column t.order (at q x))
  next q x h l =
      let y : number_of d.number (placed a part column t.order (at q x)) < state_limit = omega (arith, w.numbered.below (at q x) (at_inside q x h l), few) in
      d.numbers.inside (next_of a (get_or t.order q 0) x) _ (inside q x h l) (rw (← led q x l) (given _ state_limit y))

  below : (q x : ℕ) → q < t.count → x < byte_values → N.next q x < t.count
  below q x h l = rw (next q x h l) (w.numbered.below (at q x) (at_inside q x h l))

  -- the state with the number that was read is that of the part
  back : (q x : ℕ) → q < t.count → x < byte_values → get_or t.order (N.next q x) 0 ≡ get_or part (next_of a (get_or t.order q 0) x) 0
  back q x h l = rw (next q x h l) (w.numbered.like (at q x) (at_inside q x h l) ∙ led q x l)

  some : 0 < t.count
  some = w.numbered.some

  -- the state q does what the state order q of the room does
  same : (q : ℕ) → q < t.count → Same N q (machine a) (get_or t.order q 0)
  same q h [] g = refl
  same q h (x ∷ v) g =
      let p = next_of a (get_or t.order q 0) x in
      let i = inside q x h g.0 in
      same (N.next q x) (below q x h g.0) v g.1 ∙ rw (back q x h g.0) (f.same (get_or part p 0) p (f.inside p i) i (f.name p i) v g.1)

  equal : Equal N (machine a)
  equal v g =
      let i = s.some_state in
      same 0 some v g ∙ rw w.start (f.same (get_or part 0 0) 0 (f.inside 0 i) i (f.name 0 i) v g)

  reduced : (p q : ℕ) → p < t.count → q < t.count → Same N p N q → p ≡ q
  reduced p q h l r =
      let x = w.back p h in
      let y = w.back q l in
      let z = f.told (get_or t.order p 0) (get_or t.order q 0) x.inside y.inside (λ v g. sym (same p h v g) ∙ r v g ∙ same q l v g) in
      let i = sym x.own ∙ ap (λ (u : ℕ). get_or d.number u None) (sym x.name ∙ z ∙ y.name) ∙ y.own in cc

  -- a row before v, and a byte of it that leads to v
  come : (v : ℕ) → v < t.count → 0 < v → (q : ℕ) × (x : ℕ) × (q < v) × (x < byte_values) × (N.next q x ≡ v)
  come v h g =
      let b = w.above v h g in
      let i : 0 < length column = omega (arith, k.finer.inside 0 (omega arith)) in
      let j = mod-lt b.place i in
      let r : b.place / length column < v = (div-lt_iff_lt-mul i).1 b.row in
      let x = get_or least (b.place % length column) 0 in
      let l : x < byte_values = k.finer.place (b.place % length column) j in
      let z : at (b.place / length column) x ≡ b.place = rw (k.finer.own (b.place % length column) j) (div-add-mod' b.place (length column)) in
      (b.place / length column, x, r, l, next (b.place / length column) x (omega arith) l ∙ rw (z, b.here, (w.back v h).own) refl)

  reached : (m v : ℕ) → v < m → v < t.count → Reached N v
  reached (suc m) zero h l = record { word = []; bytes = tt; leads = refl }
  reached (suc m) (suc v) h l =
      let (q, x, g, b, z) = come (suc v) l (omega arith) in
      let r = reached m q (omega arith) (omega arith) in
      record {
        word = r.word ++ (x ∷ []);
        bytes = bytes_append r.word (x ∷ []) r.bytes (b, tt);
        leads = run_append N 0 r.word (x ∷ []) ∙ rw r.leads z;
      }
  reached zero v h l = elim h [ ]

  -- the numbered parts are the smallest machine of the room's strings
  pub smallest : Smallest a t
  smallest = record {
    few = swept_few s w;
    inside = λ q h. (w.back q h).inside;
    own = λ q h. let b = w.back q h in
        d.numbers.inside (get_or t.order q 0) q b.inside (rw b.name b.own);
    closed = record { some = some; inside = below };
    same = same;
    equal = equal;
    reached = λ q h. reached (suc q) q (omega arith) h;
    reduced = reduced;
    arrival = numbered_arrival (numbered_finer w.numbered (finer_rows t.count k.finer) (λ y. placed a part column t.order (at (y / byte_values) (y % byte_values))) (entry N)
        (λ y h. refl) (λ y h. next (y / byte_values) (y % byte_values) (omega arith) (omega arith)));
  }
