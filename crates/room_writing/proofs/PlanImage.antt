-- The room that holds the bytes of a plan. Its parts are read back by one law each; so it is sound, holds the smallest machine, and is canonical.
--   at_head, at_class, at_mark, at_gap, at_cell, at_rest: the parts of the image
--   states_few, table_few: they fit a room
--   image_canonical, image_equal: a room with these bytes is canonical, and accepts the same strings
use Prim.Native.Nat.{ℕ, ◌+◌, ◌-◌, ◌*◌, ◌/◌, ◌%◌, ◌≤◌, ◌<◌}
use mathlib.Core.Path.{◌≡◌, refl, sym, ap, ◌∙◌}
use mathlib.Core.Bool.{cond}
use mathlib.Core.List.{List}
use native.Mathlib.Nat.{mul-le-mul, mul-le-mul_right, mod-lt, div-lt_iff_lt-mul}
use native.Mathlib.Omega.{arith}
use lib.Dec.{eqb, ltb}
use lib.ListN.{length, get_or}
use Rattle.scope.specs.Limits.{byte_values, class_limit, state_limit, classes_at, marks_at, cells_at, ways_at, room_bytes}
use Rattle.scope.specs.Machines.Machine.{Machine, Same, Equal, Closed}
use Rattle.scope.specs.Machines.Room.{states_of, classes_of, class_of, mark_of, cell_of, next_of, machine, SoundTable}
use Rattle.scope.specs.Machines.Canonical.{entry, CanonicalTable}
use Rattle.scope.specs.Operations.Buffers.{Written, TailKept}
use Rattle.scope.proofs.Counting.Tests.{below, not_below}
use Rattle.scope.proofs.Machines.SameMoves.{SameMoves, agree_same, agree_reached}
use Rattle.scope.proofs.Counting.Arrival.{arrival_ext}
use Rattle.buffers.specs.Stored.{Stored}
use Rattle.buffers.proofs.OneMore.{stored_none, stored_written, written_stored, stored_then}
use Rattle.room.specs.Head.{head_byte}
use Rattle.room.proofs.HeadAndParts.{head_is}
use Rattle.smallest_plan.specs.declared.Plan.{Plan}
use Rattle.smallest_plan.specs.Smallest.{smaller}
use Rattle.smallest_plan.specs.Planned.{Planned}
use Rattle.smallest_plan.proofs.TableRows.{flat}
use Rattle.room_writing.specs.PlanImage.{table_cell, table_byte, image_byte}

module _ (a : List ℕ) (p : Plan) (i : ℕ) where
  pub at_head : i < classes_at → image_byte a p i ≡ head_byte p.states.count p.classes.count i
  unfolding image_byte
  at_head h = rw ((below i classes_at).full h) refl

  pub at_class : classes_at ≤ i → i < marks_at → image_byte a p i ≡ get_or p.classes.class (i - classes_at) 0
  unfolding image_byte
  at_class g h = rw (not_below i classes_at g, (below i marks_at).full h)

  pub at_mark : marks_at ≤ i → i < marks_at + p.states.count → image_byte a p i ≡ mark_of a (get_or p.states.order (i - marks_at) 0)
  unfolding image_byte
  at_mark g h = rw (not_below i classes_at (omega arith), not_below i marks_at g, (below i (marks_at + p.states.count)).full h)

  pub at_gap : marks_at + p.states.count ≤ i → i < cells_at → image_byte a p i ≡ 0
  unfolding image_byte
  at_gap g h =
      rw (not_below i classes_at (omega arith), not_below i marks_at (omega arith), not_below i (marks_at + p.states.count) g, (below i cells_at).full h)

  module _ (f : p.states.count ≤ state_limit) where
    past : cells_at ≤ i → image_byte a p i ≡ cond (ltb i (cells_at + p.states.count * p.classes.count)) (table_byte a p.states p.classes i) 0
    unfolding image_byte
    past g =
        rw (
          not_below i classes_at (omega arith),
          not_below i marks_at (omega arith),
          not_below i (marks_at + p.states.count) (omega arith),
          not_below i cells_at g,
        )

    pub at_cell : cells_at ≤ i → i < cells_at + p.states.count * p.classes.count → image_byte a p i ≡ table_byte a p.states p.classes i
    at_cell g h = past g ∙ rw ((below i (cells_at + p.states.count * p.classes.count)).full h)

    pub at_rest : cells_at + p.states.count * p.classes.count ≤ i → image_byte a p i ≡ 0
    at_rest g = past (omega arith) ∙ rw (not_below i (cells_at + p.states.count * p.classes.count) g)

module _ {a : List ℕ} {p : Plan} (d : Planned a p) where
  abbrev pub N : Machine
  N = smaller a p.states

  pub states_few : p.states.count ≤ state_limit
  states_few = omega (arith, d.smallest.few, d.sound.few_states)

  pub table_few : p.states.count * p.classes.count ≤ state_limit * class_limit
  table_few = mul-le-mul states_few d.classed.few

  pub some_class : 0 < p.classes.count
  some_class = omega (arith, d.classed.below 0 (omega arith))

  -- the cell of a byte's class is what the byte leads to
  cell_next : (q x : ℕ) → q < p.states.count → x < byte_values → table_cell a p.states p.classes q (get_or p.classes.class x 0) ≡ N.next q x
  unfolding next_of
  cell_next q x h k = d.classed.alike x k q h

  cell_in : (q c : ℕ) → q < p.states.count → c < p.classes.count → table_cell a p.states p.classes q c < p.states.count
  cell_in q c h k =
      let (x, b, i, f) = d.classed.holds c k in
      omega (arith, ap (table_cell a p.states p.classes q) i, cell_next q x h b, d.smallest.closed.inside q x h b)

  -- a place of the image's table, by row and class
  pub image_at_lem : (q c : ℕ) → q < p.states.count → c < p.classes.count → image_byte a p (cells_at + (q * p.classes.count + c)) ≡ table_cell a p.states p.classes q c
  image_at_lem q c h k =
      let j : ℕ = q * p.classes.count + c in
      let l : j < p.states.count * p.classes.count = omega (arith, mul-le-mul_right p.classes.count h) in
      let e : cells_at + j - cells_at ≡ j = omega arith in
      at_cell a p (cells_at + j) states_few (omega arith) (omega arith) ∙ rw (e, (flat p.classes.count q c k).0, (flat p.classes.count q c k).1)

  -- the parts, one after the other, are the image
  pub image_parts : {m m0 m1 m2 m3 m4 m5 : List ℕ} → Written classes_at (head_byte p.states.count p.classes.count) m m0
      → Stored m0 m1 classes_at marks_at (λ i. get_or p.classes.class (i - classes_at) 0)
      → Stored m1 m2 marks_at (marks_at + p.states.count) (λ i. mark_of a (get_or p.states.order (i - marks_at) 0))
      → Stored m2 m3 (marks_at + p.states.count) cells_at (λ i. 0)
      → Stored m3 m4 cells_at (cells_at + p.states.count * p.classes.count) (table_byte a p.states p.classes)
      → Stored m4 m5 (cells_at + p.states.count * p.classes.count) ways_at (λ i. 0)
      → Written ways_at (image_byte a p) m m5
  image_parts {m} r s t u v w =
      stored_written
      (stored_then (omega arith) (omega (arith, table_few)) (stored_then (omega arith) (omega arith) (stored_then (omega arith) (omega (arith, states_few))
      (stored_then (omega arith) (omega arith) (stored_then (omega arith) (omega arith)
      (stored_then (omega arith) (omega arith) (stored_none m 0 (image_byte a p)) (written_stored r) (λ i k g. sym (at_head a p i k))) s (λ i k g. sym (at_class a p i g k))) t (λ i k g. sym (at_mark a p i g k)))
      u (λ i k g. sym (at_gap a p i g k))) v (λ i k g. sym (at_cell a p i states_few g k))) w (λ i k g. sym (at_rest a p i states_few g)))

  module _ (m : List ℕ) (long : room_bytes ≤ length m) (b : (i : ℕ) → i < ways_at → get_or m i 0 ≡ image_byte a p i) where
    is_head : (states_of m ≡ p.states.count) × (classes_of m ≡ p.classes.count)
    is_head = head_is m p.states.count p.classes.count (λ i h. b i (omega arith) ∙ at_head a p i h)

    pub is_states : states_of m ≡ p.states.count
    is_states = is_head.0

    pub is_classes : classes_of m ≡ p.classes.count
    is_classes = is_head.1

    pub is_class : (x : ℕ) → x < byte_values → class_of m x ≡ get_or p.classes.class x 0
    is_class x h = b (classes_at + x) (omega arith) ∙ at_class a p (classes_at + x) (omega arith) (omega arith) ∙ ap (λ (j : ℕ). get_or p.classes.class j 0) (omega arith)

    pub is_mark_lem : (q : ℕ) → q < p.states.count → mark_of m q ≡ mark_of a (get_or p.states.order q 0)
    is_mark_lem q h =
        b (marks_at + q) (omega (arith, states_few)) ∙ at_mark a p (marks_at + q) (omega arith) (omega arith) ∙ ap (λ (j : ℕ). mark_of a (get_or p.states.order j 0)) (omega arith)

    is_next : (q x : ℕ) → q < p.states.count → x < byte_values → N.next q x ≡ next_of m q x
    unfolding next_of
    is_next q x h k =
        let c = get_or p.classes.class x 0 in
        let l : c < p.classes.count = d.classed.below x k in
        rw (is_classes, is_class x k)
        (sym (b (cells_at + (q * p.classes.count + c)) (omega (arith, table_few, mul-le-mul_right p.classes.count h)) ∙ image_at_lem q c h l ∙ cell_next q x h k))

    table : states_of m * classes_of m ≡ p.states.count * p.classes.count
    table = rw (is_states, is_classes)

    pub image_sound : SoundTable m
    image_sound = record {
      long = long;
      some_state = omega (arith, is_states, d.smallest.closed.some);
      few_states = omega (arith, is_states, states_few);
      some_class = omega (arith, is_classes, some_class);
      few_classes = omega (arith, is_classes, d.classed.few);
      classes = λ i h l. omega (arith, b i (omega arith), at_class a p i l h, d.classed.below (i - classes_at) (omega arith), is_classes);
      marks = λ i h l.
          let q : i - marks_at < p.states.count = omega (arith, is_states) in
          omega (
            arith,
            b i (omega (arith, states_few, is_states)),
            at_mark a p i l (omega (arith, is_states)),
            d.sound.marks (marks_at + get_or p.states.order (i - marks_at) 0) (omega (arith, d.smallest.inside (i - marks_at) q)) (omega arith),
          );
      marks_off = λ i h l. omega (arith, b i (omega arith), at_gap a p i (omega (arith, is_states)) h);
      cells = λ i h l.
          let j : i - cells_at < p.states.count * p.classes.count = omega (arith, table) in
          omega (
            arith,
            is_states,
            b i (omega (arith, table, table_few)),
            at_cell a p i states_few l (omega (arith, table)),
            cell_in ((i - cells_at) / p.classes.count) ((i - cells_at) % p.classes.count) ((div-lt_iff_lt-mul some_class).1 j) (mod-lt (i - cells_at) some_class),
          );
      cells_off = λ i h l. omega (arith, b i h, at_rest a p i states_few (omega (arith, table)));
    }

    pub image_agree : SameMoves N (machine m)
    image_agree = record { states = sym is_states; next = is_next; marks = λ q h. ap (λ (x : ℕ). eqb x 1) (sym (is_mark_lem q h)) }

    pub image_equal : Equal (machine a) (machine m)
    image_equal w g = sym (d.smallest.equal w g) ∙ agree_same N (machine m) d.smallest.closed image_agree 0 d.smallest.closed.some w g

    -- the image is canonical, up to the ways home
    pub image_canonical : CanonicalTable m
    unfolding next_of
    image_canonical = record {
      reached = λ q h. agree_reached N (machine m) closed image_agree q (d.smallest.reached q (back h));
      reduced = λ q r h k f. d.smallest.reduced q r (back h) (back k) (λ w g. same q (back h) w g ∙ f w g ∙ sym (same r (back k) w g));
      arrival = rw is_states (arrival_ext (entry N) (entry (machine m)) 1 (p.states.count * byte_values) (λ x h. is_next (x / byte_values) (x % byte_values) (omega arith) (omega arith)) d.smallest.arrival);
      alike = λ x y h k f q l. ap (cell_of m q) f;
      share = λ x y h k f. is_class x h ∙ d.classed.share x y h k (λ q l. is_next q x l h ∙ f q (rw (← is_states) at l) ∙ sym (is_next q y l k)) ∙ sym (is_class y k);
      holds = λ c h. (let (x, k, i, f) = d.classed.holds c (rw is_classes at h) in (x, k, is_class x k ∙ i));
      smallest = arrival_ext (λ x. get_or p.classes.class x 0) (class_of m) 0 byte_values (λ x h. sym (is_class x h)) d.classed.smallest;
    }
      where
        closed : Closed N
        closed = d.smallest.closed

        back : {q : ℕ} → q < states_of m → q < p.states.count
        back h = rw is_states at h

        same : (q : ℕ) → q < p.states.count → Same N q (machine m) q
        same = agree_same N (machine m) closed image_agree

  -- what is written is, up to the ways home, the canonical room of the same strings
  pub image_smallest : {m m' : List ℕ} → room_bytes ≤ length m → Written ways_at (image_byte a p) m m'
      → SoundTable m' × CanonicalTable m' × Equal (machine a) (machine m') × TailKept ways_at m m'
  image_smallest {m} {m'} h w =
      let l : room_bytes ≤ length m' = omega (arith, w.size) in
      (image_sound m' l w.inside, image_canonical m' l w.inside, image_equal m' l w.inside, record { size = w.size; outside = w.outside })
