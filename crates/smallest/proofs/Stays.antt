-- A room is canonical exactly if its plan changes nothing of it: the image, as a list, is canonical, so a canonical room has its bytes; and where the plan changes
-- nothing, the image has the room's.
--   stays_canonical, canonical_stays, stays_decides: the two directions, and the test
use Prim.Native.Nat.{ℕ, ◌+◌, ◌-◌, ◌*◌, ◌/◌, ◌%◌, ◌≤◌, ◌<◌}
use mathlib.Core.Path.{◌≡◌, sym, ◌∙◌}
use mathlib.Core.Bool.{Bool}
use mathlib.Core.List.{List}
use native.Mathlib.Nat.{mod-lt, div-add-mod', div-lt_iff_lt-mul}
use native.Mathlib.Omega.{arith}
use lib.ListN.{length, get_or}
use Rattle.scope.specs.Limits.{classes_at, cells_at, ways_at, room_bytes}
use Rattle.scope.specs.Machines.Room.{states_of, classes_of, machine, SoundTable, SameTables}
use Rattle.scope.specs.Machines.Canonical.{CanonicalTable}
use Rattle.scope.specs.Bytes.{listed}
use Rattle.scope.proofs.Counting.Lists.{listed_length, listed_at}
use Rattle.scope.proofs.Machines.Room.{bytes_from_parts}
use Rattle.scope.proofs.Machines.Run.{sound_closed}
use Rattle.scope.proofs.Machines.SameMoves.{agree_same}
use Rattle.scope.proofs.Machines.Moved.{moved_agree, canonical_table_moved}
use Rattle.scope.proofs.Machines.Unique.{unique_table}
use Rattle.buffers.specs.Stored.{Decides}
use Rattle.room.proofs.HeadAndParts.{head_same}
use Rattle.smallest_plan.specs.declared.Plan.{Plan}
use Rattle.smallest_plan.specs.Planned.{Planned}
use Rattle.room_writing.specs.PlanImage.{image_byte}
use Rattle.smallest.specs.Stays.{Stays}
use Rattle.room_writing.proofs.PlanImage.{N, is_states, is_classes, is_class, is_mark_lem, at_cell, some_class, states_few, table_few, image_sound, image_agree, image_canonical, image_equal}

module _ {a : List ℕ} {p : Plan} (d : Planned a p) where
  -- the image, as a list
  m : List ℕ
  m = listed (image_byte a p) room_bytes

  long : room_bytes ≤ length m
  unfolding m
  long = omega (arith, listed_length (image_byte a p) room_bytes)

  byte : (i : ℕ) → i < ways_at → get_or m i 0 ≡ image_byte a p i
  unfolding m
  byte i h = listed_at (image_byte a p) room_bytes i (omega arith)

  pub stays_canonical : Stays a p → CanonicalTable a
  stays_canonical t = canonical_table_moved m a bytes sound (image_canonical d m long byte)
    where
      sound : SoundTable m
      sound = image_sound d m long byte

      leader : (c : ℕ) → c < p.classes.count → get_or p.classes.leader c 0 ≡ c
      leader c h = let (x, b, i, f) = d.classed.holds c h in sym f ∙ sym (t.class x b) ∙ i

      into : (q : ℕ) → q < p.states.count → get_or p.states.into q 0 ≡ q
      into q h = rw (t.order q h) at (d.smallest.own q h)

      cell : (i : ℕ) → i < states_of m * classes_of m → get_or m (cells_at + i) 0 ≡ get_or a (cells_at + i) 0
      cell i h =
          let k = p.classes.count in
          let j : i < p.states.count * k = rw (is_states d m long byte, is_classes d m long byte) at h in
          let q : i / k < p.states.count = (div-lt_iff_lt-mul (some_class d)).1 j in
          let c : i % k < k = mod-lt i (some_class d) in
          let e : cells_at + i - cells_at ≡ i = omega arith in
          let z : i / k * k + i % k ≡ i = div-add-mod' i k in
          let v : get_or a (cells_at + i) 0 < p.states.count = rw t.states (d.sound.cells (cells_at + i) (rw (← t.states, ← t.classes) (omega arith)) (omega arith)) in
          byte (cells_at + i) (omega (arith, table_few d)) ∙ at_cell a p (cells_at + i) (states_few d) (omega arith) (omega arith)
          ∙ rw (e, t.order (i / k) q, leader (i % k) c, ← t.classes, z) (into (get_or a (cells_at + i) 0) v)

      bytes : SameTables m a
      bytes = bytes_from_parts m a (record {
        states = is_states d m long byte ∙ t.states;
        classes = is_classes d m long byte ∙ t.classes;
        class = λ x h. is_class d m long byte x h ∙ t.class x h;
        mark = λ q h. let k : q < p.states.count = rw (is_states d m long byte) at h in is_mark_lem d m long byte q k ∙ rw (t.order q k);
        cell = cell;
      }) sound.marks_off d.sound.marks_off sound.cells_off d.sound.cells_off

  pub canonical_stays : CanonicalTable a → Stays a p
  canonical_stays c = record {
    states = sym (is_states d m long byte) ∙ sym head.0;
    classes = sym (is_classes d m long byte) ∙ sym head.1;
    order = order;
    class = λ x h. sym (is_class d m long byte x h) ∙ sym (same (classes_at + x) (omega arith));
  }
    where
      same : SameTables a m
      same = unique_table a m d.sound (image_sound d m long byte) c (image_canonical d m long byte) (image_equal d m long byte)

      head : (states_of a ≡ states_of m) × (classes_of a ≡ classes_of m)
      head = head_same a m (λ i h. same i (omega arith))

      order : (q : ℕ) → q < p.states.count → get_or p.states.order q 0 ≡ q
      order q h =
          let k : q < states_of a = omega (arith, d.smallest.few) in
          c.reduced (get_or p.states.order q 0) q (d.smallest.inside q h) k (λ w g.
          sym (d.smallest.same q h w g) ∙ agree_same (N d) (machine m) d.smallest.closed (image_agree d m long byte) q h w g
          ∙ sym (agree_same (machine a) (machine m) (sound_closed a d.sound) (moved_agree a m same d.sound) q k w g))

  -- so whether it stays decides whether it is canonical
  pub stays_decides : {r : Bool} → Decides r (Stays a p) → Decides r (CanonicalTable a)
  stays_decides t = record { yes = λ e. stays_canonical (t.yes e); no = λ e c. t.no e (canonical_stays c) }
