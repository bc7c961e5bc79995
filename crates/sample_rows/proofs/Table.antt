-- The room of a sample machine. Each of its bytes is given by `byteIn`; the parts are read back by one law each, so the room is sound and agrees with the table
-- wherever there is a state and a byte. The list of 8,834 bytes is never written out.
--   table_of g: the machine of the table
--   keeps_rule: whether the ways home keep their rule at a state
--   Small, is_small: the table fits a room and its ways home are right, and the test of it
--   room_table, room_sound, room_agrees: its room is sound, up to the ways home and with them, and holds the machine of the table
use Prim.Native.Nat.{ℕ, suc, ◌+◌, ◌-◌, ◌*◌, ◌/◌, ◌%◌, ◌≤◌, ◌<◌}
use mathlib.Core.Path.{◌≡◌, refl, sym, ap, ◌∙◌}
use mathlib.Core.Bool.{Bool, true, false, cond, ◌&&◌, ◌||◌, false≢true}
use mathlib.Core.Logic.{inl, inr}
use mathlib.Core.List.{List, []}
use native.Mathlib.Nat.{mul-le-mul, mul-le-mul_right, suc-mul, mul-add-div_right, mul-add-mod_self_right, div-eq_of_lt, mod-eq_of_lt, mod-lt, div-lt_iff_lt-mul}
use native.Mathlib.Omega.{arith}
use lib.Dec.{eqb, leb, ltb}
use lib.ListN.{length, get_or, get_or-eq_default}
use Rattle.scope.specs.Limits.{byte_values, class_limit, state_limit, classes_at, marks_at, cells_at, ways_at, room_bytes, no_way}
use Rattle.scope.specs.Machines.Machine.{Machine, Closed}
use Rattle.scope.specs.Machines.Ways.{Way}
use Rattle.scope.specs.Machines.Room.{states_of, classes_of, class_of, mark_of, next_of, machine, SoundTable, Sound}
use Rattle.sample_rows.specs.Samples.{Sample, states_in, classes_in, class_in, sample_cell, home_in, byte_in, sample_room}
use Rattle.scope.proofs.Counting.Lists.{listed_length, listed_at}
use Rattle.scope.proofs.Counting.Tests.{which, split, or, equals, all, all_is, any, any_is, below, not_below, at_most, pair}
use Rattle.scope.proofs.Machines.SameMoves.{SameMoves, agree_same}
use Rattle.scope.proofs.Machines.Ways.{way_same}
use Rattle.way_rules.specs.Rule.{Rule}
use Rattle.way_rules.proofs.Rules.{rules_way}

unfoldable pub table_of : Sample → Machine
table_of g = record { states = states_in g; next = λ q b. sample_cell g q (class_in g b); accepts = λ q. eqb (get_or g.marks q 0) 1 }

-- ---- the test

pub record Small (g : Sample) : Type 0 where
  pub some_state : 1 ≤ states_in g
  pub few_states : states_in g ≤ state_limit
  pub few_classes : classes_in g ≤ class_limit
  pub few_marks : length g.marks ≤ states_in g
  pub few_homes : length g.home ≤ states_in g
  pub class : (b : ℕ) → b < byte_values → class_in g b < classes_in g
  pub mark : (q : ℕ) → q < states_in g → get_or g.marks q 0 < 2
  pub cell : (q : ℕ) → q < states_in g → (c : ℕ) → c < classes_in g → sample_cell g q c < states_in g
  pub rule : (q : ℕ) → q < states_in g → Rule (table_of g) (home_in g) q

-- whether the ways home keep their rule at the state q
unfoldable pub keeps_rule : Sample → ℕ → Bool
unfolding table_of class_in
keeps_rule g q =
    leb (home_in g q) no_way
    && cond ((table_of g).accepts q) (eqb (home_in g q) 0)
    (all (λ b. leb (home_in g q) (suc (home_in g ((table_of g).next q b)))) byte_values
    && (leb no_way (home_in g q) || any (λ b. eqb (home_in g q) (suc (home_in g ((table_of g).next q b)))) byte_values))

rule_by : (g : Sample) (q : ℕ) → keeps_rule g q ≡ true → Rule (table_of g) (home_in g) q
unfolding keeps_rule
rule_by g q e = elim (which ((table_of g).accepts q)) [
  | inl a ↦ (let (m, z) = pair (at_most (home_in g q) no_way).sound (equals (home_in g q) 0).sound (rw a at e) in
      record { most = m; here = λ x. sym z; least = λ x. absurd (false≢true (sym x ∙ a)); some = λ x. absurd (false≢true (sym x ∙ a)) })
  | inr a ↦ (let least : ℕ → Bool = λ b. leb (home_in g q) (suc (home_in g ((table_of g).next q b))) in
      let some : ℕ → Bool = λ b. eqb (home_in g q) (suc (home_in g ((table_of g).next q b))) in
      let (m, (l, o)) = pair (at_most (home_in g q) no_way).sound
      (pair (all_is least byte_values).sound (or (at_most no_way (home_in g q)) (any_is some byte_values)).sound) (rw a at e) in
      record {
        most = m;
        here = λ x. absurd (false≢true (sym a ∙ x));
        least = λ x b h y. (at_most (home_in g q) (suc (home_in g ((table_of g).next q b)))).sound (l b h);
        some = λ x y. elim o [ inl z ↦ absurd (omega arith) | inr (b, h, z) ↦ (b, h, sym ((equals (home_in g q) (suc (home_in g ((table_of g).next q b)))).sound z)) ];
      })
]

unfoldable pub is_small : Sample → Bool
unfolding class_in keeps_rule
is_small g =
    leb 1 (states_in g)
    && (leb (states_in g) state_limit
    && (leb (classes_in g) class_limit
    && (leb (length g.marks) (states_in g)
    && (leb (length g.home) (states_in g)
    && (all (keeps_rule g) (states_in g)
    && (all (λ b. ltb (class_in g b) (classes_in g)) byte_values
    && (all (λ q. ltb (get_or g.marks q 0) 2) (states_in g)
    && all (λ q. all (λ c. ltb (sample_cell g q c) (states_in g)) (classes_in g)) (states_in g))))))))

pub small_by : (g : Sample) → is_small g ≡ true → Small g
unfolding is_small
small_by g e =
    let (a, b) = pair (at_most 1 (states_in g)).sound (pair (at_most (states_in g) state_limit).sound (pair (at_most (classes_in g) class_limit).sound
    (pair (at_most (length g.marks) (states_in g)).sound
    (pair (at_most (length g.home) (states_in g)).sound
    (pair (all_is (keeps_rule g) (states_in g)).sound
    (pair (all_is (λ b. ltb (class_in g b) (classes_in g)) byte_values).sound
    (pair (all_is (λ q. ltb (get_or g.marks q 0) 2) (states_in g)).sound
    (all_is (λ q. all (λ c. ltb (sample_cell g q c) (states_in g)) (classes_in g)) (states_in g)).sound))))))) e in
    record {
      some_state = a;
      few_states = b.0;
      few_classes = b.1.0;
      few_marks = b.1.1.0;
      few_homes = b.1.1.1.0;
      rule = λ q h. rule_by g q (b.1.1.1.1.0 q h);
      class = λ x h. (below (class_in g x) (classes_in g)).sound (b.1.1.1.1.1.0 x h);
      mark = λ q h. (below (get_or g.marks q 0) 2).sound (b.1.1.1.1.1.1.0 q h);
      cell = λ q h c k. (below (sample_cell g q c) (states_in g)).sound ((all_is (λ c. ltb (sample_cell g q c) (states_in g)) (classes_in g)).sound (b.1.1.1.1.1.1.1 q h) c k);
    }

-- ---- the bytes of the room

module _ (g : Sample) where
  pub room_length : length (sample_room g) ≡ room_bytes
  unfolding sample_room
  room_length = listed_length (byte_in g) room_bytes

  at : (i : ℕ) → i < room_bytes → get_or (sample_room g) i 0 ≡ byte_in g i
  unfolding sample_room
  at i h = listed_at (byte_in g) room_bytes i h

  pub room_states : states_of (sample_room g) ≡ states_in g
  unfolding byte_in
  room_states = at 0 (omega arith) ∙ refl

  pub room_classes : classes_of (sample_room g) ≡ classes_in g
  unfolding byte_in
  room_classes = at 1 (omega arith) ∙ refl

  class_byte : (i : ℕ) → classes_at ≤ i → i < marks_at → get_or (sample_room g) i 0 ≡ class_in g (i - classes_at)
  unfolding byte_in
  class_byte i h k = at i (omega arith) ∙ rw (not_below i classes_at h, (below i marks_at).full k) refl

  mark_byte_lem : (i : ℕ) → marks_at ≤ i → i < cells_at → get_or (sample_room g) i 0 ≡ get_or g.marks (i - marks_at) 0
  unfolding byte_in
  mark_byte_lem i h k = at i (omega arith) ∙ rw (not_below i classes_at (omega arith), not_below i marks_at h, (below i cells_at).full k) refl

  cell_byte : (i : ℕ) → cells_at ≤ i → i < ways_at → get_or (sample_room g) i 0 ≡ sample_cell g ((i - cells_at) / classes_in g) ((i - cells_at) % classes_in g)
  unfolding byte_in
  cell_byte i h k = at i (omega arith) ∙ rw (not_below i classes_at (omega arith), not_below i marks_at (omega arith), not_below i cells_at h, (below i ways_at).full k) refl

  way_byte : (i : ℕ) → ways_at ≤ i → i < room_bytes
      → get_or (sample_room g) i 0 ≡ cond (eqb ((i - ways_at) % 2) 0) (home_in g ((i - ways_at) / 2) / byte_values) (home_in g ((i - ways_at) / 2) % byte_values)
  unfolding byte_in
  way_byte i h k = at i k ∙ rw (not_below i classes_at (omega arith), not_below i marks_at (omega arith), not_below i cells_at (omega arith), not_below i ways_at h) refl

  way_high : (q : ℕ) → q < state_limit → get_or (sample_room g) (ways_at + q * 2) 0 ≡ home_in g q / byte_values
  way_high q h =
      let e : (ways_at + q * 2 - ways_at) % 2 ≡ 0 = omega arith in
      let f : (ways_at + q * 2 - ways_at) / 2 ≡ q = omega arith in
      way_byte (ways_at + q * 2) (omega arith) (omega arith) ∙ rw (e, f) refl

  way_low : (q : ℕ) → q < state_limit → get_or (sample_room g) (ways_at + q * 2 + 1) 0 ≡ home_in g q % byte_values
  way_low q h =
      let e : (ways_at + q * 2 + 1 - ways_at) % 2 ≡ 1 = omega arith in
      let f : (ways_at + q * 2 + 1 - ways_at) / 2 ≡ q = omega arith in
      way_byte (ways_at + q * 2 + 1) (omega arith) (omega arith) ∙ rw (e, f) refl

  way_off : (i : ℕ) → ways_at ≤ i → i < room_bytes → home_in g ((i - ways_at) / 2) ≡ 0 → get_or (sample_room g) i 0 ≡ 0
  way_off i h k e = way_byte i h k ∙ rw e (go (eqb ((i - ways_at) % 2) 0))
    where
      go : (a : Bool) → cond a (0 / byte_values) (0 % byte_values) ≡ 0
      go true = refl
      go false = refl

  pub room_class : (b : ℕ) → b < byte_values → class_of (sample_room g) b ≡ class_in g b
  room_class b h = class_byte (classes_at + b) (omega arith) (omega arith) ∙ ap (class_in g) (omega arith)

  -- ---- sound, and the machine of the table

  module _ (s : Small g) where
    row : (j : ℕ) → j < states_in g * classes_in g → j / classes_in g < states_in g
    row j h = (div-lt_iff_lt-mul {k = classes_in g} {x = j} {y = states_in g} (omega arith)).1 h

    past : (j : ℕ) → states_in g * classes_in g ≤ j → states_in g ≤ j / classes_in g
    past j h = elim (split (j / classes_in g) (states_in g)) [ inl k ↦ absurd (omega (arith, (div-lt_iff_lt-mul {k = classes_in g} {x = j} {y = states_in g} (omega arith)).0 k)) | inr k ↦ k ]

    table_few : states_in g * classes_in g ≤ state_limit * class_limit
    table_few = mul-le-mul s.few_states s.few_classes

    table_size : states_of (sample_room g) * classes_of (sample_room g) ≡ states_in g * classes_in g
    table_size = rw (room_states, room_classes) refl

    pub room_table : SoundTable (sample_room g)
    room_table = record {
      long = omega (arith, room_length);
      some_state = omega (arith, room_states, s.some_state);
      few_states = omega (arith, room_states, s.few_states);
      some_class = omega (arith, room_classes);
      few_classes = omega (arith, room_classes, s.few_classes);
      classes = λ i h k. omega (arith, class_byte i k h, s.class (i - classes_at) (omega arith), room_classes);
      marks = λ i h k. omega (arith, mark_byte_lem i k (omega (arith, room_states, s.few_states)), s.mark (i - marks_at) (omega (arith, room_states)));
      marks_off = λ i h k. omega (arith, mark_byte_lem i (omega arith) h, get_or-eq_default g.marks 0 {n = i - marks_at} (omega (arith, room_states, s.few_marks)));
      cells = λ i h k.
          omega (
            arith,
            cell_byte i k (omega (arith, table_few, table_size)),
            room_states,
            s.cell ((i - cells_at) / classes_in g) (row (i - cells_at) (omega (arith, table_size))) ((i - cells_at) % classes_in g) (mod-lt (i - cells_at) {m = classes_in g} (omega arith)),
          );
      cells_off = λ i h k.
          omega (
            arith,
            cell_byte i (omega arith) h,
            ap (λ (l : List ℕ). get_or l ((i - cells_at) % classes_in g) 0) (get_or-eq_default g.rows [] (past (i - cells_at) (omega (arith, table_size)))),
          );
    }

    pub room_agrees : SameMoves (table_of g) (machine (sample_room g))
    unfolding table_of next_of
    room_agrees = record { states = sym room_states; next = λ q b h k. sym (next q b h k); marks = λ q h. sym (ap (λ (n : ℕ). eqb n 1) (mark q h)) }
      where
        mark : (q : ℕ) → q < states_in g → mark_of (sample_room g) q ≡ get_or g.marks q 0
        mark q h = mark_byte_lem (marks_at + q) (omega arith) (omega (arith, s.few_states)) ∙ ap (λ (i : ℕ). get_or g.marks i 0) (omega arith)

        next : (q b : ℕ) → q < states_in g → b < byte_values → next_of (sample_room g) q b ≡ sample_cell g q (class_in g b)
        next q b h k =
            let c : class_in g b < classes_in g = s.class b k in
            let l : q * classes_in g + class_in g b < states_in g * classes_in g = omega (arith, mul-le-mul_right (classes_in g) h, suc-mul q (classes_in g)) in
            let e : cells_at + (q * classes_in g + class_in g b) - cells_at ≡ q * classes_in g + class_in g b = omega arith in
            rw (room_class b k, room_classes)
            (cell_byte (cells_at + (q * classes_in g + class_in g b)) (omega arith) (omega (arith, table_few))
            ∙ rw (e, mul-add-div_right {m = classes_in g} (omega arith) q (class_in g b), mul-add-mod_self_right q (classes_in g) (class_in g b), div-eq_of_lt c, mod-eq_of_lt c)
            (ap (λ (n : ℕ). sample_cell g n (class_in g b)) (omega arith)))

    pub table_closed : Closed (table_of g)
    unfolding table_of
    table_closed = record { some = s.some_state; inside = λ q b h k. s.cell q h (class_in g b) (s.class b k) }

    -- the numbers that keep the rule are the ways home
    pub room_sound : Sound (sample_room g)
    unfolding table_of
    room_sound = record {
      table = room_table;
      ways = record {
        beside = λ q h. (let k : q < states_in g = rw room_states at h in
            record {
              way = home_in g q;
              right = way_same (agree_same (table_of g) (machine (sample_room g)) table_closed room_agrees q (states k)) (home q k);
              high = way_high q (omega (arith, s.few_states));
              low = way_low q (omega (arith, s.few_states));
            });
        ways_off = λ i h k.
            omega (arith, way_off i (omega arith) h (get_or-eq_default g.home 0 {n = (i - ways_at) / 2} (omega (arith, room_states, s.few_homes))));
      };
    }
      where
        states : {q : ℕ} → q < states_in g → q < (table_of g).states
        states h = h

        home : (q : ℕ) → q < states_in g → Way (table_of g) q (home_in g q)
        home = rules_way (table_of g) table_closed (home_in g) (omega (arith, s.few_states)) s.rule
