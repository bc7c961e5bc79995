-- A test that a sample's room is what compiling its pattern gives. The tree, a byte for each pattern class, the reached sets and the state of each are given;
-- that the sets are closed, and go with the states step by step, is computed, so every string leads to a listed set and to its state.
--   Help: what is given for a sample
--   is_compiled, compiled_by, compiled_small: the test, that compiling gives the room, and that the table fits it
use Prim.Native.Nat.{ℕ, ◌≤◌, ◌<◌}
use mathlib.Core.Path.{◌≡◌, refl, sym, ap, ◌∙◌}
use mathlib.Core.Bool.{Bool, true, ◌&&◌, beq}
use mathlib.Core.List.{List, [], ◌∷◌}
use native.Mathlib.Omega.{arith}
use lib.Dec.{eqb, leb, ltb}
use lib.ListN.{length, get_or, get_or-eq_default}
use Rattle.scope.specs.Limits.{byte_values, class_limit, state_limit, nest_limit, position_limit, pattern_limit}
use Rattle.scope.specs.Bytes.{Bytes}
use Rattle.scope.specs.Text.Re.{Re, Words}
use Rattle.scope.specs.Positions.Bits.{holders, move, accepting}
use Rattle.scope.specs.Text.Tree.{Tree, expr, falling, opened, places}
use Rattle.scope.specs.Machines.Machine.{walk, run, Recognises}
use Rattle.scope.specs.Positions.Reached.{Share, FewClasses, FewSets}
use Rattle.scope.specs.Machines.Room.{machine}
use Rattle.scope.specs.Operations.Compile.{Sized, compiled}
use Rattle.sample_rows.specs.Samples.{Sample, class_in, sample_cell, sample_room, Compiled}
use Rattle.scope.proofs.Counting.Tests.{all, all_is, any, any_is, itself, equals, below, at_most, same_bool, pair}
use Rattle.sample_rows.proofs.ReadsBy.{is_pattern, reads_by}
use Rattle.scope.proofs.Positions.Reached.{sets_exact, share_move}
use Rattle.scope.proofs.Machines.SameMoves.{agree_same}
use Rattle.sample_rows.proofs.Table.{table_of, Small, is_small, small_by, room_length, room_agrees, table_closed}
use Rattle.sample_rows.proofs.Numbering.{is_canonical, canonical_by}

pub record Help : Type 0 where
  pub tree : Tree
  -- a byte for each pattern class
  pub kinds : List ℕ
  -- the reached sets, {0} first, and the state of each
  pub sets : List ℕ
  pub states : List ℕ
  -- a string that leads to each state, and strings that tell states apart
  pub ways : List (List ℕ)
  pub words : List (List ℕ)
  -- the states from which no string is accepted, and a string that is accepted from each other state
  pub lost : List ℕ
  pub homes : List (List ℕ)

-- ---- the test

-- the byte b is of the kind i
unfoldable pub of_kind : Sample → Help → ℕ → ℕ → Bool
unfolding expr holders class_in
of_kind g h b i = eqb (holders (expr h.tree) 0 b) (holders (expr h.tree) 0 (get_or h.kinds i 0)) && eqb (class_in g b) (class_in g (get_or h.kinds i 0))

-- from the set i and its state, a byte of the kind k leads to the set j and its state
unfoldable pub leads_to : Sample → Help → ℕ → ℕ → ℕ → Bool
unfolding expr move table_of
leads_to g h i k j =
    eqb (move (expr h.tree) (get_or h.sets i 0) (get_or h.kinds k 0)) (get_or h.sets j 0)
    && eqb ((table_of g).next (get_or h.states i 0) (get_or h.kinds k 0)) (get_or h.states j 0)

unfoldable pub is_sized : Sample → Tree → Bool
unfolding is_pattern falling opened places
is_sized g t =
    is_pattern g.text t
    && (leb (length g.text) pattern_limit
    && (leb (length (falling t)) 0 && (leb (length (opened nest_limit t)) 0 && leb (length (places t)) position_limit)))

-- {0} is the first set, and its state is 0
unfoldable pub starts_right : Help → Bool
starts_right h = ltb 0 (length h.sets) && (eqb (get_or h.sets 0 0) 1 && eqb (get_or h.states 0 0) 0)

-- the set i accepts as its state does, and each kind of byte leads on
unfoldable pub goes_on : Sample → Help → ℕ → Bool
unfolding leads_to accepting table_of
goes_on g h i =
    beq ((table_of g).accepts (get_or h.states i 0)) (accepting (expr h.tree) (get_or h.sets i 0))
    && all (λ k. any (leads_to g h i k) (length h.sets)) (length h.kinds)

unfoldable pub is_compiled : Sample → Help → Bool
unfolding is_sized is_small is_canonical of_kind starts_right goes_on
is_compiled g h =
    is_sized g h.tree
    && (is_small g
    && (is_canonical g h.ways h.words
    && (leb (length h.kinds) class_limit
    && (leb (length h.sets) state_limit
    && (all (λ b. any (of_kind g h b) (length h.kinds)) byte_values
    && (starts_right h && all (goes_on g h) (length h.sets)))))))

-- ---- what it shows

module _ (g : Sample) (h : Help) where
  abbrev e : Re
  e = expr h.tree

  abbrev set : ℕ → ℕ
  set i = get_or h.sets i 0

  abbrev state : ℕ → ℕ
  state i = get_or h.states i 0

  sized_by : is_sized g h.tree ≡ true → Sized g.text h.tree × (length g.text ≤ pattern_limit)
  unfolding is_sized
  sized_by x =
      let t : Tree = h.tree in
      let (a, b) = pair (reads_by g.text t) (pair (at_most (length g.text) pattern_limit).sound
      (pair (at_most (length (falling t)) 0).sound (pair (at_most (length (opened nest_limit t)) 0).sound (at_most (length (places t)) position_limit).sound))) x in
      (record { pattern = a; ordered = b.1.0; shallow = b.1.1.0; brief = b.1.1.1 }, b.0)

  module _ (kinds : (b : ℕ) → b < byte_values → any (of_kind g h b) (length h.kinds) ≡ true) where
    kind : (b : ℕ) → b < byte_values → (i : ℕ) × (i < length h.kinds) × Share e b (get_or h.kinds i 0) × (class_in g b ≡ class_in g (get_or h.kinds i 0))
    unfolding of_kind
    kind b l =
        let (i, k, x) = (any_is (of_kind g h b) (length h.kinds)).sound (kinds b l) in
        let c : ℕ = get_or h.kinds i 0 in
        let (y, z) = pair (equals (holders e 0 b) (holders e 0 c)).sound (equals (class_in g b) (class_in g c)).sound x in
        (i, k, sym y, sym z)

    few_classes : length h.kinds ≤ class_limit → FewClasses e
    few_classes l = record { thing = λ i. get_or h.kinds i 0; all = λ b k. (let (i, m, x, y) = kind b k in (i, omega arith, x)) }

    module _ (on : (i : ℕ) → i < length h.sets → goes_on g h i ≡ true) where
      goes : (i : ℕ) → i < length h.sets → ((table_of g).accepts (state i) ≡ accepting e (set i)) × ((k : ℕ) → k < length h.kinds → any (leads_to g h i k) (length h.sets) ≡ true)
      unfolding goes_on
      goes i l = pair (same_bool ((table_of g).accepts (state i)) (accepting e (set i))).sound (all_is (λ k. any (leads_to g h i k) (length h.sets)) (length h.kinds)).sound (on i l)

      step : (i b : ℕ) → i < length h.sets → b < byte_values → (j : ℕ) × (j < length h.sets) × (move e (set i) b ≡ set j) × ((table_of g).next (state i) b ≡ state j)
      unfolding leads_to table_of
      step i b l m =
          let (k, o, x, y) = kind b m in
          let c : ℕ = get_or h.kinds k 0 in
          let (j, p, z) = (any_is (leads_to g h i k) (length h.sets)).sound ((goes i l).1 k o) in
          let (u, v) = pair (equals (move e (set i) c) (set j)).sound (equals ((table_of g).next (state i) c) (state j)).sound z in
          (j, p, share_move e (set i) b c x ∙ sym u, ap (sample_cell g (state i)) y ∙ sym v)

      leads : (i : ℕ) (w : List ℕ) → i < length h.sets → Bytes w → (j : ℕ) × (j < length h.sets) × (walk (move e) (set i) w ≡ set j) × (run (table_of g) (state i) w ≡ state j)
      leads i [] l m = (i, l, refl, refl)
      leads i (b ∷ w) l m =
          let (j, p, x, y) = step i b l m.0 in
          let (k, q, u, v) = leads j w p m.1 in
          (k, q, ap (λ (s : ℕ). walk (move e) s w) x ∙ u, ap (λ (q : ℕ). run (table_of g) q w) y ∙ v)

      module _ (begin : starts_right h ≡ true) where
        every : (w : List ℕ) → Bytes w → (j : ℕ) × (j < length h.sets) × (walk (move e) 1 w ≡ set j) × (run (table_of g) 0 w ≡ state j)
        unfolding starts_right
        every w m =
            let (a, b) = pair (below 0 (length h.sets)).sound (pair (equals (set 0) 1).sound (equals (state 0) 0).sound) begin in
            rw (← b.0, ← b.1) at (leads 0 w a m)

        few_sets : length h.sets ≤ state_limit → FewSets e
        few_sets l = record { thing = set; all = λ s r. (let (j, p, x, y) = every r.word r.bytes in (j, omega arith, sym r.leads ∙ x)) }

        recognises : Small g → Recognises (machine (sample_room g)) (Words e)
        recognises s w m =
            let (j, p, x, y) = every w m in
            let t = agree_same (table_of g) (machine (sample_room g)) (table_closed g s) (room_agrees g s) 0 (table_closed g s).some w m in
            let q : (machine (sample_room g)).accepts (run (machine (sample_room g)) 0 w) ≡ accepting e (walk (move e) 1 w) = sym t ∙ rw (y, x) (goes j p).0 in
            (λ a. (sets_exact e w).0 (sym q ∙ a), λ a. q ∙ (sets_exact e w).1 a)

  pub compiled_by : is_compiled g h ≡ true → Compiled g
  unfolding is_compiled
  compiled_by x room bytes bytes' words words' long scratch cleared =
      let (a, b) = pair sized_by (pair (small_by g) (pair (itself (is_canonical g h.ways h.words)).sound
      (pair (at_most (length h.kinds) class_limit).sound (pair (at_most (length h.sets) state_limit).sound
      (pair (all_is (λ b. any (of_kind g h b) (length h.kinds)) byte_values).sound
      (pair (itself (starts_right h)).sound (all_is (goes_on g h) (length h.sets)).sound)))))) x in
      let s : Small g = b.0 in
      let kinds = b.1.1.1.1.0 in
      let begin = b.1.1.1.1.1.0 in
      let on = b.1.1.1.1.1.1 in
      compiled
      (record { lent = record { room_long = omega arith; scratch = scratch }; short = a.1 })
      a.0
      (few_classes kinds b.1.1.0)
      (few_sets kinds on begin b.1.1.1.0)
      (canonical_by g s h.ways h.words b.1.0)
      (recognises kinds on begin s)
      (record { size = room_length g ∙ sym long; outside = λ i l. get_or-eq_default (sample_room g) 0 {n = i} (omega (arith, room_length g)) ∙ sym (get_or-eq_default room 0 {n = i} (omega arith)) })
      cleared

-- the table fits a room
pub compiled_small : (g : Sample) (h : Help) → is_compiled g h ≡ true → Small g
unfolding is_compiled
compiled_small g h x = (pair (itself (is_sized g h.tree)).sound (pair (small_by g) (λ y. y)) x).1.0
