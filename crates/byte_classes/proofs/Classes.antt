-- Grouping. A split reads the bytes run by run: the key of a run has a class already, or takes the next number. A position more splits the classes so far.
--   class_below, class_used: a class is below their number, and each has a byte
--   Table: the keys of the classes so far, and their names
--   RunsSplit: the runs before x, where one begins, are split
--   runs_below, runs_old, runs_new, runs_full: a run more
--   Splitting, SplittingWord: the loops of a split: the runs that end before a word are split, and of those that end in it some
--   splitting_none, splitting_all, word_none, word_all, word_run, word_more: their turns
--   like_key: splitting by a position
--   group_none, group_below, group_next, group_many: the loop over the positions
--   spread_more, group_spread: the classes spread over the bytes
use Prim.Native.Nat.{ℕ, zero, suc, ◌+◌, ◌-◌, ◌*◌, ◌^◌, ◌≤◌, ◌<◌}
use mathlib.Core.Path.{◌≡◌, refl, sym, ap, ap₂, ◌∙◌}
use mathlib.Core.Bool.{true}
use mathlib.Core.List.{List}
use mathlib.Core.Logic.{inl, inr, ◌↔◌}
use native.Mathlib.Omega.{arith}
use native.Mathlib.Decide.{ℕ_discrete}
use borrow.Author.Count.{below_more}
use lib.Bits.{bit_and}
use lib.Count.{count_trailing_zeros}
use lib.ListN.{length, get_or, set, length-set, replicate, length-replicate}
use lib.Seq.{get_or-set_same, get_or-set_other}
use Rattle.std.specs.Prelude.{Option, Some, None, unwrap_or}
use Rattle.std.proofs.lemmas.Option.{none-some}
use Rattle.scope.specs.Limits.{byte_values, class_limit}
use Rattle.scope.specs.Machines.Canonical.{met}
use Rattle.scope.specs.Count.{Over}
use Rattle.scope.proofs.Counting.Arrival.{met_above, arrival_ext}
use Rattle.scope.proofs.Counting.Tests.{split}
use Rattle.scope.proofs.Counting.Lists.{zeros}
use Rattle.buffers.specs.Numbered.{Came, Numbered}
use Rattle.buffers.specs.Stored.{Stored}
use Rattle.buffers.proofs.OneMore.{stored_then}
use Rattle.buffers.proofs.Numbered.{numbered_none, numbered_same, numbered_new, numbered_arrival, numbered_one}
use Rattle.sets.specs.Layout.{bit_at}
use Rattle.sets.proofs.HeldBits.{bit_small}
use Rattle.byte_runs.specs.Runs.{last_byte, is_end, NoEnd, RunEnd, Like}
use Rattle.byte_runs.proofs.Ends.{EndsLeft, left_start, left_none, left_in, left_end, left_next, before_last}
use Rattle.byte_classes.specs.Group.{end_of, own_place, Key, Classes, Grouped, TooMany, ClassesBelow}
use Rattle.byte_classes.proofs.NumbersMet.{met_used, met_same, numbered_on, numbered_met, over_one}
use Rattle.byte_classes.proofs.RunEnds.{end_inside}

abbrev Same : ℕ → ℕ → Type 0
Same a b = a ≡ b

-- ---- classes

-- a class is below their number
pub class_below : {R : ℕ → ℕ → Type 0} {class : ℕ → ℕ} {k : ℕ} → Classes R class k → (a : ℕ) → a < byte_values → class a < k
class_below {class = class} c a h = omega (arith, met_above class 0 byte_values a h, c.count)

-- each class has a byte
pub class_used : {R : ℕ → ℕ → Type 0} {class : ℕ → ℕ} {k : ℕ} → Classes R class k → (i : ℕ) → i < k → (b : ℕ) × (b < byte_values) × (class b ≡ i)
class_used {class = class} c i h = met_used class byte_values i c.smallest (rw c.count h)

-- ---- the loops of a split

-- what a byte is told apart by: the class of its run, and whether the position p + 1 holds the end
abbrev key_of : List ℕ → ℕ → (ℕ → ℕ) → List ℕ → ℕ → ℕ
key_of m p at old a = 2 * get_or old (at a) 0 + bit_at m p (at a)

-- lead has the key of each class; names has for each of these keys its class, and none for the others
pub record Table (names : List (Option ℕ)) (lead : List ℕ) (k : ℕ) : Type 0 where
  pub size : length names ≡ 2 * class_limit
  pub leads : length lead ≡ class_limit
  pub few : k ≤ class_limit
  pub new : (i : ℕ) → get_or names i None ≡ None → (v : ℕ) → v < k → get_or lead v 0 ≡ i → ⊥
  pub known : (i v : ℕ) → get_or names i None ≡ Some v → (v < k) × (get_or lead v 0 ≡ i)

-- a key takes the next class
module _ {names : List (Option ℕ)} {lead : List ℕ} {k key : ℕ} (t : Table names lead k) (room : key < 2 * class_limit) (ne : k ≡ class_limit → ⊥) where
  lead_own : get_or (set lead k key) k 0 ≡ key
  lead_own = get_or-set_same lead k key 0 (omega (arith, t.few, t.leads))

  lead_kept : (v : ℕ) → v < k → get_or (set lead k key) v 0 ≡ get_or lead v 0
  lead_kept v h = get_or-set_other lead k v key 0 (λ q. omega arith)

  table_more : Table (set names key (Some k)) (set lead k key) (k + 1)
  table_more = record {
    size = length-set names key (Some k) ∙ t.size;
    leads = length-set lead k key ∙ t.leads;
    few = omega (arith, t.few);
    new = λ i q v h y. elim (ℕ_discrete i key) [
      | yes d ↦ none-some k (sym q ∙ ap (λ (j : ℕ). get_or (set names key (Some k)) j None) d ∙ named)
      | no d ↦ elim (split v k) [ inl l ↦ t.new i (sym (unnamed i d) ∙ q) v l (sym (lead_kept v l) ∙ y) | inr l ↦ (let e : v ≡ k = omega arith in d (sym (rw e at y) ∙ lead_own)) ]
    ];
    known = λ i v h. elim (ℕ_discrete i key) [
      | yes d ↦ (let e : v ≡ k = same_some (sym h ∙ ap (λ (j : ℕ). get_or (set names key (Some k)) j None) d ∙ named) in rw (d, e) (omega arith, lead_own))
      | no d ↦ (let (most, q) = t.known i v (sym (unnamed i d) ∙ h) in (omega arith, lead_kept v most ∙ q))
    ];
  }
    where
      named : get_or (set names key (Some k)) key None ≡ Some k
      named = get_or-set_same names key (Some k) None (omega (arith, t.size))

      unnamed : (i : ℕ) → (i ≡ key → ⊥) → get_or (set names key (Some k)) i None ≡ get_or names i None
      unnamed i d = get_or-set_other names key i (Some k) None d

      same_some : {a b : ℕ} → Some a ≡ Some b → a ≡ b
      same_some e = ap (λ (o : Option ℕ). unwrap_or o 0) e

-- the runs before x are split, and each byte there has its class at the end of its run
pub record RunsSplit (m : List ℕ) (p : ℕ) (ends old : List ℕ) (names : List (Option ℕ)) (map : List ℕ) (k x : ℕ) : Type 0 where
  pub last : is_end ends last_byte ≡ true
  pub below : ClassesBelow (end_of ends) old
  pub size : length map ≡ byte_values
  pub byte : x ≤ byte_values
  pub whole : (a : ℕ) → a < x → end_of ends a < x
  -- the old classes stand from x on
  pub ahead : (a : ℕ) → x ≤ a → get_or map a 0 ≡ get_or old a 0
  pub lead : List ℕ
  pub table : Table names lead k
  pub numbered : Numbered Same (key_of m p (end_of ends) old) (λ a. get_or map (end_of ends a) 0) (λ v. get_or lead v 0) 0 k x

-- e: the end of the run that begins at x
module _ {m : List ℕ} {p : ℕ} {ends old : List ℕ} {names : List (Option ℕ)} {map : List ℕ} {k x e : ℕ} (s : RunsSplit m p ends old names map k x) (r : RunEnd ends x e) where
  in_run : (a : ℕ) → x ≤ a → a ≤ e → end_of ends a ≡ e
  in_run = end_inside ends s.last r

  -- its old class is below 64
  pub runs_below : get_or map e 0 < class_limit
  runs_below = omega (arith, s.ahead e r.upto, rw (in_run x (omega arith) r.upto) at (s.below x (omega (arith, r.upto, r.byte))))

  -- the class v at the end: of the bytes before, of those of the run, and after it
  kept : (v a : ℕ) → a < x → get_or (set map e v) (end_of ends a) 0 ≡ get_or map (end_of ends a) 0
  kept v a h = get_or-set_other map e (end_of ends a) v 0 (λ q. omega (arith, s.whole a h, r.upto))

  here : (v a : ℕ) → x ≤ a → a ≤ e → get_or (set map e v) (end_of ends a) 0 ≡ v
  here v a h l = rw (in_run a h l) (get_or-set_same map e v 0 (omega (arith, s.size, r.byte)))

  later : (v a : ℕ) → e + 1 ≤ a → get_or (set map e v) a 0 ≡ get_or old a 0
  later v a h = get_or-set_other map e a v 0 (λ q. omega arith) ∙ s.ahead a (omega (arith, r.upto))

  whole : (a : ℕ) → a < e + 1 → end_of ends a < e + 1
  whole a h = elim (split a x) [ inl l ↦ omega (arith, s.whole a l, r.upto) | inr l ↦ omega (arith, in_run a l (omega arith)) ]

  -- the run is named
  runs_named : {names' : List (Option ℕ)} {k' : ℕ} (v : ℕ) (lead : List ℕ) → Table names' lead k'
      → Numbered Same (key_of m p (end_of ends) old) (λ a. get_or (set map e v) (end_of ends a) 0) (λ w. get_or lead w 0) 0 k' (e + 1) → RunsSplit m p ends old names' (set map e v) k' (e + 1)
  runs_named v lead t n = record {
    last = s.last;
    below = s.below;
    size = length-set map e v ∙ s.size;
    byte = omega (arith, r.byte);
    whole = whole;
    ahead = later v;
    lead = lead;
    table = t;
    numbered = n;
  }

  -- y: the bit of the end
  module _ {y : ℕ} (ey : y ≡ bit_at m p e) where
    at : (a : ℕ) → x ≤ a → a ≤ e → 2 * get_or map e 0 + y ≡ key_of m p (end_of ends) old a
    at a h l = rw (in_run a h l) (ap₂ (λ (z w : ℕ). 2 * z + w) (s.ahead e r.upto) ey)

    -- the key has a class
    pub runs_old : {v : ℕ} → get_or names (2 * get_or map e 0 + y) None ≡ Some v → RunsSplit m p ends old names (set map e v) k (e + 1)
    runs_old {v} h =
        let (most, q) = s.table.known (2 * get_or map e 0 + y) v h in
        runs_named v s.lead s.table
        (numbered_on (numbered_same s.numbered (key_of m p (end_of ends) old) (λ a. get_or (set map e v) (end_of ends a) 0) (λ w. get_or s.lead w 0) (λ a h. refl) (kept v) (λ w h. refl)) (e + 1)
        (omega (arith, r.upto)) (λ a h l. rw (here v a l (omega arith)) (omega arith, q ∙ at a l (omega arith))))

    module _ (z : get_or names (2 * get_or map e 0 + y) None ≡ None) where
      -- no class has the key
      fresh : (v : ℕ) → v < k → get_or s.lead v 0 ≡ key_of m p (end_of ends) old x → ⊥
      fresh v h q = s.table.new (2 * get_or map e 0 + y) z v h (q ∙ sym (at x (omega arith) r.upto))

      -- the key takes the next class
      pub runs_new : (k ≡ class_limit → ⊥) → RunsSplit m p ends old (set names (2 * get_or map e 0 + y) (Some k)) (set map e k) (k + 1) (e + 1)
      runs_new ne =
          let key = 2 * get_or map e 0 + y in
          let room : key < 2 * class_limit = omega (arith, runs_below, bit_small m p e) in
          let own = lead_own s.table room ne in
          runs_named k (set s.lead k key) (table_more s.table room ne)
          (numbered_on (numbered_new s.numbered (key_of m p (end_of ends) old) (λ a. get_or (set map e k) (end_of ends a) 0) (λ v. get_or (set s.lead k key) v 0) (λ a h. refl) (kept k)
          (lead_kept s.table room ne) (here k x (omega arith) r.upto) (own ∙ at x (omega arith) r.upto) refl fresh) (e + 1) (omega (arith, r.upto))
          (λ a h l. rw (here k a (omega arith) (omega arith)) (omega arith, own ∙ at a (omega arith) (omega arith))))

      -- a 65th class
      pub runs_full : k ≡ class_limit → Over class_limit (λ (a : ℕ). a < byte_values) (Key m p (end_of ends) old)
      runs_full q =
          let came : (v : ℕ) → v < k → Came (key_of m p (end_of ends) old) (λ a. get_or map (end_of ends a) 0) (λ w. get_or s.lead w 0) v x = λ v h. s.numbered.came v h (omega arith) in
          rw q at (over_one (λ (a : ℕ). a < byte_values) (Key m p (end_of ends) old) k (λ v h. (came v h).thing) x (λ v h. omega (arith, (came v h).inside, s.byte)) (omega (arith, r.upto, r.byte))
          (λ v w h l lt u. s.numbered.apart v w l lt (sym (came v h).leads ∙ u ∙ (came w l).leads)) (λ v h u. fresh v h (sym (came v h).leads ∙ u)))

-- before the word number w: the next run begins at x, and has no end so far
pub record Splitting (m : List ℕ) (p : ℕ) (ends old : List ℕ) (names : List (Option ℕ)) (map : List ℕ) (k w : ℕ) : Type 0 where
  pub x : ℕ
  pub upto : x ≤ 64 * w
  pub none : NoEnd ends x (64 * w)
  pub done : RunsSplit m p ends old names map k x

-- in that word: `rest` has the ends that are left
pub record SplittingWord (m : List ℕ) (p : ℕ) (ends old : List ℕ) (names : List (Option ℕ)) (map : List ℕ) (k w rest : ℕ) : Type 0 where
  pub x : ℕ
  pub upto : x ≤ 64 * (w + 1)
  pub none : NoEnd ends x (64 * w)
  pub left : EndsLeft ends w rest x
  pub done : RunsSplit m p ends old names map k x

-- a list of none has none
nones : (n i : ℕ) → ◌≡◌ {A = Option ℕ} (get_or (replicate n None) i None) None
nones zero i = refl
nones (suc n) zero = refl
nones (suc n) (suc i) = nones n i

-- no byte yet
pub splitting_none : (m : List ℕ) (p : ℕ) (ends old : List ℕ) → is_end ends last_byte ≡ true → length old ≡ byte_values → ClassesBelow (end_of ends) old
    → Splitting m p ends old (replicate (2 * class_limit) None) old 0 0
splitting_none m p ends old last size below = record {
  x = 0;
  upto = omega arith;
  none = λ c h. absurd (omega arith);
  done = record {
    last = last;
    below = below;
    size = size;
    byte = omega arith;
    whole = λ a h. absurd (omega arith);
    ahead = λ a h. refl;
    lead = replicate class_limit 0;
    table = record {
      size = length-replicate {A = Option ℕ} (2 * class_limit) None;
      leads = length-replicate {A = ℕ} class_limit 0;
      few = omega arith;
      new = λ i e v h. absurd (omega arith);
      known = λ i v h. absurd (none-some v (sym (nones (2 * class_limit) i) ∙ h));
    };
    numbered = numbered_none (omega arith);
  };
}

module _ {m : List ℕ} {p : ℕ} {ends old : List ℕ} {names : List (Option ℕ)} {map : List ℕ} {k w : ℕ} (s : Splitting m p ends old names map k w) where
  -- all ends of the word are left
  pub word_none : get_or ends w 0 < 2 ^ 64 → SplittingWord m p ends old names map k w (get_or ends w 0)
  word_none small = record { x = s.x; upto = omega (arith, s.upto); none = s.none; left = left_start ends w s.x s.upto small; done = s.done }

  -- all bytes
  pub splitting_all : byte_values ≤ 64 * w → Grouped (Key m p (end_of ends) old) (end_of ends) map k
  splitting_all h =
      let q : s.x ≡ byte_values = elim (split s.x byte_values) [
        | inl l ↦ omega (arith, before_last ends s.x (64 * w) s.done.last l s.none)
        | inr l ↦ omega (arith, s.done.byte)
      ] in
      let n = rw q at s.done.numbered in
      record {
        size = s.done.size;
        few = s.done.table.few;
        classes = record { same = numbered_one n (λ a c. sym) (λ a c d. ◌∙◌); smallest = numbered_arrival n; count = numbered_met n };
      }

module _ {m : List ℕ} {p : ℕ} {ends old : List ℕ} {names : List (Option ℕ)} {map : List ℕ} {k w rest : ℕ} (s : SplittingWord m p ends old names map k w rest) where
  -- no end is left
  pub word_all : rest ≡ 0 → Splitting m p ends old names map k (w + 1)
  word_all z = record { x = s.x; upto = s.upto; none = left_none s.left s.none z; done = s.done }

  module _ (some : rest ≡ 0 → ⊥) where
    -- where the next run ends
    pub word_run : 64 * (w + 1) ≤ byte_values → RunEnd ends s.x (64 * w + count_trailing_zeros 64 rest)
    word_run = left_end s.left s.none some

    -- it is split
    pub word_more : {names' : List (Option ℕ)} {map' : List ℕ} {k' : ℕ} → RunsSplit m p ends old names' map' k' (64 * w + count_trailing_zeros 64 rest + 1)
        → SplittingWord m p ends old names' map' k' w (bit_and rest (rest - 1))
    word_more d = record {
      x = 64 * w + count_trailing_zeros 64 rest + 1;
      upto = omega (arith, left_in s.left s.none some);
      none = λ c h l. absurd (omega arith);
      left = left_next s.left s.none some;
      done = d;
    }

-- ---- the loop over the positions

met_zeros : (n : ℕ) (f : ℕ → ℕ) → ((b : ℕ) → f b ≡ 0) → met f 0 (suc n) ≡ 1
unfolding met
met_zeros zero f e = rw e
met_zeros (suc n) f e = omega (arith, met_zeros n f e, e (suc n))

-- no position: one class
pub group_none : (m : List ℕ) (at : ℕ → ℕ) → Grouped (Like m 0) at (replicate byte_values 0) 1
group_none m at = record {
  size = length-replicate {A = ℕ} byte_values 0;
  few = omega arith;
  classes = record {
    same = λ a b h l. ((λ x p z. absurd (omega arith)), λ x. zeros byte_values (at a) ∙ sym (zeros byte_values (at b)));
    smallest = λ a h. omega (arith, zeros byte_values (at a));
    count = met_zeros last_byte (λ b. get_or (replicate byte_values 0) (at b) 0) (λ b. zeros byte_values (at b));
  };
}

-- the classes of a map are below 64
pub group_below : {R : ℕ → ℕ → Type 0} {at : ℕ → ℕ} {map : List ℕ} {k : ℕ} → Grouped R at map k → ClassesBelow at map
group_below g b h = omega (arith, class_below g.classes b h, g.few)

-- each position holds both a byte and the one where its class stands, or neither
module _ (m : List ℕ) (n : ℕ) (at : ℕ → ℕ) (like : (b : ℕ) → b < byte_values → Like m n b (at b)) {p : ℕ} (h : p < n) {old : List ℕ} {k : ℕ}
    (g : Grouped (Like m p) at old k) where
  -- the keys split the classes by one position
  pub like_key : (a b : ℕ) → a < byte_values → b < byte_values → Key m p at old a b ↔ Like m (p + 1) a b
  like_key a b ha hb =
      let x = bit_small m p (at a) in
      let y = bit_small m p (at b) in (
        λ e. below_more (λ (q : ℕ). bit_at m q a ≡ bit_at m q b) p ((g.classes.same a b ha hb).0 (omega arith)) (like a ha p h ∙ omega arith ∙ sym (like b hb p h)),
        λ l. ap₂ (λ (x y : ℕ). 2 * x + y) ((g.classes.same a b ha hb).1 (λ q w. l q (omega arith))) (sym (like a ha p h) ∙ l p (omega arith) ∙ like b hb p h),
      )

  -- a position more
  pub group_next : {map : List ℕ} {c : ℕ} → Grouped (Key m p at old) at map c → Grouped (Like m (p + 1)) at map c
  group_next d = record {
    size = d.size;
    few = d.few;
    classes = record {
      same = λ a b h l. (let (there, back) = like_key a b h l in let (u, v) = d.classes.same a b h l in ((λ x. there (u x)), λ x. v (back x)));
      smallest = d.classes.smallest;
      count = d.classes.count;
    };
  }

  -- 65 bytes that a position tells apart stay so
  pub group_many : TooMany (Key m p at old) → TooMany (Like m n)
  group_many o = record {
    thing = o.thing;
    have = o.have;
    differ = λ i j l z x. o.differ i j l z ((like_key (o.thing i) (o.thing j) (o.have i (omega arith)) (o.have j z)).1 (λ q w. x q (omega arith)));
  }

-- ---- spread

-- the bytes of one run more
pub spread_more : {ends old map map' : List ℕ} {from e : ℕ} → is_end ends last_byte ≡ true → RunEnd ends from e → Stored old map 0 from (λ b. get_or old (end_of ends b) 0)
    → Stored map map' from (e + 1) (λ b. get_or map e 0) → Stored old map' 0 (e + 1) (λ b. get_or old (end_of ends b) 0)
spread_more {ends} {e = e} last r s t =
    stored_then (omega arith) (omega (arith, r.upto)) s t (λ i h l. rw (end_inside ends last r i l (omega arith)) (s.outside e (inr r.upto)))

-- each byte has the class that stood elsewhere
pub group_spread : {R : ℕ → ℕ → Type 0} {at : ℕ → ℕ} {old map : List ℕ} {k : ℕ} → Grouped R at old k → Stored old map 0 byte_values (λ b. get_or old (at b) 0) → Grouped R own_place map k
group_spread {at = at} {old} {map} g s =
    let e : (b : ℕ) → b < byte_values → get_or map b 0 ≡ get_or old (at b) 0 = λ b h. s.inside b h (omega arith) in
    record {
      size = s.size ∙ g.size;
      few = g.few;
      classes = record {
        same = λ a b h l. (let (u, v) = g.classes.same a b h l in ((λ q. u (sym (e a h) ∙ q ∙ e b l)), λ x. e a h ∙ v x ∙ sym (e b l)));
        smallest = arrival_ext (λ b. get_or old (at b) 0) (λ b. get_or map b 0) 0 byte_values (λ b h. sym (e b h)) g.classes.smallest;
        count = met_same (λ b. get_or map b 0) (λ b. get_or old (at b) 0) byte_values e ∙ g.classes.count;
      };
    }
