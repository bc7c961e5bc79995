-- Signs of states. Where neither a state nor the one that begins its part leads to a state that moved, the two agree still.
--   or_left, or_right, or_none, and_none: bits of words
--   sign_own, signs_none: a sign has its own bit; the signs of two states are not in a word
--   zeros_in, gap_more, gap_zeros, gap_none: states that are passed over
--   steady_first, steady_next: before the first round the signs of the states that lead to one not of the first part are there; after a round, those of the states that lead to one that moved
--   stayed_none, stayed_still, stayed_moved, stayed_gap: the signs of a round, state by state
--   seen_none, seen_all, seen_past, seen_gap: what is seen, state by state
use Prim.Native.Nat.{ℕ, ◌+◌, ◌-◌, ◌/◌, ◌%◌, ◌^◌, ◌≤◌, ◌<◌}
use mathlib.Core.Path.{◌≡◌, refl, sym, ap, ◌∙◌}
use mathlib.Core.Bool.{true, false, ◌&&◌, or-true, true≢false}
use mathlib.Core.Logic.{inl, inr}
use mathlib.Core.List.{List}
use native.Mathlib.Nat.{mod-lt}
use native.Mathlib.Omega.{arith}
use borrow.Author.Count.{below_more}
use borrow.Author.Tests.{eq-eqb}
use lib.Bits.{bit_or, bit_and}
use lib.Count.{count_trailing_zeros}
use lib.Dec.{lit<}
use lib.ListN.{get_or, set}
use lib.Pow.{shr_le}
use lib.Seq.{get_or-set_other}
use Rattle.scope.specs.Positions.Bits.{has}
use Rattle.scope.specs.Machines.Machine.{Machine, Closed}
use Rattle.scope.specs.Operations.Buffers.{Written}
use Rattle.scope.proofs.Positions.Bits.{has_or, has_pow, has_zero, has_ones, has_shr, has_small, trailing_none, trailing_one}
use Rattle.scope.proofs.Positions.Moves.{has_and}
use Rattle.scope.proofs.Counting.Tests.{split, which}
use Rattle.scope.specs.Limits.{byte_values}
use Rattle.parting.specs.Named.{Named, Renamed, OnePart, Agree}
use Rattle.signs.specs.Signs.{signs, Gap, Sources, Steady, Stayed, Seen, Calm}
use Rattle.parting.proofs.Names.{named_same, agree_itself, agree_flip, agree_chain}

-- ---- bits

pub or_left : (a b k : ℕ) → has a k ≡ true → has (bit_or a b) k ≡ true
or_left a b k h = has_or a b k ∙ rw h refl

pub or_right : (a b k : ℕ) → has b k ≡ true → has (bit_or a b) k ≡ true
or_right a b k h = has_or a b k ∙ rw h (or-true (has a k))

-- a bit that a union has not, neither has
or_none : (a b k : ℕ) → has (bit_or a b) k ≡ false → (has a k ≡ false) × (has b k ≡ false)
or_none a b k e = (elim (which (has a k)) [ inl h ↦ absurd (true≢false (sym (or_left a b k h) ∙ e)) | inr h ↦ h ], elim (which (has b k)) [ inl h ↦ absurd (true≢false (sym (or_right a b k h) ∙ e)) | inr h ↦ h ])

-- of two words with nothing in common, one has not what the other has
and_none : (s m k : ℕ) → bit_and s m ≡ 0 → has s k ≡ true → has m k ≡ false
and_none s m k e h = let z : (has s k && has m k) ≡ false = sym (has_and s m k) ∙ ap (λ (n : ℕ). has n k) e ∙ has_zero k in rw h at z

-- a sign has its own bit
pub sign_own : (q : ℕ) → has (2 ^ (q % signs)) (q % signs) ≡ true
sign_own q = has_pow (q % signs) (q % signs) ∙ eq-eqb (q % signs) (q % signs) refl

-- the signs of two states are not in a word
pub signs_none : (p q s t m : ℕ) → s ≡ 2 ^ (p % signs) → t ≡ 2 ^ (q % signs) → bit_and (bit_or s t) m ≡ 0 → (has m (p % signs) ≡ false) × (has m (q % signs) ≡ false)
signs_none p q s t m f g e = (
  and_none (bit_or s t) m (p % signs) e (or_left s t (p % signs) (rw f (sign_own p))),
  and_none (bit_or s t) m (q % signs) e (or_right s t (q % signs) (rw g (sign_own q))),
)

-- ---- states that are passed over

-- the next sign that is in s is one of the same word
pub zeros_in : (s x : ℕ) → s < 2 ^ 64 → 0 < s / 2 ^ (x % signs) → x % signs + count_trailing_zeros 64 (s / 2 ^ (x % signs)) < signs
zeros_in s x l h =
    let rest = s / 2 ^ (x % signs) in
    let one = trailing_one 64 rest h (omega (arith, shr_le s (x % signs))) in
    has_small s (x % signs + count_trailing_zeros 64 rest) 64 (sym (has_shr s (x % signs) (count_trailing_zeros 64 rest)) ∙ one) l

module _ (s q x : ℕ) (g : Gap s q x) where
  -- e states more, whose signs follow that of x
  gap_more : (e : ℕ) → ((j : ℕ) → j < e → (x % signs + j < signs) × (has (s / 2 ^ (x % signs)) j ≡ false)) → Gap s q (x + e)
  gap_more e f z h k = elim (split z x) [
    | inl l ↦ g z l k
    | inr l ↦
        (let (m, n) = f (z - x) (omega arith) in
        let y : z % signs ≡ x % signs + (z - x) = omega arith in
        rw y (sym (has_shr s (x % signs) (z - x)) ∙ n))
  ]

  -- up to the next sign that is in s
  pub gap_zeros : s < 2 ^ 64 → 0 < s / 2 ^ (x % signs) → Gap s q (x + count_trailing_zeros 64 (s / 2 ^ (x % signs)))
  gap_zeros l h = let m = zeros_in s x l h in gap_more (count_trailing_zeros 64 (s / 2 ^ (x % signs))) (λ j k. (omega arith, trailing_none 64 (s / 2 ^ (x % signs)) j k))

  -- to the end of a word in which no sign is left
  pub gap_none : s / 2 ^ (x % signs) ≡ 0 → Gap s q (x + (signs - x % signs))
  gap_none e = gap_more (signs - x % signs) (λ j k. (omega arith, ap (λ (n : ℕ). has n j) e ∙ has_zero j))

-- ---- rounds

-- all parts were 0, and those of the states that lead to one that is no longer 0 are touched
pub steady_first : {M : Machine} {old part from : List ℕ} {s : ℕ} → Closed M → Sources M.next M.states from → ((q : ℕ) → get_or old q 0 ≡ 0) → Stayed old part from M.states s
    → Steady M.next part M.states s
steady_first {M} {old} {part} {from} {s} c o z f = record { agree = λ p q hp hq e x y. record { here = e; there = λ b h. still p b hp h x ∙ sym (still q b hq h y) } }
  where
    still : (q b : ℕ) → q < M.states → b < byte_values → has s (q % signs) ≡ false → get_or part (M.next q b) 0 ≡ 0
    still q b h l e = f.part (M.next q b) (q % signs) (c.inside q b h l) (o q b h l) e ∙ z (M.next q b)

-- the states of one new part agreed in the old ones, and lead to states that have their old part if they are not touched; part: the new ones, copied
pub steady_next : {M : Machine} {old new₀ new part₀ part from : List ℕ} {s : ℕ} → Closed M → Sources M.next M.states from → Renamed (Agree M.next old) new₀ new M.states
    → Stayed old new from M.states s → Written M.states (λ q. get_or new q 0) part₀ part → Steady M.next part M.states s
steady_next {M} {old} {new₀} {new} {part₀} {part} {from} {s} c o d f w = record {
  agree = λ p q hp hq e x y.
      let g = named_same (Agree M.next old) (agree_itself M.next old) (agree_flip M.next old) (agree_chain M.next old) new M.states d.named p q hp hq
      (sym (w.inside p hp) ∙ e ∙ w.inside q hq) in
      record { here = e; there = λ b h. still p b hp h x ∙ g.there b h ∙ sym (still q b hq h y) };
}
  where
    still : (q b : ℕ) → q < M.states → b < byte_values → has s (q % signs) ≡ false → get_or part (M.next q b) 0 ≡ get_or old (M.next q b) 0
    still q b h l e = let k = c.inside q b h l in w.inside (M.next q b) k ∙ f.part (M.next q b) (q % signs) k (o q b h l) e

pub stayed_none : (old new from : List ℕ) → Stayed old new from 0 0
stayed_none old new from = record { part = λ q k h. absurd (omega arith) }

module _ {old new from : List ℕ} {q s : ℕ} (d : Stayed old new from q s) where
  -- a state more that has the part that it had
  pub stayed_still : get_or new q 0 ≡ get_or old q 0 → Stayed old new from (q + 1) s
  stayed_still e = record { part = λ x k h. below_more (λ (x : ℕ). has (get_or from x 0) k ≡ true → has s k ≡ false → get_or new x 0 ≡ get_or old x 0) q (λ x l. d.part x k l) (λ y z. e) x h }

  -- or another: the signs of its sources are added
  pub stayed_moved : (p : ℕ) → Stayed old (set new q p) from (q + 1) (bit_or s (get_or from q 0))
  stayed_moved p = record {
    part = λ x k h. below_more (λ (x : ℕ). has (get_or from x 0) k ≡ true → has (bit_or s (get_or from q 0)) k ≡ false → get_or (set new q p) x 0 ≡ get_or old x 0) q
        (λ x l y e. get_or-set_other new q x p 0 (λ z. omega arith) ∙ d.part x k l y (or_none s (get_or from q 0) k e).0)
        (λ y e. absurd (true≢false (sym y ∙ (or_none s (get_or from q 0) k e).1))) x h;
  }

  -- or many that have the part that they had
  pub stayed_gap : (r : ℕ) → ((x : ℕ) → x < r → q ≤ x → get_or new x 0 ≡ get_or old x 0) → Stayed old new from r s
  stayed_gap r e = record { part = λ x k h y z. elim (split x q) [ inl l ↦ d.part x k l y z | inr l ↦ e x h l ] }

-- ---- what is seen

pub seen_none : (part : List ℕ) (touched : ℕ) → Seen part touched touched 0
seen_none part touched = record { unseen = λ k l e. (e, λ h m. absurd (omega arith)) }

-- everything
pub seen_all : (part : List ℕ) (touched q : ℕ) → Seen part touched 18446744073709551615 q
seen_all part touched q = record { unseen = λ k l e. absurd (true≢false (sym (has_ones 64 k l) ∙ e)) }

module _ {part : List ℕ} {touched seen q : ℕ} (d : Seen part touched seen q) where
  -- a state that begins no part
  pub seen_past : get_or part q 0 < q → Seen part touched seen (q + 1)
  seen_past l = record { unseen = λ k m e. let (t, b) = d.unseen k m e in (t, below_more (λ (h : ℕ). get_or part h 0 ≡ h → has touched (h % signs) ≡ false) q b (λ z. absurd (omega arith))) }

  module _ (r : ℕ) (g : Gap seen q r) where
    over : Seen part touched seen r
    over = record { unseen = λ k m e. let (t, b) = d.unseen k m e in (t, λ h l z. elim (split h q) [ inl n ↦ b h n z | inr n ↦ (d.unseen (h % signs) (mod-lt h (lit< tt)) (g h l n)).0 ]) }

    -- states that are passed over, which are calm as those before them
    pub seen_gap : {e n : ℕ} → Named (OnePart part) part n → r ≤ n → ((x : ℕ) → x < q → e ≤ x → Calm part touched x) → Seen part touched seen r × ((x : ℕ) → x < r → e ≤ x → Calm part touched x)
    seen_gap named low c = (
      over,
      λ x h l k. elim (split x q) [
        | inl m ↦ c x m l k
        | inr m ↦ (let (t, b) = over.unseen (x % signs) (mod-lt x (lit< tt)) (g x h m) in (t, b (get_or part x 0) (omega arith) (named x (omega arith)).like))
      ],
    )
