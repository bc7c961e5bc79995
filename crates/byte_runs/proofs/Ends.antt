-- Runs. A byte is an end where a position tells it from the next; with no end in between, no position tells two bytes apart.
--   eight_bytes: eight bytes, read as one number
--   WordsNoted: the loop over the words of a byte set
--   words_none, words_more: its turns: the ends of 64 byte values more
--   runs_none, runs_more: the loop over the positions
--   EndsLeft: of the ends of a word, those from b on
--   left_start, left_from: the whole word, and from b on
--   left_none, left_in, left_end, left_next: where nothing is left there is no end; else the lowest bit is the next, and is taken off
--   before_last: where no end was met, 255 was not
use Prim.Native.Nat.{ℕ, zero, suc, ◌+◌, ◌-◌, ◌*◌, ◌/◌, ◌%◌, ◌^◌, ◌≤◌, ◌<◌}
use mathlib.Core.Path.{◌≡◌, refl, sym, ap, ◌∙◌}
use mathlib.Core.Bool.{true, false, true≢false}
use mathlib.Core.List.{List}
use mathlib.Core.Logic.{◌⊎◌, inl, inr}
use native.Mathlib.Nat.{add-zero, div-one, zero-div, pow-suc, mod-eq_of_lt, div-mul-le_self, div-add-mod'}
use native.Mathlib.Numerals.{add-one}
use native.Mathlib.Omega.{arith}
use native.Mathlib.Decide.{le_ind, ℕ_discrete}
use borrow.Author.Count.{below_more}
use borrow.Author.Rules.{rules}
use borrow.Author.Tests.{eqb-false}
use lib.Bits.{bit_or, bit_xor, bit_and, or_step, xor_step, and_step, or_shr, xor_shr, and_self, and_le_l, block_half, block_odd}
use lib.Count.{count_trailing_zeros}
use mir.Syntax.{w64}
use lib.ListN.{length, get_or, set, take, drop, length-set}
use lib.Pow.{pow-add, shr-shr, shl-shr, high}
use lib.Seq.{get_or-set_same, get_or-set_other}
use Rattle.std.specs.Int.{byte_at, bytes_low_first, from_le_bytes}
use Rattle.std.proofs.lemmas.List.{places}
use Rattle.std.proofs.lemmas.Nat.{le_bytes_8, or_lt, xor_lt}
use Rattle.scope.specs.Limits.{byte_values}
use Rattle.scope.specs.Positions.Bits.{has}
use Rattle.scope.proofs.Positions.Bits.{digit, has_half, has_shr, has_zero, has_small, trailing_none, trailing_one}
use Rattle.scope.proofs.Counting.Tests.{split, which}
use Rattle.sets.specs.Layout.{byte_set, bit_at}
use Rattle.byte_runs.specs.Runs.{last_byte, is_end, NoEnd, RunEnd, EightBytes, Like, EndsNoted, RunsOf}

-- ---- eight bytes as one number

-- the half of a number has the next bits
half : (x j : ℕ) → x / 2 / 2 ^ j ≡ x / 2 ^ suc j
half x j = let e : 1 + j ≡ suc j = omega arith in rw e at (shr-shr x 1 j)

-- the lower bits of a number in two blocks
lower_bit : (k a x j : ℕ) → j < k → (a * 2 ^ k + x) / 2 ^ j % 2 ≡ x / 2 ^ j % 2
lower_bit zero a x j h = absurd (omega arith)
lower_bit (suc k) a x zero h = simp div-one (block_odd a k x)
lower_bit (suc k) a x (suc j) h = rw (← half (a * 2 ^ suc k + x) j, ← half x j, block_half a k x) (lower_bit k a (x / 2) j (omega arith))

-- what a byte is worth
worth : (k : ℕ) → 256 ^ k ≡ 2 ^ (8 * k)
worth zero = refl
worth (suc k) = let e : 8 * suc k ≡ 8 * k + 8 = omega arith in omega (arith, pow-suc 256 k, worth k, pow-add 2 (8 * k) 8, ap (λ (y : ℕ). 2 ^ y) e)

-- a bit of a byte of a number
byte_bit : (n k i : ℕ) → i < 8 → n / 2 ^ (8 * k + i) % 2 ≡ byte_at k n / 2 ^ i % 2
byte_bit n k i h =
    let q : n / 2 ^ (8 * k) % 256 / 2 ^ i % 2 ≡ n / 2 ^ (8 * k) / 2 ^ i % 2
    = sym (lower_bit 8 (n / 2 ^ (8 * k) / 256) (n / 2 ^ (8 * k) % 256) i h) ∙ ap (λ (y : ℕ). y / 2 ^ i % 2) (div-add-mod' (n / 2 ^ (8 * k)) 256) in
    ap (λ (y : ℕ). y % 2) (sym (shr-shr n (8 * k) i)) ∙ sym q ∙ ap (λ (y : ℕ). y / 2 ^ i % 2) (sym (byte k))
  where
    byte : (k : ℕ) → byte_at k n ≡ n / 2 ^ (8 * k) % 256
    byte zero = simp div-one refl
    byte (suc k) = ap (λ (y : ℕ). n / y % 256) (worth (suc k))

-- the bytes of a number
byte_of : (i c n k j : ℕ) → k < c → i + k ≡ j → get_or (bytes_low_first i c n) k 0 ≡ byte_at j n
byte_of i zero n k j h e = absurd (omega arith)
byte_of i (suc c) n zero j h e = let d : i ≡ j = omega arith in ap (λ (y : ℕ). byte_at y n) d
byte_of i (suc c) n (suc k) j h e = byte_of (suc i) c n k j (omega arith) (omega arith)

-- eight bytes, read as one number
pub eight_bytes : {m e : List ℕ} {at k n : ℕ} → k ≡ 8 → e ≡ take k (drop at m) → at + 8 ≤ length m → ((i : ℕ) → get_or m i 0 < 256) → n ≡ from_le_bytes w64 e → EightBytes m at n
eight_bytes {m} {e} {at} {n = n} q t h small z = record {
  bits = λ j l.
      let b : get_or e (j / 8) 0 ≡ get_or m (at + j / 8) 0 = rw (t, q) (search (rules, places)) in
      let d : 8 * (j / 8) + j % 8 ≡ j = omega arith in
      let x : get_or e (j / 8) 0 ≡ byte_at (j / 8) n = ap (λ (y : List ℕ). get_or y (j / 8) 0) (sym (le_bytes_8 e n (rw (t, q) (search (rules, places))) fits z)) ∙ byte_of 0 8 n (j / 8) (j / 8) (omega arith) (omega arith) in
      rw d at (byte_bit n (j / 8) (j % 8) (omega arith)) ∙ ap (λ (y : ℕ). y / 2 ^ (j % 8) % 2) (sym x ∙ b);
}
  where
    fits : (i : ℕ) → get_or e i 0 < 256
    fits i = elim (split i 8) [
      | inl k ↦ (let b : get_or e i 0 ≡ get_or m (at + i) 0 = rw (t, q) (search (rules, places)) in omega (arith, small (at + i)))
      | inr k ↦ (let b : get_or e i 0 ≡ 0 = rw (t, q) (search (rules, places)) in omega arith)
    ]

-- ---- one position

-- digits that do not differ
differ_none : (a b : ℕ) → bit_xor a b % 2 ≡ 0 → a % 2 ≡ b % 2
differ_none a b h = go (digit a) (digit b)
  where
    go : (a % 2 ≡ 0) ⊎ (a % 2 ≡ 1) → (b % 2 ≡ 0) ⊎ (b % 2 ≡ 1) → a % 2 ≡ b % 2
    go (inl x) (inl y) = x ∙ sym y
    go (inl x) (inr y) = absurd (omega (arith, rw (x, y) at (xor_step a b)))
    go (inr x) (inl y) = absurd (omega (arith, rw (x, y) at (xor_step a b)))
    go (inr x) (inr y) = x ∙ sym y

-- no end: there was none, and the bits do not differ
edges_none : (e x z k : ℕ) → has (bit_or e (bit_xor x z)) k ≡ false → (has e k ≡ false) × (x / 2 ^ k % 2 ≡ z / 2 ^ k % 2)
edges_none e x z k h =
    let t = eqb-false (bit_or e (bit_xor x z) / 2 ^ k % 2) 1 h in
    let q : bit_or (e / 2 ^ k) (bit_xor (x / 2 ^ k) (z / 2 ^ k)) % 2 ≡ 0 = rw (← xor_shr x z k, ← or_shr e (bit_xor x z) k) (omega arith) in
    let s = or_step (e / 2 ^ k) (bit_xor (x / 2 ^ k) (z / 2 ^ k)) in
    let d : e / 2 ^ k % 2 ≡ 0 = omega arith in
    (rw d, differ_none (x / 2 ^ k) (z / 2 ^ k) (omega arith))

-- x: the bits of the word number w of a byte set
module _ (m : List ℕ) (p w x : ℕ) (v : EightBytes m (p * byte_set + 8 * w) x) where
  -- the bit of a byte value
  own_bit : (j : ℕ) → j < 64 → x / 2 ^ j % 2 ≡ bit_at m p (64 * w + j)
  own_bit j h =
      let e : p * byte_set + (64 * w + j) / 8 ≡ p * byte_set + 8 * w + j / 8 = omega arith in
      let d : (64 * w + j) % 8 ≡ j % 8 = omega arith in
      rw (e, d) (v.bits j h)

  -- the bit of the next, for which the byte after the word is asked
  next_bit : x < 2 ^ 64 → (j : ℕ) → j < 64 → (get_or m (p * byte_set + 8 * w + 8) 0 % 2 * 2 ^ 63 + x / 2) / 2 ^ j % 2 ≡ bit_at m p (64 * w + j + 1)
  next_bit small j h = elim (split j 63) [
    | inl k ↦ (let e : 64 * w + j + 1 ≡ 64 * w + suc j = omega arith in
        lower_bit 63 (get_or m (p * byte_set + 8 * w + 8) 0 % 2) (x / 2) j k ∙ ap (λ (y : ℕ). y % 2) (half x j) ∙ rw e (own_bit (suc j) (omega arith)))
    | inr k ↦ (let u : j ≡ 63 = omega arith in
        let e : p * byte_set + (64 * w + 63 + 1) / 8 ≡ p * byte_set + 8 * w + 8 = omega arith in
        let d : (64 * w + 63 + 1) % 8 ≡ 0 = omega arith in
        rw (u, high (get_or m (p * byte_set + 8 * w + 8) 0 % 2) 63 {lo = x / 2} (omega arith), e, d) (omega arith))
  ]

-- the byte values of the words below w are noted, and the other words are as they were
pub record WordsNoted (m : List ℕ) (p : ℕ) (old new : List ℕ) (w : ℕ) : Type 0 where
  pub size : 64 * length new ≡ byte_values
  pub kept : (i : ℕ) → w ≤ i → get_or new i 0 ≡ get_or old i 0
  pub noted : EndsNoted m p old new (64 * w)

-- no word yet
pub words_none : (m : List ℕ) (p : ℕ) (old : List ℕ) → 64 * length old ≡ byte_values → ((w : ℕ) → get_or old w 0 < 2 ^ 64) → WordsNoted m p old old 0
words_none m p old h f = record { size = h; kept = λ i l. refl; noted = record { fits = f; none = λ b h. absurd (omega arith) } }

-- one word more
pub words_more : {m : List ℕ} {p x : ℕ} {old new : List ℕ} (w : ℕ) → WordsNoted m p old new w → w < length new → EightBytes m (p * byte_set + 8 * w) x → x < 2 ^ 64
    → WordsNoted m p old (set new w (bit_or (get_or new w 0) (bit_xor x (get_or m (p * byte_set + 8 * w + 8) 0 % 2 * 2 ^ 63 + x / 2)))) (w + 1)
words_more {m} {p} {x} {old} {new} w n h v small = record {
  size = omega (arith, length-set new w mark, n.size);
  kept = λ i l. get_or-set_other new w i mark 0 (λ e. omega arith) ∙ n.kept i (omega arith);
  noted = record {
    fits = λ i. elim (ℕ_discrete i w) [
      | yes e ↦ rw (e, get_or-set_same new w mark 0 h) (or_lt 64 _ _ (n.noted.fits w) (xor_lt 64 _ _ small (omega arith)))
      | no e ↦ rw (get_or-set_other new w i mark 0 e) (n.noted.fits i)
    ];
    none = λ b l z. elim (split b (64 * w)) [
      | inl k ↦ n.noted.none b k (rw (get_or-set_other new w (b / 64) mark 0 (λ e. omega arith)) at z)
      | inr k ↦
          (let d : b / 64 ≡ w = omega arith in
          let e : 64 * w + b % 64 ≡ b = omega arith in
          let (s, t) = edges_none (get_or new w 0) x next (b % 64) (rw (d, get_or-set_same new w mark 0 h) at z) in
          (rw (d, ← n.kept w (omega arith)) s, rw e at (sym (own_bit m p w x v (b % 64) (omega arith)) ∙ t ∙ next_bit m p w x v small (b % 64) (omega arith))))
    ];
  };
}
  where
    next : ℕ
    next = get_or m (p * byte_set + 8 * w + 8) 0 % 2 * 2 ^ 63 + x / 2

    mark : ℕ
    mark = bit_or (get_or new w 0) (bit_xor x next)

-- ---- all positions

-- no position
pub runs_none : (m ends : List ℕ) → is_end ends last_byte ≡ true → RunsOf (Like m 0) ends
runs_none m ends e = record { last = e; alike = λ a b h l n p k. absurd (omega arith) }

-- one position more: with no end in between, it holds both bytes or neither
pub runs_more : {m : List ℕ} {p : ℕ} {old new : List ℕ} → RunsOf (Like m p) old → EndsNoted m p old new byte_values → RunsOf (Like m (p + 1)) new
runs_more {m} {p} {old} {new} r x = record {
  last = elim (which (is_end new last_byte)) [ inl e ↦ e | inr e ↦ absurd (true≢false (sym r.last ∙ (x.none last_byte (omega arith) e).0)) ];
  alike = λ a b h l n.
      below_more (λ (i : ℕ). bit_at m i a ≡ bit_at m i b) p (r.alike a b h l (λ c y z. (x.none c (omega arith) (n c y z)).0))
      (le_ind (λ (c : ℕ). c < byte_values → NoEnd new a c → bit_at m p a ≡ bit_at m p c) (λ y z. refl)
      (λ c y go z f. go (omega arith) (λ d u v. f d (omega arith) v) ∙ rw add-one at (x.none c (omega arith) (f c (omega arith) y)).1) b h l n);
}

-- ---- the ends of one word

-- twice a number has its bits one place higher
double_low : (x : ℕ) → has (x * 2) 0 ≡ false
double_low x = let e : x * 2 / 1 % 2 ≡ 0 = simp div-one (omega arith) in rw e

double_high : (x j : ℕ) → has (x * 2) (suc j) ≡ has x j
double_high x j = let e : x * 2 / 2 ≡ x = omega arith in rw e at (has_half (x * 2) j)

-- y has the bits of n after z, and none up to it
abbrev Above : ℕ → ℕ → ℕ → Type 0
Above y n z = (j : ℕ) → (j ≤ z → has y j ≡ false) × (z < j → has y j ≡ has n j)

-- of an even number, by its half
above_half : (n z y : ℕ) → Above y (n / 2) z → Above (y * 2) n (suc z)
above_half n z y f zero = ((λ h. double_low y), λ h. absurd (omega arith))
above_half n z y f (suc j) = ((λ h. double_high y j ∙ (f j).0 (omega arith)), λ h. double_high y j ∙ (f j).1 (omega arith) ∙ sym (has_half n j))

-- of an odd one
above_odd : (n : ℕ) → Above (n / 2 * 2) n 0
above_odd n zero = ((λ h. double_low (n / 2)), λ h. absurd (omega arith))
above_odd n (suc j) = ((λ h. absurd (omega arith)), λ h. double_high (n / 2) j ∙ sym (has_half n j))

-- a number without its lowest bit that is 1
lowest_off : (k n : ℕ) → 0 < n → n < 2 ^ k → Above (bit_and n (n - 1)) n (count_trailing_zeros k n)
unfolding count_trailing_zeros
lowest_off zero n h l = absurd (omega arith)
lowest_off (suc k) n h l = elim (digit n) [
  | inl e ↦
      (let d : (n - 1) / 2 ≡ n / 2 - 1 = omega arith in
      let q : bit_and n (n - 1) ≡ bit_and (n / 2) (n / 2 - 1) * 2 = omega (arith, rw (e, d) at (and_step n (n - 1))) in
      rw (e, q) (above_half n (count_trailing_zeros k (n / 2)) (bit_and (n / 2) (n / 2 - 1)) (lowest_off k (n / 2) (omega arith) (omega (arith, pow-suc 2 k)))))
  | inr e ↦
      (let d : (n - 1) / 2 ≡ n / 2 = omega arith in
      let c : (n - 1) % 2 ≡ 0 = omega arith in
      let q : bit_and n (n - 1) ≡ n / 2 * 2 = omega (arith, rw (d, and_self, c) at (and_step n (n - 1))) in
      rw (e, q) (above_odd n))
]

-- rest: the bits from b on, as they stand in the word
pub record EndsLeft (ends : List ℕ) (w rest b : ℕ) : Type 0 where
  pub small : rest < 2 ^ 64
  pub passed : (j : ℕ) → 64 * w + j < b → has rest j ≡ false
  pub ahead : (j : ℕ) → j < 64 → b ≤ 64 * w + j → has rest j ≡ is_end ends (64 * w + j)

-- a bit of a word
word_bit : (ends : List ℕ) (w j : ℕ) → j < 64 → is_end ends (64 * w + j) ≡ has (get_or ends w 0) j
word_bit ends w j h = let d : (64 * w + j) / 64 ≡ w = omega arith in let e : (64 * w + j) % 64 ≡ j = omega arith in rw (d, e)

-- the whole word
pub left_start : (ends : List ℕ) (w b : ℕ) → b ≤ 64 * w → get_or ends w 0 < 2 ^ 64 → EndsLeft ends w (get_or ends w 0) b
left_start ends w b h l = record { small = l; passed = λ j k. absurd (omega arith); ahead = λ j k y. sym (word_bit ends w j k) }

-- its bits from b on
pub left_from : (ends : List ℕ) (b : ℕ) → get_or ends (b / 64) 0 < 2 ^ 64 → EndsLeft ends (b / 64) (get_or ends (b / 64) 0 / 2 ^ (b % 64) * 2 ^ (b % 64) % 2 ^ 64) b
left_from ends b l =
    let s = b % 64 in
    let a = get_or ends (b / 64) 0 / 2 ^ s in
    let q : a * 2 ^ s % 2 ^ 64 ≡ a * 2 ^ s = mod-eq_of_lt (omega (arith, div-mul-le_self (get_or ends (b / 64) 0) (2 ^ s))) in
    rw q (record {
      small = omega (arith, div-mul-le_self (get_or ends (b / 64) 0) (2 ^ s));
      passed = λ j h. (let z : a * 2 ^ s / 2 ^ j % 2 ≡ 0 = rw add-zero at (lower_bit s a 0 j (omega arith)) ∙ rw zero-div in rw z);
      ahead = λ j h k. (let e : j ≡ s + (j - s) = omega arith in
          rw (word_bit ends (b / 64) j h, e) (sym (has_shr (a * 2 ^ s) s (j - s)) ∙ ap (λ (n : ℕ). has n (j - s)) (shl-shr a s) ∙ has_shr (get_or ends (b / 64) 0) s (j - s)));
    })

-- no end before the word
module _ {ends : List ℕ} {w rest b : ℕ} (r : EndsLeft ends w rest b) (none : NoEnd ends b (64 * w)) where
  -- a byte of the word that is not passed
  left_bit : (c : ℕ) → b ≤ c → 64 * w ≤ c → c < 64 * (w + 1) → is_end ends c ≡ has rest (c - 64 * w)
  left_bit c h k l = let e : 64 * w + (c - 64 * w) ≡ c = omega arith in rw e at (sym (r.ahead (c - 64 * w) (omega arith) (omega arith)))

  -- no bit is left
  pub left_none : rest ≡ 0 → NoEnd ends b (64 * (w + 1))
  left_none z c l h = elim (split c (64 * w)) [ inl k ↦ none c k h | inr k ↦ left_bit c h k l ∙ rw z (has_zero (c - 64 * w)) ]

  module _ (some : rest ≡ 0 → ⊥) where
    -- the lowest bit
    lowest : has rest (count_trailing_zeros 64 rest) ≡ true
    lowest = trailing_one 64 rest (omega arith) r.small

    -- it stands in the word
    pub left_in : count_trailing_zeros 64 rest < 64
    left_in = has_small rest (count_trailing_zeros 64 rest) 64 lowest r.small

    -- it is not passed
    upto : b ≤ 64 * w + count_trailing_zeros 64 rest
    upto = elim (split (64 * w + count_trailing_zeros 64 rest) b) [ inl k ↦ absurd (true≢false (sym lowest ∙ r.passed (count_trailing_zeros 64 rest) k)) | inr k ↦ k ]

    -- it is the next end
    pub left_end : 64 * (w + 1) ≤ byte_values → RunEnd ends b (64 * w + count_trailing_zeros 64 rest)
    left_end h = record {
      upto = upto;
      byte = omega (arith, left_in);
      end = sym (r.ahead (count_trailing_zeros 64 rest) left_in upto) ∙ lowest;
      before = λ c l k. elim (split c (64 * w)) [ inl y ↦ none c y k | inr y ↦ left_bit c k y (omega (arith, left_in)) ∙ trailing_none 64 rest (c - 64 * w) (omega arith) ];
    }

    -- and what is left after it
    pub left_next : EndsLeft ends w (bit_and rest (rest - 1)) (64 * w + count_trailing_zeros 64 rest + 1)
    left_next =
        let off = lowest_off 64 rest (omega arith) r.small in
        record {
          small = omega (arith, r.small, and_le_l rest (rest - 1));
          passed = λ j h. (off j).0 (omega arith);
          ahead = λ j h l. (off j).1 (omega arith) ∙ r.ahead j h (omega (arith, upto));
        }

-- where no end was met, 255 was not
pub before_last : (ends : List ℕ) (b x : ℕ) → is_end ends last_byte ≡ true → b < byte_values → NoEnd ends b x → x < byte_values
before_last ends b x e h n = elim (split x byte_values) [ inl k ↦ k | inr k ↦ absurd (true≢false (sym e ∙ n last_byte (omega arith) (omega arith))) ]
