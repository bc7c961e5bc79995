-- The seat of a set among the reached ones.
--   remainder_more, remainder_in: the remainder of one word more, as of one digit more; a remainder is that of a guess
--   guess_none: where there is no guess for a set, it is new
--   guesses_first, guesses_set, guesses_new: the guesses for {0}, with one that is written, and for a new set
--   guessed_new: what they are after a new set has its seat
use Prim.Native.Nat.{ℕ, suc, ◌+◌, ◌-◌, ◌*◌, ◌/◌, ◌%◌, ◌^◌, ◌≤◌, ◌<◌}
use mathlib.Core.Path.{◌≡◌, refl, sym, ap, ◌∙◌}
use mathlib.Core.List.{List}
use native.Mathlib.Nat.{add_comm, add-mul, mul_comm, mul_assoc, mod-eq_of_lt, mod-lt, add-mod, mod-add-mod, add-mul-mod_self_right, div-add-mod'}
use native.Mathlib.Omega.{arith}
use native.Mathlib.Decide.{ℕ_discrete}
use borrow.Author.Count.{below_more}
use lib.Dec.{lit<}
use lib.ListN.{get_or, set, replicate, length-set}
use lib.Seq.{get_or-set_same, get_or-set_other}
use Rattle.std.specs.Prelude.{Option, Some, None}
use Rattle.std.proofs.lemmas.Option.{none-some}
use Rattle.scope.specs.Limits.{set_words}
use Rattle.sets.specs.declared.Set.{Set}
use Rattle.sets.specs.Value.{value_at, Put}
use Rattle.sets.proofs.Words.{put_other}
use Rattle.sets.specs.Layout.{sets_at}
use Rattle.seats.specs.SeatLayout.{reached_set}
use Rattle.seats.specs.Seats.{guess_count, remainder_of, Guesses, Guessed, IsNew}

-- the remainder of a product, and of a digit more
mul_mod : (a b g : ℕ) → a % g * b % g ≡ a * b % g
mul_mod a b g =
    let swap : a / g * g * b ≡ a / g * b * g = mul_assoc (a / g) g b ∙ ap (λ (x : ℕ). a / g * x) (mul_comm g b) ∙ sym (mul_assoc (a / g) b g) in
    let all : a * b ≡ a % g * b + a / g * b * g = ap (λ (x : ℕ). x * b) (sym (div-add-mod' a g)) ∙ add-mul (a / g * g) (a % g) b ∙ add_comm (a / g * g * b) (a % g * b) ∙ ap (λ (x : ℕ). a % g * b + x) swap in
    sym (ap (λ (x : ℕ). x % g) all ∙ add-mul-mod_self_right (a % g * b) (a / g * b) g)

digit_more : (a b x g : ℕ) → (a % g * (b % g) + x % g) % g ≡ (a * b + x) % g
digit_more a b x g =
    sym (mod-add-mod (a % g * (b % g)) g (x % g))
    ∙ ap (λ (y : ℕ). (y + x % g) % g) (ap (λ (y : ℕ). y % g) (mul_comm (a % g) (b % g)) ∙ mul_mod b (a % g) g ∙ ap (λ (y : ℕ). y % g) (mul_comm b (a % g)) ∙ mul_mod a b g)
    ∙ sym (add-mod (a * b) x g)

-- the remainder of the words from i on, and of one word more below them
remainder_word : (m : List ℕ) (i w r : ℕ) → r ≡ remainder_of (value_at m (suc i) w)
    → (r * (2 ^ 64 % guess_count) + remainder_of (get_or m i 0 % 2 ^ 64)) % guess_count ≡ remainder_of (value_at m i (suc w))
unfolding value_at
remainder_word m i w r e = rw e (digit_more (value_at m (suc i) w) (2 ^ 64) (get_or m i 0 % 2 ^ 64) guess_count)

pub remainder_more : (s : Set) (i r : ℕ) → 0 < i → i ≤ set_words → r ≡ remainder_of (value_at s.words i (set_words - i))
    → (r * (2 ^ 64 % guess_count) + get_or s.words (i - 1) 0 % guess_count) % guess_count ≡ remainder_of (value_at s.words (i - 1) (set_words - (i - 1)))
remainder_more s i r h l e =
    let x : set_words - (i - 1) ≡ suc (set_words - i) = omega arith in
    let y : i ≡ suc (i - 1) = omega arith in
    rw x (rw (mod-eq_of_lt (s.fits (i - 1))) at (remainder_word s.words (i - 1) (set_words - i) r (e ∙ ap (λ (j : ℕ). remainder_of (value_at s.words j (set_words - i))) y)))

-- a remainder is that of a guess
pub remainder_in : (s : ℕ) → remainder_of s < guess_count
remainder_in s = mod-lt s (lit< tt)

-- where there is no guess for a set, it is new
pub guess_none : {w : List ℕ} {g : List (Option ℕ)} {n : ℕ} → Guesses w g n → (s : ℕ) → get_or g (remainder_of s) None ≡ None → IsNew w n s
guess_none {g = g} d s e i h z = d.known i h (ap (λ (s : ℕ). get_or g (remainder_of s) None) z ∙ e)

-- {0} is there, and no other set
pub guesses_first : (w : List ℕ) → reached_set w 0 ≡ 1 → Guesses w (set (replicate guess_count None) 1 (Some 0)) 1
guesses_first w e = record {
  long = refl;
  known = λ i h z.
      let o : i ≡ 0 = omega arith in
      let u : reached_set w i ≡ 1 = rw o e in
      one (sym (ap (λ (s : ℕ). get_or first (remainder_of s) None) u) ∙ z);
}
  where
    first : List (Option ℕ)
    first = set (replicate guess_count None) 1 (Some 0)

    one : get_or first 1 None ≡ None → ⊥
    one z = none-some 0 (sym z)

-- the set s is given the guess r
module _ {w : List ℕ} {g : List (Option ℕ)} {n : ℕ} (d : Guesses w g n) (s r : ℕ) where
  at : get_or (set g (remainder_of s) (Some r)) (remainder_of s) None ≡ Some r
  at = get_or-set_same g (remainder_of s) (Some r) None (omega (arith, remainder_in s, d.long))

  -- it is written
  pub guesses_set : Guesses w (set g (remainder_of s) (Some r)) n
  guesses_set = record {
    long = length-set g (remainder_of s) (Some r) ∙ d.long;
    known = λ i h z. elim (ℕ_discrete (remainder_of (reached_set w i)) (remainder_of s)) [
      | yes e ↦ none-some r (sym (ap (λ (k : ℕ). get_or (set g (remainder_of s) (Some r)) k None) (sym e) ∙ z) ∙ at)
      | no e ↦ d.known i h (sym (get_or-set_other g (remainder_of s) (remainder_of (reached_set w i)) (Some r) None e) ∙ z)
    ];
  }

  -- and so for a set that is stored
  pub guesses_new : {w' : List ℕ} → Put w w' (sets_at + n) s → Guesses w' (set g (remainder_of s) (Some r)) (n + 1)
  guesses_new {w'} p = record {
    long = guesses_set.long;
    known = below_more (λ (i : ℕ). get_or (set g (remainder_of s) (Some r)) (remainder_of (reached_set w' i)) None ≡ None → ⊥) n
        (λ i h z. guesses_set.known i h (ap (λ (s' : ℕ). get_or (set g (remainder_of s) (Some r)) (remainder_of s') None) (sym (put_other p (sets_at + i) (λ e. omega arith))) ∙ z))
        (λ z. none-some r (sym (ap (λ (s' : ℕ). get_or (set g (remainder_of s) (Some r)) (remainder_of s') None) (sym p.here) ∙ z) ∙ at));
  }

-- the guess for a set that is stored
pub guessed_new : {w w' : List ℕ} {g : List (Option ℕ)} {n : ℕ} → Guesses w g n → (s r : ℕ) → Put w w' (sets_at + n) s → Guessed w' (set g (remainder_of s) (Some r)) n (Some n)
guessed_new d s r p =
    let e = guesses_new d s r p in
    (record { long = e.long; known = λ i h. e.known i (omega arith) }, λ z. e)
