-- What std's searches over numbers and over elements say.
--   all_below: `all` over the numbers below n
--   first_at: `position`
--   all_front: what holds of each of the first n elements
use Prim.Native.Nat.{ℕ, ◌≤◌, ◌<◌}
use mathlib.Core.Path.{◌≡◌}
use mathlib.Core.Bool.{Bool, true, false}
use mathlib.Core.List.{List}
use native.Mathlib.Omega.{arith}
use lib.ListN.{length, get_or, take}
use Rattle.std.specs.Bool.{MatchBool}
use Rattle.std.specs.List.{range_with_len, All, AllWithin, HoldsAt}
use Rattle.std.specs.Option.{MatchOption}
use Rattle.std.specs.Prelude.{Option, Some, None}
use Rattle.std.proofs.lemmas.List.{length-take, get_or-take, get_or_default}
use Rattle.std.proofs.lemmas.List.FromFn.{length-range_with_len, get_or-range_with_len}
use Rattle.buffers.specs.Stored.{Decides}
use Rattle.buffers.proofs.OneMore.{holds, fails}
use Rattle.class_merging.specs.Merged.{FirstWith}

-- r is the answer of `all`, over the numbers below n
pub all_below : {P : ℕ → Type 0} (r : Bool) (n : ℕ) → MatchBool r (AllWithin P (range_with_len 0 n) 0 (length (range_with_len 0 n)))
    ((k : ℕ) × (k < length (range_with_len 0 n)) × HoldsAt (λ q. P q → ⊥) (range_with_len 0 n) k) → Decides r ((q : ℕ) → q < n → P q)
all_below true n f = holds (λ q h. let e : get_or (range_with_len 0 n) q 0 ≡ q = omega (arith, get_or-range_with_len 0 n q 0) in rw e at (f q 0 (omega arith) (omega (arith, length-range_with_len 0 n))))
all_below false n f = fails (λ g.
    let h : f.0 < n = omega (arith, f.1, length-range_with_len 0 n) in
    let e : get_or (range_with_len 0 n) f.0 0 ≡ f.0 = omega (arith, get_or-range_with_len 0 n f.0 0) in
    f.2 0 (rw e (g f.0 h)))

-- r is the answer of `position`, over xs
pub first_at : (P : ℕ → Type 0) (r : Option ℕ) (xs : List ℕ) → MatchOption r (AllWithin (λ x. P x → ⊥) xs 0 (length xs))
    (λ i. (i < length xs) × HoldsAt P xs i × AllWithin (λ x. P x → ⊥) xs 0 i) → FirstWith (λ j. P (get_or xs j 0)) (length xs) r
first_at P (Some i) xs f = (f.0, f.1 0, λ j l. f.2 j 0 (omega arith) l)
first_at P None xs f = λ j l. f j 0 (omega arith) l

-- each of the first n elements has P
pub all_front : (P : ℕ → Type 0) (xs : List ℕ) (n : ℕ) → n ≤ length xs → ((k : ℕ) → k < n → P (get_or xs k 0)) → All P (take n xs)
all_front P xs n l f k d h = let g : k < n = omega (arith, h, length-take n xs) in rw (get_or-take n xs k d g, get_or_default xs k d 0 (omega arith)) (f k g)
