-- What is told of a dead text. The last completable prefix is one byte shorter than the place says, so a byte could have stood there exactly if it keeps that prefix completable;
-- at place 0 there is none.
--   none_expected: at place 0 all are no
--   prefix_expected: at another the bytes that keep the prefix before it completable
--   typed_stands: where a text died with its last byte, these are the bytes that keep completable what stands before it
--   dead_whole: nothing completes a text that is dead
--   died_cannot: the byte that died is always no
--   all_no: all are no exactly if the last completable prefix is complete and nothing continues it, or the place is 0
--   determined: two results of one call are equal, with every byte of the array
use Prim.Native.Nat.{ℕ, zero, suc, ◌<◌}
use mathlib.Core.Path.{◌≡◌, refl, sym, ◌∙◌}
use mathlib.Core.Logic.{◌↔◌, ◌⊎◌, inl, inr}
use mathlib.Core.List.{List, [], ◌∷◌, ◌++◌, append_assoc, append-nil}
use native.Mathlib.Omega.{arith}
use lib.ListN.{length, get_or, take, replicate, length-append, length-replicate, get_or-replicate}
use lib.Seq.{take-suc, take-append-le, take_all}
use Rattle.scope.specs.Bytes.{Bytes}
use Rattle.scope.specs.Limits.{byte_values}
use Rattle.scope.specs.Machines.Machine.{Machine, Accepts, Completable}
use Rattle.scope.specs.Operations.Match.{DeadAt, Matches}
use Rattle.scope.proofs.Operations.Match as matches
use Rattle.scope.proofs.Machines.Run.{bytes_append}
use Rattle.telling.specs.Expected.{cannot, CouldStand, Expected, EndedBefore, MatchTells, marked, kept, CanFollow}
use Rattle.telling.proofs.Marks.{marks_one, mark_no, mark_none, marks_moved}

-- a longer string that something completes completes its beginning
shorter : {M : Machine} (w u : List ℕ) → Bytes u → Completable M (w ++ u) → Completable M w
shorter w u g c = record { rest = u ++ c.rest; bytes = bytes_append u c.rest g c.bytes; accepted = rw (← append_assoc w u c.rest) c.accepted }

-- a byte more that begins a continuation
one_more : {M : Machine} (w : List ℕ) (b : ℕ) (u : List ℕ) → Bytes u → Accepts M (w ++ (b ∷ u)) → Completable M (w ++ (b ∷ []))
one_more w b u g a = record { rest = u; bytes = g; accepted = rw (append_assoc w (b ∷ []) u) a }

module _ {M : Machine} {s : List ℕ} where
  -- at place 0 all are no
  pub none_expected : Expected M s 0 (replicate byte_values 0)
  none_expected = record { size = length-replicate {A = ℕ} byte_values 0; marks = λ b h. rw (get_or-replicate {A = ℕ} byte_values b 0 0 h) (cannot (λ c. omega (arith, c.last))) }

  -- the prefix before the place is one
  stands_before : {i j b : ℕ} → suc j ≡ i → CouldStand M s i b → Completable M (take j s ++ (b ∷ []))
  stands_before {i} {j} z c = let e : c.before ≡ j = omega (arith, c.last) in rw e at c.goes_on

  -- at another place: what keeps the prefix before it completable
  pub prefix_expected : {i j : ℕ} {e : List ℕ} → suc j ≡ i → CanFollow M (take j s) e → Expected M s i e
  prefix_expected {i} {j} z g = marks_moved (λ b h. (λ c. record { before = j; last = z; goes_on = c }, stands_before z)) g

  -- the byte that died is always no
  pub died_cannot : {j : ℕ} {e : List ℕ} → DeadAt M s (suc j) → Expected M s (suc j) e → get_or s j 0 < byte_values → get_or e (get_or s j 0) 0 ≡ 0
  died_cannot {j} d x h = mark_none (λ c. d.dead (rw (take-suc s j 0 d.inside) (stands_before refl c))) (x.marks (get_or s j 0) h)

  module _ {i : ℕ} {e : List ℕ} (d : DeadAt M s i) (x : Expected M s i e) where
    -- all are no
    abbrev AllNo : Type 0
    AllNo = (b : ℕ) → b < byte_values → get_or e b 0 ≡ 0

    -- nothing goes on from the prefix before the place
    goes_nowhere : AllNo → {j : ℕ} → suc j ≡ i → (b : ℕ) (u : List ℕ) → Bytes (b ∷ u) → Accepts M (take j s ++ (b ∷ u)) → ⊥
    goes_nowhere n {j} z b u g a = mark_no (x.marks b g.0) (n b g.0) (record { before = j; last = z; goes_on = one_more (take j s) b u g.1 a })

    -- so it is complete
    complete : AllNo → {j : ℕ} → suc j ≡ i → Completable M (take j s) → Accepts M (take j s)
    complete n {j} z c = go c.rest c.bytes c.accepted
      where
        go : (u : List ℕ) → Bytes u → Accepts M (take j s ++ u) → Accepts M (take j s)
        go [] g a = rw append-nil at a
        go (b ∷ u) g a = absurd (goes_nowhere n z b u g a)

    ended : AllNo → (k : ℕ) → k ≡ i → (i ≡ 0) ⊎ EndedBefore M s i
    ended n zero z = inl (sym z)
    ended n (suc j) z = inr (record { before = j; last = z; accepted = complete n z (d.before j (omega arith)); ends = goes_nowhere n z })

    none_stands : (i ≡ 0) ⊎ EndedBefore M s i → (b : ℕ) → b < byte_values → CouldStand M s i b → ⊥
    none_stands (inl z) b h c = omega (arith, c.last)
    none_stands (inr y) b h c = let p = stands_before y.last c in y.ends b p.rest (h, p.bytes) (rw (append_assoc (take y.before s) (b ∷ []) p.rest) at p.accepted)

    -- all are no exactly if the prefix is complete and nothing continues it, or the place is 0
    pub all_no : AllNo ↔ ((i ≡ 0) ⊎ EndedBefore M s i)
    all_no = (λ n. ended n i refl, λ y b h. mark_none (none_stands y b h) (x.marks b h))

-- nothing completes a text that is dead
pub dead_whole : {M : Machine} {s : List ℕ} {i : ℕ} → Bytes s → DeadAt M s i → Completable M s → ⊥
dead_whole {M} {s} {i} g d c = d.dead (rw (take-append-le i s c.rest d.inside) at
    (matches.accepted_alive M (s ++ c.rest) (bytes_append s c.rest g c.bytes) c.accepted i (omega (arith, d.inside, length-append s c.rest))))

-- ---- a byte after a text

-- where the text died with that byte, or at once
pub typed_stands :
    {M : Machine} (w : List ℕ) (k : ℕ) {i : ℕ} → Bytes w → DeadAt M (w ++ (k ∷ [])) i → (i ≡ 0) ⊎ (length w < i)
    → (b : ℕ) → b < byte_values → Completable M (w ++ (b ∷ [])) ↔ CouldStand M (w ++ (k ∷ [])) i b
typed_stands w k g d (inl z) b h = (λ c. absurd (rw z at d.dead (shorter [] (w ++ (b ∷ [])) (bytes_append w (b ∷ []) g (h, tt)) c)), λ c. absurd (omega (arith, c.last)))
typed_stands w k {i} g d (inr l) b h = (λ c. record { before = length w; last = z; goes_on = rw own c }, λ c. rw own at (stands_before z c))
  where
    z : suc (length w) ≡ i
    z = omega (arith, d.inside, length-append w (k ∷ []))

    own : take (length w) (w ++ (k ∷ [])) ≡ w
    own = take-append-le (length w) w (k ∷ []) (omega arith) ∙ take_all (length w) w (omega arith)

-- ---- one array

module _ {room text e f g : List ℕ} where
  -- two arrays that one answer tells
  pub tells_one : {n i : ℕ} → MatchTells room text e f n i → MatchTells room text e g n i → f ≡ g
  tells_one (marked x) (marked y) = marks_one x y
  tells_one (marked x) (kept d k) = absurd (d refl)
  tells_one (kept d k) (marked y) = absurd (d refl)
  tells_one (kept d k) (kept c l) = k ∙ sym l

  -- two results of one call: the numbers, the places, the arrays
  pub determined : {n i m j : ℕ} → Bytes text → Matches room text n i → MatchTells room text e f n i → Matches room text m j → MatchTells room text e g m j → (n ≡ m) × (i ≡ j) × (f ≡ g)
  determined b a x c y = let (p, q) = matches.determined room text b a c in (p, q, tells_one x (rw (← p, ← q) at y))
