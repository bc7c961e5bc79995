-- What keeps the notes as they grow. A tally counts as far as one beyond its limit, and has the place that it counted last: so once it is beyond, that is the
-- first place beyond the limit, and no later place changes it.
--   kept_since .. kept_shallow: what a record keeps, once one thing more is noted
use Prim.Native.Nat.{ℕ, ◌<◌, ◌≤◌}
use mathlib.Core.Path.{◌≡◌, refl, sym}
use mathlib.Core.Bool.{Bool, true, false}
use mathlib.Core.List.{List, ◌++◌, append-nil}
use borrow.Author.Tests.{ne_eqb}
use Rattle.scope.specs.Limits.{nest_limit}
use Rattle.scope.specs.Text.Tree.{only_if}
use Rattle.scope.proofs.Counting.Tests.{equals, below, not_below}
use Rattle.modes.specs.Modes.{high}
use Rattle.modes.specs.Notes.{Notes, since, read_as, nested_at}
use Rattle.judge_state.specs.Reading.{Tallied, Keeps, TallyMore}
use Rattle.judge_state.specs.declared.Tally.{Tally}

-- a place that is noted under a condition, which holds
one_more : {c : Bool} {i : ℕ} {l : List ℕ} {t u : Tally} → c ≡ true → TallyMore 0 t i u → Tallied 0 l t → Tallied 0 (l ++ only_if c i) u
unfolding only_if
one_more e m a = rw e (m _ a)

-- the same, where the condition fails
no_more : (i : ℕ) {c : Bool} {l : List ℕ} {t : Tally} → c ≡ false → Tallied 0 l t → Tallied 0 (l ++ only_if c i) t
unfolding only_if
no_more i e a = rw (e, append-nil) a

-- ---- a record

module _ {x : Notes} {half from least : ℕ} {falls opens firsts : Tally} (k : Keeps x half from least falls opens firsts) where
  -- what is being read began at i
  pub kept_since : (i : ℕ) → Keeps (record { half = x.half; sheet = since i x.sheet }) half i least falls opens firsts
  kept_since i = record { half_is = k.half_is; from_is = refl; least_is = k.least_is; falls_kept = k.falls_kept; opens_kept = k.opens_kept; firsts_kept = k.firsts_kept }

  -- other falling ranges
  falls_now : {l : List ℕ} {t : Tally} → Tallied 0 l t
      → Keeps (record { half = x.half; sheet = record { from = x.sheet.from; least = x.sheet.least; falls = l; opens = x.sheet.opens; firsts = x.sheet.firsts } }) half from least t opens firsts
  falls_now a = record { half_is = k.half_is; from_is = k.from_is; least_is = k.least_is; falls_kept = a; opens_kept = k.opens_kept; firsts_kept = k.firsts_kept }

  -- a high end was read, below the low one
  pub kept_falls : (v : ℕ) {t : Tally} → v < least → TallyMore 0 falls from t → Keeps (read_as high v x) half from least t opens firsts
  kept_falls v h m = falls_now (one_more (rw k.least_is at ((below v least).full h)) (rw k.from_is at m) k.falls_kept)

  -- or not below it
  pub kept_rises : (v : ℕ) → least ≤ v → Keeps (read_as high v x) half from least falls opens firsts
  kept_rises v h = falls_now (no_more _ (rw k.least_is at (not_below v least h)) k.falls_kept)

  -- other parentheses
  opens_now : {l : List ℕ} {t : Tally} → Tallied 0 l t
      → Keeps (record { half = x.half; sheet = record { from = x.sheet.from; least = x.sheet.least; falls = x.sheet.falls; opens = l; firsts = x.sheet.firsts } }) half from least falls t firsts
  opens_now a = record { half_is = k.half_is; from_is = k.from_is; least_is = k.least_is; falls_kept = k.falls_kept; opens_kept = a; firsts_kept = k.firsts_kept }

  -- a parenthesis opened inside as many others as may be
  pub kept_opens : (n i : ℕ) {t : Tally} → n ≡ nest_limit → TallyMore 0 opens i t → Keeps (nested_at n i x) half from least falls t firsts
  kept_opens n i e m = opens_now (one_more ((equals n nest_limit).full (sym e)) m k.opens_kept)

  -- or not inside as many
  pub kept_shallow : (n i : ℕ) → (n ≡ nest_limit → ⊥) → Keeps (nested_at n i x) half from least falls opens firsts
  kept_shallow n i e = opens_now (no_more i (ne_eqb n nest_limit e) k.opens_kept)
