-- Where runs end. 255 is an end, so each byte has an end at or after it; all bytes up to there, from the end before on, have the same.
--   run_one: a byte has one end
--   end_run, end_is: the end that is defined is its end
--   end_inside, end_like: the bytes of a run have one end, and are like it
use Prim.Native.Nat.{ℕ, zero, suc, ◌+◌, ◌-◌, ◌≤◌, ◌<◌}
use mathlib.Core.Path.{◌≡◌, sym, ◌∙◌}
use mathlib.Core.Bool.{true, true≢false}
use mathlib.Core.List.{List}
use mathlib.Core.Logic.{inl, inr}
use native.Mathlib.Omega.{arith}
use Rattle.scope.specs.Limits.{byte_values}
use Rattle.scope.proofs.Counting.Tests.{which, split, level}
use Rattle.byte_runs.specs.Runs.{last_byte, is_end, NoEnd, RunEnd, RunsOf}
use Rattle.byte_runs.proofs.Ends.{before_last}
use Rattle.byte_classes.specs.Group.{end_from, end_of}

-- a byte has one end
run_one : {ends : List ℕ} {b d e : ℕ} → RunEnd ends b d → RunEnd ends b e → d ≡ e
run_one {d = d} {e} x y = level d e (λ l. true≢false (sym x.end ∙ y.before d l x.upto)) (λ l. true≢false (sym y.end ∙ x.before e l y.upto))

module _ (ends : List ℕ) (last : is_end ends last_byte ≡ true) where
  -- n bytes are left
  run_from : (n b : ℕ) → b + n ≡ byte_values → b < byte_values → RunEnd ends b (end_from ends n b)
  unfolding end_from
  run_from zero b e h = absurd (omega arith)
  run_from (suc n) b e h = elim (which (is_end ends b)) [
    | inl t ↦ rw t (record { upto = omega arith; byte = h; end = t; before = λ c l k. absurd (omega arith) })
    | inr f ↦
        (let none : NoEnd ends b (suc b) = λ c l k. (let q : c ≡ b = omega arith in rw q f) in
        let r = run_from n (suc b) (omega arith) (before_last ends b (suc b) last h none) in
        rw f (record {
          upto = omega (arith, r.upto);
          byte = r.byte;
          end = r.end;
          before = λ c l k. elim (split c (suc b)) [ inl y ↦ none c y k | inr y ↦ r.before c l y ];
        }))
  ]

  -- the end that is defined
  end_run : (b : ℕ) → b < byte_values → RunEnd ends b (end_of ends b)
  end_run b h = run_from (byte_values - b) b (omega arith) h

  -- and there is no other
  end_is : {b e : ℕ} → RunEnd ends b e → end_of ends b ≡ e
  end_is {b} r = run_one (end_run b (omega (arith, r.upto, r.byte))) r

  -- the bytes of a run have one end
  pub end_inside : {b e : ℕ} → RunEnd ends b e → (a : ℕ) → b ≤ a → a ≤ e → end_of ends a ≡ e
  end_inside r a h l = end_is (record { upto = l; byte = r.byte; end = r.end; before = λ c k y. r.before c k (omega arith) })

-- and where runs are of bytes that are alike, each is like its end
pub end_like : {R : ℕ → ℕ → Type 0} {ends : List ℕ} → RunsOf R ends → (b : ℕ) → b < byte_values → R b (end_of ends b)
end_like {ends = ends} r b h = let e = end_run ends r.last b h in r.alike b (end_of ends b) e.upto e.byte e.before
