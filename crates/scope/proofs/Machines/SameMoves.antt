-- Two machines that agree on the states and bytes there are: from each state they accept the same strings, so they have the same parts and rounds.
--   SameMoves M N: as many states, and from each the same next state and mark
--   agree_flip, agree_closed, agree_run, agree_same: it goes both ways; both are complete, run alike, and accept the same strings
--   agree_reached: the same states are reached
--   agree_rounds: the same rounds
--   agree_aside: two pairs, side by side
--   agree_equal, agree_separation: two pairs, and the strings that separate them
use Prim.Native.Nat.{ℕ, suc, ◌+◌, ◌-◌, ◌<◌, ◌≤◌}
use mathlib.Core.Path.{◌≡◌, sym, ap, ◌∙◌}
use mathlib.Core.Logic.{◌⊎◌, inl, inr}
use mathlib.Core.List.{List, [], ◌∷◌, ◌++◌}
use native.Mathlib.Omega.{arith}
use lib.ListN.{take}
use Rattle.scope.specs.Limits.{byte_values}
use Rattle.scope.specs.Bytes.{Bytes}
use Rattle.scope.specs.Machines.Machine.{Machine, run, Same, Closed, Reached}
use Rattle.scope.specs.Machines.Rounds.{aside, Together, Rests, Rounds}
use Rattle.scope.specs.Machines.Separate.{Separates, Separation}
use Rattle.scope.proofs.Counting.Tests.{split, below, not_below}
use Rattle.scope.proofs.Machines.Run.{run_agree}
use Rattle.scope.proofs.Machines.Rounds.{together_in, together_out}

pub record SameMoves (M N : Machine) : Type 0 where
  pub states : M.states ≡ N.states
  pub next : (q b : ℕ) → q < M.states → b < byte_values → M.next q b ≡ N.next q b
  pub marks : (q : ℕ) → q < M.states → M.accepts q ≡ N.accepts q

pub agree_flip : (M N : Machine) → SameMoves M N → SameMoves N M
agree_flip M N a = record {
  states = sym a.states;
  next = λ q b h k. sym (a.next q b (omega (arith, a.states)) k);
  marks = λ q h. sym (a.marks q (omega (arith, a.states)));
}

module _ (M N : Machine) (c : Closed M) (a : SameMoves M N) where
  pub agree_closed : Closed N
  agree_closed = record {
    some = omega (arith, c.some, a.states);
    inside = λ q b h k. let l : q < M.states = omega (arith, a.states) in omega (arith, c.inside q b l k, a.next q b l k, a.states);
  }

  pub agree_run : (q : ℕ) (w : List ℕ) → q < M.states → Bytes w → run M q w ≡ run N q w
  agree_run = run_agree M N c a.next

  pub agree_same : (q : ℕ) → q < M.states → Same M q N q
  agree_same q h [] g = a.marks q h
  agree_same q h (b ∷ w) g = rw (← a.next q b h g.0) (agree_same (M.next q b) (c.inside q b h g.0) w g.1)

  pub agree_reached : (q : ℕ) → Reached M q → Reached N q
  agree_reached q r = record { word = r.word; bytes = r.bytes; leads = sym (agree_run 0 r.word c.some r.bytes) ∙ r.leads }

  agree_together : (r p q : ℕ) → p < M.states → q < M.states → Together M r p q → Together N r p q
  agree_together r p q h k t = together_in N r p q (λ w g l. sym (agree_same p h w g) ∙ together_out M r p q t w g l ∙ agree_same q k w g)

pub agree_rests : (M N : Machine) → Closed M → SameMoves M N → (r : ℕ) → Rests M r → Rests N r
agree_rests M N c a r f p q h k t =
    let h' : p < M.states = omega (arith, a.states) in
    let k' : q < M.states = omega (arith, a.states) in
    agree_together M N c a (suc r) p q h' k' (f p q h' k' (agree_together N M (agree_closed M N c a) (agree_flip M N a) r p q h k t))

pub agree_rounds : (M N : Machine) → Closed M → SameMoves M N → (r : ℕ) → Rounds M r → Rounds N r
agree_rounds M N c a r x = record {
  rests = agree_rests M N c a r x.rests;
  least = λ k h f. x.least k h (agree_rests N M (agree_closed M N c a) (agree_flip M N a) k f);
}

pub agree_aside : (M M' N N' : Machine) → SameMoves M M' → SameMoves N N' → SameMoves (aside M N) (aside M' N')
agree_aside M M' N N' a d = record {
  states = omega (arith, a.states, d.states);
  next = λ q b h k. next q b h k (split q M.states);
  marks = λ q h. marks q h (split q M.states);
}
  where
    next : (q b : ℕ) → q < M.states + N.states → b < byte_values → (q < M.states) ⊎ (M.states ≤ q) → (aside M N).next q b ≡ (aside M' N').next q b
    next q b h k (inl x) = rw ((below q M.states).full x, (below q M'.states).full (omega (arith, a.states))) (a.next q b x k)
    next q b h k (inr x) =
        rw (not_below q M.states x, not_below q M'.states (omega (arith, a.states)), ← a.states)
        (ap (λ (n : ℕ). M.states + n) (d.next (q - M.states) b (omega arith) k))

    marks : (q : ℕ) → q < M.states + N.states → (q < M.states) ⊎ (M.states ≤ q) → (aside M N).accepts q ≡ (aside M' N').accepts q
    marks q h (inl x) = rw ((below q M.states).full x, (below q M'.states).full (omega (arith, a.states))) (a.marks q x)
    marks q h (inr x) =
        rw (not_below q M.states x, not_below q M'.states (omega (arith, a.states)), ← a.states)
        (d.marks (q - M.states) (omega arith))

module _ (M M' N N' : Machine) (m : Closed M) (n : Closed N) (a : SameMoves M M') (d : SameMoves N N') where
  pub agree_equal : Same M 0 N 0 → Same M' 0 N' 0
  agree_equal e w g = sym (agree_same M M' m a 0 m.some w g) ∙ e w g ∙ agree_same N N' n d 0 n.some w g

  agree_separates : (w : List ℕ) → Separates M N w → Separates M' N' w
  agree_separates w s = record {
    bytes = s.bytes;
    differ = λ e. s.differ (agree_same M M' m a 0 m.some w s.bytes ∙ e ∙ sym (agree_same N N' n d 0 n.some w s.bytes));
  }

pub agree_separation : (M M' N N' : Machine) → Closed M → Closed N → SameMoves M M' → SameMoves N N' → (w : List ℕ) → Separation M N w → Separation M' N' w
agree_separation M M' N N' m n a d w s = record {
  separates = agree_separates M M' N N' m n a d w s.separates;
  shortest = λ v z. s.shortest v (back v z);
  first = λ i c v h k e z. s.first i c v h k e (back (take i w ++ (c ∷ v)) z);
}
  where
    back : (v : List ℕ) → Separates M' N' v → Separates M N v
    back = agree_separates M' M N' N (agree_closed M M' m a) (agree_closed N N' n d) (agree_flip M M' a) (agree_flip N N' d)
