-- A state has one way home, and states with the same strings have the same.
--   way_one: a state has one way home
--   way_same: states with the same strings have the same
use Prim.Native.Nat.{ℕ}
use mathlib.Core.Path.{◌≡◌, refl, sym, ◌∙◌}
use mathlib.Core.List.{List}
use native.Mathlib.Omega.{arith}
use Rattle.scope.specs.Machines.Machine.{Machine, Same}
use Rattle.scope.specs.Machines.Ways.{Home, Way, fewest, none}

pub way_one : {M : Machine} {q d e : ℕ} → Way M q d → Way M q e → d ≡ e
way_one (fewest x) (fewest y) = omega (arith, x.least y.word y.home, y.least x.word x.home, x.long, y.long)
way_one (fewest x) (none y) = absurd (y x.word x.home)
way_one (none x) (fewest y) = absurd (x y.word y.home)
way_one (none x) (none y) = refl

pub way_same : {M N : Machine} {p q d : ℕ} → Same M p N q → Way M p d → Way N q d
way_same {M} {N} {p} {q} s = go
  where
    there : (w : List ℕ) → Home M p w → Home N q w
    there w x = record { bytes = x.bytes; accepted = sym (s w x.bytes) ∙ x.accepted }

    back : (w : List ℕ) → Home N q w → Home M p w
    back w x = record { bytes = x.bytes; accepted = s w x.bytes ∙ x.accepted }

    go : {d : ℕ} → Way M p d → Way N q d
    go (fewest x) = fewest (record { word = x.word; home = there x.word x.home; long = x.long; least = λ w z. x.least w (back w z) })
    go (none y) = none (λ w z. y w (back w z))
