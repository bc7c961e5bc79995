-- Minimising is determined: the conditions exclude one another, and two canonical rooms for the same strings have the same bytes. So a canonical room is
-- minimised to itself, and no complete machine for the same strings has fewer states than what minimising writes.
--   determined: two results of one call are equal, with every byte of every buffer
--   canonical_stays: minimising a canonical room changes no byte of it
--   minimised_least: what minimising writes is least
use Prim.Native.Nat.{ℕ, ◌≤◌}
use mathlib.Core.Path.{◌≡◌, refl, sym, ◌∙◌}
use mathlib.Core.List.{List}
use Rattle.scope.specs.Answers.{DONE}
use Rattle.scope.specs.Machines.Machine.{Machine, Equal, Closed}
use Rattle.scope.specs.Machines.Room.{states_of, machine, SameBytes}
use Rattle.scope.specs.Machines.Canonical.{Canonical}
use Rattle.scope.specs.Operations.Minimise.{Minimises, no_room, no_form, minimised}
use Rattle.scope.proofs.Operations.Buffers.{cleared_one, untouched_one, tail_one}
use Rattle.scope.proofs.Machines.Unique.{unique}
use Rattle.scope.proofs.Machines.Least.{least}

-- two results of one call: the numbers, the rooms, the scratch
module _ {from room u v bytes b c words w x : List ℕ} where
  pub determined : {i j : ℕ} → Minimises from room u bytes b words w i → Minimises from room v bytes c words x j → (i ≡ j) × (u ≡ v) × (b ≡ c) × (w ≡ x)
  determined (no_room h k t) (no_room h' k' t') = let z = untouched_one t t' in (refl, k ∙ sym k', z.0, z.1)
  determined (no_room h k t) (no_form l' f' k' t') = absurd (h l')
  determined (no_room h k t) (minimised l' s' n' e' k' t') = absurd (h l')
  determined (no_form l f k t) (no_room h' k' t') = absurd (h' l)
  determined (no_form l f k t) (no_form l' f' k' t') = let z = cleared_one t t' in (refl, k ∙ sym k', z.0, z.1)
  determined (no_form l f k t) (minimised l' s' n' e' k' t') = absurd (f s')
  determined (minimised l s n e k t) (no_room h' k' t') = absurd (h' l)
  determined (minimised l s n e k t) (no_form l' f' k' t') = absurd (f' s)
  determined (minimised l s n e k t) (minimised l' s' n' e' k' t') =
      let z = cleared_one t t' in
      (refl, tail_one k k' (unique u v n n' (λ w g. sym (e w g) ∙ e' w g)), z.0, z.1)

-- minimising a canonical room writes its own bytes
pub canonical_stays : {from room room' bytes bytes' words words' : List ℕ} → Canonical from → Minimises from room room' bytes bytes' words words' DONE → SameBytes from room'
canonical_stays {from} {room' = room'} c (minimised l s n e k t) = unique from room' c n e

-- no complete machine for the same strings has fewer states
pub minimised_least : {from room room' bytes bytes' words words' : List ℕ} → Minimises from room room' bytes bytes' words words' DONE
    → (N : Machine) → Closed N → Equal (machine from) N → states_of room' ≤ N.states
minimised_least {room' = room'} (minimised l s n e k t) N c f = least room' N n.table c (λ w g. sym (e w g) ∙ f w g)
