-- Booleans that decide. The laws between a notion and its test say it in this way.
--   Tests b A: b is true exactly if A holds
use Rattle.std.specs.Prelude.{◌≡◌, Bool, true}

pub record Tests (b : Bool) (A : Type 0) : Type 0 where
  pub sound : b ≡ true → A
  pub full : A → b ≡ true
