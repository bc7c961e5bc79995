-- The classes of a room that some byte has. A step goes by bytes: "a class that no byte has is never read", and leads nowhere.
--   block, blocks: so many bytes are looked at together, and so often
--   Occurs m from to c: one of the elements from `from` up to `to` is c
--   BlockFound m c r: r is a block of bytes with one that has the class c, or none, where no byte has it
--   HeldClasses m l n: the first n of l are the classes that some byte has
use Rattle.std.specs.Prelude.{ℕ, ◌≤◌, ◌<◌, ◌≡◌, List, Option, None, IfSome, length, get_or}
use Rattle.scope.specs.Limits.{byte_values, class_limit, classes_at, marks_at}
use Rattle.scope.specs.Machines.Room.{classes_of, class_of, Below}

abbrev pub block : ℕ
block = 64

abbrev pub blocks : ℕ
blocks = 4

pub record Occurs (m : List ℕ) (from to c : ℕ) : Type 0 where
  pub place : ℕ
  pub high : place < to
  pub low : from ≤ place
  pub is : get_or m place 0 ≡ c

pub record BlockFound (m : List ℕ) (c : ℕ) (r : Option ℕ) : Type 0 where
  pub found : IfSome r (λ b. (b < blocks) × Occurs m classes_at marks_at c)
  pub none : r ≡ None → Occurs m classes_at marks_at c → ⊥

pub record HeldClasses (m l : List ℕ) (n : ℕ) : Type 0 where
  pub size : length l ≡ class_limit
  pub few : n ≤ class_limit
  pub below : Below l 0 n (classes_of m)
  pub byte : (i : ℕ) → i < n → (b : ℕ) × (b < byte_values) × (class_of m b ≡ get_or l i 0)
  pub all : (b : ℕ) → b < byte_values → (i : ℕ) × (i < n) × (get_or l i 0 ≡ class_of m b)
