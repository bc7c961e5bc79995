-- Kinds of bytes: two bytes are of one kind exactly if they have one class in the room a and one in the room b. Kinds are numbered by their least byte.
--   pair_of a b x: the two classes of the byte x, as one number
--   KindsOf a b kind least count: the kinds of the bytes: kind has the kind of each byte, least the least byte of each kind
--   Kinds a b least count: so for some list of the kind of each byte, in an array that has a place for every byte
--   EachKind next least: least has a byte of each kind: each byte leads every state where one of them does
--   LevelStretch m x e: each byte from x up to e has the class of the byte before it, in the room m; stretch: so many bytes are passed over at once where they are level
--   Most a b most: there are at most `most` kinds: the bytes have numbers below it, and those with one number are of one kind
--   Column m least column count: column has the class of the least byte of each kind in the room m
use Rattle.std.specs.Prelude.{ℕ, ◌+◌, ◌-◌, ◌*◌, ◌≤◌, ◌<◌, ◌≡◌, List, length, get_or, replicate}
use Rattle.scope.specs.Limits.{byte_values, class_limit}
use Rattle.scope.specs.Machines.Room.{class_of}
use Rattle.scope.specs.Operations.Buffers.{Written}

abbrev pub pair_of : List ℕ → List ℕ → ℕ → ℕ
pair_of a b x = class_of a x * class_limit + class_of b x

pub record KindsOf (a b kind least : List ℕ) (count : ℕ) : Type 0 where
  pub few : count ≤ byte_values
  pub below : (x : ℕ) → x < byte_values → get_or kind x 0 < count
  pub low : (x : ℕ) → x < byte_values → get_or least (get_or kind x 0) 0 ≤ x
  pub left : (x : ℕ) → x < byte_values → class_of a (get_or least (get_or kind x 0) 0) ≡ class_of a x
  pub right : (x : ℕ) → x < byte_values → class_of b (get_or least (get_or kind x 0) 0) ≡ class_of b x
  pub one : (x y : ℕ) → x < byte_values → y < byte_values → class_of a x ≡ class_of a y → class_of b x ≡ class_of b y → get_or kind x 0 ≡ get_or kind y 0
  pub byte : (i : ℕ) → i < count → get_or least i 0 < byte_values
  pub own : (i : ℕ) → i < count → get_or kind (get_or least i 0) 0 ≡ i
  pub rising : (i j : ℕ) → j < count → i < j → get_or least i 0 < get_or least j 0

pub record Kinds (a b least : List ℕ) (count : ℕ) : Type 0 where
  pub long : length least ≡ byte_values
  pub kind : List ℕ
  pub are : KindsOf a b kind least count

pub record EachKind (next : ℕ → ℕ → ℕ) (least : List ℕ) : Type 0 where
  pub some : (x : ℕ) → x < byte_values → (i : ℕ) × (i < length least) × ((q : ℕ) → next q (get_or least i 0) ≡ next q x)

pub record Most (a b : List ℕ) (most : ℕ) : Type 0 where
  pub number : ℕ → ℕ
  pub below : (x : ℕ) → x < byte_values → number x < most
  pub alike : (x y : ℕ) → x < byte_values → y < byte_values → number x ≡ number y → pair_of a b x ≡ pair_of a b y

abbrev pub stretch : ℕ
stretch = 16

abbrev pub LevelStretch : List ℕ → ℕ → ℕ → Type 0
LevelStretch m x e = (y : ℕ) → y < e → x ≤ y → class_of m y ≡ class_of m (y - 1)

abbrev pub Column : List ℕ → List ℕ → List ℕ → ℕ → Type 0
Column m least column count = Written count (λ j. class_of m (get_or least j 0)) (replicate byte_values 0) column
