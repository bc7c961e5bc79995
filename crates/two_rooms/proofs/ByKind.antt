-- Kinds of bytes, found in one pass: a byte is of a new kind exactly if no least byte of a kind so far has its classes. So they are numbered on first arrival.
--   class_small, pair_one: classes are below 64, so a pair of them is one number
--   Numbering: the bytes below e are numbered by their kinds
--   KindsPassed, passed_first, passed_same, passed_level, passed_old, passed_new, passed_full, passed_all: the pass, its turns, and where it ends
--   passed_byte, passed_few: the least bytes so far are bytes that were passed, and so many
--   known_some, known_none: the first least bytes have one of which P holds, or none
--   column_part: the column of the first kinds, where only their least bytes were looked at
--   most_bytes, most_classes: there are at most 256 kinds; for one room at most as many as classes
--   least_bytes: they are bytes
--   kind_next, each_kind, kind_before: a byte leads where the least byte of its kind does; so a part of the array that has them all has a byte of each kind; a byte below it is of a smaller kind
use Prim.Native.Nat.{ℕ, zero, suc, ◌+◌, ◌-◌, ◌≤◌, ◌<◌}
use mathlib.Core.Path.{◌≡◌, refl, sym, ap, ◌∙◌}
use mathlib.Core.Logic.{◌⊎◌, inl, inr}
use mathlib.Core.List.{List}
use native.Mathlib.Omega.{arith}
use native.Mathlib.Decide.{ℕ_discrete}
use lib.Seq.{get_or-set_same, get_or-set_other, length-take-le, get_or-take}
use lib.ListN.{length, take, get_or, set, replicate, length-set}
use Rattle.std.specs.List.{Any}
use Rattle.std.proofs.lemmas.List.{get_or_default}
use Rattle.scope.specs.Limits.{byte_values, class_limit, classes_at}
use Rattle.scope.specs.Machines.Room.{classes_of, class_of, next_of, Below, SoundTable}
use Rattle.scope.proofs.Counting.Tests.{split}
use Rattle.scope.proofs.Counting.Lists.{zeros}
use Rattle.buffers.specs.Numbered.{Came, Numbered}
use Rattle.buffers.proofs.Numbered.{numbered_none, numbered_old, numbered_new, numbered_one, numbered_few, numbered_fewer}
use Rattle.two_rooms.specs.Side.{both}
use Rattle.two_rooms.specs.Kinds.{pair_of, stretch, LevelStretch, KindsOf, Kinds, EachKind, Most, Column}

-- a byte's class is below 64
pub class_small : (m : List ℕ) (x : ℕ) → SoundTable m → x < byte_values → class_of m x < class_limit
class_small m x s h = omega (arith, s.classes (classes_at + x) (omega arith) (omega arith), s.few_classes)

-- one pair, the same two classes
pair_one : (a b : List ℕ) (x y : ℕ) → SoundTable b → x < byte_values → y < byte_values → pair_of a b x ≡ pair_of a b y → (class_of a x ≡ class_of a y) × (class_of b x ≡ class_of b y)
pair_one a b x y t hx hy e = omega (arith, class_small b x t hx, class_small b y t hy)

-- ---- the kinds are numbers, and their least bytes lead them

-- one class in each room
abbrev Like : List ℕ → List ℕ → ℕ → ℕ → Type 0
Like a b x y = pair_of a b x ≡ pair_of a b y

-- the bytes below e are numbered by their kinds
abbrev pub Numbering : List ℕ → List ℕ → List ℕ → List ℕ → ℕ → ℕ → Type 0
Numbering a b kind least count e = Numbered (Like a b) (λ x. x) (λ x. get_or kind x 0) (λ i. get_or least i 0) 0 count e

module _ (a b kind least : List ℕ) {count e : ℕ} (n : Numbering a b kind least count e) where
  -- the least bytes are among those that were read
  byte : (i : ℕ) → i < count → get_or least i 0 < e
  byte i l = let c = n.came i l (omega arith) in omega (arith, c.inside, c.leads)

  -- so there are at most as many kinds
  few : count ≤ e
  few = numbered_few n e (λ x. x) byte (λ v w h l q. rw q refl)

-- the kinds of all bytes
kinds_of : (a b kind least : List ℕ) {count : ℕ} → SoundTable b → Numbering a b kind least count byte_values → KindsOf a b kind least count
kinds_of a b kind least {count} t n = record {
  few = few a b kind least n;
  below = n.below;
  low = λ x h. let c = came (get_or kind x 0) (n.below x h) in elim (split x c.thing) [ inl l ↦ absurd (omega (arith, c.earlier x l)) | inr l ↦ omega (arith, c.leads) ];
  left = λ x h. (like x h).0;
  right = λ x h. (like x h).1;
  one = λ x y h l c d. (numbered_one n (λ p q e. sym e) (λ p q r e f. e ∙ f) x y h l).1 (rw (c, d) refl);
  byte = byte a b kind least n;
  own = own;
  rising = λ i j l m. elim (split (get_or least i 0) (get_or least j 0)) [
    | inl y ↦ y
    | inr y ↦ elim (split (get_or least j 0) (get_or least i 0)) [
      | inl z ↦ (let c = came i (omega arith) in absurd (omega (arith, c.earlier (get_or least j 0) (omega (arith, c.leads)), own j l)))
      | inr z ↦ (let q : get_or least i 0 ≡ get_or least j 0 = omega arith in absurd (omega (arith, own i (omega arith), own j l, ap (λ (x : ℕ). get_or kind x 0) q)))
    ]
  ];
}
  where
    came : (i : ℕ) → i < count → Came (λ x. x) (λ x. get_or kind x 0) (λ i. get_or least i 0) i byte_values
    came i l = n.came i l (omega arith)

    like : (x : ℕ) → x < byte_values → (class_of a (get_or least (get_or kind x 0) 0) ≡ class_of a x) × (class_of b (get_or least (get_or kind x 0) 0) ≡ class_of b x)
    like x h = pair_one a b (get_or least (get_or kind x 0) 0) x t (byte a b kind least n (get_or kind x 0) (n.below x h)) h (n.like x h)

    own : (i : ℕ) → i < count → get_or kind (get_or least i 0) 0 ≡ i
    own i l = let c = came i l in rw c.leads at c.own

-- ---- the pass

-- the pass has come to the byte x, and the byte before x has the classes `last`
pub record KindsPassed (a b least : List ℕ) (count last x : ℕ) : Type 0 where
  pub kind : List ℕ
  pub kind_long : length kind ≡ byte_values
  pub least_long : length least ≡ byte_values
  pub numbered : Numbering a b kind least count x
  pub before : ℕ
  pub is_before : before + 1 ≡ x
  pub classes : last ≡ pair_of a b before

-- the byte 0 is of the kind 0
pub passed_first : (a b : List ℕ) (p : ℕ) → p ≡ pair_of a b 0 → KindsPassed a b (replicate byte_values 0) 1 p 1
passed_first a b p e = record {
  kind = replicate byte_values 0;
  kind_long = refl;
  least_long = refl;
  numbered = numbered_new none (λ x. x) zero zero (λ x h. refl) (λ x h. refl) (λ v h. refl) (zeros byte_values 0) (zeros byte_values 0) refl (λ v h. absurd (omega arith));
  before = 0;
  is_before = refl;
  classes = e;
}
  where
    zero : ℕ → ℕ
    zero x = get_or (replicate byte_values 0) x 0

    none : Numbered (Like a b) (λ x. x) zero zero 0 0 0
    none = numbered_none (omega arith)

module _ {a b least : List ℕ} {count last x : ℕ} (g : KindsPassed a b least count last x) where
  -- the least bytes are bytes that were passed
  pub passed_byte : (i : ℕ) → i < count → get_or least i 0 < x
  passed_byte = byte a b g.kind least g.numbered

  -- and there are at most as many kinds
  pub passed_few : count ≤ x
  passed_few = few a b g.kind least g.numbered

  -- all bytes are passed
  pub passed_all : SoundTable b → x ≡ byte_values → Kinds a b least count
  passed_all t e = record { long = g.least_long; kind = g.kind; are = kinds_of a b g.kind least t (rw e at g.numbered) }

-- p: the classes of x
module _ (a b least : List ℕ) (count last x p : ℕ) (h : x < byte_values) (g : KindsPassed a b least count last x) (e : p ≡ pair_of a b x) where
  at : (v : ℕ) → get_or (set g.kind x v) x 0 ≡ v
  at v = get_or-set_same g.kind x v 0 (omega (arith, g.kind_long))

  off : (v z : ℕ) → z < x → get_or (set g.kind x v) z 0 ≡ get_or g.kind z 0
  off v z l = get_or-set_other g.kind x z v 0 (λ q. omega arith)

  -- x is of the kind of y
  like : (y : ℕ) → y < x → pair_of a b y ≡ p → KindsPassed a b least count p (x + 1)
  like y l m = let i = get_or g.kind y 0 in
      record {
        kind = set g.kind x i;
        kind_long = length-set g.kind x i ∙ g.kind_long;
        least_long = g.least_long;
        numbered = numbered_old g.numbered (λ z. z) (λ z. get_or (set g.kind x i) z 0) (λ v. get_or least v 0) (λ z q. refl) (off i) (λ v q. refl)
            (rw (at i) (g.numbered.below y l)) (rw (at i) (g.numbered.like y l ∙ m ∙ e));
        before = x;
        is_before = refl;
        classes = e;
      }

  -- it has the classes of the byte before it
  pub passed_same : p ≡ last → KindsPassed a b least count last (x + 1)
  passed_same m = rw (← m) (like g.before (omega (arith, g.is_before)) (sym g.classes ∙ sym m))

  -- or those of the kind i
  pub passed_old : (i : ℕ) → i < count → pair_of a b (get_or least i 0) ≡ p → KindsPassed a b least count p (x + 1)
  passed_old i l = like (get_or least i 0) (passed_byte g i l)

  -- or is of a new kind
  pub passed_new : ((i : ℕ) → i < count → pair_of a b (get_or least i 0) ≡ p → ⊥) → KindsPassed a b (set least count x) (count + 1) p (x + 1)
  passed_new f = record {
    kind = set g.kind x count;
    kind_long = length-set g.kind x count ∙ g.kind_long;
    least_long = length-set least count x ∙ g.least_long;
    numbered = numbered_new g.numbered (λ z. z) (λ z. get_or (set g.kind x count) z 0) (λ v. get_or (set least count x) v 0) (λ z q. refl) (off count)
        (λ v l. get_or-set_other least count v x 0 (λ q. omega arith)) (at count) (get_or-set_same least count x 0 (omega (arith, g.least_long, passed_few g))) refl
        (λ v l m. f v l (m ∙ sym e));
    before = x;
    is_before = refl;
    classes = e;
  }

module _ (P : ℕ → Type 0) (least : List ℕ) {count : ℕ} (h : count ≤ length least) where
  -- P holds of one of the first least bytes
  pub known_some : Any P (take count least) → (i : ℕ) × (i < count) × P (get_or least i 0)
  known_some (i, x, l, e, p) = let k : i < count = omega (arith, length-take-le count least h) in
      (i, k, rw (← get_or_default least i x 0 (omega arith), ← get_or-take count least i x k, e) p)

  -- or of none
  pub known_none : (Any P (take count least) → ⊥) → (i : ℕ) → i < count → P (get_or least i 0) → ⊥
  known_none n i l p = let x = get_or least i 0 in n (i, x, omega (arith, length-take-le count least h), get_or-take count least i x l ∙ get_or_default least i x 0 (omega arith), p)

-- only the least bytes of the kinds are looked at for their column
pub column_part : (m least : List ℕ) {column : List ℕ} {count : ℕ} → count ≤ length least → Column m (take count least) column (length (take count least)) → Column m least column count
column_part m least {column} {count} h w =
    let e = length-take-le count least h in
    record {
      size = w.size;
      inside = λ j l. w.inside j (omega (arith, e)) ∙ ap (λ (x : ℕ). class_of m x) (get_or-take count least j 0 l);
      outside = λ j l. w.outside j (omega (arith, e));
    }

module _ (a b least : List ℕ) (count : ℕ) where
  level_on : (d : ℕ) (last x : ℕ) → x + d ≤ byte_values → KindsPassed a b least count last x → LevelStretch a x (x + d) → LevelStretch b x (x + d) → KindsPassed a b least count last (x + d)
  level_on zero last x h g l r = (let z : x + 0 ≡ x = omega arith in rw z g)
  level_on (suc d) last x h g l r =
      let e : x - 1 ≡ g.before = omega (arith, g.is_before) in
      let z : x + suc d ≡ x + 1 + d = omega arith in
      let same : last ≡ pair_of a b x = g.classes ∙ rw (l x (omega arith) (omega arith), r x (omega arith) (omega arith), e) refl in
      rw z (level_on d last (x + 1) (omega arith) (passed_same a b least count last x last (omega arith) g same refl) (λ y i k. l y (omega arith) (omega arith)) (λ y i k. r y (omega arith) (omega arith)))

  -- a stretch that is level in both rooms: all are of the kind of the byte before it
  pub passed_level : {last x : ℕ} → x + stretch ≤ byte_values → KindsPassed a b least count last x → LevelStretch a x (x + stretch) → LevelStretch b x (x + stretch) → KindsPassed a b least count last (x + stretch)
  passed_level {last} {x} = level_on stretch last x

-- a kind of x, or that none has its classes
seek : (a b least : List ℕ) (count x : ℕ) → ((i : ℕ) × (i < count) × (pair_of a b (get_or least i 0) ≡ pair_of a b x)) ⊎ ((i : ℕ) → i < count → pair_of a b (get_or least i 0) ≡ pair_of a b x → ⊥)
seek a b least zero x = inr (λ i h. absurd (omega arith))
seek a b least (suc count) x = elim (seek a b least count x) [
  | inl (i, h, e) ↦ inl (i, omega arith, e)
  | inr n ↦ elim (ℕ_discrete (pair_of a b (get_or least count 0)) (pair_of a b x)) [
    | yes e ↦ inl (count, omega arith, e)
    | no m ↦ inr (λ i h e. elim (split i count) [ inl l ↦ n i l e | inr l ↦ (let z : i ≡ count = omega arith in m (rw z at e)) ])
  ]
]

module _ (a b : List ℕ) (most : ℕ) (t : SoundTable b) (m : Most a b most) (least : List ℕ) (count : ℕ) (full : most ≤ count) where
  -- where there are as many kinds as there can be, a byte more is of one of them
  known : (last x : ℕ) → x < byte_values → KindsPassed a b least count last x → (i : ℕ) × (i < count) × (pair_of a b (get_or least i 0) ≡ pair_of a b x)
  known last x h g = elim (seek a b least count x) [
    | inl w ↦ w
    | inr n ↦ absurd (omega (
      arith,
      numbered_fewer g.numbered most m.number (λ i l. m.below (get_or least i 0) (is_byte i l))
          (λ i j l k. m.alike (get_or least i 0) (get_or least j 0) (is_byte i l) (is_byte j k)) x (m.below x h) (λ i l q. n i l (m.alike (get_or least i 0) x (is_byte i l) h q)),
    ))
  ]
    where
      is_byte : (i : ℕ) → i < count → get_or least i 0 < byte_values
      is_byte i l = omega (arith, passed_byte g i l)

  rest : (d last x : ℕ) → x + d ≡ byte_values → KindsPassed a b least count last x → Kinds a b least count
  rest zero last x e g = passed_all g t (omega arith)
  rest (suc d) last x e g =
      let h : x < byte_values = omega arith in
      let (i, l, w) = known last x h g in
      rest d (pair_of a b x) (x + 1) (omega arith) (like a b least count last x (pair_of a b x) h g refl (get_or least i 0) (passed_byte g i l) w)

  -- so the pass can stop there
  pub passed_full : {last x : ℕ} → x ≤ byte_values → KindsPassed a b least count last x → Kinds a b least count
  passed_full {last} {x} h g = rest (byte_values - x) last x (omega arith) g

-- there are at most as many kinds as bytes
pub most_bytes : (a b : List ℕ) → Most a b byte_values
most_bytes a b = record { number = λ x. x; below = λ x h. h; alike = λ x y h l e. rw e refl }

-- and for one room at most as many as classes
pub most_classes : {a : List ℕ} → SoundTable a → Most a a (classes_of a)
most_classes {a} s = record { number = class_of a; below = λ x h. s.classes (classes_at + x) (omega arith) (omega arith); alike = λ x y h l e. rw e refl }

-- ---- for whoever goes over the least bytes

-- they are bytes
pub least_bytes : {a b least : List ℕ} {count : ℕ} → Kinds a b least count → (count ≤ byte_values) × Below least 0 count byte_values
least_bytes k = (k.are.few, λ i h g. k.are.byte i h)

module _ (a b kind least : List ℕ) (count : ℕ) (k : KindsOf a b kind least count) (x : ℕ) (h : x < byte_values) where
  -- a byte leads where the least byte of its kind does
  pub kind_next : (q : ℕ) → (both a b).next q (get_or least (get_or kind x 0) 0) ≡ (both a b).next q x
  unfolding next_of
  kind_next q = rw (k.left x h, k.right x h) refl

-- so a part of the array that has them all has a byte of each kind
pub each_kind : {a b least : List ℕ} {count : ℕ} → Kinds a b least count → (m : ℕ) → count ≤ m → m ≤ byte_values → EachKind (both a b).next (take m least)
each_kind {a} {b} {least} {count} k m l h = record {
  some = λ x g. let i = k.are.below x g in (
    get_or k.kind x 0,
    omega (arith, i, length-take-le m least (omega (arith, k.long))),
    λ q. rw (get_or-take m least (get_or k.kind x 0) 0 (omega (arith, i))) (kind_next a b k.kind least count k.are x g q),
  );
}

-- a byte below the least byte of a kind is of a smaller kind
pub kind_before : {a b kind least : List ℕ} {count : ℕ} → KindsOf a b kind least count → (x i : ℕ) → i < count → x < get_or least i 0 → get_or kind x 0 < i
kind_before {kind = kind} {least = least} k x i l m = elim (split (get_or kind x 0) i) [
  | inl y ↦ y
  | inr y ↦ elim (split i (get_or kind x 0)) [
    | inl z ↦ absurd (omega (arith, k.rising i (get_or kind x 0) (k.below x h) z, k.low x h))
    | inr z ↦ (let e : get_or kind x 0 ≡ i = omega arith in absurd (omega (arith, rw e at (k.low x h))))
  ]
]
  where
    h : x < byte_values
    h = omega (arith, k.byte i l)
