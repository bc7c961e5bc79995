-- The pattern language, byte by byte. In each family i is the place where the thing begins, and the next number the place after it.
--   twelve, literal, escapable, class_literal: the bytes that 01 names
--   mark_byte m, is_mark: the byte of the mark m; those that are marks
--   hex b: the value of a hex digit; 16 if b is none
--   Escape s i j b: an escape that is the byte b
--   ClassByte s i j b: a byte in a class
--   OneItem, Items: an item of a class; one or more of them
--   Single s i j x: an atom that is one position: literal, escape of a byte, dot, class
--   Reads s l i j t: the bytes i .. j of s are an l with the tree t
-- A family is read forwards and no byte is ever guessed: see `Judge` for the whole text.
use Rattle.std.specs.Prelude.{ℕ, ◌+◌, ◌-◌, ◌*◌, ◌<◌, ◌≡◌, true, not, cond, ◌&&◌, ◌||◌, List, [], ◌∷◌}
use Prim.Native.Char.{code}
use Rattle.scope.specs.Bytes.{ByteSet, byte, between, is_in, ascii}
use Rattle.scope.specs.Text.Tree.{Item, lone, range, Leaf, dot, letter, class, Mark, many, some, maybe, Tree, nothing, empty, position, group, marked, beside, either}

-- "the twelve `( ) | * [ ] { } \ . + ?`"
unfoldable pub twelve : ByteSet
unfolding is_in
twelve b = is_in (ascii "()|*[]{}\\.+?") b

-- "Literal: a byte 0x20 to 0x7E, except the twelve"
unfoldable pub literal : ByteSet
unfolding between twelve
literal b = between 0x20 0x7E b && not (twelve b)

-- "Escape: `\` and then one of the twelve, `^` or `-` (that byte)"
unfoldable pub escapable : ByteSet
unfolding is_in twelve
escapable b = twelve b || is_in (ascii "^-") b

-- "0x20 to 0x7E except `[ ] \ - ^`"
unfoldable pub class_literal : ByteSet
unfolding between is_in
class_literal b = between 0x20 0x7E b && not (is_in (ascii "[]\\-^") b)

-- 02, C-11: "`+` and `?` after a factor, as `*` is"
abbrev pub mark_byte : Mark → ℕ
mark_byte many = code "*"
mark_byte some = code "+"
mark_byte maybe = code "?"

-- the bytes of the three marks
unfoldable pub is_mark : ByteSet
unfolding is_in
is_mark b = is_in (ascii "*+?") b

-- "hex digits of either case"
unfoldable pub hex : ℕ → ℕ
unfolding between
hex b =
    cond (between (code "0") (code "9") b) (b - code "0")
    (cond (between (code "A") (code "F") b) (b - code "A" + 10) (cond (between (code "a") (code "f") b) (b - code "a" + 10) 16))

module _ (s : List ℕ) where
  pub data Escape : ℕ → ℕ → ℕ → Type 0 where
    plain : {i : ℕ} → byte s i ≡ code "\\" → escapable (byte s (i + 1)) ≡ true → Escape i (i + 2) (byte s (i + 1))
    -- "`\x` and two hex digits of either case (that byte)"
    coded : {i : ℕ} → byte s i ≡ code "\\" → byte s (i + 1) ≡ code "x" → hex (byte s (i + 2)) < 16 → hex (byte s (i + 3)) < 16
        → Escape i (i + 4) (hex (byte s (i + 2)) * 16 + hex (byte s (i + 3)))

  -- "A byte in a class is 0x20 to 0x7E except `[ ] \ - ^`, or an escape other than `\e` and `\0`."
  pub data ClassByte : ℕ → ℕ → ℕ → Type 0 where
    bare : {i : ℕ} → class_literal (byte s i) ≡ true → ClassByte i (i + 1) (byte s i)
    escaped : {i j b : ℕ} → Escape i j b → ClassByte i j b

  -- "An item is a byte or a range low_high."
  pub data OneItem : ℕ → ℕ → Item → Type 0 where
    one_byte : {i j b : ℕ} → ClassByte i j b → OneItem i j (lone b)
    low_high : {i j k low high : ℕ} → ClassByte i j low → byte s j ≡ code "-" → ClassByte (j + 1) k high → OneItem i k (range low high j)

  -- "one or more items"
  pub data Items : ℕ → ℕ → List Item → Type 0 where
    last_item : {i j : ℕ} {x : Item} → OneItem i j x → Items i j (x ∷ [])
    more_items : {i j k : ℕ} {x : Item} {l : List Item} → OneItem i j x → Items j k l → Items i k (x ∷ l)

  -- "otherwise it is `.`, a class, a literal or an escape"
  pub data Single : ℕ → ℕ → Leaf → Type 0 where
    a_dot : {i : ℕ} → byte s i ≡ code "." → Single i (i + 1) dot
    a_literal : {i : ℕ} → literal (byte s i) ≡ true → Single i (i + 1) (letter (byte s i))
    an_escape : {i j b : ℕ} → Escape i j b → Single i j (letter b)
    -- "Class: `[`, one or more items, `]`."
    a_class : {i j : ℕ} {l : List Item} → byte s i ≡ code "[" → Items (i + 1) j l → byte s j ≡ code "]" → Single i (j + 1) (class l)

pub data Level : Type 0 where
  atoms factors branches exprs : Level

module _ (s : List ℕ) where
  pub data Reads : Level → ℕ → ℕ → Tree → Type 0 where
    single : {i j : ℕ} {x : Leaf} → Single s i j x → Reads atoms i j (position i x)
    -- "`\e` (the empty word); `\0` (no word at all)"
    no_byte : {i : ℕ} → byte s i ≡ code "\\" → byte s (i + 1) ≡ code "e" → Reads atoms i (i + 2) empty
    no_word : {i : ℕ} → byte s i ≡ code "\\" → byte s (i + 1) ≡ code "0" → Reads atoms i (i + 2) nothing
    -- "An atom may be an expression again, in parentheses"
    in_group : {i j : ℕ} {t : Tree} → byte s i ≡ code "(" → Reads exprs (i + 1) j t → byte s j ≡ code ")" → Reads atoms i (j + 1) (group i t)
    -- "A factor is an atom and then any number of `*`." 02, C-11: of `+` and `?` too, "mixed in any number"
    one_atom : {i j : ℕ} {t : Tree} → Reads atoms i j t → Reads factors i j t
    one_mark : {i j : ℕ} {t : Tree} (m : Mark) → Reads factors i j t → byte s j ≡ mark_byte m → Reads factors i (j + 1) (marked m t)
    -- "A branch is one or more factors, side by side."
    one_factor : {i j : ℕ} {t : Tree} → Reads factors i j t → Reads branches i j t
    next_factor : {i j k : ℕ} {t u : Tree} → Reads branches i j t → Reads factors j k u → Reads branches i k (beside t u)
    -- "An expression is one or more branches joined by `|`."
    one_branch : {i j : ℕ} {t : Tree} → Reads branches i j t → Reads exprs i j t
    next_branch : {i j k : ℕ} {t u : Tree} → Reads exprs i j t → byte s j ≡ code "|" → Reads branches (j + 1) k u → Reads exprs i k (either t u)
