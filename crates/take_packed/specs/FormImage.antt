-- What unpacking reads from the bytes f of a form.
--   form_bit f: the bits of the bytes f, 0 past the end
--   Image f m: the fields of f stand in the room m, and what is in no field is as in a sound room
--   Imageless f: there is no such room
--   Formless f: f is the form of no sound room
--   HeadNames n k f: the head of f names n states and k classes
--   FormShaped n k f: besides, f begins with the form's number, has the length of such a form, and zero bits to fill it
--   ShapeJudged n k f r: f has that shape if r is true, and no image if r is false
--   BlankRoom n k old new: a room with this head, and 0 elsewhere
--   UnpacksFields r f old new: what `unpack_fields` answers, and what the room holds then
use Rattle.std.specs.Prelude.{ℕ, ◌+◌, ◌-◌, ◌/◌, ◌≤◌, ◌<◌, ◌≡◌, Bool, true, false, List, length, get_or}
use Rattle.scope.specs.Limits.{byte_values, class_limit, state_limit, classes_at, ways_at, room_bytes}
use Rattle.scope.specs.Machines.Room.{states_of, classes_of, SoundTable}
use Rattle.scope.specs.Packing.PackedForm.{state_bits, fields, FormOf}
use Rattle.scope.specs.Operations.Buffers.{TailKept}
use Rattle.scope.specs.Packing.Laid.{bit_of, Holds, Laid, Framed, end_bit}
use Rattle.packed_bits.specs.PackedFields.{bits_of}

abbrev pub form_bit : List ℕ → ℕ → ℕ
form_bit f = bit_of (fields 8 f)

pub record Image (f m : List ℕ) : Type 0 where
  pub long : room_bytes ≤ length m
  pub bytes : (i : ℕ) → get_or f i 0 < byte_values
  pub size : length f ≡ (end_bit m + 7) / 8
  pub laid : Laid (form_bit f) m
  pub framed : Framed m

abbrev pub Imageless : List ℕ → Type 0
Imageless f = (m : List ℕ) → Image f m → ⊥

abbrev pub Formless : List ℕ → Type 0
Formless f = (m : List ℕ) → SoundTable m → FormOf m f → ⊥

pub record HeadNames (n k : ℕ) (f : List ℕ) : Type 0 where
  pub some_state : 1 ≤ n
  pub few_states : n ≤ state_limit
  pub some_class : 1 ≤ k
  pub few_classes : k ≤ class_limit
  pub states : Holds (form_bit f) 4 state_bits (n - 1)
  pub classes : Holds (form_bit f) (4 + state_bits) 6 (k - 1)

pub record FormShaped (n k : ℕ) (f : List ℕ) : Type 0 where
  pub named : HeadNames n k f
  pub bytes : (i : ℕ) → get_or f i 0 < byte_values
  pub number : Holds (form_bit f) 0 4 1
  pub size : length f ≡ (bits_of n k + 7) / 8
  pub rest : (j : ℕ) → bits_of n k ≤ j → form_bit f j ≡ 0

pub record ShapeJudged (n k : ℕ) (f : List ℕ) (r : Bool) : Type 0 where
  pub yes : r ≡ true → FormShaped n k f
  pub no : r ≡ false → Imageless f

pub record BlankRoom (n k : ℕ) (old new : List ℕ) : Type 0 where
  pub tail : TailKept ways_at old new
  pub states : states_of new ≡ n
  pub classes : classes_of new ≡ k
  pub zero : (i : ℕ) → i < ways_at → classes_at ≤ i → get_or new i 0 ≡ 0

pub record UnpacksFields (r : Bool) (f old new : List ℕ) : Type 0 where
  pub tail : TailKept ways_at old new
  pub yes : r ≡ true → Image f new
  pub no : r ≡ false → Imageless f
  pub kept : r ≡ false → new ≡ old
