-- What unpacking knows of the image that it made in the scratch.
--   no_image, not_canonical: bytes that have no image, or one whose table is not canonical, are the form of no canonical room
--   copied, with_ways: a room with the table of an image, and with its ways home
--   adopted_canonical, adopted_form: it is the canonical room whose form the bytes are
use Prim.Native.Nat.{ℕ, ◌≤◌}
use mathlib.Core.Path.{sym, ◌∙◌}
use mathlib.Core.List.{List}
use native.Mathlib.Omega.{arith}
use lib.ListN.{length, get_or}
use Rattle.scope.specs.Limits.{ways_at, room_bytes}
use Rattle.scope.specs.Machines.Room.{SoundTable, SameTables}
use Rattle.scope.specs.Machines.Canonical.{CanonicalTable, Canonical}
use Rattle.scope.specs.Packing.PackedForm.{FormOf}
use Rattle.scope.specs.Operations.Buffers.{Written}
use Rattle.scope.proofs.Machines.Moved.{table_moved, canonical_table_moved}
use Rattle.take_packed.specs.FormImage.{Image, Imageless}
use Rattle.take_packed.proofs.FormImage.{image_form, image_sound, image_canonical, formless, form_moved}
use Rattle.way_writing.specs.WaysWritten.{WaysWritten}
use Rattle.packing.specs.Adopted.{Adopted}

-- the bytes f are the form of no canonical room
abbrev pub Refused : List ℕ → Type 0
Refused f = (m : List ℕ) → Canonical m → FormOf m f → ⊥

-- there is no image
pub no_image : {f : List ℕ} → Imageless f → Refused f
no_image h m c u = formless h m c.sound.table u

-- the image's table is not sound and canonical
pub not_canonical : {f b : List ℕ} → Image f b → (SoundTable b × CanonicalTable b → ⊥) → Refused f
not_canonical i h m c u = h (image_sound i c.sound.table u, image_canonical i c.sound.table c.table u)

-- the table of the image, copied
pub copied : {b room room' : List ℕ} → SoundTable b → room_bytes ≤ length room → Written ways_at (λ i. get_or b i 0) room room' → SameTables b room' × SoundTable room'
copied {b} {room} {room'} s l w = (same, table_moved b room' (omega (arith, w.size)) same s)
  where
    same : SameTables b room'
    same i h = sym (w.inside i h)

-- with its ways home
pub with_ways : {b room room' room'' : List ℕ} → SoundTable b → room_bytes ≤ length room → Written ways_at (λ i. get_or b i 0) room room' → WaysWritten room' room'' → Adopted b room room''
with_ways s l w x = record {
  table = λ i h. (copied s l w).0 i h ∙ x.table i h;
  ways = x.ways;
  tail = record { size = x.tail.size ∙ w.size; outside = λ i h. x.tail.outside i h ∙ w.outside i (omega arith) };
}

-- what a room holds then
module _ {f b room room' : List ℕ} (i : Image f b) (s : SoundTable b) (c : CanonicalTable b) (l : room_bytes ≤ length room) (a : Adopted b room room') where
  long : room_bytes ≤ length room'
  long = omega (arith, a.tail.size)

  pub adopted_canonical : Canonical room'
  adopted_canonical = record {
    sound = record { table = table_moved b room' long a.table s; ways = a.ways };
    table = canonical_table_moved b room' a.table s c;
  }

  pub adopted_form : FormOf room' f
  adopted_form = form_moved b room' f s long a.table (image_form i s)
