-- The head is the two bytes at the start. A table is sound if its head and its five parts are; then every state has its cells.
--   head_set: the two bytes stored are the head; head_is, head_same: a room that begins with its bytes has it; the same bytes, the same head
--   PartsBelow m n k: the first four parts are below their limits
--   sound_last, sound_not: what the last part decides, where the others are, and where they are not
--   cell_known: the cell for a state and a class is in the room, and holds a state
--   CellAt m q k c, cell_at: the same, by the number k of classes that was read
use Prim.Native.Nat.{ℕ, ◌+◌, ◌*◌, ◌≤◌, ◌<◌}
use mathlib.Core.Bool.{Bool, false}
use mathlib.Core.Path.{◌≡◌, refl}
use mathlib.Core.List.{List}
use native.Mathlib.Nat.{mul-le-mul_right}
use native.Mathlib.Omega.{arith}
use lib.ListN.{length, get_or, set}
use Rattle.scope.specs.Limits.{class_limit, state_limit, classes_at, marks_at, cells_at, ways_at, room_bytes}
use Rattle.scope.specs.Operations.Buffers.{Written}
use Rattle.scope.specs.Machines.Room.{states_of, classes_of, cell_of, Below, SoundTable}
use Rattle.scope.proofs.Machines.Room.{cells_fit}
use Rattle.buffers.specs.Stored.{Decides, AtMost}
use Rattle.buffers.proofs.OneMore.{fails, stored_none, stored_more, stored_written}
use Rattle.room.specs.Head.{head_byte}

-- both bytes are stored
pub head_set : (m : List ℕ) (n k : ℕ) → classes_at ≤ length m → Written classes_at (head_byte n k) m (set (set m 0 n) 1 k)
head_set m n k l =
    stored_written (stored_more {f = head_byte n k} l (omega arith) refl (stored_more {f = head_byte n k} (omega arith) (omega arith) refl (stored_none m 0 (head_byte n k))))

-- the head is read, where a room begins with its bytes
pub head_is : (m : List ℕ) (n k : ℕ) → ((i : ℕ) → i < classes_at → get_or m i 0 ≡ head_byte n k i) → (states_of m ≡ n) × (classes_of m ≡ k)
head_is m n k e = (e 0 (omega arith), e 1 (omega arith))

-- rooms that begin with the same bytes have the same head
pub head_same : (m m' : List ℕ) → ((i : ℕ) → i < classes_at → get_or m i 0 ≡ get_or m' i 0) → (states_of m ≡ states_of m') × (classes_of m ≡ classes_of m')
head_same m m' e = (e 0 (omega arith), e 1 (omega arith))

-- n, k: the numbers of states and classes that were read
abbrev pub PartsBelow : List ℕ → ℕ → ℕ → Type 0
PartsBelow m n k =
    ((Below m classes_at marks_at k × Below m marks_at (marks_at + n) 2) × Below m (marks_at + n) cells_at 1) × Below m cells_at (cells_at + n * k) n

-- the last part decides, where the others are below their limits
pub sound_last :
    {r : Bool} {m : List ℕ} {n k : ℕ} → room_bytes ≤ length m → n ≡ states_of m → k ≡ classes_of m → (1 ≤ n) × (n ≤ state_limit) × (1 ≤ k) × (k ≤ class_limit)
    → PartsBelow m n k → Decides r (AtMost m (cells_at + n * k) ways_at 0) → Decides r (SoundTable m)
sound_last {r} {m} l e f = rw (e, f) decided
  where
    decided : (1 ≤ states_of m) × (states_of m ≤ state_limit) × (1 ≤ classes_of m) × (classes_of m ≤ class_limit) → PartsBelow m (states_of m) (classes_of m)
        → Decides r (AtMost m (cells_at + states_of m * classes_of m) ways_at 0) → Decides r (SoundTable m)
    decided h j d = record {
      yes = λ e. record {
        long = l;
        some_state = h.0;
        few_states = h.1;
        some_class = h.2;
        few_classes = h.3;
        classes = j.0.0.0;
        marks = j.0.0.1;
        marks_off = j.0.1;
        cells = j.1;
        cells_off = λ i l k. omega (arith, d.yes e i l k);
      };
      no = λ e s. d.no e (λ i l k. omega (arith, s.cells_off i l k));
    }

-- the others decide, where they are not
pub sound_not : {r : Bool} {m : List ℕ} {n k : ℕ} → n ≡ states_of m → k ≡ classes_of m → r ≡ false → Decides r (PartsBelow m n k) → Decides r (SoundTable m)
sound_not {r} {m} e f z = rw (e, f) (λ d. rw z (fails (λ s. d.no z (((s.classes, s.marks), s.marks_off), s.cells))))

-- the cell for a state and a class is in the room, and holds a state
pub cell_known :
    {m : List ℕ} → SoundTable m → (q c : ℕ) → q < states_of m → c < classes_of m
    → (cells_at + (q * classes_of m + c) < ways_at) × (cell_of m q c < states_of m)
cell_known {m} s q c h k =
    let used : q * classes_of m + c < states_of m * classes_of m = omega (arith, mul-le-mul_right (classes_of m) h) in
    (omega (arith, cells_fit m s), s.cells (cells_at + (q * classes_of m + c)) (omega arith) (omega arith))

-- the place of that cell, where k is the number of classes that was read
pub record CellAt (m : List ℕ) (q k c : ℕ) : Type 0 where
  pub fits : cells_at + (q * k + c) < ways_at
  pub long : room_bytes ≤ length m
  pub is : get_or m (cells_at + (q * k + c)) 0 ≡ cell_of m q c
  pub inside : get_or m (cells_at + (q * k + c)) 0 < states_of m

pub cell_at : {m : List ℕ} {q k c : ℕ} → SoundTable m → k ≡ classes_of m → q < states_of m → c < classes_of m → CellAt m q k c
cell_at {m} {q} {k} {c} s e h l = let (a, b) = cell_known s q c h l in rw e (record { fits = a; long = s.long; is = refl; inside = b })
