-- A prefix is completable exactly if the state that it leads to is live. From a live state the rest of a text can be taken back: if the whole text leads
-- to a live state, so does every prefix.
--   byte_class: the class of a byte is one of the room's
--   Stepped m cells k q b, stepped: the cell for a state and a byte, in the part of a room that begins at its first cell
--   LedTo M s i q: the first i bytes of s lead to the state q; at_more: one more
--   accepting, not_accepting: what the mark of the last state says
--   live_prefix, prefix_live: completable and live are the same
--   alive: every prefix of a text that leads to a live state is completable
--   live_judged: a state is live exactly if its way home is below 65,535
--   died: a dead text has a sound room, and died at its place
use Prim.Native.Nat.{ℕ, ◌+◌, ◌*◌, ◌≤◌, ◌<◌}
use mathlib.Core.Path.{◌≡◌, sym, ap, ◌∙◌}
use mathlib.Core.List.{List, [], ◌∷◌, ◌++◌, append_assoc}
use native.Mathlib.Omega.{arith}
use native.Mathlib.Numerals.{add-one}
use borrow.Author.Tests.{ltb-false}
use lib.Dec.{ltb}
use lib.ListN.{length, get_or, take, drop, length-drop, take-append-drop}
use lib.Seq.{take-suc, get_or-drop}
use Rattle.scope.specs.Limits.{byte_values, classes_at, cells_at, room_bytes, no_way}
use Rattle.scope.specs.Machines.Machine.{Machine, run, Accepts, Closed, Completable}
use Rattle.scope.specs.Machines.Ways.{Way, fewest, none}
use Rattle.scope.specs.Machines.Room.{states_of, classes_of, class_of, mark_of, next_of, machine, SoundTable, Sound}
use Rattle.scope.specs.Answers.{DEAD}
use Rattle.scope.specs.Operations.Match.{DeadAt, Alive, Matches, dead}
use Rattle.scope.proofs.Counting.Tests.{equals, below}
use Rattle.scope.proofs.Machines.Run.{run_append, bytes_append, bytes_known, sound_closed}
use Rattle.buffers.specs.Stored.{Decides}
use Rattle.room.proofs.HeadAndParts.{CellAt, cell_at}
use Rattle.room.specs.Head.{way_of}
use Rattle.way_rules.proofs.Rules.{fewest_few}
use Rattle.ways.proofs.Kept.{ways_kept}
use Rattle.matching.specs.Live.{Live}

-- the first i bytes of s lead to q
pub record LedTo (M : Machine) (s : List ℕ) (i q : ℕ) : Type 0 where
  pub within : i ≤ length s
  pub state : q < M.states
  pub leads : q ≡ run M 0 (take i s)

-- one byte more
pub at_more : {M : Machine} {s : List ℕ} {i q r : ℕ} → LedTo M s i q → i < length s → (r ≡ M.next q (get_or s i 0)) × (r < M.states) → LedTo M s (i + 1) r
at_more {M} {s} {i} a h x = record {
  within = omega arith;
  state = x.1;
  leads = rw (add-one i, take-suc s i 0 h, run_append M 0 (take i s) (get_or s i 0 ∷ []), ← a.leads) x.0;
}

-- the mark of the last state is 1
pub accepting : (m s : List ℕ) {q : ℕ} → q ≡ run (machine m) 0 s → mark_of m q ≡ 1 → Accepts (machine m) s
accepting m s e h = rw (← e) ((equals _ 1).full (sym h))

-- or it is not
pub not_accepting : (m s : List ℕ) {q : ℕ} → q ≡ run (machine m) 0 s → (mark_of m q ≡ 1 → ⊥) → Accepts (machine m) s → ⊥
not_accepting m s {q} e n a = n (sym ((equals (mark_of m q) 1).sound (rw (← e) at a)))

module _ (M : Machine) where
  -- a prefix that leads to a live state is completable
  pub live_prefix : (w : List ℕ) → Live M (run M 0 w) → Completable M w
  live_prefix w l = record { rest = l.word; bytes = l.home.bytes; accepted = rw run_append l.home.accepted }

  -- a completable prefix leads to a live state
  pub prefix_live : (w : List ℕ) → Completable M w → Live M (run M 0 w)
  prefix_live w c = record { word = c.rest; home = record { bytes = c.bytes; accepted = rw run_append at c.accepted } }

  -- every prefix of a text that leads to a live state is completable
  pub alive : (s : List ℕ) → ((i : ℕ) → get_or s i 0 < byte_values) → Live M (run M 0 s) → Alive M s
  alive s f l j h = record {
    rest = drop j s ++ l.word;
    bytes = bytes_append (drop j s) l.word (bytes_known (drop j s) (λ i. rw get_or-drop (f (j + i)))) l.home.bytes;
    accepted = rw (← append_assoc (take j s) (drop j s) l.word, take-append-drop j s, run_append M 0 s l.word) l.home.accepted;
  }

-- the class of a byte is one of the room's
pub byte_class : {m : List ℕ} → SoundTable m → (b : ℕ) → b < byte_values → class_of m b < classes_of m
byte_class s b h = s.classes (classes_at + b) (omega arith) (omega arith)

-- the cell for a state and a byte, in the part of a room that begins at its first cell
pub record Stepped (m cells : List ℕ) (k q b : ℕ) : Type 0 where
  pub class : class_of m b < classes_of m
  pub small : q * k + class_of m b < room_bytes
  pub within : q * k + class_of m b < length cells
  pub cell : get_or cells (q * k + class_of m b) 0 ≡ next_of m q b
  pub state : get_or cells (q * k + class_of m b) 0 < states_of m

pub stepped : {m cells : List ℕ} {k : ℕ} → SoundTable m → cells ≡ drop cells_at m → k ≡ classes_of m → (q b : ℕ) → q < states_of m → b < byte_values → Stepped m cells k q b
unfolding next_of
stepped {m} {cells} {k} s e f q b h g = record {
  class = byte_class s b g;
  small = omega (arith, known.fits);
  within = omega (arith, known.fits, s.long, ap length e, length-drop cells_at m);
  cell = cell ∙ known.is;
  state = rw cell known.inside;
}
  where
    known : CellAt m q k (class_of m b)
    known = cell_at s f h (byte_class s b g)

    cell : get_or cells (q * k + class_of m b) 0 ≡ get_or m (cells_at + (q * k + class_of m b)) 0
    cell = rw e (get_or-drop cells_at m (q * k + class_of m b) 0)

-- ---- the way home of a live state

-- one below 65,535 is that of a string
way_live : {M : Machine} {q d : ℕ} → Way M q d → d < no_way → Live M q
way_live (fewest x) h = record { word = x.word; home = x.home }
way_live (none y) h = absurd (omega arith)

-- from 65,535 on there is none
way_dead : {M : Machine} {q d : ℕ} → Closed M → M.states < no_way → q < M.states → Way M q d → no_way ≤ d → Live M q → ⊥
way_dead {M} {q} {d} c few h (fewest x) l v = omega (arith, fewest_few M c q d h x)
way_dead c few h (none y) l v = y v.word v.home

pub live_judged : {m : List ℕ} {q x : ℕ} → Sound m → q < states_of m → x ≡ way_of m q → Decides (ltb x no_way) (Live (machine m) q)
live_judged {m} {q} {x} s h e =
    let w : Way (machine m) q x = rw e (ways_kept s.ways q h) in
    record {
      yes = λ t. way_live w ((below x no_way).sound t);
      no = λ t. way_dead (sound_closed m s.table) (omega (arith, s.table.few_states)) h w (ltb-false x no_way t);
    }

-- ---- the answer

-- a dead text has a sound room, and died at its place
pub died : {room text : List ℕ} {i : ℕ} → Matches room text DEAD i → Sound room × DeadAt (machine room) text i
died (dead s d) = (s, d)
