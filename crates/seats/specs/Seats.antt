-- The seats of the reached sets, in the order of their arrival.
--   guess_count: how many numbers of sets are kept to be tried first
--   remainder_of s: which of them is the set's
--   Guesses w g n: there is one for each of n sets; Guessed w g n r: also for the set number r, if it is new
--   Is w s i: the reached set number i is s; IsNew w n s: none of n is
--   Known w n s r: r is the number of one of n sets that is s, if one is
--   Sat w w' n s r: r is the number of the set s among n, n if it is new; then it is stored
--   Full w n s: it is new, and there is no room
--   Seated w w' n s r: the one or the other
use Rattle.std.specs.Prelude.{ℕ, ◌+◌, ◌*◌, ◌%◌, ◌<◌, ◌≤◌, ◌≡◌, Option, Some, None, List, length, get_or}
use Rattle.scope.specs.Limits.{state_limit, set_words}
use Rattle.sets.specs.Layout.{sets_at}
use Rattle.seats.specs.SeatLayout.{reached_set, KeptOutside}

abbrev pub guess_count : ℕ
guess_count = 251

abbrev pub remainder_of : ℕ → ℕ
remainder_of s = s % guess_count

pub record Guesses (w : List ℕ) (g : List (Option ℕ)) (n : ℕ) : Type 0 where
  pub long : length g ≡ guess_count
  pub known : (i : ℕ) → i < n → get_or g (remainder_of (reached_set w i)) None ≡ None → ⊥

abbrev pub Guessed : List ℕ → List (Option ℕ) → ℕ → Option ℕ → Type 0
Guessed w g n (Some r) = Guesses w g n × (r ≡ n → Guesses w g (n + 1))
Guessed w g n None = Guesses w g n

abbrev pub Is : List ℕ → ℕ → ℕ → Type 0
Is w s i = reached_set w i ≡ s

abbrev pub IsNew : List ℕ → ℕ → ℕ → Type 0
IsNew w n s = (i : ℕ) → i < n → Is w s i → ⊥

abbrev pub Known : List ℕ → ℕ → ℕ → Option ℕ → Type 0
Known w n s (Some i) = (i < n) × Is w s i
Known w n s None = IsNew w n s

pub record Sat (w w' : List ℕ) (n s r : ℕ) : Type 0 where
  pub most : r ≤ n
  pub inside : r < state_limit
  pub here : Is w' s r
  pub new : r ≡ n → IsNew w n s

pub record Full (w : List ℕ) (n s : ℕ) : Type 0 where
  pub full : n ≡ state_limit
  pub new : IsNew w n s

abbrev pub SeatCase : List ℕ → List ℕ → ℕ → ℕ → Option ℕ → Type 0
SeatCase w w' n s (Some r) = Sat w w' n s r
SeatCase w w' n s None = Full w n s

pub record Seated (w w' : List ℕ) (n s : ℕ) (r : Option ℕ) : Type 0 where
  pub seat : SeatCase w w' n s r
  pub kept : KeptOutside w w' ((sets_at + n) * set_words) ((sets_at + state_limit) * set_words)
