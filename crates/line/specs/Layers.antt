-- A layer over a line, which tries each request several times.
use Rattle.std.specs.Prelude.{◌≡◌, ℕ, suc, ◌/◌, Bool, true, false, ◌&&◌, List, [], ◌∷◌, length, ◌==◌}
use Rattle.telegram.specs.Replies.{answers}
use Rattle.line.specs.Exchanges.{State, Exchange}

-- the line below as it shows above a layer of so many tries: run and streak are divided, rounded down
abbrev pub divided : ℕ → State → State
divided tries s = record { bus = s.bus; run = s.run / tries; streak = s.streak / tries }

-- what a layer answers where no try was answered: silence if every try was silent, else the byte 00
abbrev pub last_reply : Bool → List ℕ
last_reply true = []
last_reply false = 0 ∷ []

-- at most so many tries of one request, and what is answered after them: an answer ends the tries.
-- The Bool says whether every try so far was silent
pub data Tries (request : List ℕ) : ℕ → Bool → State → List ℕ → State → Type 0 where
  answered : {k : ℕ} {silent : Bool} {s : State} {reply : List ℕ} {t : State} → Exchange s request reply t → answers reply ≡ true → Tries request (suc k) silent s reply t
  again : {k : ℕ} {silent : Bool} {s : State} {reply : List ℕ} {t : State} {last : List ℕ} {u : State} → Exchange s request reply t → answers reply ≡ false → Tries request k (silent && length reply == 0) t last u → Tries request (suc k) silent s last u
  failed : {silent : Bool} {s : State} → Tries request 0 silent s (last_reply silent) s
