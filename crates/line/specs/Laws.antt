-- What holds of every bus and of every pile of layers.
use Rattle.std.specs.Prelude.{◌≡◌, ℕ, ◌*◌, List, [], ◌∷◌, Option}
use Rattle.telegram.specs.declared.request.Request.{Request}
use Rattle.line.specs.Buses.{Bus, hear}
use Rattle.line.specs.Exchanges.{State}
use Rattle.line.specs.Layers.{divided}

-- hearing a request twice is hearing it once
abbrev pub HeardOnce : Type 0
HeardOnce = (request : Option Request) (b : Bus) → hear request (hear request b) ≡ hear request b

-- a line as it shows above layers of these tries, the lowest layer first
abbrev pub shown : List ℕ → State → State
shown [] s = s
shown (tries ∷ above) s = shown above (divided tries s)

abbrev pub product : List ℕ → ℕ
product [] = 1
product (tries ∷ above) = tries * product above

-- layers over layers show what one layer with the product of their tries would show
abbrev pub LayersMultiply : Type 0
LayersMultiply = (layers : List ℕ) (s : State) → shown layers s ≡ divided (product layers) s

-- a run that shows as another above layers of these tries, whatever the bus and the streak
abbrev pub ShowsRun : List ℕ → ℕ → ℕ → Type 0
ShowsRun layers run seen =
    (b : Bus) (streak : ℕ) → (shown layers (record { bus = b; run = run; streak = streak })).run ≡ seen
