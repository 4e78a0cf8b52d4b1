-- The mode that a master is in, and the house that its line serves.
use Rattle.std.specs.Prelude.{◌≡◌, ℕ, Bool, true, List, [], ◌∷◌, Some}
use Rattle.line.specs.Meters.{Meter}
use Rattle.line.specs.Buses.{fitting}
use Rattle.line.specs.Exchanges.{State}
use Rattle.master.specs.Picks.{Linked, flipped}
use Rattle.master.specs.Requests.{pattern_of}
use Rattle.round.specs.declared.any_master.Master.{Master}
use Rattle.round.specs.declared.any_master.Master.TheVariants as master

-- what no exchange changes: the meters, and the most faults in a row that the line may have
pub record House : Type 0 where
  pub meters : List Meter
  pub run : ℕ

abbrev pub house_of : State → House
house_of s = record { meters = s.bus.meters; run = s.run }

-- idle, or picked: the address, whether any reply came to the pick, and how many fetches were accepted since
pub data Mode : Type 0 where
  idle : Mode
  picked : (address : List ℕ) (answered : Bool) (k : ℕ) → Mode

abbrev pub line_of : {L : Type 0} → Master L → L
line_of (master.Idle i) = i.line
line_of (master.Picked p) = p.line

-- the address fits the meter m alone
abbrev pub Alone : House → List ℕ → Meter → Type 0
Alone house address m = fitting (Some (pattern_of address)) house.meters ≡ m ∷ []

-- where the meter m stands after a pick and k accepted fetches
pub record StandsAt (s : State) (address : List ℕ) (k : ℕ) (answered bit : Bool) (m : Meter) : Type 0 where
  pub linked : answered ≡ true → Linked address m k answered bit s
  pub clear : s.run ≡ 0 → answered ≡ true

-- the master is in that mode
abbrev pub Holds : {L : Type 0} → (L → State) → Master L → Mode → Type 0
Holds means (master.Idle i) Mode.idle = Unit {0}
Holds means (master.Idle i) (Mode.picked address answered k) = ⊥
Holds means (master.Picked p) Mode.idle = ⊥
Holds means (master.Picked p) (Mode.picked address answered k) =
    (p.answered ≡ answered)
    × (p.bit ≡ flipped k)
    × ((m : Meter) → Alone (house_of (means p.line)) address m → StandsAt (means p.line) address k p.answered p.bit m)

abbrev pub SameHouse : {L : Type 0} → (L → State) → Master L → Master L → Type 0
SameHouse means before after = house_of (means (line_of after)) ≡ house_of (means (line_of before))
