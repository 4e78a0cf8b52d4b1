-- What holds of every run of calls, told from the calls and their outcomes alone.
use Rattle.std.specs.Prelude.{◌≡◌, ℕ, ◌+◌, ◌-◌, Bool, List, [], ◌∷◌, ◌++◌, length, take, drop, ◌≢◌, Ok, Err}
use Rattle.std.specs.List.{AllByRecursion}
use Rattle.telegram.specs.declared.address.Address.{Address}
use Rattle.telegram.specs.Addresses.{address_bytes}
use Rattle.line.specs.Meters.{Meter}
use Rattle.search.specs.declared.entry.Entry.{Entry}
use Rattle.master.specs.declared.fault.FetchFault.{FetchFault}
use Rattle.master.specs.Picks.{telegram}
use Rattle.master.specs.Faults.{is_full, summary_of}
use Rattle.round.specs.declared.call.Call.{Call}
use Rattle.round.specs.declared.call.Call.TheVariants as call
use Rattle.round.specs.declared.call.Found.{Found}
use Rattle.round.specs.declared.call.Outcome.{Outcome}
use Rattle.round.specs.declared.call.Outcome.TheVariants as outcome
use Rattle.round.specs.declared.call.Telegram.{Telegram}
use Rattle.round.specs.Modes.{Alone, House}
use Rattle.round.specs.Steps.{HoldsTelegram, Lists}

-- the entries of a search, among those of all searches
abbrev pub entries_of : Found → List Entry → List Entry
entries_of f es = take (summary_of f.result).entries (drop f.from es)

-- every search of a run, wherever it stands: its list is true, and whole where the line has no faults and there is a place for
-- each number present
abbrev pub SearchesList : House → ℕ → List Call → List Outcome → List Entry → Type 0
SearchesList house room calls outcomes es =
    (xs ys : List Call) (os ps : List Outcome) (f : Found) → calls ≡ xs ++ call.Search ∷ ys → outcomes ≡ os ++ outcome.Found f ∷ ps → length xs ≡ length os → Lists house (room - f.from) (entries_of f es) (summary_of f.result).selections (is_full f.result)

-- how many fetches were accepted
abbrev pub accepted : List Outcome → ℕ
accepted [] = 0
accepted (outcome.Found f ∷ os) = accepted os
accepted (outcome.Picked b ∷ os) = accepted os
accepted (outcome.Fetched (Ok t) ∷ os) = 1 + accepted os
accepted (outcome.Fetched (Err f) ∷ os) = accepted os
accepted (outcome.Released ∷ os) = accepted os
accepted (outcome.Misuse ∷ os) = accepted os

abbrev pub NoRelease : Call → Type 0
NoRelease call.Search = Unit {0}
NoRelease (call.Pick a) = Unit {0}
NoRelease call.Fetch = Unit {0}
NoRelease call.Release = ⊥

-- a pick somewhere in a run, and a fetch after it with no release between: the calls and the outcomes up to that of the fetch
pub record PickedThen (calls : List Call) (outcomes : List Outcome) (a : Address) (between : List Outcome) (last : Outcome) : Type 0 where
  pub calls_before : List Call
  pub calls_between : List Call
  pub calls_after : List Call
  pub outcomes_before : List Outcome
  pub outcomes_after : List Outcome
  pub answered : Bool
  pub calls_are : calls ≡ calls_before ++ call.Pick a ∷ (calls_between ++ call.Fetch ∷ calls_after)
  pub outcomes_are : outcomes ≡ outcomes_before ++ outcome.Picked answered ∷ (between ++ last ∷ outcomes_after)
  pub same_before : length calls_before ≡ length outcomes_before
  pub same_between : length calls_between ≡ length between
  pub unreleased : AllByRecursion NoRelease calls_between

-- Where exactly one meter fits what is picked, the fetch accepted after k accepted ones, before any release, gives telegram
-- (k modulo t) + 1 of that meter's t, whatever the line loses or damages
abbrev pub FetchesInTurn : House → List Call → List Outcome → Type 0
FetchesInTurn house calls outcomes =
    (a : Address) (between : List Outcome) (t : Telegram) → PickedThen calls outcomes a between (outcome.Fetched (Ok t)) → (m : Meter) → Alone house (address_bytes a) m → HoldsTelegram t (telegram m (accepted between))

-- and where the line has no faults, no such fetch is refused
abbrev pub FetchesSucceed : House → List Call → List Outcome → Type 0
FetchesSucceed house calls outcomes =
    (a : Address) (between : List Outcome) (f : FetchFault) → PickedThen calls outcomes a between (outcome.Fetched (Err f)) → (m : Meter) → Alone house (address_bytes a) m → house.run ≢ 0

pub record FetchLaws (house : House) (calls : List Call) (outcomes : List Outcome) : Type 0 where
  pub in_turn : FetchesInTurn house calls outcomes
  pub succeed : FetchesSucceed house calls outcomes
