-- What one call on a master sends, and what its outcome means, on any line; and calls one after the other.
use Rattle.std.specs.Prelude.{◌≡◌, ℕ, suc, ◌-◌, Bool, true, false, List, [], ◌∷◌, ◌++◌, map, length, take, None, Ok, Err, Option, ◌≢◌}
use Rattle.link.specs.declared.fault.Report.{Report}
use Rattle.link.specs.Buffers.{filled}
use Rattle.telegram.specs.declared.address.Address.{Address}
use Rattle.telegram.specs.Addresses.{address_bytes}
use Rattle.items.specs.Runs.{Reads}
use Rattle.items.specs.Steps.{up_to_end}
use Rattle.items.specs.Views.{View}
use Rattle.line.specs.Meters.{Meter}
use Rattle.line.specs.Exchanges.{State}
use Rattle.search.specs.declared.entry.Entry.{Entry}
use Rattle.search.specs.Addresses.{number}
use Rattle.search.specs.Entries.{entry_of}
use Rattle.search.specs.Laws.{TrueList, WholeList}
use Rattle.master.specs.declared.fault.FetchFault.{FetchFault}
use Rattle.master.specs.Laws.{Enough, addresses}
use Rattle.master.specs.Picks.{Fetches, Releases, Selects, flipped, telegram}
use Rattle.master.specs.Searches.{Searched}
use Rattle.master.specs.Faults.{is_full, summary_of}
use Rattle.round.specs.declared.call.Call.{Call}
use Rattle.round.specs.declared.call.Call.TheVariants as call
use Rattle.round.specs.declared.call.Found.{Found}
use Rattle.round.specs.declared.call.Outcome.{Outcome}
use Rattle.round.specs.declared.call.Outcome.TheVariants as outcome
use Rattle.round.specs.declared.call.Telegram.{Telegram}
use Rattle.round.specs.Modes.{Alone, House, Mode}

-- What a search with so many places tells of the house.
--     truly   always: the numbers rise strictly, some meter has each, and an address is that of the only meter with its number
--     enough  always: with a place for each number present, the list is not full
--     wholly  with these places and no faults: each number present is listed, shared just where two or more meters have it;
--             the selections are 1 + 10 for each beginning of 0 to 7 digits common to two or more meters, at most 11 + 70 for
--             every two meters
pub record Lists (house : House) (places : ℕ) (es : List Entry) (selections : ℕ) (full : Bool) : Type 0 where
  pub truly : TrueList number (addresses house.meters) (map entry_of es)
  pub enough : Enough house.meters places → full ≡ false
  pub wholly : house.run ≡ 0 → Enough house.meters places → WholeList number (addresses house.meters) 8 (map entry_of es) selections

-- where the line has no faults, no meter stays selected
abbrev pub Unselects : House → State → Type 0
Unselects house s' = house.run ≡ 0 → s'.bus.selection ≡ None

-- The buffer has those bytes and then 00, and the count is theirs. What is read from the buffer, the items with their places
-- and the record refusal that ends them, is what those bytes say.
pub record HoldsTelegram (t : Telegram) (bytes : List ℕ) : Type 0 where
  pub buffer : t.buffer ≡ filled bytes
  pub count : t.count ≡ length bytes
  pub own : take t.count t.buffer ≡ bytes
  pub items : (vs : List View) (e : Option Report) → Reads (up_to_end (take t.count t.buffer)) 19 vs e → Reads (up_to_end bytes) 19 vs e

-- a call that the mode lacks
abbrev pub Lacks : Mode → Call → Type 0
Lacks Mode.idle call.Search = ⊥
Lacks Mode.idle (call.Pick a) = ⊥
Lacks Mode.idle call.Fetch = Unit {0}
Lacks Mode.idle call.Release = ⊥
Lacks (Mode.picked address answered k) call.Search = Unit {0}
Lacks (Mode.picked address answered k) (call.Pick a) = Unit {0}
Lacks (Mode.picked address answered k) call.Fetch = ⊥
Lacks (Mode.picked address answered k) call.Release = ⊥

-- One call from the line's state s, where the searches before listed some entries and there are `room` places for all
-- entries: what it sent, and none besides, and what its outcome means.
--     searched  the walk over the beginnings and the release, with the places that are left; the list is as above
--     picked    one selection; where the address fits one meter alone and the line has no faults, it is answered
--     fetched   one fetch, with the bits in turn; where the address fits the meter m alone, the buffer has telegram
--               (k modulo t) + 1 of its t
--     refused   one fetch, or none where the pick was not answered; the buffer is all 00 and k stays; where the address fits
--               one meter alone and the line has no faults, never
--     released  one release
--     misused   nothing
pub data Step (house : House) (room : ℕ) (s : State) (before : List Entry) : Mode → Call → Outcome → Mode → State → List Entry → Type 0 where
  searched : {f : Found} {es : List Entry} {s' : State} → f.from ≡ length before → (summary_of f.result).entries ≡ length es → Searched 8 s (room - length before) (map entry_of es) (summary_of f.result).selections (is_full f.result) s' → Lists house (room - length before) es (summary_of f.result).selections (is_full f.result) → Unselects house s' → Step house room s before Mode.idle call.Search (outcome.Found f) Mode.idle s' (before ++ es)
  picked : {a : Address} {answered : Bool} {s' : State} → Selects s (address_bytes a) answered true s' → ((m : Meter) → Alone house (address_bytes a) m → house.run ≡ 0 → answered ≡ true) → Step house room s before Mode.idle (call.Pick a) (outcome.Picked answered) (Mode.picked (address_bytes a) answered 0) s' before
  fetched : {address : List ℕ} {answered : Bool} {k : ℕ} {t : Telegram} {s' : State} → Fetches s answered (flipped k) (Ok t.count) t.buffer s' (flipped (suc k)) → ((m : Meter) → Alone house address m → HoldsTelegram t (telegram m k)) → Step house room s before (Mode.picked address answered k) call.Fetch (outcome.Fetched (Ok t)) (Mode.picked address answered (suc k)) s' before
  refused : {address : List ℕ} {answered : Bool} {k : ℕ} {f : FetchFault} {s' : State} → Fetches s answered (flipped k) (Err f) (filled []) s' (flipped k) → ((m : Meter) → Alone house address m → house.run ≢ 0) → Step house room s before (Mode.picked address answered k) call.Fetch (outcome.Fetched (Err f)) (Mode.picked address answered k) s' before
  released : {mode : Mode} {s' : State} → Releases s s' → Unselects house s' → Step house room s before mode call.Release outcome.Released Mode.idle s' before
  misused : {mode : Mode} {c : Call} → Lacks mode c → Step house room s before mode c outcome.Misuse mode s before

-- calls one after the other, with the line's states and the entries listed between them
pub data Trace (house : House) (room : ℕ) : Mode → State → List Entry → List Call → List Outcome → Mode → State → List Entry → Type 0 where
  ended : {mode : Mode} {s : State} {es : List Entry} → Trace house room mode s es [] [] mode s es
  called : {mode mode₁ mode₂ : Mode} {s s₁ s₂ : State} {es es₁ es₂ : List Entry} {c : Call} {o : Outcome} {calls : List Call} {outcomes : List Outcome} → Step house room s es mode c o mode₁ s₁ es₁ → Trace house room mode₁ s₁ es₁ calls outcomes mode₂ s₂ es₂ → Trace house room mode s es (c ∷ calls) (o ∷ outcomes) mode₂ s₂ es₂

-- the same over several runs, each with places of its own for entries
pub data Path (house : House) : Mode → State → List Call → List Outcome → Mode → State → Type 0 where
  ended : {mode : Mode} {s : State} → Path house mode s [] [] mode s
  called : {mode mode₁ mode₂ : Mode} {s s₁ s₂ : State} {room : ℕ} {es es₁ : List Entry} {c : Call} {o : Outcome} {calls : List Call} {outcomes : List Outcome} → Step house room s es mode c o mode₁ s₁ es₁ → Path house mode₁ s₁ calls outcomes mode₂ s₂ → Path house mode s (c ∷ calls) (o ∷ outcomes) mode₂ s₂
