-- Meters on one bus: which are selected, what they remember, what they do on hearing a request, what they then answer.
use Rattle.std.specs.Prelude.{◌≡◌, ℕ, ◌+◌, ◌-◌, ◌%◌, ◌≤◌, Bool, true, false, cond, not, List, [], ◌∷◌, length, Some, None, filter, Option, slice_index_or}
use Rattle.link.specs.Frames.{ack, written}
use Rattle.telegram.specs.declared.pattern.Pattern.{Pattern}
use Rattle.telegram.specs.declared.request.Request.{Request}
use Rattle.telegram.specs.declared.request.Request.TheVariants.{Selection, Fetch, Release}
use Rattle.telegram.specs.Patterns.{fits}
use Rattle.telegram.specs.Replies.{Garbled}
use Rattle.line.specs.Meters.{Meter}

pub record Bus : Type 0 where
  pub meters : List Meter
  -- the pattern last selected, if no release came after it
  pub selection : Option Pattern
  -- the bit of the last fetch that a meter took up
  pub kept : Option Bool
  -- the number, from 1, of the telegram that this meter sends; 0 if no bit is kept
  pub turn : ℕ

-- a meter is selected if the pattern fits its address
abbrev pub fitting : Option Pattern → List Meter → List Meter
fitting None ms = []
fitting (Some p) ms = filter (λ m. fits p.bytes m.address) ms

unfoldable pub selected : Bus → List Meter
selected b = fitting b.selection b.meters

-- the bit is the one that is kept already
abbrev pub holds : Option Bool → Bool → Bool
holds None bit = false
holds (Some true) bit = bit
holds (Some false) bit = not bit

-- the bit is kept, and the meter turns to its next telegram, after the last to the first
abbrev pub advance : Meter → Bool → Bus → Bus
advance m bit b =
    record { meters = b.meters; selection = b.selection; kept = Some bit; turn = b.turn % length m.telegrams + 1 }

-- a fetch, by the meters that are selected: only where there is exactly one, and its bit is new, does it change anything
abbrev pub fetched : List Meter → Bool → Bus → Bus
fetched [] bit b = b
fetched (m ∷ []) bit b = cond (holds b.kept bit) b (advance m bit b)
fetched (m ∷ n ∷ ms) bit b = b

-- another selection, with no bit kept
abbrev pub reselected : Option Pattern → Bus → Bus
reselected selection b = record { meters = b.meters; selection = selection; kept = None; turn = 0 }

-- the bus after hearing a request; what is no request changes nothing
unfoldable pub hear : Option Request → Bus → Bus
hear None b = b
hear (Some (Selection p)) b = reselected (Some p) b
hear (Some (Fetch bit)) b = fetched (selected b) bit b
hear (Some Release) b = reselected None b

-- what is to be answered
pub data Due : Type 0 where
  silence : Due
  acknowledgement : Due
  telegram : List ℕ → Due
  -- several meters answer at once
  collision : Due

abbrev pub due_selects : List Meter → Due
due_selects [] = Due.silence
due_selects (m ∷ ms) = Due.acknowledgement

abbrev pub due_fetches : List Meter → ℕ → Due
due_fetches [] turn = Due.silence
due_fetches (m ∷ []) turn = Due.telegram (slice_index_or m.telegrams (turn - 1) [])
due_fetches (m ∷ n ∷ ms) turn = Due.collision

-- the reply due once a request was heard: all selected meters acknowledge a selection and answer a fetch,
-- and nothing answers a release
unfoldable pub due : Option Request → Bus → Due
due None b = Due.silence
due (Some (Selection p)) b = due_selects (selected b)
due (Some (Fetch bit)) b = due_fetches (selected b) b.turn
due (Some Release) b = Due.silence

-- the due reply arrives; several at once arrive garbled
abbrev pub Arrives : Due → List ℕ → Type 0
Arrives Due.silence reply = reply ≡ []
Arrives Due.acknowledgement reply = reply ≡ written ack
Arrives (Due.telegram t) reply = reply ≡ t
Arrives Due.collision reply = Garbled reply

-- something garbled arrives in place of a due reply, and nothing where none is due
abbrev pub Damages : Due → List ℕ → Type 0
Damages Due.silence reply = reply ≡ []
Damages Due.acknowledgement reply = Garbled reply
Damages (Due.telegram t) reply = Garbled reply
Damages Due.collision reply = Garbled reply

-- the turn is 0 if no bit is kept, else one of the only selected meter's telegrams
abbrev pub turn_fits : Option Bool → List Meter → ℕ → Type 0
turn_fits None ms turn = turn ≡ 0
turn_fits (Some bit) [] turn = ⊥
turn_fits (Some bit) (m ∷ []) turn = (1 ≤ turn) × (turn ≤ length m.telegrams)
turn_fits (Some bit) (m ∷ n ∷ ms) turn = ⊥

abbrev pub Turned : Bus → Type 0
Turned b = turn_fits b.kept (selected b) b.turn
