-- What pick, fetch and release send and leave.
use Rattle.std.specs.Prelude.{◌≡◌, ℕ, zero, suc, ◌+◌, ◌%◌, ◌≤◌, Bool, true, false, not, List, [], ◌∷◌, length, Some, Ok, Err, Result, ◌≢◌, nat_lt, slice_index_or}
use Rattle.link.specs.declared.fault.Layer.TheVariants as layer
use Rattle.link.specs.Buffers.{filled}
use Rattle.link.specs.Faults.{report_of}
use Rattle.telegram.specs.Replies.{is_reply}
use Rattle.line.specs.Meters.{Meter}
use Rattle.line.specs.Buses.{fitting, holds}
use Rattle.line.specs.Exchanges.{State, Exchange}
use Rattle.master.specs.declared.fault.FetchFault.{FetchFault}
use Rattle.master.specs.Faults.{fetch_report}
use Rattle.master.specs.Requests.{pattern_of, selection, fetch, release}

-- one exchange: the selection of a pattern. Any reply counts as an answer, and the first fetch has bit 1
pub record Selects (s : State) (pattern : List ℕ) (answered bit : Bool) (s' : State) : Type 0 where
  pub reply : List ℕ
  pub exchange : Exchange s (selection pattern) reply s'
  pub noted : answered ≡ nat_lt 0 (length reply)
  pub first : bit ≡ true

-- one exchange: the release
pub record Releases (s s' : State) : Type 0 where
  pub reply : List ℕ
  pub exchange : Exchange s release reply s'

-- One exchange, or none where no reply came to the pick. The bit flips only with a reply telegram, which fills the
-- buffer; a refusal leaves the buffer all 00.
pub data Fetches (s : State) : Bool → Bool → Result ℕ FetchFault → List ℕ → State → Bool → Type 0 where
  unanswered : {bit : Bool} {f : FetchFault} → fetch_report f ≡ report_of layer.Master 18 → Fetches s false bit (Err f) (filled []) s bit
  accepted : {bit : Bool} {s' : State} (reply : List ℕ) → Exchange s (fetch bit) reply s' → is_reply reply ≡ true → Fetches s true bit (Ok (length reply)) (filled reply) s' (not bit)
  silent : {bit : Bool} {s' : State} {f : FetchFault} → fetch_report f ≡ report_of layer.Master 20 → Exchange s (fetch bit) [] s' → Fetches s true bit (Err f) (filled []) s' bit
  garbled : {bit : Bool} {s' : State} {f : FetchFault} → fetch_report f ≡ report_of layer.Master 19 → (reply : List ℕ) → Exchange s (fetch bit) reply s' → 1 ≤ length reply → is_reply reply ≡ false → Fetches s true bit (Err f) (filled []) s' bit

-- the bit of the fetch that follows k accepted ones
abbrev pub flipped : ℕ → Bool
flipped zero = true
flipped (suc k) = not (flipped k)

-- where the meter stands after k accepted fetches: the next one is not heard yet, or it was and its reply got lost
abbrev pub Turn : Bool → ℕ → ℕ → ℕ → Type 0
Turn false turn t k = turn % t ≡ k % t
Turn true turn t k = turn ≡ k % t + 1

-- the pattern is selected and fits the meter m alone, and an answer came; k fetches were accepted, and the next has the bit
pub record Linked (pattern : List ℕ) (m : Meter) (k : ℕ) (answered bit : Bool) (s : State) : Type 0 where
  pub only : fitting (Some (pattern_of pattern)) s.bus.meters ≡ m ∷ []
  pub selection : s.bus.selection ≡ Some (pattern_of pattern)
  pub heard : answered ≡ true
  pub next : bit ≡ flipped k
  pub turn : Turn (holds s.bus.kept bit) s.bus.turn (length m.telegrams) k

-- the telegram that follows k accepted ones
abbrev pub telegram : Meter → ℕ → List ℕ
telegram m k = slice_index_or m.telegrams (k % length m.telegrams) []

-- what a pick starts, where the pattern fits the meter m alone
pub record Starts (s : State) (pattern : List ℕ) (m : Meter) (answered bit : Bool) (s' : State) : Type 0 where
  pub linked : answered ≡ true → Linked pattern m 0 answered bit s'
  pub clear : s.run ≡ 0 → answered ≡ true

-- what a fetch does while the meter m is linked: one that is accepted fills the buffer with the next telegram,
-- one that is refused changes nothing, and where the line has no faults none is refused
pub record Continues (s : State) (pattern : List ℕ) (m : Meter) (k : ℕ) (answered : Bool) (r : Result ℕ FetchFault) (buffer : List ℕ) (s' : State) (bit' : Bool) : Type 0 where
  pub accepted : (n : ℕ) → r ≡ Ok n → (buffer ≡ filled (telegram m k)) × (n ≡ length (telegram m k)) × Linked pattern m (suc k) answered bit' s'
  pub refused : (f : FetchFault) → r ≡ Err f → Linked pattern m k answered bit' s'
  pub clear : s.run ≡ 0 → (f : FetchFault) → r ≢ Err f
