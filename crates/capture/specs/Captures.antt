-- A new capture, why there is none, and what an exchange on a capture is.
use Rattle.std.specs.Prelude.{◌≡◌, ℕ, ◌<◌, ◌≤◌, List, length, None}
use Rattle.link.specs.Buffers.{filled}
use Rattle.line.specs.Exchanges.{Sound, State, due_to, heard}
use Rattle.line.specs.Meters.{Meter}
use Rattle.bus.specs.Memories.{at_rest}
use Rattle.bus.specs.Replies.{arriving}
use Rattle.capture.specs.declared.capture.Capture.{Capture}
use Rattle.capture.specs.declared.fault.CaptureFault.{CaptureFault}
use Rattle.capture.specs.declared.fault.Cause.TheVariants.{Size}
use Rattle.capture.specs.Meaning.{faultless, state_of}
use Rattle.capture.specs.Recordings.{Recorded, Refusal}

abbrev pub meaning : Capture → State
meaning c = state_of c.bus

-- a capture is no layer
abbrev pub single : Capture → ℕ
single c = 1

abbrev pub capture_meters : Capture → List Meter
capture_meters c = (meaning c).bus.meters

-- a capture made from these bytes: its meters are the ones that the bytes record, there is no other list of meters
-- that they record, and the meters have heard nothing
pub record Opened (bytes : List ℕ) (c : Capture) : Type 0 where
  pub small : length bytes ≤ 60000
  pub recorded : Recorded bytes (capture_meters c)
  pub only : (ms : List Meter) → Recorded bytes ms → ms ≡ capture_meters c
  pub means : meaning c ≡ faultless (at_rest (capture_meters c))
  pub sound : Sound (meaning c)

-- too many bytes come before all else, with no telegram number; else the first telegram that cannot be taken is told,
-- and the bytes record no meters
pub record Refuses (bytes : List ℕ) (e : CaptureFault) : Type 0 where
  pub too_long : 60000 < length bytes → (e.telegram ≡ None) × (e.cause ≡ Size)
  pub first_fault : length bytes ≤ 60000 → Refusal bytes e
  pub nothing : length bytes ≤ 60000 → (ms : List Meter) → Recorded bytes ms → ⊥

-- the request is heard and the due reply arrives; all else stays
pub record Answers (c : Capture) (request : List ℕ) (n : ℕ) (reply : List ℕ) (c' : Capture) : Type 0 where
  pub buffer : reply ≡ filled (arriving (due_to request (meaning c).bus))
  pub count : n ≡ length (arriving (due_to request (meaning c).bus))
  pub means : meaning c' ≡ faultless (heard request (meaning c).bus)
  pub table : c'.bus.table ≡ c.bus.table
