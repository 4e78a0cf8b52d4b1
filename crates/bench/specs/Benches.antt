-- A new bench, and what an exchange on a bench is.
use Rattle.std.specs.Prelude.{◌≡◌, ℕ, List, [], length, vec_items}
use Rattle.link.specs.Buffers.{filled}
use Rattle.line.specs.Buses.{Bus}
use Rattle.line.specs.Exchanges.{Sound, State, due_to, heard}
use Rattle.bus.specs.Memories.{at_rest}
use Rattle.bus.specs.Replies.{arriving, damaged}
use Rattle.bench.specs.declared.bench.Bench.{Bench}
use Rattle.bench.specs.declared.fault_codes.Code.{Code}
use Rattle.bench.specs.declared.fault_codes.Code.TheVariants.{Clean, LostOut, LostBack, Damaged}
use Rattle.bench.specs.declared.row.Row.{Row}
use Rattle.bench.specs.Codes.{code_at, longest, position_after}
use Rattle.bench.specs.Meaning.{state_of}
use Rattle.bench.specs.Meters.{meters_of}

abbrev pub meaning : Bench → State
meaning b = state_of b.bus b.faults

-- a bench is no layer
abbrev pub single : Bench → ℕ
single b = 1

abbrev pub codes_of : Bench → List ℕ
codes_of b = vec_items b.faults.codes

-- a bench made from these: its meters have heard nothing, and its first code comes next
pub record New (rows : List Row) (area codes : List ℕ) (b : Bench) : Type 0 where
  pub means : meaning b ≡ record { bus = at_rest (meters_of rows area); run = longest codes; streak = 0 }
  pub sound : Sound (meaning b)
  pub codes_are : codes_of b ≡ codes
  pub first : b.faults.position ≡ 0

-- the reply to a request, by what befalls the exchange
abbrev pub reply_by : Code → List ℕ → Bus → List ℕ
reply_by Clean request b = arriving (due_to request b)
reply_by LostOut request b = []
reply_by LostBack request b = []
reply_by Damaged request b = damaged (due_to request b)

-- the bus after it
abbrev pub bus_by : Code → List ℕ → Bus → Bus
bus_by Clean request b = heard request b
bus_by LostOut request b = b
bus_by LostBack request b = heard request b
bus_by Damaged request b = heard request b

abbrev pub next_code : Bench → Code
next_code b = code_at (codes_of b) b.faults.position

-- the next code befalls the exchange, and is taken; all else stays
pub record Befalls (b : Bench) (request : List ℕ) (n : ℕ) (reply : List ℕ) (b' : Bench) : Type 0 where
  pub buffer : reply ≡ filled (reply_by (next_code b) request (meaning b).bus)
  pub count : n ≡ length (reply_by (next_code b) request (meaning b).bus)
  pub bus : (meaning b').bus ≡ bus_by (next_code b) request (meaning b).bus
  pub table : b'.bus.table ≡ b.bus.table
  pub codes : b'.faults.codes ≡ b.faults.codes
  pub position : b'.faults.position ≡ position_after (codes_of b) b.faults.position
