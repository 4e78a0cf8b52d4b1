-- A new capture: what holds of its bus.
use Rattle.std.proofs.Common.{◌≡◌, ℕ, List, sym, ap, ◌∙◌, subst}
use Rattle.line.specs.Exchanges.{Sound}
use Rattle.line.specs.Meters.{Meter}
use Rattle.bus.specs.Memories.{at_rest, bus_of}
use Rattle.bus.specs.declared.meter_bus.MeterBus.{MeterBus}
use Rattle.bus.proofs.Answering.{rest_sound}
use Rattle.capture.specs.declared.recording.Recording.{Recording}
use Rattle.capture.specs.declared.row.Row.{Row}
use Rattle.capture.specs.Meaning.{faultless, recorded, state_of}
use Rattle.capture.specs.Recordings.{Recorded}
use Rattle.capture.specs.Rows.{meters_of}
use Rattle.capture.proofs.Unique.{one_reading}

-- what was read, where the bytes were passed under another name
pub read_of : {given bytes : List ℕ} (rows : List Row) → given ≡ bytes → Recorded given (meters_of given rows) → Recorded bytes (meters_of bytes rows)
read_of rows e h = let P : List ℕ → Type 0 = λ b. Recorded b (meters_of b rows) in subst P e h

module _ (bytes : List ℕ) (ms : List Meter) (h : Recorded bytes ms) (x : MeterBus Recording) (e : bus_of recorded x ≡ at_rest ms) where
  pub meters_are : recorded x.table ≡ ms
  meters_are = ap (λ b. b.meters) e

  pub bus_recorded : Recorded bytes (recorded x.table)
  bus_recorded = subst (Recorded bytes) (sym meters_are) h

  pub bus_only : (other : List Meter) → Recorded bytes other → other ≡ recorded x.table
  bus_only other r = one_reading bytes other ms r h ∙ sym meters_are

  pub bus_means : state_of x ≡ faultless (at_rest (recorded x.table))
  bus_means = ap faultless (e ∙ ap at_rest (sym meters_are))

  pub bus_sound : Sound (state_of x)
  bus_sound = subst Sound (sym (ap faultless e)) (rest_sound ms 0 h.stocked)
