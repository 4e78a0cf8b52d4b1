-- Cases of the definitions, computed.
use Rattle.std.specs.Prelude.{◌≡◌, ℕ, true, false, List, [], ◌∷◌, ◌++◌, replicate, ℤ, pos, negsuc, Some, None, Option}
use Rattle.std.specs.List.{AllByRecursion}
use Rattle.link.specs.declared.fault.Layer.TheVariants as layer
use Rattle.link.specs.declared.fault.Report.{Report}
use Rattle.link.specs.Faults.{report_at}
use Rattle.link.specs.Frames.{frame_refusal}
use Rattle.telegram.specs.declared.request.Request.{Request}
use Rattle.telegram.specs.declared.request.Request.TheVariants.{Selection, Fetch, Release}
use Rattle.telegram.specs.Patterns.{beginning_pattern}
use Rattle.telegram.specs.Requests.{request_bytes}
use Rattle.quantity.specs.declared.unit.Unit as unit
use Rattle.quantity.specs.declared.unit.Unit.TheVariants.{WattHour, CubicMetre, Celsius}
use Rattle.record.specs.declared.decode.Decoded.{Decoded}
use Rattle.record.specs.declared.reading.Value.{Value}
use Rattle.record.specs.declared.reading.Value.TheVariants.{Integer}
use Rattle.record.specs.Records.{record_of, record_refusal}
use Rattle.line.specs.Laws.{ShowsRun}

-- the selection of the numbers that begin with these digits
abbrev pub selection_of : List ℕ → Request
selection_of digits = Selection (record { bytes = beginning_pattern digits })

pub data Example : Type 0 where
  -- the bytes of a request
  sends : (request : Request) (expected : List ℕ) → Example
  -- why some bytes are no frame
  refuses : (bytes : List ℕ) (expected : Report) → Example
  -- the first reading of a body: its value, its power of ten and its unit
  reads : (body : List ℕ) (value : Value) (power : ℤ) (unit : unit.Unit) → Example
  -- why a body has no first reading
  refuses_body : (body : List ℕ) (expected : Report) → Example
  -- the run that shows above layers of these tries, the lowest layer first
  shows_run : (layers : List ℕ) (run seen : ℕ) → Example

-- a body begins at place 19
abbrev pub with_body : List ℕ → List ℕ
with_body body = replicate 19 0 ++ body

-- a reading with this value, power and unit
abbrev pub Amounts : Value → ℤ → unit.Unit → Option Decoded → Type 0
Amounts v p u None = ⊥
Amounts v p u (Some d) = (d.reading.value ≡ v) × (d.reading.meaning.power ≡ p) × (d.reading.meaning.unit ≡ u)

abbrev pub Holds : Example → Type 0
Holds (sends request expected) = request_bytes request ≡ expected
Holds (refuses bytes expected) = frame_refusal bytes ≡ Some expected
Holds (reads body v p u) = Amounts v p u (record_of (with_body body) 19)
Holds (refuses_body body expected) = record_refusal (with_body body) 19 ≡ Some expected
Holds (shows_run layers run seen) = ShowsRun layers run seen

abbrev pub examples : List Example
examples =
    -- every number
    sends (selection_of [])
    (0x68 ∷ 0x0b ∷ 0x0b ∷ 0x68 ∷ 0x53 ∷ 0xfd ∷ 0x52 ∷ 0xff ∷ 0xff ∷ 0xff ∷ 0xff ∷ 0xff ∷ 0xff ∷ 0xff ∷ 0xff ∷ 0x9a ∷ 0x16 ∷ [])
    -- the numbers that begin with 123
    ∷ sends (selection_of (1 ∷ 2 ∷ 3 ∷ []))
    (0x68 ∷ 0x0b ∷ 0x0b ∷ 0x68 ∷ 0x53 ∷ 0xfd ∷ 0x52 ∷ 0xff ∷ 0xff ∷ 0x3f ∷ 0x12 ∷ 0xff ∷ 0xff ∷ 0xff ∷ 0xff ∷ 0xed ∷ 0x16 ∷ [])
    -- the short requests
    ∷ sends (Fetch true) (0x10 ∷ 0x7b ∷ 0xfd ∷ 0x78 ∷ 0x16 ∷ [])
    ∷ sends (Fetch false) (0x10 ∷ 0x5b ∷ 0xfd ∷ 0x58 ∷ 0x16 ∷ [])
    ∷ sends Release (0x10 ∷ 0x40 ∷ 0xfd ∷ 0x3d ∷ 0x16 ∷ [])
    -- a wrong checksum
    ∷ refuses (0x10 ∷ 0x7b ∷ 0xfd ∷ 0x79 ∷ 0x16 ∷ []) (report_at layer.Frame 7 3)
    -- four bytes FF, three bytes with the highest bit, a decimal with a sign
    ∷ reads (0x04 ∷ 0x06 ∷ 0xff ∷ 0xff ∷ 0xff ∷ 0xff ∷ []) (Integer (negsuc 0)) (pos 3) WattHour
    ∷ reads (0x03 ∷ 0x13 ∷ 0x00 ∷ 0x00 ∷ 0x80 ∷ []) (Integer (negsuc 8388607)) (negsuc 2) CubicMetre
    ∷ reads (0x0a ∷ 0x5a ∷ 0x34 ∷ 0xf2 ∷ []) (Integer (negsuc 233)) (negsuc 0) Celsius
    -- a digit above 9
    ∷ refuses_body (0x0a ∷ 0x5a ∷ 0x3b ∷ 0x12 ∷ []) (report_at layer.Record 14 21)
    -- two tries, and then three over them
    ∷ shows_run (2 ∷ 3 ∷ []) 5 0
    ∷ shows_run (2 ∷ 3 ∷ []) 6 1
    ∷ []

abbrev pub AllHold : Type 0
AllHold = AllByRecursion Holds examples
