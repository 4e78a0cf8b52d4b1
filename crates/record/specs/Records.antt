-- One record: DIF, DIFEs, VIF, VIFEs, data. bs is a telegram up to its body's end, p the place of the DIF.
use Rattle.std.specs.Prelude.{◌≡◌, ℕ, ◌+◌, ◌-◌, ◌/◌, ◌%◌, ◌<◌, ◌≤◌, cond, List, [], ◌∷◌, ◌++◌, length, is_some, Some, None, Option, ◌==◌, nat_lt, slice_index}
use Rattle.std.specs.List.{between}
use Rattle.link.specs.declared.fault.Report.{Report}
use Rattle.link.specs.Checks.{Check, must, first_fault}
use Rattle.quantity.specs.declared.meaning.Meaning.{Meaning}
use Rattle.quantity.specs.Table.{vif_meaning}
use Rattle.record.specs.declared.coding.Coding.{Coding}
use Rattle.record.specs.declared.decode.Decoded.{Decoded}
use Rattle.record.specs.declared.reading.Function as func
use Rattle.record.specs.declared.reading.Function.TheVariants.{Instantaneous, Maximum, Minimum, DuringError}
use Rattle.record.specs.declared.reading.Reading.{Reading}
use Rattle.record.specs.declared.reading.Value.{Value}
use Rattle.record.specs.declared.reading.Value.TheVariants as value
use Rattle.record.specs.Chains.{chain_checks, chain_end, storage_of, tariff_of, subunit_of}
use Rattle.record.specs.Codings.{dif_coding}
use Rattle.record.specs.Faults.{at, ended}
use Rattle.record.specs.Values.{value_checks, value_end, value_of}

abbrev pub function_of : ℕ → func.Function
function_of dif =
    cond (dif / 16 % 4 == 0) Instantaneous
    (cond (dif / 16 % 4 == 1) Maximum
    (cond (dif / 16 % 4 == 2) Minimum DuringError))

-- the data information block is the DIF and its DIFEs
abbrev pub dib_checks : List ℕ → ℕ → List Check
dib_checks bs p =
    must (nat_lt p (length bs)) (ended bs)
    ∷ must (is_some (dif_coding (slice_index bs p))) (at 11 p)
    ∷ chain_checks bs p

-- the value information block is the VIF and its VIFEs
abbrev pub vib_checks : List ℕ → ℕ → List Check
vib_checks bs v =
    must (nat_lt v (length bs)) (ended bs)
    ∷ must (is_some (vif_meaning (slice_index bs v))) (at 13 v)
    ∷ chain_checks bs v

-- the second block follows the first, and the data follow it
abbrev pub vif_place : List ℕ → ℕ → ℕ
vif_place bs p = chain_end bs p

abbrev pub data_place : List ℕ → ℕ → ℕ
data_place bs p = chain_end bs (vif_place bs p)

abbrev pub coding_at : List ℕ → ℕ → Option Coding
coding_at bs p = dif_coding (slice_index bs p)

abbrev pub meaning_at : List ℕ → ℕ → Option Meaning
meaning_at bs p = vif_meaning (slice_index bs (vif_place bs p))

-- the checks of the data, where their coding is known
abbrev pub data_checks : List ℕ → ℕ → Option Coding → List Check
data_checks bs d None = []
data_checks bs d (Some c) = value_checks bs d c

-- from left to right
abbrev pub record_checks : List ℕ → ℕ → List Check
record_checks bs p = dib_checks bs p ++ (vib_checks bs (vif_place bs p) ++ data_checks bs (data_place bs p) (coding_at bs p))

-- why there is no record at p
unfoldable pub record_refusal : List ℕ → ℕ → Option Report
record_refusal bs p = first_fault (record_checks bs p)

-- the reading of a record with its VIF at v and its data at d, which mean m and have the value x
abbrev pub reading_by : List ℕ → ℕ → ℕ → ℕ → Meaning → Value → Reading
reading_by bs p v d m x =
    record {
      place = p;
      storage = storage_of (slice_index bs p) (between (p + 1) v bs);
      tariff = tariff_of (between (p + 1) v bs);
      subunit = subunit_of (between (p + 1) v bs);
      function = function_of (slice_index bs p);
      meaning = m;
      vifes = record { place = v + 1; len = d - (v + 1) };
      value = x;
    }

abbrev pub reading_of : List ℕ → ℕ → Meaning → Coding → Reading
reading_of bs p m c = reading_by bs p (vif_place bs p) (data_place bs p) m (value_of bs (data_place bs p) c)

-- the reading and the place after the record, where coding and meaning are known
abbrev pub decoded : List ℕ → ℕ → Option Coding → Option Meaning → Option Decoded
decoded bs p None m = None
decoded bs p (Some c) None = None
decoded bs p (Some c) (Some m) = Some (record { reading = reading_of bs p m c; next = value_end bs (data_place bs p) c })

-- the record at p, if nothing refuses it
unfoldable pub record_of : List ℕ → ℕ → Option Decoded
record_of bs p = cond (is_some (record_refusal bs p)) None (decoded bs p (coding_at bs p) (meaning_at bs p))

-- a text comes last: its length byte stands at d, and it ends at n
abbrev pub TextLast : ℕ → ℕ → Value → Type 0
TextLast d n value.NoData = Unit {0}
TextLast d n (value.Integer z) = Unit {0}
TextLast d n (value.Real b) = Unit {0}
TextLast d n (value.Text s) = (d + 1 ≡ s.place) × (s.place + s.len ≡ n)

-- the parts of a record that begins at p and ends at n
pub record Within (bs : List ℕ) (p n : ℕ) (r : Reading) : Type 0 where
  pub begins : r.place ≡ p
  pub forward : p < n
  pub ends : n ≤ length bs
  pub vifes_from : p + 1 < r.vifes.place
  pub vifes_to : r.vifes.place + r.vifes.len ≤ n
  pub text : TextLast (r.vifes.place + r.vifes.len) n r.value
