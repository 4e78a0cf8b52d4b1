-- The layout of a frame, and the order in which reading checks it.
use Rattle.std.specs.Prelude.{ℕ, ◌+◌, ◌-◌, ◌%◌, false, cond, List, [], ◌∷◌, ◌++◌, length, is_some, Some, None, Ok, Err, sum, Option, Result, ◌==◌, nat_le, slice_index}
use Rattle.std.specs.List.{between}
use Rattle.link.specs.declared.fault.Layer.TheVariants as layer
use Rattle.link.specs.declared.fault.Report.{Report}
use Rattle.link.specs.declared.fault.FrameFault.{FrameFault}
use Rattle.link.specs.declared.frame.LongFrame.{LongFrame}
use Rattle.link.specs.declared.frame.Frame.{Frame}
use Rattle.link.specs.declared.frame.Frame.TheVariants.{Ack, Short, Long}
use Rattle.link.specs.Checks.{Check, must, first_fault}
use Rattle.link.specs.Faults.{report_at, report_of}

-- what a frame says, apart from its layout
pub data Parts : Type 0 where
  ack : Parts
  short : (control address : ℕ) → Parts
  long : (control address information : ℕ) (content : List ℕ) → Parts

abbrev pub long_parts : LongFrame → Parts
long_parts f = long f.control f.address f.information f.data.now

abbrev pub parts : Frame → Parts
parts Ack = ack
parts (Short c a) = short c a
parts (Long f) = long_parts f

-- what was read, if it was not refused
abbrev pub parts_read : Result Frame FrameFault → Option Parts
parts_read (Ok f) = Some (parts f)
parts_read (Err e) = None

-- the sum of some bytes modulo 256
abbrev pub checksum : List ℕ → ℕ
checksum bs = sum bs % 256

-- bytes, then their checksum, then 16
abbrev pub with_sum : List ℕ → List ℕ
with_sum bs = bs ++ checksum bs ∷ 0x16 ∷ []

-- the bytes of a frame
abbrev pub written : Parts → List ℕ
written ack = 0xe5 ∷ []
written (short c a) = 0x10 ∷ with_sum (c ∷ a ∷ [])
written (long c a i d) =
    0x68 ∷ (length d + 3) ∷ (length d + 3) ∷ 0x68 ∷ with_sum (c ∷ a ∷ i ∷ d)

-- a fault of a frame, by number and place
abbrev pub at : ℕ → ℕ → Report
at number place = report_at layer.Frame number place

-- what a frame of `size` bytes needs at its end, the sum starting at `from`
abbrev pub end_checks : ℕ → ℕ → List ℕ → List Check
end_checks from size bs =
    must (nat_le size (length bs)) (at 3 (length bs))
    ∷ must (nat_le (length bs) size) (at 5 size)
    ∷ must (slice_index bs (size - 1) == 0x16) (at 6 (size - 1))
    ∷ must (slice_index bs (size - 2) == checksum (between from (size - 2) bs)) (at 7 (size - 2))
    ∷ []

abbrev pub ack_checks : List ℕ → List Check
ack_checks bs = must (nat_le (length bs) 1) (at 5 1) ∷ []

abbrev pub short_checks : List ℕ → List Check
short_checks bs = end_checks 1 5 bs

abbrev pub long_checks : List ℕ → List Check
long_checks bs =
    must (nat_le 4 (length bs)) (at 3 (length bs))
    ∷ must (nat_le 3 (slice_index bs 1)) (at 4 1)
    ∷ must (slice_index bs 2 == slice_index bs 1) (at 4 2)
    ∷ must (slice_index bs 3 == 0x68) (at 4 3)
    ∷ end_checks 4 (slice_index bs 1 + 6) bs

-- by the first byte: the acknowledgement, a short frame, a long one, or none
abbrev pub checks_from : ℕ → List ℕ → List Check
checks_from first bs =
    cond (first == 0xe5) (ack_checks bs)
    (cond (first == 0x10) (short_checks bs)
    (cond (first == 0x68) (long_checks bs) (must false (at 2 0) ∷ [])))

-- the checks of reading, in their order
abbrev pub frame_checks : List ℕ → List Check
frame_checks bs = must (nat_le 1 (length bs)) (at 1 0) ∷ checks_from (slice_index bs 0) bs

-- why some bytes are no frame
unfoldable pub frame_refusal : List ℕ → Option Report
frame_refusal bs = first_fault (frame_checks bs)

-- the parts, where they stand in the bytes of a frame
abbrev pub parts_in : List ℕ → Parts
parts_in bs =
    cond (slice_index bs 0 == 0xe5) ack
    (cond (slice_index bs 0 == 0x10) (short (slice_index bs 1) (slice_index bs 2))
    (long (slice_index bs 4) (slice_index bs 5) (slice_index bs 6) (between 7 (length bs - 2) bs)))

-- the frame that some bytes are, if they are one
unfoldable pub frame_of : List ℕ → Option Parts
frame_of bs = cond (is_some (frame_refusal bs)) None (Some (parts_in bs))

-- the size of a frame's data
abbrev pub data_size : Parts → ℕ
data_size ack = 0
data_size (short c a) = 0
data_size (long c a i d) = length d

-- the refusal of writing: a long frame holds at most 252 bytes of data
abbrev pub write_refusal : Parts → Option Report
write_refusal p = cond (nat_le (data_size p) 252) None (Some (report_of layer.Frame 8))
