-- Reply telegrams: long frames in which a meter answers.
use Rattle.std.specs.Prelude.{◌≡◌, ℕ, ◌-◌, ◌/◌, ◌%◌, ◌≤◌, Bool, true, false, cond, not, ◌&&◌, ◌||◌, List, [], ◌∷◌, ◌++◌, length, drop, is_some, Some, None, Ok, Err, Option, Result, ◌==◌, ◌≢◌, nat_le, slice_index}
use Rattle.std.specs.List.{between}
use Rattle.link.specs.declared.fault.Layer.TheVariants as layer
use Rattle.link.specs.declared.fault.Report.{Report}
use Rattle.link.specs.Checks.{Check, must, first_fault}
use Rattle.link.specs.Faults.{report_at, report_of}
use Rattle.link.specs.Frames.{Parts, long, frame_checks, parts, written}
use Rattle.link.specs.declared.frame.Frame.{Frame}
use Rattle.telegram.specs.declared.fault.ReplyFault.{ReplyFault}
use Rattle.telegram.specs.declared.reply.Reply.{Reply}
use Rattle.telegram.specs.Addresses.{address_bytes}
use Rattle.telegram.specs.Faults.{reply_fault}
use Rattle.telegram.specs.Digits.{decimal_number, digit_checks}

-- the control byte of a reply telegram
abbrev pub reply_control : ℕ → Bool
reply_control c = c == 0x08

-- a frame, but no reply telegram
abbrev pub not_reply : ℕ → Report
not_reply place = report_at layer.Reply 9 place

-- what a frame must be to be a reply telegram
abbrev pub telegram_checks : List ℕ → List Check
telegram_checks bs =
    must (slice_index bs 0 == 0x68) (not_reply 0)
    ∷ must (reply_control (slice_index bs 4)) (not_reply 4)
    ∷ must (slice_index bs 6 == 0x72) (not_reply 6)
    ∷ must (nat_le 15 (slice_index bs 1)) (not_reply 1)
    ∷ digit_checks 7 (drop 7 bs)

-- all checks of reading, in their order: first those of the frame
abbrev pub reply_checks : List ℕ → List Check
reply_checks bs = frame_checks bs ++ telegram_checks bs

-- why some bytes are no reply telegram
unfoldable pub reply_refusal : List ℕ → Option Report
reply_refusal bs = first_fault (reply_checks bs)

-- the bytes are a reply telegram
unfoldable pub is_reply : List ℕ → Bool
is_reply bs = not (is_some (reply_refusal bs))

-- the same checks of a long frame's parts
abbrev pub long_reply_checks : ℕ → ℕ → List ℕ → List Check
long_reply_checks control information d =
    must (reply_control control) (not_reply 4)
    ∷ must (information == 0x72) (not_reply 6)
    ∷ must (nat_le 12 (length d)) (not_reply 1)
    ∷ digit_checks 7 d

-- from place 19 to the byte before the checksum
abbrev pub body_of : List ℕ → List ℕ
body_of bs = between 19 (length bs - 2) bs

-- the data before the body
abbrev pub head_of : Reply → List ℕ
head_of t =
    address_bytes t.address ++ t.access ∷ t.status ∷ (t.signature % 256) ∷ (t.signature / 256) ∷ []

-- the frame of a reply telegram with this body
abbrev pub reply_parts : Reply → List ℕ → Parts
reply_parts t body =
    long 0x08 t.primary 0x72
    (address_bytes t.address ++ t.access ∷ t.status ∷ (t.signature % 256) ∷ (t.signature / 256) ∷ body)

-- the refusal of writing: a body has at most 240 bytes
abbrev pub body_refusal : List ℕ → Option Report
body_refusal body = cond (nat_le (length body) 240) None (Some (report_of layer.Frame 8))

-- what is read is the telegram whose bytes were given; refused are only bytes that are no long frame with C 08, CI 72,
-- at least twelve bytes of data and a decimal number
abbrev pub ReadsReply : List ℕ → Result Reply ReplyFault → Type 0
ReadsReply bs (Ok t) = written (reply_parts t (body_of bs)) ≡ bs
ReadsReply bs (Err e) =
    (address : ℕ) (d : List ℕ) → 12 ≤ length d → decimal_number d ≡ true → written (long 0x08 address 0x72 d) ≢ bs

-- the reply telegram that a frame is, or the fault of the first check that fails
pub record ReplyIn (f : Frame) (r : Result Reply ReplyFault) : Type 0 where
  pub fault : reply_fault r ≡ reply_refusal (written (parts f))
  pub reads : ReadsReply (written (parts f)) r

-- the acknowledgement alone
abbrev pub is_ack : List ℕ → Bool
is_ack bs = length bs == 1 && slice_index bs 0 == 0xe5

-- an answer: the acknowledgement alone, or a reply telegram
abbrev pub answers : List ℕ → Bool
answers bs = is_ack bs || is_reply bs

-- what arrives where several meters answer at once, or where an answer is damaged: some bytes that are no answer
pub record Garbled (bs : List ℕ) : Type 0 where
  pub some_bytes : 1 ≤ length bs
  pub few_bytes : length bs ≤ 261
  pub no_answer : answers bs ≡ false
