-- Where a telegram lies in the bytes of a capture, and how it is read.
use Rattle.std.specs.Prelude.{◌≡◌, ℕ, ◌+◌, List, length, take, drop, Some, None, Err, slice_index}
use Rattle.link.specs.Frames.{frame_refusal}
use Rattle.telegram.specs.declared.fault.ReplyFault.{ReplyFault}
use Rattle.telegram.specs.declared.reply.Reply.{Reply}
use Rattle.telegram.specs.Faults.{Rises, reply_report}
use Rattle.telegram.specs.Replies.{reply_refusal}
use Rattle.line.specs.Meters.{address_in}

-- the first telegram of some bytes: 6 more than its second byte says; all of them where they are fewer
abbrev pub first_telegram : List ℕ → List ℕ
first_telegram bytes = take (6 + slice_index bytes 1) bytes

-- the telegram that starts at a place
abbrev pub telegram_from : List ℕ → ℕ → List ℕ
telegram_from bytes place = first_telegram (drop place bytes)

-- some bytes are refused as a reply telegram with this fault, and a frame's fault comes whole inside it
pub record Faulty (bytes : List ℕ) (e : ReplyFault) : Type 0 where
  pub told : reply_refusal bytes ≡ Some (reply_report e)
  pub rises : Rises {T = Reply} (frame_refusal bytes) (Err e)

-- the telegram at a place carries the address, and the next one starts after it
pub record Took (bytes : List ℕ) (at : ℕ) (address : List ℕ) (next : ℕ) : Type 0 where
  pub sound : reply_refusal (telegram_from bytes at) ≡ None
  pub carried : address ≡ address_in (telegram_from bytes at)
  pub moved : next ≡ at + length (telegram_from bytes at)

-- the telegram at a place has a fault, and the reader stays there
pub record Stuck (bytes : List ℕ) (at : ℕ) (e : ReplyFault) (next : ℕ) : Type 0 where
  pub faulty : Faulty (telegram_from bytes at) e
  pub stays : next ≡ at
