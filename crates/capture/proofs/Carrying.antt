-- What a reply telegram tells of itself: its length, and the address that it carries.
use Rattle.std.proofs.Common.{◌≡◌, ℕ, ◌+◌, ◌≤◌, true, not, List, length, get_or, is_some, Some, None, Option, sym, refl, ap, ◌∙◌, arith}
use Rattle.std.proofs.lemmas.Bool.Decides.{nat_tests}
use Rattle.link.specs.declared.fault.Report.{Report}
use Rattle.link.specs.Checks.{first_fault}
use Rattle.link.specs.Frames.{frame_checks, written}
use Rattle.link.proofs.Ordering.{first_joined}
use Rattle.telegram.specs.declared.reply.Reply.{Reply}
use Rattle.telegram.specs.Addresses.{address_bytes}
use Rattle.telegram.specs.Replies.{body_of, is_reply, reply_parts, reply_refusal, telegram_checks}
use Rattle.line.specs.Meters.{address_in}
use Rattle.bus.proofs.Sharing.{neither, written_carries}

-- a reply telegram
abbrev pub Telegram : List ℕ → Type 0
Telegram t = is_reply t ≡ true

pub reply_from : (t : List ℕ) → reply_refusal t ≡ None → Telegram t
unfolding is_reply
reply_from t h = ap (λ o. not (is_some o)) h

none_from : (o : Option Report) → not (is_some o) ≡ true → o ≡ None
none_from None h = refl
none_from (Some r) h = absurd cc

-- a reply telegram is not refused
pub unrefused : (t : List ℕ) → Telegram t → reply_refusal t ≡ None
unfolding is_reply
unrefused t h = none_from (reply_refusal t) h

module _ (t : List ℕ) (f : first_fault (frame_checks t) ≡ None) (l : first_fault (telegram_checks t) ≡ None) where
  start_is : get_or t 0 0 ≡ 0x68
  start_is = grind (arith, nat_tests)

  size_is : length t ≡ get_or t 1 0 + 6
  size_is = let s = start_is in grind (arith, nat_tests)

  least : 15 ≤ get_or t 1 0
  least = grind (arith, nat_tests)

-- a telegram's second byte tells its length
pub reply_length : (t : List ℕ) → Telegram t → (length t ≡ get_or t 1 0 + 6) × (15 ≤ get_or t 1 0)
unfolding reply_refusal
reply_length t h =
    let p = neither (first_fault (frame_checks t)) (first_fault (telegram_checks t)) (sym (first_joined (frame_checks t) (telegram_checks t)) ∙ unrefused t h) in
    (size_is t p.0 p.1, least t p.0 p.1)

-- the address that was read is the one that the bytes carry
pub address_read : (t : Reply) (bs : List ℕ) → written (reply_parts t (body_of bs)) ≡ bs → address_bytes t.address ≡ address_in bs
address_read t bs w = sym (written_carries t (body_of bs)) ∙ ap address_in w
