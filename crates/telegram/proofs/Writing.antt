-- Writing a reply telegram.
use Rattle.std.proofs.Common.{◌≡◌, ℕ, ◌+◌, ◌/◌, ◌%◌, ◌≤◌, true, cond, not, List, [], ◌∷◌, ◌++◌, length, take, is_some, is_ok, IfOk, Ok, Err, Result, refl, ap, ◌∙◌, subst, arith}
use Rattle.std.proofs.lemmas.List.{append_assoc, get_or_append_left, length-append}
use Rattle.std.proofs.lemmas.Bool.{le-leb}
use Rattle.link.specs.Buffers.{filled}
use Rattle.link.specs.Faults.{frame_fault}
use Rattle.link.specs.Frames.{Parts, long, write_refusal, written}
use Rattle.link.specs.declared.fault.FrameFault.{FrameFault}
use Rattle.link.proofs.Filling.{take_filled}
use Rattle.telegram.specs.declared.address.Address.{Address}
use Rattle.telegram.specs.declared.reply.Reply.{Reply}
use Rattle.telegram.specs.Addresses.{address_bytes}
use Rattle.telegram.specs.Digits.{decimal_number}
use Rattle.telegram.specs.Replies.{body_refusal, head_of, is_reply, reply_parts}
use Rattle.telegram.proofs.Replying.{passes}

-- the data of a reply telegram with this body
abbrev data_of : Reply → List ℕ → List ℕ
data_of t body =
    address_bytes t.address ++ t.access ∷ t.status ∷ (t.signature % 256) ∷ (t.signature / 256) ∷ body

pub address_size : (a : Address) → length (address_bytes a) ≡ 8
address_size a =
    omega (arith, a.sized, length-append a.number ((a.manufacturer % 256) ∷ (a.manufacturer / 256) ∷ a.version ∷ a.medium ∷ []))

data_size_is : (t : Reply) (body : List ℕ) → length (data_of t body) ≡ length body + 12
data_size_is t body =
    omega (arith, address_size t.address, length-append (address_bytes t.address) (t.access ∷ t.status ∷ (t.signature % 256) ∷ (t.signature / 256) ∷ body))

-- what follows the number does not matter
still_decimal : (n rest : List ℕ) → length n ≡ 4 → decimal_number n ≡ true → decimal_number (n ++ rest) ≡ true
still_decimal n rest h e =
    simp (get_or_append_left n rest 0 0 (omega arith), get_or_append_left n rest 0 1 (omega arith), get_or_append_left n rest 0 2 (omega arith), get_or_append_left n rest 0 3 (omega arith)) e

-- a reply telegram that was written is one
pub written_is_reply : (t : Reply) (body : List ℕ) → is_reply (written (reply_parts t body)) ≡ true
unfolding is_reply
written_is_reply t body =
    let a : Address = t.address in
    let rest : List ℕ = t.access ∷ t.status ∷ (t.signature % 256) ∷ (t.signature / 256) ∷ body in
    let number : decimal_number (data_of t body) ≡ true = simp append_assoc (still_decimal a.number ((a.manufacturer % 256) ∷ (a.manufacturer / 256) ∷ a.version ∷ a.medium ∷ rest) a.sized a.decimal) in
    ap (λ o. not (is_some o)) (passes (written (reply_parts t body)) t.primary (data_of t body) (omega (arith, data_size_is t body)) number refl)

-- the data, put together from what stands before the body and the body
pub joined : (t : Reply) (body d : List ℕ) → d ≡ head_of t ++ body → long 0x08 t.primary 0x72 d ≡ reply_parts t body
joined t body d h = ap (long 0x08 t.primary 0x72) (h ∙ append_assoc (address_bytes t.address) (t.access ∷ t.status ∷ (t.signature % 256) ∷ (t.signature / 256) ∷ []) body)

-- all that writing promises, from what the writing of the frame does
pub record Wrote (t : Reply) (body : List ℕ) (r : Result ℕ FrameFault) (before after : List ℕ) : Type 0 where
  pub fault : frame_fault r ≡ body_refusal body
  pub count : IfOk r (λ n. n ≡ length (written (reply_parts t body)))
  pub buffer : after ≡ cond (is_ok r) (filled (written (reply_parts t body))) before
  pub readable : IfOk r (λ n. is_reply (take n after) ≡ true)

short : (t : Reply) (body : List ℕ) → length body ≤ 240 → write_refusal (reply_parts t body) ≡ body_refusal body
short t body h =
    simp (le-leb (length (data_of t body)) 252 (omega (arith, data_size_is t body)), le-leb (length body) 240 h)

is_written : (t : Reply) (body : List ℕ) (r : Result ℕ FrameFault) (before after : List ℕ) → IfOk r (λ n. n ≡ length (written (reply_parts t body))) → after ≡ cond (is_ok r) (filled (written (reply_parts t body))) before → IfOk r (λ n. is_reply (take n after) ≡ true)
is_written t body (Ok n) before after c b =
    ap (λ x. is_reply (take n x)) b ∙ ap is_reply (take_filled (written (reply_parts t body)) n c) ∙ written_is_reply t body
is_written t body (Err e) before after c b = tt

pub wrote : (t : Reply) (body : List ℕ) (p : Parts) (r : Result ℕ FrameFault) (before after : List ℕ) → p ≡ reply_parts t body → length body ≤ 240 → frame_fault r ≡ write_refusal p → IfOk r (λ n. n ≡ length (written p)) → after ≡ cond (is_ok r) (filled (written p)) before → Wrote t body r before after
wrote t body p r before after e low f c b =
    let count : IfOk r (λ n. n ≡ length (written (reply_parts t body))) = subst (λ q. IfOk r (λ n. n ≡ length (written q))) e c in
    let buffer_is : after ≡ cond (is_ok r) (filled (written (reply_parts t body))) before = b ∙ ap (λ q. cond (is_ok r) (filled (written q)) before) e in
    record {
      fault = f ∙ ap write_refusal e ∙ short t body low;
      count = count;
      buffer = buffer_is;
      readable = is_written t body r before after count buffer_is;
    }
