-- Reply telegrams that carry an address, as they are written and as they are read.
use Rattle.std.proofs.Common.{◌≡◌, ℕ, ◌/◌, ◌%◌, ◌≤◌, true, not, List, [], ◌∷◌, ◌++◌, length, take, is_some, Ok, refl, ap, ◌∙◌, subst, arith}
use Rattle.std.proofs.lemmas.List.{append_assoc, get_or_append_left, length-append, take_at}
use Rattle.link.specs.Frames.{checksum, long, written}
use Rattle.telegram.specs.declared.address.Address.{Address}
use Rattle.telegram.specs.declared.reply.Reply.{Reply}
use Rattle.telegram.specs.Addresses.{address_bytes}
use Rattle.telegram.specs.Digits.{decimal_number}
use Rattle.telegram.specs.Replies.{ReadsReply, body_of, is_reply}
use Rattle.telegram.proofs.Replying.{passes}
use Rattle.line.specs.Meters.{Carries}

decimal_front : (n rest : List ℕ) → length n ≡ 4 → decimal_number n ≡ true → decimal_number (n ++ rest) ≡ true
decimal_front n rest l h =
    simp (get_or_append_left n rest 0 0 (omega arith), get_or_append_left n rest 0 1 (omega arith), get_or_append_left n rest 0 2 (omega arith), get_or_append_left n rest 0 3 (omega arith)) h

-- a telegram of the meter with this address, the primary address p and at least four bytes after its own
module _ (a : Address) (p : ℕ) (rest : List ℕ) (size : length a.number ≡ 4) (some : 4 ≤ length rest) where
  pub carries_written : Carries (address_bytes a) (written (long 0x08 p 0x72 (address_bytes a ++ rest)))
  unfolding is_reply
  carries_written =
      let d : List ℕ = address_bytes a ++ rest in
      let after : List ℕ = (a.manufacturer % 256) ∷ (a.manufacturer / 256) ∷ a.version ∷ a.medium ∷ [] in
      let sum : List ℕ = checksum (0x08 ∷ p ∷ 0x72 ∷ d) ∷ 0x16 ∷ [] in
      let eight : length (address_bytes a) ≡ 8 = omega (arith, length-append a.number after) in
      let long_enough : 12 ≤ length d = omega (arith, length-append (address_bytes a) rest) in
      let digits : decimal_number d ≡ true = rw append_assoc (decimal_front a.number (after ++ rest) size a.decimal) in
      (ap (λ o. not (is_some o)) (passes (written (long 0x08 p 0x72 d)) p d long_enough digits refl), ap (take 8) (append_assoc (address_bytes a) rest sum) ∙ take_at (address_bytes a) (rest ++ sum) 8 eight)

-- what is read as a reply telegram carries the address that is read
pub carries_read : (bs : List ℕ) (t : Reply) → length t.address.number ≡ 4 → ReadsReply bs (Ok t) → Carries (address_bytes t.address) bs
carries_read bs t size h =
    subst (Carries (address_bytes t.address)) h
    (carries_written t.address t.primary (t.access ∷ t.status ∷ (t.signature % 256) ∷ (t.signature / 256) ∷ body_of bs) size (omega arith))
