-- What the proofs of lines made from tables share.
use Rattle.std.proofs.Common.{◌≡◌, ◌+◌, ◌/◌, ◌%◌, List, ◌∷◌, [], ◌++◌, ℕ, length, Some, None, Option, refl, ap, ◌∙◌, arith}
use Rattle.std.specs.List.{between}
use Rattle.std.proofs.lemmas.List.{append_assoc}
use Rattle.link.specs.declared.fault.Report.{Report}
use Rattle.link.specs.Frames.{checksum, written}
use Rattle.link.proofs.Lists.{between_at}
use Rattle.link.proofs.Ordering.{or_else}
use Rattle.telegram.specs.declared.reply.Reply.{Reply}
use Rattle.telegram.specs.Addresses.{address_bytes}
use Rattle.telegram.specs.Replies.{reply_parts}
use Rattle.telegram.proofs.Writing.{address_size}
use Rattle.line.specs.Meters.{address_in}

-- none of two faults
pub neither : (o p : Option Report) → or_else o p ≡ None → (o ≡ None) × (p ≡ None)
neither None p e = (refl, e)
neither (Some r) p e = absurd cc

-- a written reply carries its address
pub written_carries : (t : Reply) (body : List ℕ) → address_in (written (reply_parts t body)) ≡ address_bytes t.address
written_carries t body =
    let a : List ℕ = address_bytes t.address in
    let rest : List ℕ = t.access ∷ t.status ∷ (t.signature % 256) ∷ (t.signature / 256) ∷ body in
    let n : ℕ = length (a ++ rest) + 3 in
    let end : List ℕ = checksum (0x08 ∷ t.primary ∷ 0x72 ∷ (a ++ rest)) ∷ 0x16 ∷ [] in
    let front : List ℕ = 0x68 ∷ n ∷ n ∷ 0x68 ∷ 0x08 ∷ t.primary ∷ 0x72 ∷ [] in
    ap (λ x. between 7 15 (front ++ x)) (append_assoc a rest end) ∙ between_at front a (rest ++ end) 7 15 refl (omega (arith, address_size t.address))
