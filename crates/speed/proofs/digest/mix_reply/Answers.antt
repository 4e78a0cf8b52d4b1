use Rattle.std.proofs.Common.{◌≡◌, ℕ, List, [], ◌∷◌, length, sym, ap, ◌∙◌, arith, rules}
use Rattle.std.proofs.lemmas.Grind.{same_number_lists}
use Rattle.telegram.specs.Addresses.{address_bytes}
use Rattle.speed.specs.Digests.{mixed_all}
use Rattle.speed.proofs.Folding.{mixed_parts}
use Rattle.speed.proofs.digest.mix_reply.Goals as goal

pub returns : goal.returns
returns c =
    let t = c.args.reply.now in
    let tail : List ℕ = t.access ∷ t.status ∷ t.signature ∷ [] in
    let m = c.map.ensures.items in
    let l : length c.bytes.result ≡ 8 = search rules in
    let widened : c.map.result ≡ c.bytes.result = same_number_lists c.map.result c.bytes.result (omega (arith, m.long, l)) (λ k h. let w = m.at k 0 0 (omega (arith, h, m.long)) in search rules) in
    let head : c.mix_all-address.result ≡ mixed_all c.args.digest (address_bytes t.address) = c.mix_all-address.ensures ∙ ap (mixed_all c.args.digest) (widened ∙ c.bytes.ensures) in
    let rest : c.mix_all.result ≡ mixed_all c.mix_all-address.result tail = search rules in
    rest ∙ ap (λ d. mixed_all d tail) head ∙ sym (mixed_parts c.args.digest (address_bytes t.address) tail)
