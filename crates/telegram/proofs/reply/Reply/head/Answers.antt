use Rattle.std.proofs.Common.{◌≡◌, ℕ, ◌/◌, ◌%◌, ◌<◌, List, [], ◌∷◌, ◌++◌, length, get_or, ap, arith, rules}
use Rattle.link.proofs.Lists.{spelled_whole}
use Rattle.telegram.proofs.reply.Reply.head.Goals as goal

pub returns : goal.returns
returns c =
    let t = c.args.self in
    let a : List ℕ = c.bytes.result in
    let l : length a ≡ 8 = search rules in
    let small : t.signature < 65536 = search rules in
    let high : t.signature / 256 % 256 ≡ t.signature / 256 = omega arith in
    let tail : List ℕ = t.access ∷ t.status ∷ (t.signature % 256) ∷ (t.signature / 256) ∷ [] in
    let whole = ap (λ x. x ++ tail) (spelled_whole a 8 l) in
    let is = ap (λ x. x ++ tail) c.bytes.ensures in
    let low = ap (λ x. get_or x 0 0) c.to_le_bytes.ensures in
    let up = ap (λ x. get_or x 1 0) c.to_le_bytes.ensures in
    cc
