use Rattle.std.proofs.Common.{◌≡◌, ℕ, ◌/◌, ◌%◌, ◌<◌, List, [], ◌∷◌, ◌++◌, length, get_or, ap, arith, rules}
use Rattle.link.proofs.Lists.{spelled_whole}
use Rattle.telegram.proofs.address.Address.bytes.Goals as goal

pub returns : goal.returns
returns c =
    let n : List ℕ = c.args.self.now.number in
    let l : length n ≡ 4 = search rules in
    let m : c.args.self.now.manufacturer < 65536 = search rules in
    let h : c.args.self.now.manufacturer / 256 % 256 ≡ c.args.self.now.manufacturer / 256 = omega arith in
    let e : n ≡ get_or n 0 0 ∷ get_or n 1 0 ∷ get_or n 2 0 ∷ get_or n 3 0 ∷ [] = spelled_whole n 4 l in
    let t = c.to_le_bytes.ensures in
    let t0 = ap (λ x. get_or x 0 0) t in
    let t1 = ap (λ x. get_or x 1 0) t in
    let w = ap (λ x. x ++ (c.args.self.now.manufacturer % 256) ∷ (c.args.self.now.manufacturer / 256) ∷ c.args.self.now.version ∷ c.args.self.now.medium ∷ []) e in
    cc
