use Rattle.std.proofs.Common.{◌≡◌, ℕ, ◌+◌, List, [], ◌∷◌, ◌++◌, length, ap, ◌∙◌, arith}
use Rattle.std.specs.List.{between}
use Rattle.link.specs.Buffers.{filled}
use Rattle.link.specs.Frames.{checksum}
use Rattle.link.proofs.Filling.{between_filled, filled_all}
use Rattle.link.proofs.frame.LongFrame.write.Goals as goal

pub returns-clause-buffer : goal.returns-clause-buffer
returns-clause-buffer c =
    let f = c.args.self.now in
    let d : List ℕ = f.data.now in
    let n : ℕ = length d + 3 in
    let head : List ℕ = 0x68 ∷ n ∷ n ∷ 0x68 ∷ [] in
    let summed : List ℕ = f.control ∷ f.address ∷ f.information ∷ d in
    let end : ℕ = c.append-end.result in
    let start = head ++ f.control ∷ f.address ∷ f.information ∷ [] in
    let x = c.append-end.ensures in
    let y = c.append.ensures in
    let second : c.append-end.new.buffer ≡ filled (head ++ summed) =
    filled_all start d _ _ _ end (omega (arith, c.fill-start.ensures.count)) (omega (arith, c.fill-start.ensures.count)) c.fill-start.ensures.buffer x.count x.front x.rest in
    let end_is : length (head ++ summed) ≡ end = omega (arith, x.count, c.fill-start.ensures.count) in
    let sum_is : c.checksum-sum.result ≡ checksum summed =
    c.checksum-sum.ensures ∙ ap checksum (ap (between 4 end) second ∙ between_filled head summed 4 end (omega arith) end_is) in
    filled_all (head ++ summed) (c.checksum-sum.result ∷ 0x16 ∷ []) _ _ end _ end_is (omega arith) second y.count y.front y.rest
    ∙ ap (λ s. filled (head ++ (summed ++ s ∷ 0x16 ∷ []))) sum_is
