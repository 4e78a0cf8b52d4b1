use Rattle.std.proofs.Common.{◌≡◌, ◌≤◌, length, ap, ◌∙◌, arith, length-take, rules}
use Rattle.telegram.specs.Patterns.{fits, beginning_pattern}
use Rattle.search.specs.Beginnings.{digits_of}
use Rattle.search.proofs.Digits.{front_digits}
use Rattle.search.proofs.Fitting.{pattern_fits}
use Rattle.search.proofs.beginning.Beginning.pattern.Goals as goal

pub returns : goal.returns
returns c =
    let b = c.args.self.now in
    let short : length (digits_of b) ≤ 8 = simp length-take (omega arith) in
    let e : _ ≡ beginning_pattern (digits_of b) = search rules in
    let digits = front_digits b.digits b.len b.decimal in
    record { bytes = e; fits = λ a long. ap (λ p. fits p a) e ∙ pattern_fits (digits_of b) a digits short long }
