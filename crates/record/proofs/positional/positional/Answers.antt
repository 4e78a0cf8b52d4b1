use Rattle.std.proofs.Common.{◌≡◌, ◌%◌, ◌^◌, reverse, refl, ap, ◌∙◌, rules}
use Rattle.std.proofs.lemmas.Fn.{fold_over}
use Rattle.std.proofs.lemmas.Iterator.Adapters.{YieldsList-from_rev_slice}
use Rattle.std.proofs.lemmas.List.{reverse-reverse}
use Rattle.std.specs.Iterator.Adapters.{rev_steps}
use Rattle.std.specs.Slice.Iter.{iter_steps_back}
use Rattle.record.proofs.Positions.{one_below, positional, total_from_0}
use Rattle.record.proofs.positional.positional.Goals as goal

pub returns : goal.returns
returns g c f k =
    let bs = c.args.bytes.now in
    let base = c.args.base in
    let h = fold_over (rev_steps iter_steps_back) (λ x. x.now) _ (λ ys a. a ≡ positional base f (reverse ys) % 2 ^ 64) _ (λ ys a x b f' j q. (one_below (2 ^ 64) base f ys a b x.now j (search (rules, k)), search rules)) c.rev.result (reverse bs) 0 c.fold.result (YieldsList-from_rev_slice {s = c.rev.result} bs cc).runs refl c.fold.ensures.ran in
    h ∙ ap (λ zs. positional base f zs % 2 ^ 64) (reverse-reverse bs) ∙ ap (λ n. n % 2 ^ 64) (total_from_0 base f bs)
