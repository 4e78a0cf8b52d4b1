use Rattle.std.proofs.Common.{◌≡◌, ℕ, ◌/◌, ◌%◌, ◌^◌, List, reverse, refl, subst, ◌∙◌, rules, arith}
use Rattle.std.proofs.lemmas.Fn.{fold_over}
use Rattle.std.proofs.lemmas.Iterator.Adapters.{YieldsList-from_rev_slice}
use Rattle.std.proofs.lemmas.List.{reverse-reverse}
use Rattle.std.specs.Iterator.Adapters.{rev_steps}
use Rattle.std.specs.Slice.Iter.{iter_steps_back}
use Rattle.record.specs.declared.chain.Register.{Register}
use Rattle.record.proofs.Positions.{in_difes, one_below, positional, total_from_0, total_from_1}
use Rattle.record.proofs.chain.shown_by.Goals as goal

abbrev Shown : List ℕ → Register → Type 0
Shown bs r =
    (r.storage ≡ positional 16 (λ b. b % 16) bs % 2 ^ 64)
    × (r.tariff ≡ positional 4 (λ b. b / 16 % 4) bs % 2 ^ 32)
    × (r.subunit ≡ positional 2 (λ b. b / 64 % 2) bs % 2 ^ 16)

pub returns : goal.returns
returns c =
    let bs = c.args.difes.now in
    let h = fold_over (rev_steps iter_steps_back) (λ x. x.now) _ (λ ys a. Shown (reverse ys) a) _
    (λ ys a x b f' (j, k, l) q. (
      (
        one_below (2 ^ 64) 16 (λ b. b % 16) ys a.storage b.storage x.now j (search rules),
        one_below (2 ^ 32) 4 (λ b. b / 16 % 4) ys a.tariff b.tariff x.now k (search rules),
        one_below (2 ^ 16) 2 (λ b. b / 64 % 2) ys a.subunit b.subunit x.now l (search rules),
      ),
      search rules,
    ))
    c.rev.result (reverse bs) _ c.fold.result (YieldsList-from_rev_slice {s = c.rev.result} bs cc).runs (refl, refl, refl) c.fold.ensures.ran in
    let k : Shown bs c.fold.result = subst (λ zs. Shown zs c.fold.result) (reverse-reverse bs) h in
    let s = in_difes (2 ^ 64) 16 (λ b. b % 16) c.fold.result.storage bs (omega arith) (omega arith) (λ b. omega arith) c.requires k.0 in
    let t = in_difes (2 ^ 32) 4 (λ b. b / 16 % 4) c.fold.result.tariff bs (omega arith) (omega arith) (λ b. omega arith) c.requires k.1 in
    let u = in_difes (2 ^ 16) 2 (λ b. b / 64 % 2) c.fold.result.subunit bs (omega arith) (omega arith) (λ b. omega arith) c.requires k.2 in
    record {
      storage = s.0 ∙ total_from_0 16 (λ b. b % 16) bs;
      tariff = t.0 ∙ total_from_0 4 (λ b. b / 16 % 4) bs ∙ total_from_1 4 (λ b. b / 16 % 4) bs;
      subunit = u.0 ∙ total_from_0 2 (λ b. b / 64 % 2) bs ∙ total_from_1 2 (λ b. b / 64 % 2) bs;
      bound = s.1;
    }
