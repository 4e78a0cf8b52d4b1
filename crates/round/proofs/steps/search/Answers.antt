use Rattle.std.proofs.Common.{◌≡◌, ◌+◌, ◌-◌, ◌≤◌, ℕ, length, drop, take, sym, refl, ap, ◌∙◌, subst, arith, length-take-le}
use borrow.Rule.Slice.PartMut.{put_mid}
use Rattle.master.proofs.Keeping.{chain_keeps}
use Rattle.master.specs.Faults.{summary_of}
use Rattle.round.proofs.Placing.{drop_put, part_size, put_size, take_put}
use Rattle.round.proofs.Stepping.{same_house, search_goes}
use Rattle.round.proofs.steps.search.Goals as goal

pub returns : goal.returns
returns g c =
    let f = c.search_into-result.ensures in
    let xs = c.args.places.now.all.now in
    let ys = c.search_into-result.new.places in
    let used = c.args.places.now.used in
    let low : used ≤ length xs = c.args.places.now.within in
    let n = (summary_of c.search_into-result.result).entries in
    let n_is : c.summary.result.entries ≡ n = ap (λ s. s.entries) c.summary.ensures in
    let few : n ≤ length ys = omega (arith, f.within, c.search_into-result.auto.places) in
    let all = put_mid used (length xs - used) xs ys in
    record {
      goes = search_goes g.L.Line.means (length xs) c.args.idle c.search_into-result.new.idle _ (take used xs) (take n ys) _ _ (part_size xs ys used n low) (sym (length-take-le used xs low)) (sym (length-take-le n ys few))
          (ap (λ k. take (used + k) all) n_is ∙ take_put xs ys used n low few) f.searched f.finds f.clear;
      fills = record {
        size = put_size xs ys used n low c.search_into-result.auto.places;
        later = omega arith;
        untouched = subst (λ (k : ℕ). drop (used + k) all ≡ drop (used + k) xs) (sym n_is) (drop_put xs ys used n low f.untouched);
        lender = refl;
      };
      house = same_house _ _ (chain_keeps _ _ _ f.searched.chain);
      layers = f.layers;
    }
