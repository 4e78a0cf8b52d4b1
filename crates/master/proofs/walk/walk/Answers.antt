use Rattle.std.proofs.Common.{◌++◌, map, length, take, sym, refl, ap, ◌∙◌, subst, arith, length-take-le, rules}
use lib.ListN.{length-map}
use Rattle.std.specs.Option.{option_to_list}
use Rattle.std.proofs.lemmas.List.{map-append}
use Rattle.list.specs.FixedLists.{all_places, entries_of, used_of}
use Rattle.search.specs.Beginnings.{digits_of}
use Rattle.search.specs.Entries.{entry_of}
use Rattle.master.specs.Lists.{Filled}
use Rattle.master.proofs.Pushing.{filled_start}
use Rattle.master.proofs.Walking.{sofar_full, sofar_less, sofar_next, sofar_small, sofar_start, sofar_whole}
use Rattle.master.proofs.walk.walk.Goals as goal

pub walk-init : goal.walk-init
walk-init g c =
    let none = ap (λ n. take n (all_places c.clear.new.self)) c.clear.ensures.used in
    (sofar_start _ _ _ c.first-at.ensures.digits (ap (map entry_of) none), filled_start _ c.clear.new.self refl, refl, refl)

pub overflow_add-selections : goal.overflow_add-selections
overflow_add-selections g c = let small = sofar_small _ _ (g.L.Line.means c.walk.line) _ _ _ c.walk.invariant.0 in omega arith

pub walk-smaller : goal.walk-smaller
walk-smaller g c = sofar_less _ _ _ _ _ _ c.walk.invariant.0 _ c.probe-verdict.ensures.probed (digits_of c.in-Some.next) c.in-Some.ensures.next

pub walk-preserved : goal.walk-preserved
walk-preserved g c =
    let added = c.in-Ok.ensures.cases in
    let more = ap (map entry_of) added ∙ map-append entry_of (entries_of c.walk.list) (option_to_list c.entry.result) ∙ ap (λ l. map entry_of (entries_of c.walk.list) ++ l) c.entry.ensures.found in (
      sofar_next _ _ _ _ _ _ c.walk.invariant.0 _ c.probe-verdict.ensures.probed (digits_of c.in-Some.next) c.in-Some.ensures.next _ more,
      c.in-Ok.ensures.filled _ c.walk.invariant.1,
      c.in-Ok.ensures.lender ∙ c.walk.invariant.2,
      c.probe-verdict.ensures.layers ∙ c.walk.invariant.3,
    )

pub returns-in_default : goal.returns-in_default
returns-in_default g c =
    let l = c.add.new.list in
    let refused = c.in_default.ensures.cases in
    let same = ap (map entry_of) refused.1 in
    let filled = c.in_default.ensures.filled _ c.walk.invariant.1 in
    let placed = subst (λ ps. Filled ps l) c.clear.ensures.places filled in
    let single = ap length (sym c.entry.ensures.found) ∙ length-map (option_to_list c.entry.result) entry_of ∙ refused.0 in
    let most = length-map (entries_of l) entry_of ∙ length-take-le (used_of l) (all_places l) l.within ∙ refused.2 ∙ placed.size in
    record {
      entries = search rules;
      walked = rw (ap (λ x. x.selections) c.summary-summary.ensures) (sofar_full _ _ _ _ _ _ c.walk.invariant.0 _ c.probe-verdict.ensures.probed single _ same _ most);
      filled = placed;
      lender = c.in_default.ensures.lender ∙ c.walk.invariant.2 ∙ c.clear.ensures.lender;
      layers = c.probe-verdict.ensures.layers ∙ c.walk.invariant.3;
    }

pub returns-in_default-after : goal.returns-in_default-after
returns-in_default-after g c =
    let added = c.in-Ok.ensures.cases in
    let more = ap (map entry_of) added ∙ map-append entry_of (entries_of c.walk.list) (option_to_list c.entry.result) ∙ ap (λ l. map entry_of (entries_of c.walk.list) ++ l) c.entry.ensures.found in
    let filled = c.in-Ok.ensures.filled _ c.walk.invariant.1 in
    record {
      entries = search rules;
      walked = rw (ap (λ x. x.selections) c.summary.ensures) (sofar_whole _ _ _ _ _ _ c.walk.invariant.0 _ c.probe-verdict.ensures.probed c.in_default-after.ensures.next _ more _);
      filled = subst (λ ps. Filled ps c.add.new.list) c.clear.ensures.places filled;
      lender = c.in-Ok.ensures.lender ∙ c.walk.invariant.2 ∙ c.clear.ensures.lender;
      layers = c.probe-verdict.ensures.layers ∙ c.walk.invariant.3;
    }
