use Rattle.std.proofs.Common.{◌≡◌, ℕ, ◌<◌, length, take, drop, refl, ap, ◌∙◌, subst, arith}
use Rattle.std.proofs.lemmas.List.{take_more_set}
use Rattle.round.specs.declared.call.Call.{Call}
use Rattle.round.specs.Places.{listed, room}
use Rattle.round.specs.Promise.{Goes, Runs}
use Rattle.round.proofs.Placing.{drop_set, fills_none, fills_then}
use Rattle.round.proofs.Tracing.{run_more, run_start}
use Rattle.round.proofs.any_master.Master.obey.Goals as goal

pub loop-i-init : goal.loop-i-init
loop-i-init g c = (fills_none _, run_start g.L.Line.means _ c.args.self _ _ _ refl refl (ap (λ n. take n c.args.places.now.all.now) c.requires), refl, refl, refl)

pub loop-i-preserved : goal.loop-i-preserved
loop-i-preserved g c =
    let means = g.L.Line.means in
    let was = c.loop-i.invariant in
    let f = c.step-after.ensures in
    let calls = c.args.calls.now in
    let i = c.loop-i.i in
    let o = c.step-after.result.1 in
    let call = c.index-calls-i.result in
    let es = listed c.loop-i.places in
    let es' = listed c.step-after.new.places in
    let one : i < length calls = omega (arith, c.min-count.ensures) in
    let two : i < length c.loop-i.outcomes = omega (arith, c.min-count.ensures) in
    let goes = subst (λ (n : ℕ). Goes means n c.loop-i.master call o c.step-after.result.0 es es') was.0.size f.goes in
    let goes' = subst (λ (x : Call). Goes means (room c.args.places.now) c.loop-i.master x o c.step-after.result.0 es es') c.index-calls-i.is goes in (
      fills_then _ _ _ was.0 f.fills,
      run_more means _ c.args.self c.loop-i.master c.step-after.result.0 calls i call _ _ o es es' one (take_more_set c.loop-i.outcomes i o two) was.3 was.1 goes',
      drop_set c.loop-i.outcomes c.args.outcomes.now i o was.2,
      f.house ∙ was.3,
      f.layers ∙ was.4,
    )

pub returns : goal.returns
returns g c =
    let means = g.L.Line.means in
    let was = c.loop-i.invariant in
    let all : c.loop-i.i ≡ c.min-count.result = omega arith in
    record {
      count = c.min-count.ensures;
      runs = subst (λ (k : ℕ). Runs means (room c.args.places.now) c.args.self (take k c.args.calls.now) (take k c.loop-i.outcomes) c.loop-i.master (listed c.loop-i.places)) all was.1;
      other_outcomes = subst (λ (k : ℕ). drop k c.loop-i.outcomes ≡ drop k c.args.outcomes.now) all was.2;
      fills = was.0;
      house = was.3;
      layers = was.4;
    }
