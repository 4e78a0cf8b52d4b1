-- What a run promises, from the step of each call.
use Rattle.std.proofs.Common.{◌≡◌, ℕ, ◌<◌, List, ◌++◌, subst}
use Rattle.line.specs.Exchanges.{State}
use Rattle.search.specs.declared.entry.Entry.{Entry}
use Rattle.round.specs.declared.call.Call.{Call}
use Rattle.round.specs.declared.call.Outcome.{Outcome}
use Rattle.round.specs.declared.any_master.Master.{Master}
use Rattle.round.specs.Laws.{SearchesList}
use Rattle.round.specs.Modes.{Holds, Mode, SameHouse, house_of, line_of}
use Rattle.round.specs.Promise.{GoesOn, Promise, Runs}
use Rattle.round.proofs.Obeying.{fetch_laws, searches_list}
use Rattle.round.proofs.Tracing.{path_join, trace_path}

module _ {L : Type 0} (means : L → State) (room : ℕ) (before after : Master L) (calls : List Call) (outcomes : List Outcome) (es : List Entry) (runs : Runs means room before calls outcomes after es) where
  pub run_goes_on : GoesOn means before calls outcomes after
  run_goes_on m mode s cs os path h =
      let did = runs mode h in
      let all = path_join path (trace_path did.1) in
      (did.0, all, did.2, fetch_laws (house_of (means (line_of before))) m did.0 s (means (line_of after)) (cs ++ calls) (os ++ outcomes) all)

  pub run_lists : (mode : Mode) → Holds means before mode → SearchesList (house_of (means (line_of before))) room calls outcomes es
  run_lists mode h =
      let did = runs mode h in
      searches_list (house_of (means (line_of before))) room mode did.0 (means (line_of before)) (means (line_of after)) es calls outcomes did.1

  pub promised : (base : L → State) (tries : L → ℕ) (line : L) → line_of before ≡ line → Holds means before Mode.idle → SameHouse means before after → tries (line_of after) ≡ tries (line_of before) → ((base (line_of before)).run < tries (line_of before) → (means (line_of before)).run ≡ 0) → Promise means base tries line room calls outcomes after es
  promised base tries line is idle house layers faultless =
      let did = runs Mode.idle idle in
      let path = trace_path did.1 in
      let made : Promise means base tries (line_of before) room calls outcomes after es =
      record {
        mode = did.0;
        trace = did.1;
        path = path;
        holds = did.2;
        lists = run_lists Mode.idle idle;
        fetches = fetch_laws (house_of (means (line_of before))) Mode.idle did.0 (means (line_of before)) (means (line_of after)) calls outcomes path;
        house = house;
        layers = layers;
        faultless = faultless;
      } in
      subst (λ l. Promise means base tries l room calls outcomes after es) is made
