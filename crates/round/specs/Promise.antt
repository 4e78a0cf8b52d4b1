-- What a run of calls on a master promises.
use Rattle.std.specs.Prelude.{◌≡◌, ℕ, ◌<◌, List, [], ◌++◌}
use Rattle.line.specs.Exchanges.{State}
use Rattle.search.specs.declared.entry.Entry.{Entry}
use Rattle.round.specs.declared.call.Call.{Call}
use Rattle.round.specs.declared.call.Outcome.{Outcome}
use Rattle.round.specs.declared.any_master.Master.{Master}
use Rattle.round.specs.Laws.{FetchLaws, SearchesList}
use Rattle.round.specs.Modes.{Holds, Mode, house_of, line_of}
use Rattle.round.specs.Steps.{Path, Step, Trace}

-- a call takes a master from each mode that holds to one that holds after it
abbrev pub Goes : {L : Type 0} → (L → State) → ℕ → Master L → Call → Outcome → Master L → List Entry → List Entry → Type 0
Goes means room before c o after es es' =
    (mode : Mode) → Holds means before mode → (mode' : Mode) × Step (house_of (means (line_of before))) room (means (line_of before)) es mode c o mode' (means (line_of after)) es' × Holds means after mode'

-- and so do calls one after the other, of which no search has listed anything before
abbrev pub Runs : {L : Type 0} → (L → State) → ℕ → Master L → List Call → List Outcome → Master L → List Entry → Type 0
Runs means room before calls outcomes after es =
    (mode : Mode) → Holds means before mode → (mode' : Mode) × Trace (house_of (means (line_of before))) room mode (means (line_of before)) [] calls outcomes mode' (means (line_of after)) es × Holds means after mode'

-- a run goes on from any calls before it, in one run or several: together they are calls one after the other, and obey the laws
abbrev pub GoesOn : {L : Type 0} → (L → State) → Master L → List Call → List Outcome → Master L → Type 0
GoesOn means before calls outcomes after =
    (m mode : Mode) (s : State) (cs : List Call) (os : List Outcome) → Path (house_of (means (line_of before))) m s cs os mode (means (line_of before)) → Holds means before mode → (mode' : Mode) × Path (house_of (means (line_of before))) m s (cs ++ calls) (os ++ outcomes) mode' (means (line_of after)) × Holds means after mode' × FetchLaws (house_of (means (line_of before))) (cs ++ calls) (os ++ outcomes)

-- The whole promise of a list of calls on a line that no master has used yet, in any state of its meaning.
--     trace      the calls one after the other from idle, with all that each sent
--     path       the same, for a later run to go on from
--     lists      what each search listed
--     fetches    what each fetch gave
--     house      the meters and the run stay, and so do the layers
--     faultless  where the run of the line below all layers is less than the product of the layers' tries, the line shows no faults
pub record Promise {L : Type 0} (means base : L → State) (tries : L → ℕ) (line : L) (room : ℕ) (calls : List Call) (outcomes : List Outcome) (after : Master L) (es : List Entry) : Type 0 where
  pub mode : Mode
  pub trace : Trace (house_of (means line)) room Mode.idle (means line) [] calls outcomes mode (means (line_of after)) es
  pub path : Path (house_of (means line)) Mode.idle (means line) calls outcomes mode (means (line_of after))
  pub holds : Holds means after mode
  pub lists : SearchesList (house_of (means line)) room calls outcomes es
  pub fetches : FetchLaws (house_of (means line)) calls outcomes
  pub house : house_of (means (line_of after)) ≡ house_of (means line)
  pub layers : tries (line_of after) ≡ tries line
  pub faultless : (base line).run < tries line → (house_of (means line)).run ≡ 0
