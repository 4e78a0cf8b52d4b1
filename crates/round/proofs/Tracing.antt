-- Calls one after the other, joined.
use Rattle.std.proofs.Common.{◌≡◌, ℕ, ◌+◌, ◌<◌, List, [], ◌∷◌, ◌++◌, length, get_or, take, sym, subst}
use Rattle.std.proofs.lemmas.List.{take_more}
use Rattle.line.specs.Exchanges.{State}
use Rattle.search.specs.declared.entry.Entry.{Entry}
use Rattle.round.specs.declared.call.Call.{Call}
use Rattle.round.specs.declared.call.Outcome.{Outcome}
use Rattle.round.specs.declared.any_master.Master.{Master}
use Rattle.round.specs.Modes.{House, Mode, SameHouse, house_of, line_of}
use Rattle.round.specs.Promise.{Goes, Runs}
use Rattle.round.specs.Steps.{Path, Step, Trace}

trace_join : {house : House} {room : ℕ} {m m₁ m₂ : Mode} {s s₁ s₂ : State} {es es₁ es₂ : List Entry} {cs ds : List Call} {os ps : List Outcome} → Trace house room m s es cs os m₁ s₁ es₁ → Trace house room m₁ s₁ es₁ ds ps m₂ s₂ es₂ → Trace house room m s es (cs ++ ds) (os ++ ps) m₂ s₂ es₂
trace_join Trace.ended b = b
trace_join (Trace.called x a) b = Trace.called x (trace_join a b)

pub path_join : {house : House} {m m₁ m₂ : Mode} {s s₁ s₂ : State} {cs ds : List Call} {os ps : List Outcome} → Path house m s cs os m₁ s₁ → Path house m₁ s₁ ds ps m₂ s₂ → Path house m s (cs ++ ds) (os ++ ps) m₂ s₂
path_join Path.ended b = b
path_join (Path.called x a) b = Path.called x (path_join a b)

pub trace_path : {house : House} {room : ℕ} {m m₂ : Mode} {s s₂ : State} {es es₂ : List Entry} {cs : List Call} {os : List Outcome} → Trace house room m s es cs os m₂ s₂ es₂ → Path house m s cs os m₂ s₂
trace_path Trace.ended = Path.ended
trace_path (Trace.called x t) = Path.called x (trace_path t)

-- one turn of a driver: call i of the list had outcome o
pub trace_next : (house : House) (room : ℕ) (m n n' : Mode) (s t u : State) (es es' : List Entry) (calls : List Call) (i : ℕ) (d : Call) (os pushed : List Outcome) (o : Outcome) → i < length calls → pushed ≡ os ++ (o ∷ []) → Trace house room m s [] (take i calls) os n t es → Step house room t es n (get_or calls i d) o n' u es' → Trace house room m s [] (take (i + 1) calls) pushed n' u es'
trace_next house room m n n' s t u es es' calls i d os pushed o within push h x =
    rw (take_more calls i d within, push) (trace_join h (Trace.called x Trace.ended))

-- the calls of a driver so far: none, and one more
module _ {L : Type 0} (means : L → State) (room : ℕ) (first : Master L) where
  pub run_start : (calls : List Call) (outcomes : List Outcome) (es : List Entry) → calls ≡ [] → outcomes ≡ [] → es ≡ [] → Runs means room first calls outcomes first es
  run_start calls outcomes es e f g mode h =
      let s : State = means (line_of first) in
      let t₁ = subst (λ x. Trace (house_of s) room mode s [] x [] mode s []) (sym e) Trace.ended in
      let t₂ = subst (λ x. Trace (house_of s) room mode s [] calls x mode s []) (sym f) t₁ in
      (mode, subst (Trace (house_of s) room mode s [] calls outcomes mode s) (sym g) t₂, h)

  pub run_more : (at after : Master L) (calls : List Call) (i : ℕ) (d : Call) (os pushed : List Outcome) (o : Outcome) (es es' : List Entry) → i < length calls → pushed ≡ os ++ (o ∷ []) → SameHouse means first at → Runs means room first (take i calls) os at es → Goes means room at (get_or calls i d) o after es es' → Runs means room first (take (i + 1) calls) pushed after es'
  run_more at after calls i d os pushed o es es' within push house runs goes mode h =
      let was = runs mode h in
      let did = goes was.0 was.2 in
      let step = subst (λ x. Step x room (means (line_of at)) es was.0 (get_or calls i d) o did.0 (means (line_of after)) es') house did.1 in
      (did.0, trace_next (house_of (means (line_of first))) room mode was.0 did.0 (means (line_of first)) (means (line_of at)) (means (line_of after)) es es' calls i d os pushed o within push was.1 step, did.2)
