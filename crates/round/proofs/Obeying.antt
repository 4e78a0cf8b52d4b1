-- The laws of every run.
use Rattle.std.proofs.Common.{◌≡◌, ℕ, suc, ◌+◌, ◌-◌, Bool, List, [], ◌∷◌, ◌++◌, length, take, drop, sym, refl, ap, ◌∙◌, subst, append_assoc, append-nil, arith, Ok, Err}
use Rattle.std.specs.List.{AllByRecursion}
use Rattle.std.proofs.lemmas.List.{drop_at, take_at}
use Rattle.telegram.specs.declared.address.Address.{Address}
use Rattle.telegram.specs.Addresses.{address_bytes}
use Rattle.line.specs.Meters.{Meter}
use Rattle.line.specs.Exchanges.{State}
use Rattle.search.specs.declared.entry.Entry.{Entry}
use Rattle.master.specs.declared.fault.FetchFault.{FetchFault}
use Rattle.master.specs.Picks.{telegram}
use Rattle.master.specs.Faults.{is_full, summary_of}
use Rattle.round.specs.declared.call.Call.{Call}
use Rattle.round.specs.declared.call.Call.TheVariants as call
use Rattle.round.specs.declared.call.Found.{Found}
use Rattle.round.specs.declared.call.Outcome.{Outcome}
use Rattle.round.specs.declared.call.Outcome.TheVariants as outcome
use Rattle.round.specs.declared.call.Telegram.{Telegram}
use Rattle.round.specs.Laws.{FetchLaws, NoRelease, PickedThen, SearchesList, accepted, entries_of}
use Rattle.round.specs.Modes.{Alone, House, Mode}
use Rattle.round.specs.Steps.{HoldsTelegram, Lists, Path, Step, Trace}

-- one call of a trace, with what comes before and after it
record At (house : House) (room : ℕ) (m : Mode) (s : State) (es : List Entry) (xs : List Call) (c : Call) (ys : List Call) (os : List Outcome) (o : Outcome) (ps : List Outcome) (m₂ : Mode) (s₂ : State) (es₂ : List Entry) : Type 0 where
  mode : Mode
  mode₁ : Mode
  state : State
  state₁ : State
  entries : List Entry
  entries₁ : List Entry
  before : Trace house room m s es xs os mode state entries
  step : Step house room state entries mode c o mode₁ state₁ entries₁
  after : Trace house room mode₁ state₁ entries₁ ys ps m₂ s₂ es₂

-- the same of calls in several runs
record On (house : House) (m : Mode) (s : State) (xs : List Call) (c : Call) (ys : List Call) (os : List Outcome) (o : Outcome) (ps : List Outcome) (m₂ : Mode) (s₂ : State) : Type 0 where
  mode : Mode
  mode₁ : Mode
  state : State
  state₁ : State
  room : ℕ
  entries : List Entry
  entries₁ : List Entry
  before : Path house m s xs os mode state
  step : Step house room state entries mode c o mode₁ state₁ entries₁
  after : Path house mode₁ state₁ ys ps m₂ s₂

module _ (house : House) where
  path_at : (m m₂ : Mode) (s s₂ : State) (xs ys : List Call) (c : Call) (os ps : List Outcome) (o : Outcome) → length xs ≡ length os → Path house m s (xs ++ c ∷ ys) (os ++ o ∷ ps) m₂ s₂ → On house m s xs c ys os o ps m₂ s₂
  path_at m m₂ s s₂ [] ys c [] ps o l (Path.called {mode₁ = n} {s₁ = u} {room = room} {es = es} {es₁ = fs} x t) =
      record { mode = m; mode₁ = n; state = s; state₁ = u; room = room; entries = es; entries₁ = fs; before = Path.ended; step = x; after = t }
  path_at m m₂ s s₂ [] ys c (q ∷ os) ps o l t = absurd (omega arith)
  path_at m m₂ s s₂ (d ∷ xs) ys c [] ps o l t = absurd (omega arith)
  path_at m m₂ s s₂ (d ∷ xs) ys c (q ∷ os) ps o l (Path.called {mode₁ = n} {s₁ = u} x t) =
      let r = path_at n m₂ u s₂ xs ys c os ps o (omega arith) t in
      record {
        mode = r.mode;
        mode₁ = r.mode₁;
        state = r.state;
        state₁ = r.state₁;
        room = r.room;
        entries = r.entries;
        entries₁ = r.entries₁;
        before = Path.called x r.before;
        step = r.step;
        after = r.after;
      }

module _ (house : House) (room : ℕ) where
  trace_at : (m m₂ : Mode) (s s₂ : State) (es es₂ : List Entry) (xs ys : List Call) (c : Call) (os ps : List Outcome) (o : Outcome) → length xs ≡ length os → Trace house room m s es (xs ++ c ∷ ys) (os ++ o ∷ ps) m₂ s₂ es₂ → At house room m s es xs c ys os o ps m₂ s₂ es₂
  trace_at m m₂ s s₂ es es₂ [] ys c [] ps o l (Trace.called {mode₁ = n} {s₁ = u} {es₁ = fs} x t) =
      record { mode = m; mode₁ = n; state = s; state₁ = u; entries = es; entries₁ = fs; before = Trace.ended; step = x; after = t }
  trace_at m m₂ s s₂ es es₂ [] ys c (q ∷ os) ps o l t = absurd (omega arith)
  trace_at m m₂ s s₂ es es₂ (d ∷ xs) ys c [] ps o l t = absurd (omega arith)
  trace_at m m₂ s s₂ es es₂ (d ∷ xs) ys c (q ∷ os) ps o l (Trace.called {mode₁ = n} {s₁ = u} {es₁ = fs} x t) =
      let r = trace_at n m₂ u s₂ fs es₂ xs ys c os ps o (omega arith) t in
      record {
        mode = r.mode;
        mode₁ = r.mode₁;
        state = r.state;
        state₁ = r.state₁;
        entries = r.entries;
        entries₁ = r.entries₁;
        before = Trace.called x r.before;
        step = r.step;
        after = r.after;
      }

  -- entries are only added
  step_adds : {s s₁ : State} {es es₁ : List Entry} {m m₁ : Mode} {c : Call} {o : Outcome} → Step house room s es m c o m₁ s₁ es₁ → (fs : List Entry) × (es₁ ≡ es ++ fs)
  step_adds (Step.searched {es = fs} from n sent lists clear) = (fs, refl)
  step_adds {es = es} (Step.picked sent clear) = ([], sym (append-nil es))
  step_adds {es = es} (Step.fetched sent holds) = ([], sym (append-nil es))
  step_adds {es = es} (Step.refused sent never) = ([], sym (append-nil es))
  step_adds {es = es} (Step.released sent clear) = ([], sym (append-nil es))
  step_adds {es = es} (Step.misused lacks) = ([], sym (append-nil es))

  trace_adds : {m m₂ : Mode} {s s₂ : State} {es es₂ : List Entry} {cs : List Call} {os : List Outcome} → Trace house room m s es cs os m₂ s₂ es₂ → (fs : List Entry) × (es₂ ≡ es ++ fs)
  trace_adds {es = es} Trace.ended = ([], sym (append-nil es))
  trace_adds {es = es} (Trace.called x t) =
      let a = step_adds x in
      let b = trace_adds t in
      (a.0 ++ b.0, b.1 ∙ ap (λ l. l ++ b.0) a.1 ∙ append_assoc es a.0 b.0)

  -- a search
  record SearchStep (f : Found) (es es₁ : List Entry) : Type 0 where
    found : List Entry
    adds : es₁ ≡ es ++ found
    from : f.from ≡ length es
    count : (summary_of f.result).entries ≡ length found
    lists : Lists house (room - length es) found (summary_of f.result).selections (is_full f.result)

  search_step : {s s₁ : State} {es es₁ : List Entry} {m m₁ : Mode} {f : Found} → Step house room s es m call.Search (outcome.Found f) m₁ s₁ es₁ → SearchStep f es es₁
  search_step (Step.searched {es = fs} from n sent lists clear) = record { found = fs; adds = refl; from = from; count = n; lists = lists }

  part_of : (f : Found) (es found rest all : List Entry) → f.from ≡ length es → (summary_of f.result).entries ≡ length found → all ≡ (es ++ found) ++ rest → entries_of f all ≡ found
  part_of f es found rest all from n is =
      let whole : all ≡ es ++ (found ++ rest) = is ∙ append_assoc es found rest in
      ap (λ l. take (summary_of f.result).entries (drop f.from l)) whole
      ∙ ap (take (summary_of f.result).entries) (drop_at es (found ++ rest) f.from (sym from))
      ∙ take_at found rest (summary_of f.result).entries (sym n)

  pub searches_list : (m m₂ : Mode) (s s₂ : State) (es₂ : List Entry) (calls : List Call) (outcomes : List Outcome) → Trace house room m s [] calls outcomes m₂ s₂ es₂ → SearchesList house room calls outcomes es₂
  searches_list m m₂ s s₂ es₂ calls outcomes t xs ys os ps f ce oe l =
      let t₁ = subst (λ x. Trace house room m s [] x outcomes m₂ s₂ es₂) ce t in
      let t₂ = subst (λ x. Trace house room m s [] (xs ++ call.Search ∷ ys) x m₂ s₂ es₂) oe t₁ in
      let a = trace_at m m₂ s s₂ [] es₂ xs ys call.Search os ps (outcome.Found f) l t₂ in
      let x = search_step a.step in
      let rest = trace_adds a.after in
      let part = part_of f a.entries x.found rest.0 es₂ x.from x.count (rest.1 ∙ ap (λ e. e ++ rest.0) x.adds) in
      let lists = subst (λ n. Lists house (room - n) x.found (summary_of f.result).selections (is_full f.result)) (sym x.from) x.lists in
      subst (λ e. Lists house (room - f.from) e (summary_of f.result).selections (is_full f.result)) (sym part) lists

module _ (house : House) where
  -- a pick that is no misuse
  pick_step : {room : ℕ} {s s₁ : State} {es es₁ : List Entry} {m m₁ : Mode} {a : Address} {b : Bool} → Step house room s es m (call.Pick a) (outcome.Picked b) m₁ s₁ es₁ → m₁ ≡ Mode.picked (address_bytes a) b 0
  pick_step (Step.picked sent clear) = refl

  -- one call without a release while picked
  picked_step : (address : List ℕ) (b : Bool) (k room : ℕ) (s s₁ : State) (es es₁ : List Entry) (m₁ : Mode) (c : Call) (o : Outcome) (os : List Outcome) → NoRelease c → Step house room s es (Mode.picked address b k) c o m₁ s₁ es₁ → (j : ℕ) × (m₁ ≡ Mode.picked address b j) × (j + accepted os ≡ k + accepted (o ∷ os))
  picked_step address b k room s s₁ es es₁ m₁ c o os h (Step.fetched sent holds) = (suc k, refl, omega arith)
  picked_step address b k room s s₁ es es₁ m₁ c o os h (Step.refused sent never) = (k, refl, refl)
  picked_step address b k room s s₁ es es₁ m₁ c o os h (Step.released sent clear) = absurd h
  picked_step address b k room s s₁ es es₁ m₁ c o os h (Step.misused lacks) = (k, refl, refl)

  stays_picked : (address : List ℕ) (b : Bool) (k : ℕ) (m m₂ : Mode) (s s₂ : State) (cs : List Call) (os : List Outcome) → m ≡ Mode.picked address b k → AllByRecursion NoRelease cs → Path house m s cs os m₂ s₂ → m₂ ≡ Mode.picked address b (k + accepted os)
  stays_picked address b k m m₂ s s₂ cs os is h Path.ended = is ∙ ap (Mode.picked address b) (omega arith)
  stays_picked address b k m m₂ s s₂ cs os is h (Path.called {mode₁ = n} {s₁ = u} {room = room} {es = es} {es₁ = fs} {c = c} {o = o} {calls = calls} {outcomes = outcomes} x t) =
      let y = subst (λ v. Step house room s es v c o n u fs) is x in
      let a = picked_step address b k room s u es fs n c o outcomes h.0 y in
      stays_picked address b a.0 n m₂ u s₂ calls outcomes a.1 h.1 t ∙ ap (Mode.picked address b) a.2

  -- the fetch after a pick, in the mode that the calls between lead to
  record FetchStep (a : Address) (k : ℕ) (o : Outcome) : Type 0 where
    answered : Bool
    state : State
    state₁ : State
    room : ℕ
    entries : List Entry
    entries₁ : List Entry
    mode₁ : Mode
    step : Step house room state entries (Mode.picked (address_bytes a) answered k) call.Fetch o mode₁ state₁ entries₁

  fetch_step : (m m₂ : Mode) (s s₂ : State) (calls : List Call) (outcomes : List Outcome) → Path house m s calls outcomes m₂ s₂ → (a : Address) (between : List Outcome) (o : Outcome) → PickedThen calls outcomes a between o → FetchStep a (accepted between) o
  fetch_step m m₂ s s₂ calls outcomes t a between o p =
      let xs = p.calls_between ++ call.Fetch ∷ p.calls_after in
      let qs = between ++ o ∷ p.outcomes_after in
      let t₁ = subst (λ x. Path house m s x outcomes m₂ s₂) p.calls_are t in
      let t₂ = subst (λ x. Path house m s (p.calls_before ++ call.Pick a ∷ xs) x m₂ s₂) p.outcomes_are t₁ in
      let first = path_at house m m₂ s s₂ p.calls_before xs (call.Pick a) p.outcomes_before qs (outcome.Picked p.answered) p.same_before t₂ in
      let then = path_at house first.mode₁ m₂ first.state₁ s₂ p.calls_between p.calls_after call.Fetch between p.outcomes_after o p.same_between first.after in
      let is = stays_picked (address_bytes a) p.answered 0 first.mode₁ then.mode first.state₁ then.state p.calls_between between (pick_step first.step) p.unreleased then.before in
      let k : 0 + accepted between ≡ accepted between = omega arith in
      record {
        answered = p.answered;
        state = then.state;
        state₁ = then.state₁;
        room = then.room;
        entries = then.entries;
        entries₁ = then.entries₁;
        mode₁ = then.mode₁;
        step = subst (λ v. Step house then.room then.state then.entries v call.Fetch o then.mode₁ then.state₁ then.entries₁) (is ∙ ap (Mode.picked (address_bytes a) p.answered) k) then.step;
      }

  fetched_holds : {room : ℕ} {s s₁ : State} {es es₁ : List Entry} {address : List ℕ} {b : Bool} {k : ℕ} {m₁ : Mode} {t : Telegram} → Step house room s es (Mode.picked address b k) call.Fetch (outcome.Fetched (Ok t)) m₁ s₁ es₁ → (m : Meter) → Alone house address m → HoldsTelegram t (telegram m k)
  fetched_holds (Step.fetched sent holds) = holds

  refused_never : {room : ℕ} {s s₁ : State} {es es₁ : List Entry} {address : List ℕ} {b : Bool} {k : ℕ} {m₁ : Mode} {f : FetchFault} → Step house room s es (Mode.picked address b k) call.Fetch (outcome.Fetched (Err f)) m₁ s₁ es₁ → (m : Meter) → Alone house address m → house.run ≡ 0 → ⊥
  refused_never (Step.refused sent never) = never

  pub fetch_laws : (m m₂ : Mode) (s s₂ : State) (calls : List Call) (outcomes : List Outcome) → Path house m s calls outcomes m₂ s₂ → FetchLaws house calls outcomes
  fetch_laws m m₂ s s₂ calls outcomes t =
      record {
        in_turn = λ a between telegram p. fetched_holds (fetch_step m m₂ s s₂ calls outcomes t a between (outcome.Fetched (Ok telegram)) p).step;
        succeed = λ a between f p. refused_never (fetch_step m m₂ s s₂ calls outcomes t a between (outcome.Fetched (Err f)) p).step;
      }
