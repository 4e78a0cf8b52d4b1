-- From what each call of a master ensures to the step between its modes.
use Rattle.std.proofs.Common.{◌≡◌, ℕ, suc, ◌-◌, Bool, true, not, List, [], ◌∷◌, ◌++◌, map, length, take, Some, Ok, Err, Result, sym, refl, ap, ◌∙◌, subst, ap₂}
use Rattle.link.specs.Buffers.{filled}
use Rattle.link.proofs.Filling.{take_filled}
use Rattle.telegram.specs.declared.address.Address.{Address}
use Rattle.telegram.specs.Addresses.{address_bytes}
use Rattle.items.specs.Runs.{Reads}
use Rattle.items.specs.Steps.{up_to_end}
use Rattle.line.specs.Meters.{Meter}
use Rattle.line.specs.Buses.{fitting}
use Rattle.line.specs.Exchanges.{State}
use Rattle.search.specs.declared.entry.Entry.{Entry}
use Rattle.search.specs.Entries.{entry_of}
use Rattle.master.specs.declared.fault.FetchFault.{FetchFault}
use Rattle.master.specs.declared.master.Idle.{Idle}
use Rattle.master.specs.declared.master.Picked.{Picked}
use Rattle.master.specs.Laws.{Clears, Finds}
use Rattle.master.specs.Picks.{Continues, Fetches, Linked, Releases, Selects, Starts, flipped, telegram}
use Rattle.master.specs.Requests.{fetch, pattern_of}
use Rattle.master.specs.Searches.{Searched}
use Rattle.master.proofs.Keeping.{Keeps, exchange_keeps, keeps_self}
use Rattle.master.specs.Faults.{is_full, summary_of}
use Rattle.round.specs.declared.call.Call.{Call}
use Rattle.round.specs.declared.call.Call.TheVariants as call
use Rattle.round.specs.declared.call.Found.{Found}
use Rattle.round.specs.declared.call.Outcome.{Outcome}
use Rattle.round.specs.declared.call.Outcome.TheVariants as outcome
use Rattle.round.specs.declared.call.Telegram.{Telegram}
use Rattle.round.specs.declared.any_master.Master.{Master}
use Rattle.round.specs.declared.any_master.Master.TheVariants as master
use Rattle.round.specs.Modes.{House, Mode, house_of, line_of}
use Rattle.round.specs.Promise.{Goes}
use Rattle.round.specs.Steps.{HoldsTelegram, Lists, Step}

pub same_house : (s s' : State) → Keeps s s' → house_of s' ≡ house_of s
same_house s s' k =
    let make : List Meter → ℕ → House = λ ms r. record { meters = ms; run = r } in
    ap₂ make k.meters k.run

pub fetches_keep : {s : State} {answered bit : Bool} {r : Result ℕ FetchFault} {buffer : List ℕ} {s' : State} {bit' : Bool} → Fetches s answered bit r buffer s' bit' → Keeps s s'
fetches_keep {s} (Fetches.unanswered is) = keeps_self s
fetches_keep {s} {bit} {s'} (Fetches.accepted reply x good) = exchange_keeps s s' (fetch bit) reply x
fetches_keep {s} {bit} {s'} (Fetches.silent is x) = exchange_keeps s s' (fetch bit) [] x
fetches_keep {s} {bit} {s'} (Fetches.garbled is reply x some bad) = exchange_keeps s s' (fetch bit) reply x

-- the bit, the buffer and the answer of a fetch, by its result
abbrev after : Result ℕ FetchFault → Bool → Bool
after (Ok n) bit = not bit
after (Err f) bit = bit

abbrev emptied : Result ℕ FetchFault → List ℕ → List ℕ
emptied (Ok n) buffer = buffer
emptied (Err f) buffer = filled []

abbrev Answered : Result ℕ FetchFault → Bool → Type 0
Answered (Ok n) answered = answered ≡ true
Answered (Err f) answered = Unit {0}

record Left (answered bit : Bool) (r : Result ℕ FetchFault) (buffer : List ℕ) (bit' : Bool) : Type 0 where
  bits : bit' ≡ after r bit
  buffers : buffer ≡ emptied r buffer
  answers : Answered r answered

left_by : {s : State} {answered bit : Bool} {r : Result ℕ FetchFault} {buffer : List ℕ} {s' : State} {bit' : Bool} → Fetches s answered bit r buffer s' bit' → Left answered bit r buffer bit'
left_by (Fetches.unanswered is) = record { bits = refl; buffers = refl; answers = tt }
left_by (Fetches.accepted reply x good) = record { bits = refl; buffers = refl; answers = refl }
left_by (Fetches.silent is x) = record { bits = refl; buffers = refl; answers = tt }
left_by (Fetches.garbled is reply x some bad) = record { bits = refl; buffers = refl; answers = tt }

-- a buffer that is filled with a telegram
carried : (t : Telegram) (bytes : List ℕ) → t.buffer ≡ filled bytes → t.count ≡ length bytes → HoldsTelegram t bytes
carried t bytes a n =
    let own : take t.count t.buffer ≡ bytes = ap (take t.count) a ∙ take_filled bytes t.count n in
    record { buffer = a; count = n; own = own; items = λ vs e h. subst (λ bs. Reads (up_to_end bs) 19 vs e) own h }

module _ {L : Type 0} (means : L → State) (room : ℕ) where
  pub search_goes : (i j : Idle L) (f : Found) (before es all : List Entry) (places : ℕ) → places ≡ room - length before → f.from ≡ length before → (summary_of f.result).entries ≡ length es → all ≡ before ++ es → Searched 8 (means i.line) places (map entry_of es) (summary_of f.result).selections (is_full f.result) (means j.line) → Finds 8 (means i.line).bus.meters (means i.line).run places (map entry_of es) (summary_of f.result).selections (is_full f.result) → Clears (means i.line) (means j.line) → Goes means room (master.Idle i) call.Search (outcome.Found f) (master.Idle j) before all
  search_goes i j f before es all places few from entries is sent finds clear Mode.idle h =
      let s : State = means i.line in
      let t : State = means j.line in
      let sent' = subst (λ n. Searched 8 s n (map entry_of es) (summary_of f.result).selections (is_full f.result) t) few sent in
      let finds' = subst (λ n. Finds 8 s.bus.meters s.run n (map entry_of es) (summary_of f.result).selections (is_full f.result)) few finds in
      let lists : Lists (house_of s) (room - length before) es (summary_of f.result).selections (is_full f.result) = record { truly = finds'.truly; enough = finds'.enough; wholly = λ z roomy. finds'.wholly z (finds'.enough roomy) } in
      (Mode.idle, subst (Step (house_of s) room s before Mode.idle call.Search (outcome.Found f) Mode.idle t) (sym is) (Step.searched from entries sent' lists clear), tt)
  search_goes i j f before es all places few from entries is sent finds clear (Mode.picked a answered k) h = absurd h

  module _ (es : List Entry) where
    pub fetch_lacks : (i : Idle L) → Goes means room (master.Idle i) call.Fetch outcome.Misuse (master.Idle i) es es
    fetch_lacks i Mode.idle h = (Mode.idle, Step.misused tt, tt)
    fetch_lacks i (Mode.picked a answered k) h = absurd h

    pub search_lacks : (p : Picked L) → Goes means room (master.Picked p) call.Search outcome.Misuse (master.Picked p) es es
    search_lacks p Mode.idle h = absurd h
    search_lacks p (Mode.picked a answered k) h = (Mode.picked a answered k, Step.misused tt, h)

    pub pick_lacks : (p : Picked L) (a : Address) → Goes means room (master.Picked p) (call.Pick a) outcome.Misuse (master.Picked p) es es
    pick_lacks p b Mode.idle h = absurd h
    pick_lacks p b (Mode.picked a answered k) h = (Mode.picked a answered k, Step.misused tt, h)

    pub pick_goes : (i : Idle L) (a : Address) (p : Picked L) (answered : Bool) → answered ≡ p.answered → Selects (means i.line) (address_bytes a) p.answered p.bit (means p.line) → ((m : Meter) → fitting (Some (pattern_of (address_bytes a))) (means i.line).bus.meters ≡ m ∷ [] → Starts (means i.line) (address_bytes a) m p.answered p.bit (means p.line)) → Goes means room (master.Idle i) (call.Pick a) (outcome.Picked answered) (master.Picked p) es es
    pick_goes i a p answered e sent starts Mode.idle h =
        let s : State = means i.line in
        let t : State = means p.line in
        let bytes : List ℕ = address_bytes a in
        let kept : Keeps s t = exchange_keeps s t _ _ sent.exchange in
        let told = subst (λ b. Selects s bytes answered b t) sent.first (subst (λ x. Selects s bytes x p.bit t) (sym e) sent) in (
          Mode.picked bytes answered 0,
          Step.picked told (λ m one z. e ∙ (starts m one).clear z),
          (sym e, sent.first, λ m one. let at = starts m (ap (fitting (Some (pattern_of bytes))) (sym kept.meters) ∙ one) in record { linked = at.linked; clear = λ z. at.clear (sym kept.run ∙ z) }),
        )
    pick_goes i a p answered e sent starts (Mode.picked b c k) h = absurd h

    pub release_goes : (before : Master L) (i : Idle L) → Releases (means (line_of before)) (means i.line) → Clears (means (line_of before)) (means i.line) → Goes means room before call.Release outcome.Released (master.Idle i) es es
    release_goes before i sent clear mode h = (Mode.idle, Step.released sent clear, tt)

    module _ (p q : Picked L) (buffer : List ℕ) (same : q.answered ≡ p.answered) where
      -- what a fetch with that result ensures
      abbrev Fetched : Result ℕ FetchFault → Type 0
      Fetched r = Fetches (means p.line) p.answered p.bit r buffer (means q.line) q.bit

      abbrev Continued : Result ℕ FetchFault → Type 0
      Continued r = (pattern : List ℕ) (m : Meter) (k : ℕ) → Linked pattern m k p.answered p.bit (means p.line) → Continues (means p.line) pattern m k p.answered r buffer (means q.line) q.bit

      -- the same, told from the mode
      told : (r : Result ℕ FetchFault) (answered : Bool) (k : ℕ) (bit' : Bool) → p.answered ≡ answered → p.bit ≡ flipped k → q.bit ≡ bit' → Fetched r → Fetches (means p.line) answered (flipped k) r buffer (means q.line) bit'
      told r answered k bit' a b c x =
          let s : State = means p.line in
          let t : State = means q.line in
          let x₁ = subst (λ v. Fetches s p.answered v r buffer t q.bit) b x in
          let x₂ = subst (λ v. Fetches s p.answered (flipped k) r buffer t v) c x₁ in
          subst (λ v. Fetches s v (flipped k) r buffer t bit') a x₂

      pub accepted_goes : (n : ℕ) → Fetched (Ok n) → Continued (Ok n) → Goes means room (master.Picked p) call.Fetch (outcome.Fetched (Ok (record { buffer = buffer; count = n }))) (master.Picked q) es es
      accepted_goes n x next Mode.idle h = absurd h
      accepted_goes n x next (Mode.picked a answered k) h =
          let kept : Keeps (means p.line) (means q.line) = fetches_keep x in
          let left = left_by x in
          let bit : q.bit ≡ flipped (suc k) = left.bits ∙ ap not h.1 in
          let yes : p.answered ≡ true = left.answers in (
            Mode.picked a answered (suc k),
            Step.fetched (told (Ok n) answered k (flipped (suc k)) h.0 h.1 bit x) (λ m one. let got = (next a m k ((h.2 m one).linked yes)).accepted n refl in carried (record { buffer = buffer; count = n }) (telegram m k) got.0 got.1),
            (
              same ∙ h.0,
              bit,
              λ m one.
                  let at = h.2 m (ap (fitting (Some (pattern_of a))) (sym kept.meters) ∙ one) in
                  let got = (next a m k (at.linked yes)).accepted n refl in
                  record {
                    linked = λ e. subst (λ v. Linked a m (suc k) v q.bit (means q.line)) (sym same) got.2;
                    clear = λ z. same ∙ at.clear (sym kept.run ∙ z);
                  },
            ),
          )

      pub refused_goes : (f : FetchFault) → Fetched (Err f) → Continued (Err f) → Goes means room (master.Picked p) call.Fetch (outcome.Fetched (Err f)) (master.Picked q) es es
      refused_goes f x next Mode.idle h = absurd h
      refused_goes f x next (Mode.picked a answered k) h =
          let s : State = means p.line in
          let t : State = means q.line in
          let kept : Keeps s t = fetches_keep x in
          let left = left_by x in
          let bit : q.bit ≡ flipped k = left.bits ∙ h.1 in (
            Mode.picked a answered k,
            Step.refused (subst (λ v. Fetches s answered (flipped k) (Err f) v t (flipped k)) left.buffers (told (Err f) answered k (flipped k) h.0 h.1 bit x)) (λ m one z. let at = h.2 m one in (next a m k (at.linked (at.clear z))).clear z f refl),
            (
              same ∙ h.0,
              bit,
              λ m one.
                  let at = h.2 m (ap (fitting (Some (pattern_of a))) (sym kept.meters) ∙ one) in
                  record {
                    linked = λ e. subst (λ v. Linked a m k v q.bit t) (sym same) ((next a m k (at.linked (sym same ∙ e))).refused f refl);
                    clear = λ z. same ∙ at.clear (sym kept.run ∙ z);
                  },
            ),
          )

-- the same of a master and a call that are known by an equation
module _ {L : Type 0} (means : L → State) (before known : Master L) (is : before ≡ known) (after : Master L) where
  pub goes_as : (room : ℕ) (c c₁ : Call) (o : Outcome) (es es' : List Entry) → c ≡ c₁ → Goes means room known c₁ o after es es' → Goes means room before c o after es es'
  goes_as room c c₁ o es es' e h =
      let P : Master L → Call → Type 0 = λ x y. Goes means room x y o after es es' in
      subst (λ x. P x c) (sym is) (subst (P known) (sym e) h)
