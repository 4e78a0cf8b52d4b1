-- What a probe tells of the meters that its beginning fits.
use Rattle.std.proofs.Common.{◌≡◌, ℕ, ◌%◌, ◌<◌, ◌≤◌, Bool, true, cond, ltb, List, [], ◌∷◌, map, length, Some, filter, sym, refl, ap, ◌∙◌, subst, mod-lt, arith}
use Rattle.std.specs.List.{AllByRecursion}
use Rattle.std.proofs.ByRecursion.{All-get_or}
use Rattle.std.proofs.lemmas.Bool.{both_ways, eqb-true, lt-ltb, cond_both, cond-true, cond-false}
use Rattle.telegram.specs.Patterns.{beginning_pattern, fits}
use Rattle.telegram.specs.Replies.{Garbled, answers, is_reply}
use Rattle.line.specs.Meters.{Meter, Carries, Stocked, address_in}
use Rattle.line.specs.Buses.{Bus, Due, Arrives, Damages, due, due_fetches, due_selects, fetched, fitting, hear, selected}
use Rattle.line.specs.Exchanges.{State, Exchange, Chain, Sound, due_to, heard}
use Rattle.line.proofs.Replying.{answered_clean, reply_answers}
use Rattle.search.specs.Addresses.{number}
use Rattle.search.specs.Numbers.{begins}
use Rattle.search.specs.Verdicts as search
use Rattle.search.specs.Verdicts.{Numbered, Verdict, nobody, one, several, verdict_on, Faulty, Told}
use Rattle.search.proofs.Fitting.{pattern_fits}
use Rattle.search.proofs.Holders.{kept_by_same}
use Rattle.search.proofs.Steps.{InTree}
use Rattle.master.specs.Laws.{addresses, faultless}
use Rattle.master.specs.Picks.{Selects, telegram}
use Rattle.master.specs.Probes.{Probe, answered, silent, told}
use Rattle.master.specs.Requests.{fetch, pattern_of, selection}
use Rattle.master.proofs.Asking.{fetch_read}
use Rattle.master.proofs.Carrying.{stocked_address}
use Rattle.master.proofs.Keeping.{chain_head, exchange_keeps}
use Rattle.master.proofs.Linking.{fetch_clear, fetch_next, linked_stocked}
use Rattle.master.proofs.Selecting.{chosen, clear_reply, pick_starts, reply_heard, selects_due}

pub addresses_numbered : (ms : List Meter) → AllByRecursion Stocked ms → Numbered number 8 (addresses ms)
addresses_numbered [] h = tt
addresses_numbered (m ∷ ms) h = ((stocked_address m h.0).1, addresses_numbered ms h.1)

-- the meters that the pattern of p fits are those whose number begins with p
fit_alike : (p : List ℕ) → InTree 8 p → (ms : List Meter) → AllByRecursion Stocked ms → AllByRecursion (λ m. begins p (number m.address) ≡ fits (beginning_pattern p) m.address) ms
fit_alike p t [] h = tt
fit_alike p t (m ∷ ms) h =
    (sym (pattern_fits p m.address t.0 t.1 (stocked_address m h.0).0), fit_alike p t ms h.1)

kept_map : {X Y : Type 0} (f : X → Y) (t : Y → Bool) (xs : List X) → filter t (map f xs) ≡ map f (filter (λ x. t (f x)) xs)
kept_map f t [] = refl
kept_map f t (x ∷ xs) =
    cond_both (t (f x)) (x ∷ filter (λ y. t (f y)) xs) (filter (λ y. t (f y)) xs) (λ l. cond (t (f x)) (f x ∷ filter t (map f xs)) (filter t (map f xs)) ≡ map f l)
    (λ e. cond-true (t (f x)) (f x ∷ filter t (map f xs)) (filter t (map f xs)) e ∙ ap (λ l. f x ∷ l) (kept_map f t xs))
    (λ e. cond-false (t (f x)) (f x ∷ filter t (map f xs)) (filter t (map f xs)) e ∙ kept_map f t xs)

-- the meters that are selected by a beginning
abbrev chosen_by : List ℕ → List Meter → List Meter
chosen_by p ms = fitting (Some (pattern_of (beginning_pattern p))) ms

fitting_is : (ms : List Meter) (p : List ℕ) → InTree 8 p → AllByRecursion Stocked ms → search.fitting number (addresses ms) p ≡ addresses (chosen_by p ms)
fitting_is ms p t h =
    kept_map (λ m. m.address) (λ a. begins p (number a)) ms
    ∙ ap addresses (kept_by_same (λ m. begins p (number m.address)) (λ m. fits (beginning_pattern p) m.address) ms (fit_alike p t ms h))

-- what may be told of the meters that fit, by their addresses
abbrev Says : List (List ℕ) → Verdict (List ℕ) → Type 0
Says ads nobody = Unit {0}
Says ads (one a) = ads ≡ a ∷ []
Says ads several = 0 < length ads

says_told : (ms : List (List ℕ)) (p : List ℕ) (ads : List (List ℕ)) (v : Verdict (List ℕ)) → search.fitting number ms p ≡ ads → Says ads v → Faulty number ms p v
says_told ms p ads nobody e h = tt
says_told ms p ads (one a) e h = e ∙ h
says_told ms p ads several e h = subst (λ l. 0 < length l) (sym e) h

abbrev Tells : Bool → List Meter → Verdict (List ℕ) → Type 0
Tells still ms v = Says (addresses ms) v × (still ≡ true → v ≡ verdict_on (addresses ms))

-- a selection that fits no meter has no reply
no_answer : (p : List ℕ) → length p ≡ 8 → (s s₁ : State) (r : List ℕ) → Exchange s (selection p) r s₁ → fitting (Some (pattern_of p)) s.bus.meters ≡ [] → 1 ≤ length r → ⊥
no_answer p l s s₁ r (Exchange.clean c) none some =
    let z : r ≡ [] = subst (λ d. Arrives d r) (selects_due p l s.bus ∙ ap due_selects none) c.arrives in omega (arith, ap length z)
no_answer p l s s₁ r (Exchange.lost_out low z e) none some = omega (arith, ap length z)
no_answer p l s s₁ r (Exchange.lost_back low z e) none some = omega (arith, ap length z)
no_answer p l s s₁ r (Exchange.damaged low a e) none some =
    let z : r ≡ [] = subst (λ d. Damages d r) (selects_due p l s.bus ∙ ap due_selects none) a in omega (arith, ap length z)

-- where several meters are selected, no reply is a reply telegram
no_telegram : (m n : Meter) (ms : List Meter) (s s' : State) (r : List ℕ) → selected s.bus ≡ m ∷ n ∷ ms → Exchange s (fetch true) r s' → is_reply r ≡ true → ⊥
unfolding hear due
no_telegram m n ms s s' r e x replied =
    let clean = answered_clean x (reply_answers r replied) in
    let same : heard (fetch true) s.bus ≡ s.bus = ap (λ q. hear q s.bus) (fetch_read true) ∙ ap (λ l. fetched l true s.bus) e in
    let crash : due_to (fetch true) s.bus ≡ Due.collision = ap (λ q. due q (heard (fetch true) s.bus)) (fetch_read true) ∙ ap (λ b. due_fetches (selected b) b.turn) same ∙ ap (λ l. due_fetches l s.bus.turn) e in
    let g : Garbled r = subst (λ d. Arrives d r) crash clean.arrives in
    both_ways (answers r) g.no_answer (reply_answers r replied)

chosen_selected : (p : List ℕ) (b : Bus) → selected (chosen p b) ≡ fitting (Some (pattern_of p)) b.meters
unfolding selected
chosen_selected p b = refl

telegram_carries : (m : Meter) → Stocked m → address_in (telegram m 0) ≡ m.address
telegram_carries m h =
    (All-get_or (Carries m.address) m.telegrams (0 % length m.telegrams) [] (mod-lt 0 h.some_telegrams) h.carry).1

module _ (p : List ℕ) (s : State) (h : Sound s) where
  silent_tells : (s' : State) → Exchange s (selection (beginning_pattern p)) [] s' → (fs : List Meter) → chosen_by p s.bus.meters ≡ fs → Tells (faultless s) fs nobody
  silent_tells s' x [] e = (tt, λ _. refl)
  silent_tells s' x (m ∷ ms) e = (
    tt,
    λ z.
        let a = clear_reply (beginning_pattern p) refl s s' [] x (eqb-true s.run 0 z) in
        let ack_none = subst (λ l. Arrives (due_selects l) []) e a in
        absurd (omega (arith, ap length ack_none)),
  )

  answered_tells : (s₁ s' : State) (r₁ r₂ : List ℕ) → Exchange s (selection (beginning_pattern p)) r₁ s₁ → 1 ≤ length r₁ → Exchange s₁ (fetch true) r₂ s' → (fs : List Meter) → chosen_by p s.bus.meters ≡ fs → Tells (faultless s) fs (told r₂)
  answered_tells s₁ s' r₁ r₂ x some y [] e = absurd (no_answer (beginning_pattern p) refl s s₁ r₁ x e some)
  answered_tells s₁ s' r₁ r₂ x some y (m ∷ []) e =
      let pat : List ℕ = beginning_pattern p in
      let kept = exchange_keeps s s₁ _ r₁ x in
      let sent : Selects s pat (ltb 0 (length r₁)) true s₁ = record { reply = r₁; exchange = x; noted = refl; first = refl } in
      let link = (pick_starts pat refl s s₁ m (ltb 0 (length r₁)) true e sent).linked (lt-ltb 0 (length r₁) (omega arith)) in
      let sound = kept.sound h in
      let stocked = linked_stocked pat m 0 (ltb 0 (length r₁)) true s₁ s₁ link sound in
      cond_both (is_reply r₂) (one (address_in r₂)) several (Tells (faultless s) (m ∷ []))
      (λ yes.
      let same = ap address_in (fetch_next pat m 0 (ltb 0 (length r₁)) true s₁ link sound s' r₂ y yes).0 ∙ telegram_carries m stocked in
      (ap (λ a. a ∷ []) (sym same), λ _. ap one same))
      (λ no. (omega arith, λ z. absurd (both_ways (is_reply r₂) no (fetch_clear pat m 0 (ltb 0 (length r₁)) true s₁ link sound s' r₂ y (kept.run ∙ eqb-true s.run 0 z)))))
  answered_tells s₁ s' r₁ r₂ x some y (m ∷ n ∷ ms) e =
      let bus = reply_heard (beginning_pattern p) refl s s₁ r₁ x some in
      let many = ap selected bus ∙ chosen_selected (beginning_pattern p) s.bus ∙ e in
      cond_both (is_reply r₂) (one (address_in r₂)) several (Tells (faultless s) (m ∷ n ∷ ms))
      (λ yes. absurd (no_telegram m n ms s₁ s' r₂ many y yes))
      (λ no. (omega arith, λ _. refl))

  sent_tells : (s' : State) (events : List (List ℕ × List ℕ)) (v : Verdict (List ℕ)) → Chain s events s' → Probe p events v → Tells (faultless s) (chosen_by p s.bus.meters) v
  sent_tells s' events v c silent =
      let a = chain_head s s' _ [] c in
      silent_tells a.state a.exchange _ refl
  sent_tells s' events v c (answered r₁ r₂ some) =
      let a = chain_head s s' _ ((fetch true, r₂) ∷ []) c in
      let b = chain_head a.state s' _ [] a.rest in
      answered_tells a.state b.state r₁ r₂ a.exchange some b.exchange _ refl

  pub probe_tells : InTree 8 p → (s' : State) (events : List (List ℕ × List ℕ)) (v : Verdict (List ℕ)) → Chain s events s' → Probe p events v → Told number (addresses s.bus.meters) (faultless s) p v
  probe_tells t s' events v c a =
      let is = fitting_is s.bus.meters p t h.stocked in
      let tells = sent_tells s' events v c a in
      (says_told (addresses s.bus.meters) p _ v is tells.0, λ z. tells.1 z ∙ ap verdict_on (sym is))
