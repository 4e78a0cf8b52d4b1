-- What a search finds, from what it sends.
use Rattle.std.proofs.Common.{◌≡◌, ℕ, Bool, true, false, eqb, List, [], ◌∷◌, None, sym, refl, ap, ◌∙◌, subst, arith, length-append}
use Rattle.std.proofs.lemmas.Bool.{both_ways, eq-eqb}
use Rattle.line.specs.Buses.{hear}
use Rattle.line.specs.Exchanges.{State, Chain, Exchange, Sound}
use Rattle.line.proofs.Exchanging.{always_clean}
use Rattle.search.specs.Addresses.{number}
use Rattle.search.specs.Laws.{TrueList, WholeList}
use Rattle.search.specs.Searches as search
use Rattle.search.specs.Searches.{Reached}
use Rattle.search.specs.Verdicts.{Entry, Faulty, Told}
use Rattle.search.proofs.Next.{told_is_faulty}
use Rattle.search.proofs.Places.{places_enough}
use Rattle.search.proofs.Sound.{listed_truly, true_front}
use Rattle.search.proofs.Steps.{in_tree}
use Rattle.search.proofs.Whole.{listed_wholly}
use Rattle.master.specs.Laws.{Clears, Enough, Finds, addresses, faultless}
use Rattle.master.specs.Requests.{release}
use Rattle.master.specs.Searches.{Ends, Searched, Walk, full, probe, start, whole}
use Rattle.master.proofs.Asking.{release_read}
use Rattle.master.proofs.Keeping.{chain_head, chain_keeps, chain_none, chain_parts}
use Rattle.master.proofs.Telling.{addresses_numbered, probe_tells}

-- where the line has no faults, no meter is selected after a release
pub release_clear : (s s' : State) (r : List ℕ) → Exchange s release r s' → s.run ≡ 0 → s'.bus.selection ≡ None
unfolding hear
release_clear s s' r x z =
    ap (λ y. y.bus.selection) (always_clean z x).after ∙ ap (λ q. (hear q s.bus).selection) release_read

-- each probe of a walk tells the truth of the meters
walk_told : (s : State) → Sound s → (s' : State) {events : List (List ℕ × List ℕ)} {ps : List (List ℕ)} {es : List (Entry (List ℕ))} {n : ℕ} → Chain s events s' → Walk 8 events ps es n → Reached (Told number (addresses s.bus.meters) (faultless s)) 8 ps es n
walk_told s h s' c start = search.start
walk_told s h s' c (probe {events} {p} {rest} {es} {n} w {more} {v} a) =
    let parts = chain_parts s s' events more c in
    let kept = chain_keeps s parts.state events parts.front in
    let before = walk_told s h parts.state parts.front w in
    let told = probe_tells p parts.state (kept.sound h) (in_tree 8 before).0 s' more v parts.back a in
    let same = subst (λ ms. Told number (addresses ms) (faultless parts.state) p v) kept.meters told in
    search.probe before v (subst (λ r. Told number (addresses s.bus.meters) (eqb r 0) p v) kept.run same)

module _ (s s₁ : State) (h : Sound s) (events : List (List ℕ × List ℕ)) (c : Chain s events s₁) where
  reached : {ps : List (List ℕ)} {es : List (Entry (List ℕ))} {n : ℕ} → Walk 8 events ps es n → Reached (Faulty number (addresses s.bus.meters)) 8 ps es n
  reached w = (told_is_faulty (List ℕ) number (addresses s.bus.meters) (faultless s) 8 _ _ _ (walk_told s h s₁ c w)).0

  ends_truly : (places n : ℕ) (listed : List (Entry (List ℕ))) (b : Bool) → Ends 8 places events listed n b → TrueList number (addresses s.bus.meters) listed
  ends_truly places n listed b (whole w) =
      listed_truly (List ℕ) number (addresses s.bus.meters) 8 (addresses_numbered s.bus.meters h.stocked) _ _ _ (reached w)
  ends_truly places n listed b (full e w room) =
      true_front number (addresses s.bus.meters) listed (e ∷ []) (listed_truly (List ℕ) number (addresses s.bus.meters) 8 (addresses_numbered s.bus.meters h.stocked) _ _ _ (reached w))

  ends_enough : (places n : ℕ) (listed : List (Entry (List ℕ))) (b : Bool) → Ends 8 places events listed n b → Enough s.bus.meters places → b ≡ false
  ends_enough places n listed b (whole w) room = refl
  ends_enough places n listed b (full e w filled) room =
      let few = room.2 in
      let l = places_enough (List ℕ) number (addresses s.bus.meters) 8 (addresses_numbered s.bus.meters h.stocked) room.0 room.1 _ _ _ (reached w) in
      absurd (omega (arith, length-append listed (e ∷ [])))

  ends_wholly : (places n : ℕ) (listed : List (Entry (List ℕ))) (b : Bool) → Ends 8 places events listed n b → s.run ≡ 0 → b ≡ false → WholeList number (addresses s.bus.meters) 8 listed n
  ends_wholly places n listed b (whole w) z e =
      let r = (told_is_faulty (List ℕ) number (addresses s.bus.meters) (faultless s) 8 _ _ _ (walk_told s h s₁ c w)).1 (eq-eqb s.run 0 z) in
      listed_wholly (List ℕ) number (addresses s.bus.meters) 8 (addresses_numbered s.bus.meters h.stocked) _ _ r
  ends_wholly places n listed b (full x w filled) z e = absurd (both_ways true e refl)

pub search_finds : (s s' : State) (places : ℕ) (listed : List (Entry (List ℕ))) (n : ℕ) (b : Bool) → Sound s → Searched 8 s places listed n b s' → Finds 8 s.bus.meters s.run places listed n b
search_finds s s' places listed n b h x =
    let parts = chain_parts s s' x.events ((release, x.reply) ∷ []) x.chain in
    record {
      truly = ends_truly s parts.state h x.events parts.front places n listed b x.ends;
      enough = ends_enough s parts.state h x.events parts.front places n listed b x.ends;
      wholly = ends_wholly s parts.state h x.events parts.front places n listed b x.ends;
    }

pub search_clears : (s s' : State) (places : ℕ) (listed : List (Entry (List ℕ))) (n : ℕ) (b : Bool) → Searched 8 s places listed n b s' → Clears s s'
search_clears s s' places listed n b x z =
    let parts = chain_parts s s' x.events ((release, x.reply) ∷ []) x.chain in
    let kept = chain_keeps s parts.state x.events parts.front in
    let last = chain_head parts.state s' (release, x.reply) [] parts.back in
    ap (λ y. y.bus.selection) (sym (chain_none last.state s' last.rest)) ∙ release_clear parts.state last.state x.reply last.exchange (kept.run ∙ z)
