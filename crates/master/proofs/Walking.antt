-- The turns of the walk over the beginnings.
use Rattle.std.proofs.Common.{◌≡◌, ℕ, suc, ◌+◌, ◌<◌, Bool, true, false, cond, List, [], ◌∷◌, ◌++◌, length, count_by, sym, refl, ap, subst, arith}
use mathlib.Core.Option.{none, some}
use Rattle.std.proofs.lemmas.List.Sums.{sum_by-append}
use Rattle.telegram.specs.Patterns.{beginning_pattern}
use Rattle.telegram.specs.Requests.{request_of}
use Rattle.line.specs.Exchanges.{State, Chain}
use Rattle.line.proofs.Exchanging.{chain_join, chain_one}
use Rattle.search.specs.Next.{left, raised, todo, todo?, upnext}
use Rattle.search.specs.Searches as search
use Rattle.search.specs.Searches.{Reached}
use Rattle.search.specs.Verdicts.{Entry, Verdict, found, nobody}
use Rattle.search.proofs.Next.{todo_is, todo_upnext}
use Rattle.search.proofs.Steps.{left_bound, left_falls}
use Rattle.master.specs.Picks.{Releases}
use Rattle.master.specs.Probes.{Probe, Probed, answered, silent}
use Rattle.master.specs.Requests.{release}
use Rattle.master.specs.Searches.{Ends, Searched, Walk, Walked, asks_selection, full, probe, selections_in, start, whole}
use Rattle.master.proofs.Asking.{fetch_read, release_read, selection_read}
use Rattle.master.proofs.Pushing.{one_of}

-- the steps of the walk, whatever the probes tell
abbrev Any : List ℕ → Verdict (List ℕ) → Type 0
Any p v = Unit {0}

walk_reached : {events : List (List ℕ × List ℕ)} {ps : List (List ℕ)} {es : List (Entry (List ℕ))} {n : ℕ} → Walk 8 events ps es n → Reached Any 8 ps es n
walk_reached start = search.start
walk_reached (probe w {more} {v} a) = search.probe (walk_reached w) v tt

-- a walk so far, with p to probe next
pub record Sofar (s s' : State) (p : List ℕ) (es : List (Entry (List ℕ))) (n : ℕ) : Type 0 where
  pub events : List (List ℕ × List ℕ)
  pub chain : Chain s events s'
  pub walk : Walk 8 events (todo p) es n

pub sofar_start : (s : State) (p : List ℕ) (es : List (Entry (List ℕ))) → p ≡ [] → es ≡ [] → Sofar s s p es 0
sofar_start s p es e f =
    record { events = []; chain = Chain.none; walk = subst (λ l. Walk 8 [] (todo p) l 0) (sym f) (subst (λ q. Walk 8 [] (todo q) [] 0) (sym e) start) }

module _ (s s₁ s₂ : State) (p : List ℕ) (es : List (Entry (List ℕ))) (n : ℕ) (f : Sofar s s₁ p es n) where
  pub sofar_small : n < 111111111
  sofar_small =
      let b = left_bound 8 (walk_reached (subst (λ ps. Walk 8 f.events ps es n) (todo_is p) f.walk)) in
      let l = left_falls {M = List ℕ} 8 p nobody (todo? (raised p)) in
      omega arith

  module _ (v : Verdict (List ℕ)) (h : Probed s₁ p v s₂) where
    stepped : Walk 8 (f.events ++ h.events) (todo? (upnext 8 p v)) (es ++ found 8 p v) (n + 1)
    stepped =
        let w = probe (subst (λ ps. Walk 8 f.events ps es n) (todo_is p) f.walk) h.probe in
        let up : suc n ≡ n + 1 = omega arith in
        subst (λ k. Walk 8 (f.events ++ h.events) (todo? (upnext 8 p v)) (es ++ found 8 p v) k) up
        (subst (λ ps. Walk 8 (f.events ++ h.events) ps (es ++ found 8 p v) (suc n)) (sym (todo_upnext 8 p v)) w)

    both : Chain s (f.events ++ h.events) s₂
    both = chain_join f.chain h.chain

    pub sofar_next : (q : List ℕ) → some q ≡ upnext 8 p v → (es' : List (Entry (List ℕ))) → es' ≡ es ++ found 8 p v → Sofar s s₂ q es' (n + 1)
    sofar_next q e es' is =
        record {
          events = f.events ++ h.events;
          chain = both;
          walk = subst (λ l. Walk 8 (f.events ++ h.events) (todo q) l (n + 1)) (sym is) (subst (λ o. Walk 8 (f.events ++ h.events) (todo? o) (es ++ found 8 p v) (n + 1)) (sym e) stepped);
        }

    pub sofar_less : (q : List ℕ) → some q ≡ upnext 8 p v → left 8 (todo q) < left 8 (todo p)
    sofar_less q e =
        let l = left_falls 8 p v (todo? (raised p)) in
        let a = ap (λ o. left 8 (todo? o)) e in
        let b = ap (left 8) (todo_upnext 8 p v) in
        let c = ap (left 8) (todo_is p) in
        omega arith

    pub sofar_whole : none ≡ upnext 8 p v → (es' : List (Entry (List ℕ))) → es' ≡ es ++ found 8 p v → (places : ℕ) → Walked 8 s places es' (n + 1) false s₂
    sofar_whole e es' is places =
        record {
          events = f.events ++ h.events;
          chain = both;
          ends = whole (subst (λ l. Walk 8 (f.events ++ h.events) [] l (n + 1)) (sym is) (subst (λ o. Walk 8 (f.events ++ h.events) (todo? o) (es ++ found 8 p v) (n + 1)) (sym e) stepped));
        }

    pub sofar_full : length (found 8 p v) ≡ 1 → (es' : List (Entry (List ℕ))) → es' ≡ es → (places : ℕ) → length es' ≡ places → Walked 8 s places es' (n + 1) true s₂
    sofar_full short es' is places room =
        let one = one_of (found 8 p v) short in
        record {
          events = f.events ++ h.events;
          chain = both;
          ends = full one.0 (subst (λ l. Walk 8 (f.events ++ h.events) (todo? (upnext 8 p v)) (l ++ one.0 ∷ []) (n + 1)) (sym is) (subst (λ l. Walk 8 (f.events ++ h.events) (todo? (upnext 8 p v)) (es ++ l) (n + 1)) one.1 stepped)) room;
        }

-- each probe sends one selection
count_join : {X : Type 0} (t : X → Bool) (xs ys : List X) → count_by t (xs ++ ys) ≡ count_by t xs + count_by t ys
count_join t xs ys = sum_by-append (λ x. cond (t x) 1 0) xs ys

probe_count : (p : List ℕ) (more : List (List ℕ × List ℕ)) (v : Verdict (List ℕ)) → Probe p more v → selections_in more ≡ 1
probe_count p more v silent = simp (selection_read (beginning_pattern p) refl)
probe_count p more v (answered r₁ r₂ more_than_none) = simp (selection_read (beginning_pattern p) refl, fetch_read true)

walk_count : {events : List (List ℕ × List ℕ)} {ps : List (List ℕ)} {es : List (Entry (List ℕ))} {n : ℕ} → Walk 8 events ps es n → n ≡ selections_in events
walk_count start = refl
walk_count (probe {events} {p} {n = n} w {more} {v} a) =
    omega (arith, walk_count w, probe_count p more v a, count_join (λ e. asks_selection (request_of e.0)) events more)

ends_count : {places : ℕ} {events : List (List ℕ × List ℕ)} {es : List (Entry (List ℕ))} {n : ℕ} {b : Bool} → Ends 8 places events es n b → n ≡ selections_in events
ends_count (whole w) = walk_count w
ends_count (full e w room) = walk_count w

-- the release after a walk
pub walked_released : (s s₁ s₂ : State) (places n : ℕ) (es : List (Entry (List ℕ))) (b b' : Bool) → Walked 8 s places es n b s₁ → Releases s₁ s₂ → b ≡ b' → Searched 8 s places es n b' s₂
walked_released s s₁ s₂ places n es b b' w r e =
    let last : List (List ℕ × List ℕ) = (release, r.reply) ∷ [] in
    let one : selections_in last ≡ 0 = simp release_read in
    record {
      events = w.events;
      reply = r.reply;
      chain = chain_join w.chain (chain_one r.exchange);
      ends = subst (Ends 8 places w.events es n) e w.ends;
      counted = omega (arith, ends_count w.ends, count_join (λ e. asks_selection (request_of e.0)) w.events last);
    }
