-- What hearing a request does to a bus.
use Rattle.std.proofs.Common.{◌≡◌, ◌+◌, ◌%◌, ◌<◌, Bool, true, false, List, [], ◌∷◌, length, Some, None, Option, sym, refl, ap, ◌∙◌, subst, mod-lt, arith}
use Rattle.std.specs.List.{AllByRecursion}
use Rattle.std.proofs.ByRecursion.{all_kept_by}
use Rattle.std.proofs.lemmas.Bool.{cond-true, cond_both}
use Rattle.telegram.specs.declared.pattern.Pattern.{Pattern}
use Rattle.telegram.specs.declared.request.Request.{Request}
use Rattle.telegram.specs.declared.request.Request.TheVariants.{Selection, Fetch, Release}
use Rattle.telegram.specs.Patterns.{fits}
use Rattle.line.specs.Meters.{Meter, Stocked}
use Rattle.line.specs.Buses.{Bus, fitting, selected, holds, advance, fetched, hear, turn_fits, Turned}

holds_same : (bit : Bool) → holds (Some bit) bit ≡ true
holds_same true = refl
holds_same false = refl

-- a meter that has moved on is still the one selected, and does not move on again
advanced_twice : (m : Meter) (bit : Bool) (b : Bus) → selected b ≡ m ∷ [] → fetched (selected (advance m bit b)) bit (advance m bit b) ≡ advance m bit b
unfolding selected
advanced_twice m bit b e =
    ap (λ l. fetched l bit (advance m bit b)) e ∙ cond-true (holds (Some bit) bit) (advance m bit b) (advance m bit (advance m bit b)) (holds_same bit)

fetched_twice : (ms : List Meter) (bit : Bool) (b : Bus) → selected b ≡ ms → fetched (selected (fetched ms bit b)) bit (fetched ms bit b) ≡ fetched ms bit b
fetched_twice [] bit b e = ap (λ l. fetched l bit b) e
fetched_twice (m ∷ []) bit b e =
    cond_both (holds b.kept bit) b (advance m bit b) (λ c. fetched (selected c) bit c ≡ c)
    (λ h. ap (λ l. fetched l bit b) e ∙ cond-true (holds b.kept bit) b (advance m bit b) h)
    (λ _. advanced_twice m bit b e)
fetched_twice (m ∷ n ∷ ms) bit b e = ap (λ l. fetched l bit b) e

-- hearing a request again changes nothing more
pub hear_twice : (q : Option Request) (b : Bus) → hear q (hear q b) ≡ hear q b
unfolding hear
hear_twice (Some (Selection p)) b = refl
hear_twice (Some (Fetch bit)) b = fetched_twice (selected b) bit b refl
hear_twice (Some Release) b = refl
hear_twice None b = refl

fetched_meters : (ms : List Meter) (bit : Bool) (b : Bus) → (fetched ms bit b).meters ≡ b.meters
fetched_meters [] bit b = refl
fetched_meters (m ∷ []) bit b =
    cond_both (holds b.kept bit) b (advance m bit b) (λ c. c.meters ≡ b.meters) (λ _. refl) (λ _. refl)
fetched_meters (m ∷ n ∷ ms) bit b = refl

pub hear_meters : (q : Option Request) (b : Bus) → (hear q b).meters ≡ b.meters
unfolding hear
hear_meters (Some (Selection p)) b = refl
hear_meters (Some (Fetch bit)) b = fetched_meters (selected b) bit b
hear_meters (Some Release) b = refl
hear_meters None b = refl

-- a selected meter is one of the meters
fitting_stocked : (p : Option Pattern) (ms : List Meter) → AllByRecursion Stocked ms → AllByRecursion Stocked (fitting p ms)
fitting_stocked None ms h = tt
fitting_stocked (Some p) ms h = all_kept_by (λ m. fits p.bytes m.address) Stocked ms h

pub selected_stocked : (b : Bus) → AllByRecursion Stocked b.meters → AllByRecursion Stocked (selected b)
unfolding selected
selected_stocked b h = fitting_stocked b.selection b.meters h

-- the turn stays in range
advanced_turned : (m : Meter) (bit : Bool) (b : Bus) → selected b ≡ m ∷ [] → Stocked m → Turned (advance m bit b)
unfolding selected
advanced_turned m bit b e h =
    let low : b.turn % length m.telegrams < length m.telegrams = mod-lt b.turn h.some_telegrams in
    subst (λ ms. turn_fits (Some bit) ms (b.turn % length m.telegrams + 1)) (sym e) (omega arith, omega arith)

fetched_turned : (ms : List Meter) (bit : Bool) (b : Bus) → selected b ≡ ms → AllByRecursion Stocked ms → Turned b → Turned (fetched ms bit b)
fetched_turned [] bit b e h t = t
fetched_turned (m ∷ []) bit b e h t =
    cond_both (holds b.kept bit) b (advance m bit b) Turned (λ _. t) (λ _. advanced_turned m bit b e h.0)
fetched_turned (m ∷ n ∷ ms) bit b e h t = t

pub hear_turned : (q : Option Request) (b : Bus) → AllByRecursion Stocked b.meters → Turned b → Turned (hear q b)
unfolding hear
hear_turned (Some (Selection p)) b h t = refl
hear_turned (Some (Fetch bit)) b h t = fetched_turned (selected b) bit b refl (selected_stocked b h) t
hear_turned (Some Release) b h t = refl
hear_turned None b h t = t
