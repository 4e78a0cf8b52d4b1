-- What replies tell: a due telegram is an answer, and only a clean exchange is answered.
use Rattle.std.proofs.Common.{◌≡◌, ℕ, ◌-◌, ◌<◌, ◌≤◌, Bool, true, false, List, [], ◌∷◌, length, get_or, Some, None, Option, refl, ap, ◌∙◌, arith}
use Rattle.std.specs.List.{AllByRecursion}
use Rattle.std.proofs.ByRecursion.{All-get_or}
use Rattle.std.proofs.lemmas.Bool.{both_ways, or_right}
use Rattle.telegram.specs.declared.request.Request.{Request}
use Rattle.telegram.specs.declared.request.Request.TheVariants.{Selection, Fetch, Release}
use Rattle.telegram.specs.Replies.{Garbled, answers, is_ack, is_reply, reply_refusal}
use Rattle.line.specs.Meters.{Meter, Carries, Stocked}
use Rattle.line.specs.Buses.{Bus, Due, Damages, Turned, due, due_selects, due_fetches, selected, turn_fits}
use Rattle.line.specs.Exchanges.{State, Clean, Exchange, due_to, heard}
use Rattle.line.proofs.Hearing.{selected_stocked}

pub reply_answers : (bs : List ℕ) → is_reply bs ≡ true → answers bs ≡ true
reply_answers bs h = or_right (is_ack bs) (is_reply bs) h

pub silence_no_answer : answers [] ≡ false
unfolding is_reply reply_refusal
silence_no_answer = refl

-- the byte 00 is garbled
pub zero_garbled : Garbled (0 ∷ [])
unfolding is_reply reply_refusal
zero_garbled = record { some_bytes = omega arith; few_bytes = omega arith; no_answer = refl }

-- a due telegram is a reply telegram
abbrev pub Valid : Due → Type 0
Valid Due.silence = Unit {0}
Valid Due.acknowledgement = Unit {0}
Valid (Due.telegram t) = is_reply t ≡ true
Valid Due.collision = Unit {0}

stocked_reply : (m : Meter) (i : ℕ) → Stocked m → i < length m.telegrams → is_reply (get_or m.telegrams i []) ≡ true
stocked_reply m i h low = (All-get_or (Carries m.address) m.telegrams i [] low h.carry).0

turn_low : (k : Option Bool) (m : Meter) (turn : ℕ) → Stocked m → turn_fits k (m ∷ []) turn → turn - 1 < length m.telegrams
turn_low None m turn h t = let low : 1 ≤ length m.telegrams = h.some_telegrams in omega arith
turn_low (Some bit) m turn h t = let low : 1 ≤ turn = t.0 in let high : turn ≤ length m.telegrams = t.1 in omega arith

selects_valid : (ms : List Meter) → Valid (due_selects ms)
selects_valid [] = tt
selects_valid (m ∷ ms) = tt

fetches_valid : (ms : List Meter) (k : Option Bool) (turn : ℕ) → AllByRecursion Stocked ms → turn_fits k ms turn → Valid (due_fetches ms turn)
fetches_valid [] k turn h t = tt
fetches_valid (m ∷ []) k turn h t = stocked_reply m (turn - 1) h.0 (turn_low k m turn h.0 t)
fetches_valid (m ∷ n ∷ ms) k turn h t = tt

pub due_valid : (q : Option Request) (b : Bus) → AllByRecursion Stocked b.meters → Turned b → Valid (due q b)
unfolding due
due_valid (Some (Selection p)) b h t = selects_valid (selected b)
due_valid (Some (Fetch bit)) b h t = fetches_valid (selected b) b.kept b.turn (selected_stocked b h) t
due_valid (Some Release) b h t = tt
due_valid None b h t = tt

silence_unanswered : (r : List ℕ) → r ≡ [] → answers r ≡ true → ⊥
silence_unanswered r e g = both_ways (answers r) (ap answers e ∙ silence_no_answer) g

damage_unanswered : (d : Due) (r : List ℕ) → Damages d r → answers r ≡ true → ⊥
damage_unanswered Due.silence r h g = silence_unanswered r h g
damage_unanswered Due.acknowledgement r h g = both_ways (answers r) h.no_answer g
damage_unanswered (Due.telegram t) r h g = both_ways (answers r) h.no_answer g
damage_unanswered Due.collision r h g = both_ways (answers r) h.no_answer g

-- only a clean exchange is answered
pub answered_clean : {s : State} {q r : List ℕ} {s' : State} → Exchange s q r s' → answers r ≡ true → Clean s q r s'
answered_clean (Exchange.clean x) g = x
answered_clean {r} (Exchange.lost_out h e f) g = absurd (silence_unanswered r e g)
answered_clean {r} (Exchange.lost_back h e f) g = absurd (silence_unanswered r e g)
answered_clean {s} {q} {r} (Exchange.damaged h e f) g = absurd (damage_unanswered (due_to q s.bus) r e g)

-- where anything comes back, the request was heard
pub replied_heard : {s : State} {q r : List ℕ} {s' : State} → Exchange s q r s' → (r ≡ [] → ⊥) → s'.bus ≡ heard q s.bus
replied_heard (Exchange.clean x) n = ap (λ t. t.bus) x.after
replied_heard (Exchange.lost_out h e f) n = absurd (n e)
replied_heard (Exchange.lost_back h e f) n = ap (λ t. t.bus) f
replied_heard (Exchange.damaged h e f) n = ap (λ t. t.bus) f
