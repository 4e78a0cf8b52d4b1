-- Tries of one request that have all failed, and what a layer makes of them.
use Rattle.std.proofs.Common.{◌≡◌, ℕ, ◌+◌, ◌/◌, ◌<◌, ◌≤◌, Bool, true, false, List, [], ◌∷◌, length, sym, refl, ap, ◌∙◌, subst, ap₂, arith}
use native.Mathlib.Nat.{add-div_right, div-eq_of_lt, zero-div}
use Rattle.std.proofs.lemmas.Bool.{both_ways}
use Rattle.telegram.specs.Replies.{Garbled, answers}
use Rattle.telegram.specs.Requests.{request_of}
use Rattle.line.specs.Buses.{Bus, Due, Arrives, Damages, due}
use Rattle.line.specs.Exchanges.{State, Exchange, Sound, cleared, faulted, heard, due_to}
use Rattle.line.specs.Layering.{div_mono}
use Rattle.line.specs.Layers.{divided, last_reply}
use Rattle.line.proofs.Hearing.{hear_twice}
use Rattle.line.proofs.Replying.{Valid, answered_clean, due_valid, reply_answers, zero_garbled}

-- what failed tries tell of the due reply, with none of them clean: where it is silence, all were silent
abbrev pub Spoilt : Due → Bool → Type 0
Spoilt Due.silence silent = silent ≡ true
Spoilt Due.acknowledgement silent = Unit {0}
Spoilt (Due.telegram t) silent = Unit {0}
Spoilt Due.collision silent = Unit {0}

-- and with one of them clean: the due reply is silence or a collision
abbrev pub Answered : Due → Bool → Type 0
Answered Due.silence silent = silent ≡ true
Answered Due.acknowledgement silent = ⊥
Answered (Due.telegram t) silent = ⊥
Answered Due.collision silent = silent ≡ false

abbrev pub at_streak : State → Bus → ℕ → State
at_streak s b k = record { bus = b; run = s.run; streak = k }

-- i failed tries lead from s to t: the request was never heard; it was heard, and no try was clean;
-- or the faults since the last clean try are fewer than i
pub data Tried (s : State) (q : List ℕ) (i : ℕ) (silent : Bool) (t : State) : Type 0 where
  unheard : t ≡ at_streak s s.bus (s.streak + i) → s.streak + i ≤ s.run → silent ≡ true → Tried s q i silent t
  failed : t ≡ at_streak s (heard q s.bus) (s.streak + i) → s.streak + i ≤ s.run → Spoilt (due_to q s.bus) silent → Tried s q i silent t
  cleaned : (j : ℕ) → t ≡ at_streak s (heard q s.bus) j → j < i → Answered (due_to q s.bus) silent → Tried s q i silent t

-- whether all replies were silent, with one reply more
pub record Hushed (b : Bool) (r : List ℕ) (b' : Bool) : Type 0 where
  pub silent : r ≡ [] → b' ≡ b
  pub noisy : 1 ≤ length r → b' ≡ false

spoilt_true : (d : Due) (b : Bool) → b ≡ true → Spoilt d b
spoilt_true Due.silence b h = h
spoilt_true Due.acknowledgement b h = tt
spoilt_true (Due.telegram t) b h = tt
spoilt_true Due.collision b h = tt

answered_spoilt : (d : Due) (b : Bool) → Answered d b → Spoilt d b
answered_spoilt Due.silence b h = h
answered_spoilt Due.acknowledgement b h = tt
answered_spoilt (Due.telegram t) b h = tt
answered_spoilt Due.collision b h = tt

spoilt_more : (d : Due) (r : List ℕ) (b b' : Bool) → Hushed b r b' → Damages d r → Spoilt d b → Spoilt d b'
spoilt_more Due.silence r b b' h s p = h.silent s ∙ p
spoilt_more Due.acknowledgement r b b' h s p = tt
spoilt_more (Due.telegram t) r b b' h s p = tt
spoilt_more Due.collision r b b' h s p = tt

answered_more : (d : Due) (r : List ℕ) (b b' : Bool) → Hushed b r b' → Damages d r → Answered d b → Answered d b'
answered_more Due.silence r b b' h s p = h.silent s ∙ p
answered_more Due.acknowledgement r b b' h s p = p
answered_more (Due.telegram t) r b b' h s p = p
answered_more Due.collision r b b' h s p = h.noisy s.some_bytes

-- a clean try that is no answer
answered_now : (d : Due) (r : List ℕ) (b b' : Bool) → Valid d → answers r ≡ false → Hushed b r b' → Arrives d r → Spoilt d b → Answered d b'
answered_now Due.silence r b b' v g h a p = h.silent a ∙ p
answered_now Due.acknowledgement r b b' v g h a p = both_ways (answers r) g (ap answers a)
answered_now (Due.telegram t) r b b' v g h a p = both_ways (answers r) g (ap answers a ∙ reply_answers t v)
answered_now Due.collision r b b' v g h a p = h.noisy a.some_bytes

-- one try more, from a bus on which hearing the request gives what it gives at first
module _ (s : State) (q r : List ℕ) (i : ℕ) (b b' : Bool) (t' : State) (sound : Sound t') (bad : answers r ≡ false) (h : Hushed b r b') where
  -- clean
  tried_clean : (c : Bus) (k : ℕ) → heard q c ≡ heard q s.bus → Arrives (due_to q c) r → t' ≡ cleared (at_streak s c k) (heard q c) → Spoilt (due_to q s.bus) b → Tried s q (i + 1) b' t'
  tried_clean c k e a f p =
      let same : t' ≡ at_streak s (heard q s.bus) 0 = f ∙ ap (λ x. at_streak s x 0) e in
      let arrives : Arrives (due_to q s.bus) r = subst (λ x. Arrives (due (request_of q) x) r) e a in
      let valid : Valid (due (request_of q) t'.bus) = due_valid (request_of q) t'.bus sound.stocked sound.turned in
      let valid' : Valid (due_to q s.bus) = subst (λ x. Valid (due (request_of q) x)) (ap (λ x. x.bus) same) valid in
      Tried.cleaned 0 same (omega arith) (answered_now (due_to q s.bus) r b b' valid' bad h arrives p)

  -- a fault after the request was heard, with no clean try
  tried_failed : (k : ℕ) → s.streak + i < s.run → t' ≡ at_streak s (heard q s.bus) ((s.streak + i) + 1) → Spoilt (due_to q s.bus) b' → Tried s q (i + 1) b' t'
  tried_failed k low e p =
      Tried.failed (e ∙ ap (at_streak s (heard q s.bus)) (omega arith)) (omega arith) p

  from_unheard : s.streak + i ≤ s.run → b ≡ true → Exchange (at_streak s s.bus (s.streak + i)) q r t' → Tried s q (i + 1) b' t'
  from_unheard low quiet (Exchange.clean x) = tried_clean s.bus (s.streak + i) refl x.arrives x.after (spoilt_true (due_to q s.bus) b quiet)
  from_unheard low quiet (Exchange.lost_out l e f) =
      Tried.unheard (f ∙ ap (at_streak s s.bus) (omega arith)) (omega arith) (h.silent e ∙ quiet)
  from_unheard low quiet (Exchange.lost_back l e f) = tried_failed i l f (spoilt_true (due_to q s.bus) b' (h.silent e ∙ quiet))
  from_unheard low quiet (Exchange.damaged l e f) =
      tried_failed i l f (spoilt_more (due_to q s.bus) r b b' h e (spoilt_true (due_to q s.bus) b quiet))

  again : heard q (heard q s.bus) ≡ heard q s.bus
  again = hear_twice (request_of q) s.bus

  from_failed : s.streak + i ≤ s.run → Spoilt (due_to q s.bus) b → Exchange (at_streak s (heard q s.bus) (s.streak + i)) q r t' → Tried s q (i + 1) b' t'
  from_failed low p (Exchange.clean x) = tried_clean (heard q s.bus) (s.streak + i) again x.arrives x.after p
  from_failed low p (Exchange.lost_out l e f) = tried_failed i l f (subst (Spoilt (due_to q s.bus)) (sym (h.silent e)) p)
  from_failed low p (Exchange.lost_back l e f) =
      tried_failed i l (f ∙ ap (λ x. at_streak s x ((s.streak + i) + 1)) again) (subst (Spoilt (due_to q s.bus)) (sym (h.silent e)) p)
  from_failed low p (Exchange.damaged l e f) =
      tried_failed i l (f ∙ ap (λ x. at_streak s x ((s.streak + i) + 1)) again)
      (spoilt_more (due_to q s.bus) r b b' h (subst (λ x. Damages (due (request_of q) x) r) again e) p)

  from_cleaned : (j : ℕ) → j < i → Answered (due_to q s.bus) b → Exchange (at_streak s (heard q s.bus) j) q r t' → Tried s q (i + 1) b' t'
  from_cleaned j low p (Exchange.clean x) =
      tried_clean (heard q s.bus) j again x.arrives x.after (answered_spoilt (due_to q s.bus) b p)
  from_cleaned j low p (Exchange.lost_out l e f) =
      Tried.cleaned (j + 1) f (omega arith) (subst (Answered (due_to q s.bus)) (sym (h.silent e)) p)
  from_cleaned j low p (Exchange.lost_back l e f) =
      Tried.cleaned (j + 1) (f ∙ ap (λ x. at_streak s x (j + 1)) again) (omega arith) (subst (Answered (due_to q s.bus)) (sym (h.silent e)) p)
  from_cleaned j low p (Exchange.damaged l e f) =
      Tried.cleaned (j + 1) (f ∙ ap (λ x. at_streak s x (j + 1)) again) (omega arith)
      (answered_more (due_to q s.bus) r b b' h (subst (λ x. Damages (due (request_of q) x) r) again e) p)

  pub tried_more : {t : State} → Tried s q i b t → Exchange t q r t' → Tried s q (i + 1) b' t'
  tried_more (Tried.unheard e low quiet) x = from_unheard low quiet (subst (λ y. Exchange y q r t') e x)
  tried_more (Tried.failed e low p) x = from_failed low p (subst (λ y. Exchange y q r t') e x)
  tried_more (Tried.cleaned j e low p) x = from_cleaned j low p (subst (λ y. Exchange y q r t') e x)

-- no try yet
pub tried_none : (s : State) (q : List ℕ) → Sound s → Tried s q 0 true s
tried_none s q h =
    let low : s.streak ≤ s.run = h.limited in
    Tried.unheard (ap (at_streak s s.bus) (omega arith)) (omega arith) refl

raised : (k : ℕ) (s : State) (c : Bus) → 0 < k → divided k (at_streak s c (s.streak + k)) ≡ faulted (divided k s) c
raised k s c pos = ap (λ x. at_streak (divided k s) c x) (add-div_right s.streak pos)

room : (k a b : ℕ) → 0 < k → a + k ≤ b → a / k < b / k
room k a b pos h =
    let up : (a + k) / k ≤ b / k = div_mono k (a + k) b pos h in
    let one : (a + k) / k ≡ a / k + 1 = add-div_right a pos in
    omega arith

failed_exchange : (k : ℕ) (s t : State) (q : List ℕ) (b : Bool) → s.streak / k < s.run / k → t ≡ faulted (divided k s) (heard q s.bus) → Spoilt (due_to q s.bus) b → Exchange (divided k s) q (last_reply b) t
failed_exchange k s t q true low e p = Exchange.lost_back low refl e
failed_exchange k s t q false low e p = Exchange.damaged low (spoils (due_to q s.bus) p) e
  where
    spoils : (d : Due) → Spoilt d false → Damages d (0 ∷ [])
    spoils Due.silence f = absurd (both_ways false refl f)
    spoils Due.acknowledgement f = zero_garbled
    spoils (Due.telegram x) f = zero_garbled
    spoils Due.collision f = zero_garbled

answered_arrives : (d : Due) (b : Bool) → Answered d b → Arrives d (last_reply b)
answered_arrives Due.silence b p = ap last_reply p
answered_arrives Due.acknowledgement b p = absurd p
answered_arrives (Due.telegram x) b p = absurd p
answered_arrives Due.collision b p = subst (λ x. Garbled (last_reply x)) (sym p) zero_garbled

-- k failed tries are one exchange of the layer
pub tried_all : (k : ℕ) (s t : State) (q : List ℕ) (b : Bool) → 0 < k → Tried s q k b t → Exchange (divided k s) q (last_reply b) (divided k t)
tried_all k s t q b pos (Tried.unheard e low quiet) =
    Exchange.lost_out (room k s.streak s.run pos low) (ap last_reply quiet) (ap (divided k) e ∙ raised k s s.bus pos)
tried_all k s t q b pos (Tried.failed e low p) =
    failed_exchange k s (divided k t) q b (room k s.streak s.run pos low) (ap (divided k) e ∙ raised k s (heard q s.bus) pos) p
tried_all k s t q b pos (Tried.cleaned j e low p) =
    Exchange.clean (record { arrives = answered_arrives (due_to q s.bus) b p; after = ap (divided k) e ∙ ap (λ x. at_streak (divided k s) (heard q s.bus) x) (div-eq_of_lt low) })

tried_heard : {s : State} {q : List ℕ} {i : ℕ} {b : Bool} {t : State} → Tried s q i b t → (heard q t.bus ≡ heard q s.bus) × (t.run ≡ s.run)
tried_heard {s} {q} (Tried.unheard e low quiet) = (ap (λ x. heard q x.bus) e, ap (λ x. x.run) e)
tried_heard {s} {q} (Tried.failed e low p) = (ap (λ x. heard q x.bus) e ∙ hear_twice (request_of q) s.bus, ap (λ x. x.run) e)
tried_heard {s} {q} (Tried.cleaned j e low p) = (ap (λ x. heard q x.bus) e ∙ hear_twice (request_of q) s.bus, ap (λ x. x.run) e)

-- an answer after failed tries is one clean exchange of the layer
pub tried_answered : (k : ℕ) {s t : State} {q r : List ℕ} {i : ℕ} {b : Bool} {t' : State} → Tried s q i b t → Exchange t q r t' → answers r ≡ true → Exchange (divided k s) q r (divided k t')
tried_answered k {s} {t} {q} {r} {t' = t'} h x g =
    let same = tried_heard h in
    let clean = answered_clean x g in
    let state : divided k t' ≡ record { bus = heard q t.bus; run = t.run / k; streak = 0 / k } = ap (divided k) clean.after in
    Exchange.clean
    (record {
      arrives = subst (λ y. Arrives (due (request_of q) y) r) same.0 clean.arrives;
      after = state ∙ ap₂ (λ y n. record { bus = y; run = n / k; streak = 0 / k }) same.0 same.1 ∙ ap (at_streak (divided k s) (heard q s.bus)) (zero-div k);
    })
