-- What one exchange does to a meter that is linked.
use Rattle.std.proofs.Common.{◌≡◌, ℕ, suc, ◌+◌, ◌-◌, ◌%◌, Bool, true, false, cond, not, List, [], ◌∷◌, length, get_or, Some, None, Option, Result, sym, refl, ap, ◌∙◌, subst, mod-lt, arith}
use native.Mathlib.Nat.{mod-add-mod}
use Rattle.std.specs.List.{AllByRecursion}
use Rattle.std.proofs.ByRecursion.{All-get_or}
use Rattle.std.proofs.lemmas.Bool.{both_ways}
use Rattle.link.specs.Buffers.{filled}
use Rattle.telegram.specs.Replies.{is_reply, reply_refusal}
use Rattle.line.specs.Meters.{Meter, Carries, Stocked}
use Rattle.line.specs.Buses.{Bus, Due, Arrives, advance, due, due_fetches, fetched, fitting, hear, holds, selected}
use Rattle.line.specs.Exchanges.{State, Exchange, Sound, due_to, heard}
use Rattle.line.proofs.Exchanging.{always_clean}
use Rattle.line.proofs.Hearing.{selected_stocked}
use Rattle.line.proofs.Replying.{answered_clean, reply_answers}
use Rattle.master.specs.declared.fault.FetchFault.{FetchFault}
use Rattle.master.specs.Picks.{Continues, Fetches, Linked, Turn, telegram}
use Rattle.master.specs.Requests.{fetch, pattern_of}
use Rattle.master.proofs.Asking.{fetch_read}

holds_same : (bit : Bool) → holds (Some bit) bit ≡ true
holds_same true = refl
holds_same false = refl

-- a bit that is kept is not the other one
holds_other : (o : Option Bool) (bit : Bool) → holds o bit ≡ true → holds o (not bit) ≡ false
holds_other None bit e = refl
holds_other (Some true) bit e = ap not e
holds_other (Some false) bit e = ap (λ b. not b) e

-- the meter has heard the fetch that follows k accepted ones
record Ahead (b : Bus) (t k : ℕ) (bit : Bool) (b' : Bus) : Type 0 where
  meters : b'.meters ≡ b.meters
  selection : b'.selection ≡ b.selection
  kept : holds b'.kept bit ≡ true
  turn : b'.turn ≡ k % t + 1

moved : (m : Meter) (bit : Bool) (b : Bus) (k : ℕ) (h : Bool) → holds b.kept bit ≡ h → Turn h b.turn (length m.telegrams) k → Ahead b (length m.telegrams) k bit (cond h b (advance m bit b))
moved m bit b k true e t = record { meters = refl; selection = refl; kept = e; turn = t }
moved m bit b k false e t = record { meters = refl; selection = refl; kept = holds_same bit; turn = ap (λ x. x + 1) t }

fetch_moves : (m : Meter) (bit : Bool) (b : Bus) (k : ℕ) → selected b ≡ m ∷ [] → Turn (holds b.kept bit) b.turn (length m.telegrams) k → Ahead b (length m.telegrams) k bit (heard (fetch bit) b)
unfolding hear
fetch_moves m bit b k e t =
    subst (Ahead b (length m.telegrams) k bit) (sym (ap (λ q. hear q b) (fetch_read bit) ∙ ap (λ l. fetched l bit b) e))
    (moved m bit b k (holds b.kept bit) refl t)

-- the reply due to it is the telegram that follows
fetch_due : (m : Meter) (bit : Bool) (b : Bus) (k : ℕ) → selected b ≡ m ∷ [] → Ahead b (length m.telegrams) k bit (heard (fetch bit) b) → due_to (fetch bit) b ≡ Due.telegram (telegram m k)
unfolding due selected
fetch_due m bit b k e a =
    let after = heard (fetch bit) b in
    let one : selected after ≡ m ∷ [] = ap (λ p. fitting p after.meters) a.selection ∙ ap (fitting b.selection) a.meters ∙ e in
    let back : after.turn - 1 ≡ k % length m.telegrams = omega (arith, a.turn) in
    ap (λ q. due q after) (fetch_read bit) ∙ ap (λ l. due_fetches l after.turn) one ∙ ap (λ i. Due.telegram (get_or m.telegrams i [])) back

telegram_reply : (m : Meter) (k : ℕ) → Stocked m → is_reply (telegram m k) ≡ true
telegram_reply m k h =
    (All-get_or (Carries m.address) m.telegrams (k % length m.telegrams) [] (mod-lt k h.some_telegrams) h.carry).0

silence_no_reply : is_reply [] ≡ false
unfolding is_reply reply_refusal
silence_no_reply = refl

module _ (pattern : List ℕ) (m : Meter) (k : ℕ) (answered bit : Bool) (s s' : State) (l : Linked pattern m k answered bit s) where
  alone : selected s.bus ≡ m ∷ []
  unfolding selected
  alone = ap (λ p. fitting p s.bus.meters) l.selection ∙ l.only

  pub linked_stocked : Sound s → Stocked m
  linked_stocked h = (subst (AllByRecursion Stocked) alone (selected_stocked s.bus h.stocked)).0

  ahead : Ahead s.bus (length m.telegrams) k bit (heard (fetch bit) s.bus)
  ahead = fetch_moves m bit s.bus k alone l.turn

  -- the fetch was not heard
  behind_still : s'.bus ≡ s.bus → Linked pattern m k answered bit s'
  behind_still e = record {
    only = ap (λ b. fitting (Some (pattern_of pattern)) b.meters) e ∙ l.only;
    selection = ap (λ b. b.selection) e ∙ l.selection;
    heard = l.heard;
    next = l.next;
    turn = subst (λ b. Turn (holds b.kept bit) b.turn (length m.telegrams) k) (sym e) l.turn;
  }

  -- it was heard, and its reply got lost
  ahead_still : s'.bus ≡ heard (fetch bit) s.bus → Linked pattern m k answered bit s'
  ahead_still e = record {
    only = ap (λ b. fitting (Some (pattern_of pattern)) b.meters) e ∙ ap (fitting (Some (pattern_of pattern))) ahead.meters ∙ l.only;
    selection = ap (λ b. b.selection) e ∙ ahead.selection ∙ l.selection;
    heard = l.heard;
    next = l.next;
    turn = subst (λ b. Turn (holds b.kept bit) b.turn (length m.telegrams) k) (sym e) (subst (λ h. Turn h (heard (fetch bit) s.bus).turn (length m.telegrams) k) (sym ahead.kept) ahead.turn);
  }

  -- it was heard, and its reply came
  ahead_next : s'.bus ≡ heard (fetch bit) s.bus → Linked pattern m (suc k) answered (not bit) s'
  ahead_next e =
      let t = length m.telegrams in
      let up : k + 1 ≡ suc k = omega arith in
      record {
        only = ap (λ b. fitting (Some (pattern_of pattern)) b.meters) e ∙ ap (fitting (Some (pattern_of pattern))) ahead.meters ∙ l.only;
        selection = ap (λ b. b.selection) e ∙ ahead.selection ∙ l.selection;
        heard = l.heard;
        next = ap not l.next;
        turn = subst (λ b. Turn (holds b.kept (not bit)) b.turn t (suc k)) (sym e)
            (subst (λ h. Turn h (heard (fetch bit) s.bus).turn t (suc k)) (sym (holds_other (heard (fetch bit) s.bus).kept bit ahead.kept))
            (ap (λ x. x % t) ahead.turn ∙ mod-add-mod k t 1 ∙ ap (λ x. x % t) up));
      }

module _ (pattern : List ℕ) (m : Meter) (k : ℕ) (answered bit : Bool) (s : State) (l : Linked pattern m k answered bit s) (h : Sound s) where
  due_now : due_to (fetch bit) s.bus ≡ Due.telegram (telegram m k)
  due_now = fetch_due m bit s.bus k (alone pattern m k answered bit s s l) (ahead pattern m k answered bit s s l)

  arrived : (reply : List ℕ) → Arrives (due_to (fetch bit) s.bus) reply → reply ≡ telegram m k
  arrived reply a = subst (λ d. Arrives d reply) due_now a

  stocked : Stocked m
  stocked = linked_stocked pattern m k answered bit s s l h

  -- a reply telegram is the one that follows, and the link goes on
  pub fetch_next : (s' : State) (reply : List ℕ) → Exchange s (fetch bit) reply s' → is_reply reply ≡ true → (reply ≡ telegram m k) × Linked pattern m (suc k) answered (not bit) s'
  fetch_next s' reply x good =
      let clean = answered_clean x (reply_answers reply good) in
      (arrived reply clean.arrives, ahead_next pattern m k answered bit s s' l (ap (λ y. y.bus) clean.after))

  -- any other reply leaves the link
  pub fetch_again : (s' : State) (reply : List ℕ) → Exchange s (fetch bit) reply s' → is_reply reply ≡ false → Linked pattern m k answered bit s'
  fetch_again s' reply (Exchange.clean c) bad =
      absurd (both_ways (is_reply reply) bad (ap is_reply (arrived reply c.arrives) ∙ telegram_reply m k stocked))
  fetch_again s' reply (Exchange.lost_out low r e) bad = behind_still pattern m k answered bit s s' l (ap (λ y. y.bus) e)
  fetch_again s' reply (Exchange.lost_back low r e) bad = ahead_still pattern m k answered bit s s' l (ap (λ y. y.bus) e)
  fetch_again s' reply (Exchange.damaged low r e) bad = ahead_still pattern m k answered bit s s' l (ap (λ y. y.bus) e)

  -- where the line has no faults, a reply telegram comes
  pub fetch_clear : (s' : State) (reply : List ℕ) → Exchange s (fetch bit) reply s' → s.run ≡ 0 → is_reply reply ≡ true
  fetch_clear s' reply x z = ap is_reply (arrived reply (always_clean z x).arrives) ∙ telegram_reply m k stocked

pub fetch_continues : (pattern : List ℕ) (m : Meter) (k : ℕ) (s : State) (answered bit : Bool) (r : Result ℕ FetchFault) (buffer : List ℕ) (s' : State) (bit' : Bool) → Sound s → Fetches s answered bit r buffer s' bit' → Linked pattern m k answered bit s → Continues s pattern m k answered r buffer s' bit'
fetch_continues pattern m k s answered bit r buffer s' bit' h (Fetches.unanswered is) l = absurd (both_ways false refl l.heard)
fetch_continues pattern m k s answered bit r buffer s' bit' h (Fetches.accepted reply x replied) l =
    let next = fetch_next pattern m k true bit s l h s' reply x replied in
    record {
      accepted = λ n e. let same : n ≡ length reply = cc in (ap filled next.0, same ∙ ap length next.0, next.1);
      refused = λ f e. absurd (let z : ◌≡◌ {A = ℕ} 0 1 = cc in omega arith);
      clear = λ _ f e. let z : ◌≡◌ {A = ℕ} 0 1 = cc in omega arith;
    }
fetch_continues pattern m k s answered bit r buffer s' bit' h (Fetches.silent is x) l =
    record {
      accepted = λ n e. absurd (let z : ◌≡◌ {A = ℕ} 0 1 = cc in omega arith);
      refused = λ f e. fetch_again pattern m k true bit s l h s' [] x silence_no_reply;
      clear = λ z f e. both_ways (is_reply []) silence_no_reply (fetch_clear pattern m k true bit s l h s' [] x z);
    }
fetch_continues pattern m k s answered bit r buffer s' bit' h (Fetches.garbled is reply x some bad) l =
    record {
      accepted = λ n e. absurd (let z : ◌≡◌ {A = ℕ} 0 1 = cc in omega arith);
      refused = λ f e. fetch_again pattern m k true bit s l h s' reply x bad;
      clear = λ z f e. both_ways (is_reply reply) bad (fetch_clear pattern m k true bit s l h s' reply x z);
    }
