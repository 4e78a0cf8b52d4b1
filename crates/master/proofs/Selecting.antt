-- What the selection of a pattern does.
use Rattle.std.proofs.Common.{◌≡◌, ℕ, ◌≤◌, Bool, ltb, List, [], ◌∷◌, length, Some, sym, refl, ap, ◌∙◌, subst, arith}
use Rattle.std.proofs.lemmas.Bool.{ltb-true}
use Rattle.line.specs.Meters.{Meter}
use Rattle.line.specs.Buses.{Bus, Arrives, due, due_selects, fitting, hear, holds, reselected, selected}
use Rattle.line.specs.Exchanges.{State, Exchange, due_to, heard}
use Rattle.line.proofs.Exchanging.{always_clean}
use Rattle.line.proofs.Replying.{replied_heard}
use Rattle.master.specs.Picks.{Selects, Starts, Turn}
use Rattle.master.specs.Requests.{pattern_of, selection}
use Rattle.master.proofs.Asking.{selection_read}

-- the bus after the pattern was selected
abbrev pub chosen : List ℕ → Bus → Bus
chosen p b = reselected (Some (pattern_of p)) b

module _ (p : List ℕ) (l : length p ≡ 8) where
  pub selects_bus : (b : Bus) → heard (selection p) b ≡ chosen p b
  unfolding hear
  selects_bus b = ap (λ q. hear q b) (selection_read p l)

  pub selects_due : (b : Bus) → due_to (selection p) b ≡ due_selects (fitting (Some (pattern_of p)) b.meters)
  unfolding due selected
  selects_due b =
      ap (λ q. due q (heard (selection p) b)) (selection_read p l) ∙ ap (λ x. due_selects (selected x)) (selects_bus b)

  -- any reply shows that the selection was heard
  pub reply_heard : (s s' : State) (reply : List ℕ) → Exchange s (selection p) reply s' → 1 ≤ length reply → s'.bus ≡ chosen p s.bus
  reply_heard s s' reply x some = replied_heard x (λ none. omega (arith, ap length none)) ∙ selects_bus s.bus

  -- where the line has no faults, a selection that fits some meter is acknowledged, and no other
  pub clear_reply : (s s' : State) (reply : List ℕ) → Exchange s (selection p) reply s' → s.run ≡ 0 → Arrives (due_selects (fitting (Some (pattern_of p)) s.bus.meters)) reply
  clear_reply s s' reply x z = subst (λ d. Arrives d reply) (selects_due s.bus) (always_clean z x).arrives

  pub pick_starts : (s s' : State) (m : Meter) (answered bit : Bool) → fitting (Some (pattern_of p)) s.bus.meters ≡ m ∷ [] → Selects s p answered bit s' → Starts s p m answered bit s'
  pick_starts s s' m answered bit one h =
      record {
        linked = λ yes.
            let some = ltb-true 0 (length h.reply) (sym h.noted ∙ yes) in
            let e = reply_heard s s' h.reply h.exchange (omega arith) in
            record {
              only = ap (λ b. fitting (Some (pattern_of p)) b.meters) e ∙ one;
              selection = ap (λ b. b.selection) e;
              heard = yes;
              next = h.first;
              turn = subst (λ b. Turn (holds b.kept bit) b.turn (length m.telegrams) 0) (sym e) refl;
            };
        clear = λ z.
            let a = subst (λ ms. Arrives (due_selects ms) h.reply) one (clear_reply s s' h.reply h.exchange z) in
            h.noted ∙ ap (λ r. ltb 0 (length r)) a;
      }
