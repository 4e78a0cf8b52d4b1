-- A probe, told from its exchanges.
use Rattle.std.proofs.Common.{◌≡◌, ℕ, ◌-◌, true, false, List, [], ◌∷◌, length, take, is_ok, Ok, Result, sym, ap, ◌∙◌, subst, arith}
use Rattle.std.proofs.lemmas.Bool.{cond-true, cond-false}
use Rattle.telegram.specs.declared.fault.ReplyFault.{ReplyFault}
use Rattle.telegram.specs.declared.reply.Reply.{Reply}
use Rattle.telegram.specs.Addresses.{address_bytes}
use Rattle.telegram.specs.Faults.{reply_fault}
use Rattle.telegram.specs.Patterns.{beginning_pattern}
use Rattle.telegram.specs.Replies.{ReadsReply, is_reply, reply_refusal}
use Rattle.telegram.proofs.Replying.{accepted}
use Rattle.line.proofs.Carrying.{carries_read}
use Rattle.line.specs.Meters.{Carries, address_in}
use Rattle.line.specs.Exchanges.{State, Exchange, Exchanged, Chain}
use Rattle.line.proofs.Exchanging.{chain_one}
use Rattle.search.specs.Verdicts.{Verdict, nobody, one, several}
use Rattle.master.specs.Probes.{Probed, answered, silent, told}
use Rattle.master.specs.Requests.{fetch, selection}
use Rattle.master.proofs.Fetching.{reply_size}

pub told_one : (bytes address : List ℕ) → Carries address bytes → one address ≡ told bytes
told_one bytes address h =
    ap one (sym h.1) ∙ sym (cond-true (is_reply bytes) (one (address_in bytes)) several h.0)

pub told_several : (bytes : List ℕ) → is_reply bytes ≡ false → several ≡ told bytes
told_several bytes h = sym (cond-false (is_reply bytes) (one (address_in bytes)) several h)

-- the bytes that were sent are those of the beginning's selection
exchange_of : {s s' : State} {q q' : List ℕ} {n : ℕ} {buffer : List ℕ} → q ≡ q' → Exchanged s q n buffer s' → Exchange s q' (take n buffer) s'
exchange_of {s} {s'} {n = n} {buffer = buffer} e h = subst (λ r. Exchange s r (take n buffer) s') e h.exchange

module _ (s s₁ : State) (p pattern : List ℕ) (n : ℕ) (buffer : List ℕ) (e : pattern ≡ beginning_pattern p) (h : Exchanged s (selection pattern) n buffer s₁) where
  pub silent_probe : n ≡ 0 → Probed s p nobody s₁
  silent_probe z =
      let x = subst (λ k. Exchange s (selection (beginning_pattern p)) (take k buffer) s₁) z (exchange_of (ap selection e) h) in
      record { events = (selection (beginning_pattern p), []) ∷ []; chain = chain_one x; probe = silent }

  pub answered_probe : (s' : State) (n₂ : ℕ) (buffer₂ : List ℕ) → length buffer ≡ 261 → (n ≡ 0 → ⊥) → Exchanged s₁ (fetch true) n₂ buffer₂ s' → (v : Verdict (List ℕ)) → v ≡ told (take n₂ buffer₂) → Probed s p v s'
  answered_probe s' n₂ buffer₂ l some h₂ v is =
      let long = reply_size l h in
      let r₁ = take n buffer in
      let r₂ = take n₂ buffer₂ in
      subst (λ t. Probed s p t s') (sym is)
      (record {
        events = (selection (beginning_pattern p), r₁) ∷ (fetch true, r₂) ∷ [];
        chain = Chain.more (exchange_of (ap selection e) h) (chain_one h₂.exchange);
        probe = answered r₁ r₂ (omega (arith, some, long));
      })

-- a part of a buffer from its start, as the checker has it
pub front : (n : ℕ) (buffer : List ℕ) → take (n - 0) buffer ≡ take n buffer
front n buffer = let e : n - 0 ≡ n = omega arith in ap (λ k. take k buffer) e

-- what reading the reply of a fetch told
pub read_one : (n : ℕ) (buffer : List ℕ) (t : Reply) → length t.address.number ≡ 4 → ReadsReply (take (n - 0) buffer) (Ok t) → one (address_bytes t.address) ≡ told (take n buffer)
read_one n buffer t size h =
    told_one (take n buffer) (address_bytes t.address) (subst (Carries (address_bytes t.address)) (front n buffer) (carries_read (take (n - 0) buffer) t size h))

pub read_is : (n : ℕ) (buffer : List ℕ) (r : Result Reply ReplyFault) → reply_fault r ≡ reply_refusal (take (n - 0) buffer) → is_reply (take n buffer) ≡ is_ok r
read_is n buffer r h = ap is_reply (sym (front n buffer)) ∙ sym (accepted (take (n - 0) buffer) r h)
