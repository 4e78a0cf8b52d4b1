-- A fetch, told from its exchange.
use Rattle.std.proofs.Common.{◌≡◌, ℕ, Bool, true, false, not, List, [], length, take, Ok, Err, sym, refl, subst, arith, length-take-le}
use Rattle.link.specs.Buffers.{filled}
use Rattle.telegram.specs.Replies.{is_reply}
use Rattle.line.specs.Exchanges.{State, Exchange, Exchanged}
use Rattle.master.specs.declared.fault.FetchFault.TheVariants.{Unanswered, Garbled, Silent}
use Rattle.master.specs.Picks.{Fetches}
use Rattle.master.specs.Requests.{fetch}

-- the reply of an exchange has as many bytes as were counted
pub reply_size : {s s' : State} {q : List ℕ} {n : ℕ} {buffer : List ℕ} → length buffer ≡ 261 → Exchanged s q n buffer s' → length (take n buffer) ≡ n
reply_size {n = n} {buffer = buffer} l h = length-take-le n buffer (omega (arith, h.within))

pub fetch_unanswered : (s : State) (answered bit : Bool) (buffer : List ℕ) → answered ≡ false → buffer ≡ filled [] → Fetches s answered bit (Err Unanswered) buffer s bit
fetch_unanswered s answered bit buffer e f =
    subst (λ b. Fetches s answered bit (Err Unanswered) b s bit) (sym f)
    (subst (λ a. Fetches s a bit (Err Unanswered) (filled []) s bit) (sym e) (Fetches.unanswered refl))

module _ (s s' : State) (answered bit : Bool) (n : ℕ) (buffer : List ℕ) (yes : answered ≡ true) (h : Exchanged s (fetch bit) n buffer s') (l : length buffer ≡ 261) where
  pub fetch_accepted : is_reply (take n buffer) ≡ true → Fetches s answered bit (Ok n) buffer s' (not bit)
  fetch_accepted good =
      let made : Fetches s true bit (Ok (length (take n buffer))) (filled (take n buffer)) s' (not bit) = Fetches.accepted (take n buffer) h.exchange good in
      let sized = subst (λ k. Fetches s true bit (Ok k) (filled (take n buffer)) s' (not bit)) (reply_size l h) made in
      let placed = subst (λ x. Fetches s true bit (Ok n) x s' (not bit)) (sym h.then_zeros) sized in
      subst (λ a. Fetches s a bit (Ok n) buffer s' (not bit)) (sym yes) placed

  -- a refusal, which leaves the buffer all 00
  module _ (after : List ℕ) (f : after ≡ filled []) where
    pub fetch_silent : n ≡ 0 → Fetches s answered bit (Err Silent) after s' bit
    fetch_silent z =
        let sent = subst (λ k. Exchange s (fetch bit) (take k buffer) s') z h.exchange in
        subst (λ b. Fetches s answered bit (Err Silent) b s' bit) (sym f)
        (subst (λ a. Fetches s a bit (Err Silent) (filled []) s' bit) (sym yes) (Fetches.silent refl sent))

    pub fetch_garbled : (n ≡ 0 → ⊥) → is_reply (take n buffer) ≡ false → Fetches s answered bit (Err Garbled) after s' bit
    fetch_garbled some bad =
        let long = reply_size l h in
        subst (λ b. Fetches s answered bit (Err Garbled) b s' bit) (sym f)
        (subst (λ a. Fetches s a bit (Err Garbled) (filled []) s' bit) (sym yes)
        (Fetches.garbled refl (take n buffer) h.exchange (omega (arith, some, long)) bad))
