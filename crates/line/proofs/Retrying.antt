-- The tries of a layer, as they come, are one exchange of the layer.
use Rattle.std.proofs.Common.{◌≡◌, ℕ, suc, ◌+◌, ◌-◌, ◌<◌, ◌≤◌, Bool, true, false, ◌&&◌, eqb, List, length, take, sym, refl, ap, subst, arith, length-take}
use Rattle.std.proofs.lemmas.Bool.{eq-eqb, ne_eqb, and_right}
use Rattle.link.specs.Buffers.{filled}
use Rattle.telegram.specs.Replies.{answers}
use Rattle.line.specs.Exchanges.{State, Exchange, Exchanged, Sound}
use Rattle.line.specs.Layers.{Tries, divided, last_reply}
use Rattle.line.proofs.Exchanging.{exchange_sound}
use Rattle.line.proofs.Trying.{Tried, Hushed, tried_none, tried_more, tried_all, tried_answered}

and_true : (b t : Bool) → t ≡ true → (b && t) ≡ b
and_true true t h = h
and_true false t h = refl

hushed : (b : Bool) (r : List ℕ) → Hushed b r (b && eqb (length r) 0)
hushed b r =
    record {
      silent = λ e. and_true b (eqb (length r) 0) (eq-eqb (length r) 0 (ap length e));
      noisy = λ h. and_right b (eqb (length r) 0) (ne_eqb (length r) 0 (λ z. omega arith));
    }

tries_exchange : (k : ℕ) (s : State) (q : List ℕ) (i : ℕ) {j : ℕ} {b : Bool} {t : State} {r : List ℕ} {u : State} → 0 < k → i + j ≡ k → Sound t → Tried s q i b t → Tries q j b t r u → Exchange (divided k s) q r (divided k u)
tries_exchange k s q i pos e sound tried (Tries.answered x g) = tried_answered k tried x g
tries_exchange k s q i pos e sound tried (Tries.again {k = j} {silent = b} {reply = r} {t = t'} x bad rest) =
    tries_exchange k s q (i + 1) pos (omega arith) (exchange_sound sound x)
    (tried_more s q r i b (b && eqb (length r) 0) t' (exchange_sound sound x) bad (hushed b r) tried x) rest
tries_exchange k s q i pos e sound tried (Tries.failed {silent = b} {s = t}) =
    let all : i ≡ k = omega arith in
    tried_all k s t q b pos (subst (λ n. Tried s q n b t) all tried)

pub retried_exchange : (k : ℕ) {s : State} {q r : List ℕ} {u : State} → 0 < k → Sound s → Tries q k true s r u → Exchange (divided k s) q r (divided k u)
retried_exchange k {s} {q} pos sound x = tries_exchange k s q 0 pos (omega arith) sound (tried_none s q sound) x

pub retried_buffer : (k : ℕ) {s : State} {q buffer : List ℕ} {n : ℕ} {u : State} → 0 < k → Sound s → n ≤ 261 → buffer ≡ filled (take n buffer) → Tries q k true s (take n buffer) u → Exchanged (divided k s) q n buffer (divided k u)
retried_buffer k pos sound low rest x = record { within = low; exchange = retried_exchange k pos sound x; then_zeros = rest }

-- a try of a loop that has made i of m
module _ {t : State} {q buffer : List ℕ} {n : ℕ} {t' : State} (m i : ℕ) (left : i < m) (b : Bool) (x : Exchanged t q n buffer t') where
  one_left : suc (m - (i + 1)) ≡ m - i
  one_left = omega arith

  pub tries_answered : true ≡ answers (take n buffer) → Tries q (m - i) b t (take n buffer) t'
  tries_answered g = subst (λ k. Tries q k b t (take n buffer) t') one_left (Tries.answered x.exchange (sym g))

  pub tries_again : length buffer ≡ 261 → false ≡ answers (take n buffer) → (r : List ℕ) (u : State) → Tries q (m - (i + 1)) (b && eqb n 0) t' r u → Tries q (m - i) b t r u
  tries_again size bad r u rest =
      let low : n ≤ 261 = x.within in
      let same : n ≡ length (take n buffer) = omega (arith, length-take n buffer) in
      subst (λ k. Tries q k b t r u) one_left (Tries.again x.exchange (sym bad) (subst (λ k. Tries q (m - (i + 1)) (b && eqb k 0) t' r u) same rest))

pub tries_failed : (q : List ℕ) (m i : ℕ) (b : Bool) (t : State) → m ≤ i → Tries q (m - i) b t (last_reply b) t
tries_failed q m i b t h =
    let none : 0 ≡ m - i = omega arith in
    subst (λ k. Tries q k b t (last_reply b) t) none Tries.failed
