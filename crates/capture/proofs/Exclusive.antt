-- Bytes that record meters have no fault.
use Rattle.std.proofs.Common.{◌≡◌, ℕ, ◌+◌, ◌<◌, ◌≤◌, List, [], ◌∷◌, ◌++◌, length, get_or, None, sym, refl, ap, ◌∙◌, subst, ap₂, arith}
use Rattle.std.specs.List.{AllByRecursion}
use Rattle.std.proofs.lemmas.List.{append_assoc, length-append, take_at}
use Rattle.line.specs.Meters.{Meter, Stocked, address_in}
use Rattle.telegram.specs.Replies.{reply_refusal}
use Rattle.capture.specs.Cutting.{first_telegram}
use Rattle.capture.specs.Recordings.{Apart, Blocked, Crowded, Differs, Recorded, Refusal, Unlike, end_to_end, telegrams_of}
use Rattle.capture.specs.declared.fault.Cause.{Cause}
use Rattle.capture.specs.declared.fault.Cause.TheVariants.{Size, Reply}
use Rattle.capture.specs.declared.fault.CaptureFault.{CaptureFault}
use Rattle.capture.proofs.Carrying.{Telegram, reply_length, unrefused}
use Rattle.capture.proofs.Unique.{From, Changes, second, none_left, front_unique, all_telegrams, from_meter, changes_after, same_address, split_unique, no_telegrams}

-- telegrams that begin as others do, before more bytes
record Longer (ts us : List (List ℕ)) (rest : List ℕ) : Type 0 where
  more : List (List ℕ)
  begins_so : us ≡ ts ++ more
  after : end_to_end more ≡ rest

longer_cut : (ts us : List (List ℕ)) (rest : List ℕ) → AllByRecursion Telegram ts → AllByRecursion Telegram us → end_to_end us ≡ end_to_end ts ++ rest → Longer ts us rest
longer_cut [] us rest h k e = record { more = us; begins_so = refl; after = e }
longer_cut (t ∷ ts) [] rest h k e = absurd (none_left t (end_to_end ts ++ rest) h.0 (e ∙ append_assoc t (end_to_end ts) rest))
longer_cut (t ∷ ts) (u ∷ us) rest h k e =
    let p = front_unique u t (end_to_end us) (end_to_end ts ++ rest) k.0 h.0 (e ∙ append_assoc t (end_to_end ts) rest) in
    let l = longer_cut ts us rest h.1 k.1 p.1 in
    record { more = l.more; begins_so = ap₂ (λ x xs. x ∷ xs) p.0 l.begins_so; after = l.after }

-- a telegram in front of other bytes
telegram_first : (t rest : List ℕ) → Telegram t → first_telegram (t ++ rest) ≡ t
telegram_first t rest h =
    let n : length t ≡ 6 + get_or (t ++ rest) 1 0 = omega (arith, (reply_length t h).0, second t rest h) in take_at t rest _ n

-- telegrams of one address end before a change, and later than some of them
reach : (a t : List ℕ) (xs ys r more : List (List ℕ)) → Changes a r → AllByRecursion (From a) ys → address_in t ≡ a → xs ++ r ≡ ys ++ t ∷ more → length ys < length xs
reach a t [] [] r more c h f e = absurd (subst (Changes a) e c f)
reach a t [] (y ∷ ys) r more c h f e = absurd (subst (Changes a) e c h.0)
reach a t (x ∷ xs) [] r more c h f e = omega arith
reach a t (x ∷ xs) (y ∷ ys) r more c h f e =
    let after : xs ++ r ≡ ys ++ t ∷ more = cc in
    let l = reach a t xs ys r more c h.1 f after in omega arith

-- the first meter's telegrams, up to a change of address
module _ (b m : Meter) (ms : List Meter) (rest : List (List ℕ)) (hb : Stocked b) (hm : Stocked m) (hs : AllByRecursion Stocked ms) (d : Differs m ms) (e : m.telegrams ++ telegrams_of ms ≡ b.telegrams ++ rest) where
  same : m.address ≡ b.address
  same =
      same_address m.address b.address m.telegrams b.telegrams (telegrams_of ms) rest hm.some_telegrams hb.some_telegrams (from_meter m hm) (from_meter b hb) e

  from_same : AllByRecursion (From b.address) m.telegrams
  from_same = subst (λ x. AllByRecursion (From x) m.telegrams) same (from_meter m hm)

  changes_same : Changes b.address (telegrams_of ms)
  changes_same = subst (λ x. Changes x (telegrams_of ms)) same (changes_after m ms hs d)

  peel : Changes b.address rest → telegrams_of ms ≡ rest
  peel c = (split_unique b.address m.telegrams b.telegrams (telegrams_of ms) rest from_same (from_meter b hb) changes_same c e).1

  outgrows : (t : List ℕ) (more : List (List ℕ)) → rest ≡ t ∷ more → address_in t ≡ b.address → length b.telegrams < length m.telegrams
  outgrows t more r f =
      reach b.address t m.telegrams b.telegrams (telegrams_of ms) more changes_same (from_meter b hb) f (e ∙ ap (λ x. b.telegrams ++ x) r)

changes_append : (a : List ℕ) (ts more : List (List ℕ)) → 1 ≤ length ts → Changes a ts → Changes a (ts ++ more)
changes_append a [] more n c = absurd (omega arith)
changes_append a (t ∷ ts) more n c = c

some_telegram : (m : Meter) (ms : List Meter) → Stocked m → 1 ≤ length (telegrams_of (m ∷ ms))
some_telegram m ms h = omega (arith, h.some_telegrams, length-append m.telegrams (telegrams_of ms))

some_before : (front : List Meter) (b : Meter) → AllByRecursion Stocked (front ++ b ∷ []) → 1 ≤ length (telegrams_of (front ++ b ∷ []))
some_before [] b h = some_telegram b [] h.0
some_before (c ∷ front) b h = some_telegram c (front ++ b ∷ []) h.0

-- a change of address after the first of several meters, or at the next telegram
changes_next : (b : Meter) (bs : List Meter) (t : List ℕ) (more : List (List ℕ)) → AllByRecursion Stocked bs → Differs b bs → Unlike (b ∷ bs) (address_in t) → Changes b.address (telegrams_of bs ++ t ∷ more)
changes_next b [] t more h d u = λ e. u [] b refl (sym e)
changes_next b (c ∷ bs) t more h d u = changes_append b.address (telegrams_of (c ∷ bs)) (t ∷ more) (some_telegram c bs h.0) (changes_after b (c ∷ bs) h d)

module _ (t : List ℕ) (more : List (List ℕ)) where
  -- the next telegram begins a meter more
  beyond : (bs ms : List Meter) → AllByRecursion Stocked bs → AllByRecursion Stocked ms → Apart bs → Apart ms → Unlike bs (address_in t) → telegrams_of ms ≡ telegrams_of bs ++ t ∷ more → length bs < length ms
  beyond [] [] hb hm ab am u e = let z = ap length e in absurd (omega arith)
  beyond [] (m ∷ ms) hb hm ab am u e = omega arith
  beyond (b ∷ bs) [] hb hm ab am u e =
      absurd (no_telegrams b.telegrams (telegrams_of bs ++ t ∷ more) hb.0.some_telegrams (e ∙ append_assoc b.telegrams (telegrams_of bs) (t ∷ more)))
  beyond (b ∷ bs) (m ∷ ms) hb hm ab am u e =
      let e' : m.telegrams ++ telegrams_of ms ≡ b.telegrams ++ (telegrams_of bs ++ t ∷ more) = e ∙ append_assoc b.telegrams (telegrams_of bs) (t ∷ more) in
      let p = peel b m ms (telegrams_of bs ++ t ∷ more) hb.0 hm.0 hm.1 am.0 e' (changes_next b bs t more hb.1 ab.0 u) in
      let l = beyond bs ms hb.1 hm.1 ab.1 am.1 (λ front x q f. u (b ∷ front) x (ap (λ y. b ∷ y) q) f) p in
      omega arith

  -- the next telegram is a 17th
  overfull : (front : List Meter) (b : Meter) (ms : List Meter) → AllByRecursion Stocked (front ++ b ∷ []) → AllByRecursion Stocked ms → Apart (front ++ b ∷ []) → Apart ms → b.address ≡ address_in t → length b.telegrams ≡ 16 → telegrams_of ms ≡ telegrams_of (front ++ b ∷ []) ++ t ∷ more → ⊥
  overfull [] b [] hb hm ab am a n e = no_telegrams b.telegrams ([] ++ t ∷ more) hb.0.some_telegrams (e ∙ append_assoc b.telegrams [] (t ∷ more))
  overfull [] b (m ∷ ms) hb hm ab am a n e =
      let e' : m.telegrams ++ telegrams_of ms ≡ b.telegrams ++ t ∷ more = e ∙ append_assoc b.telegrams [] (t ∷ more) in
      let l = outgrows b m ms (t ∷ more) hb.0 hm.0 hm.1 am.0 e' t more refl (sym a) in
      omega (arith, hm.0.few_telegrams)
  overfull (c ∷ front) b [] hb hm ab am a n e =
      no_telegrams c.telegrams (telegrams_of (front ++ b ∷ []) ++ t ∷ more) hb.0.some_telegrams (e ∙ append_assoc c.telegrams (telegrams_of (front ++ b ∷ [])) (t ∷ more))
  overfull (c ∷ front) b (m ∷ ms) hb hm ab am a n e =
      let bs = front ++ b ∷ [] in
      let e' : m.telegrams ++ telegrams_of ms ≡ c.telegrams ++ (telegrams_of bs ++ t ∷ more) = e ∙ append_assoc c.telegrams (telegrams_of bs) (t ∷ more) in
      let p = peel c m ms (telegrams_of bs ++ t ∷ more) hb.0 hm.0 hm.1 am.0 e'
      (changes_append c.address (telegrams_of bs) (t ∷ more) (some_before front b hb.1) (changes_after c bs hb.1 ab.0)) in
      overfull front b ms hb.1 hm.1 ab.1 am.1 a n p

  crowded_out : (bs ms : List Meter) → AllByRecursion Stocked bs → AllByRecursion Stocked ms → Apart bs → Apart ms → length ms ≤ 250 → Crowded bs (address_in t) → telegrams_of ms ≡ telegrams_of bs ++ t ∷ more → ⊥
  crowded_out bs ms hb hm ab am few (Crowded.full_meter front b q a n) e =
      overfull front b ms (subst (AllByRecursion Stocked) q hb) hm (subst Apart q ab) am a n (e ∙ ap (λ x. telegrams_of x ++ t ∷ more) q)
  crowded_out bs ms hb hm ab am few (Crowded.full_line u n) e =
      let l = beyond bs ms hb hm ab am u e in omega arith

all_back : {X : Type 0} (P : X → Type 0) (xs ys : List X) → AllByRecursion P (xs ++ ys) → AllByRecursion P ys
all_back P [] ys h = h
all_back P (x ∷ xs) ys h = all_back P xs ys h.1

-- a telegram that could not be taken is in no recording
never : (cause : Cause) (bs ms : List Meter) (rest : List ℕ) (more : List (List ℕ)) → end_to_end more ≡ rest → 1 ≤ length rest → AllByRecursion Telegram more → telegrams_of ms ≡ telegrams_of bs ++ more → AllByRecursion Stocked bs → Apart bs → Recorded (end_to_end (telegrams_of ms)) ms → Blocked bs (first_telegram rest) cause → ⊥
never cause bs ms rest [] a n h e hb ab hm b = omega (arith, ap length a)
never (Reply f) bs ms rest (t ∷ more) a n h e hb ab hm b =
    let first : first_telegram rest ≡ t = ap first_telegram (sym a) ∙ telegram_first t (end_to_end more) h.0 in
    let none : reply_refusal t ≡ None = unrefused t h.0 in
    let told = b.told in
    absurd cc
never Size bs ms rest (t ∷ more) a n h e hb ab hm b =
    let first : first_telegram rest ≡ t = ap first_telegram (sym a) ∙ telegram_first t (end_to_end more) h.0 in
    crowded_out t more bs ms hb hm.stocked ab hm.apart hm.few (subst (λ x. Crowded bs (address_in x)) first b.1) e

pub no_refusal : (bytes : List ℕ) (e : CaptureFault) (ms : List Meter) → Refusal bytes e → Recorded bytes ms → ⊥
no_refusal bytes e ms r h =
    let bs = r.before in
    let all = all_telegrams ms h.stocked in
    let l = longer_cut (telegrams_of bs) (telegrams_of ms) r.rest (all_telegrams bs r.taken.stocked) all (h.whole ∙ r.split) in
    never e.cause bs ms r.rest l.more l.after r.some_left (all_back Telegram (telegrams_of bs) l.more (subst (AllByRecursion Telegram) l.begins_so all)) l.begins_so
    r.taken.stocked r.taken.apart (subst (λ x. Recorded x ms) (sym h.whole) h) r.blocked
