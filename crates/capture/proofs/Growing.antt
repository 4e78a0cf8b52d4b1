-- Recorded meters, with one telegram more.
use Rattle.std.proofs.Common.{◌≡◌, ℕ, ◌<◌, ◌≤◌, true, List, [], ◌∷◌, ◌++◌, length, sym, refl, ap, ◌∙◌, subst, arith}
use Rattle.std.specs.List.{flat_map, AllByRecursion}
use Rattle.std.proofs.lemmas.List.{append_assoc, flat_map_more, length_push}
use Rattle.std.proofs.ByRecursion.{All-push}
use Rattle.telegram.specs.Replies.{is_reply}
use Rattle.line.specs.Meters.{Carries, Meter, Stocked, address_in}
use Rattle.capture.specs.Recordings.{Apart, Recorded, Unlike, end_to_end, telegrams_of}
use Rattle.capture.specs.Rows.{Added, longer}

pub joined_push : {X A : Type 0} (f : X → List A) (xs : List X) (x : X) → flat_map f (xs ++ x ∷ []) ≡ flat_map f xs ++ f x
joined_push f xs x = sym (flat_map_more f [] xs x)

all_front : {X : Type 0} (P : X → Type 0) (xs : List X) (x : X) → AllByRecursion P (xs ++ x ∷ []) → AllByRecursion P xs × P x
all_front P [] x h = (tt, h.0)
all_front P (y ∷ xs) x h = let r = all_front P xs x h.1 in ((h.0, r.0), r.1)

-- the telegrams of all meters have one more at the end
pub added_telegrams : (ms ms' : List Meter) (t a : List ℕ) → Added ms t a ms' → telegrams_of ms' ≡ telegrams_of ms ++ t ∷ []
added_telegrams ms ms' t a (Added.joins front m e _ _ e') =
    ap telegrams_of e' ∙ joined_push (λ x. x.telegrams) front (longer m t)
    ∙ sym (append_assoc (telegrams_of front) m.telegrams (t ∷ []))
    ∙ ap (λ x. x ++ t ∷ []) (sym (ap telegrams_of e ∙ joined_push (λ x. x.telegrams) front m))
added_telegrams ms ms' t a (Added.begins _ _ e') =
    ap telegrams_of e' ∙ joined_push (λ x. x.telegrams) ms (record { address = a; telegrams = t ∷ [] })

-- a new meter of another address than the last
apart_push : (ms : List Meter) (n : Meter) → Apart ms → Unlike ms n.address → Apart (ms ++ n ∷ [])
apart_push [] n h u = (tt, tt)
apart_push (m ∷ []) n h u = (u [] m refl, (tt, tt))
apart_push (m ∷ k ∷ ms) n h u = (h.0, apart_push (k ∷ ms) n h.1 (λ front x e q. u (m ∷ front) x (ap (λ l. m ∷ l) e) q))

-- the last meter may have more telegrams
apart_longer : (front : List Meter) (m : Meter) (t : List ℕ) → Apart (front ++ m ∷ []) → Apart (front ++ longer m t ∷ [])
apart_longer [] m t h = (tt, tt)
apart_longer (x ∷ []) m t h = (h.0, (tt, tt))
apart_longer (x ∷ y ∷ front) m t h = (h.0, apart_longer (y ∷ front) m t h.1)

added_apart : (ms ms' : List Meter) (t a : List ℕ) → Apart ms → Added ms t a ms' → Apart ms'
added_apart ms ms' t a h (Added.joins front m e _ _ e') = subst Apart (sym e') (apart_longer front m t (subst Apart e h))
added_apart ms ms' t a h (Added.begins u _ e') = subst Apart (sym e') (apart_push ms (record { address = a; telegrams = t ∷ [] }) h u)

longer_stocked : (m : Meter) (t : List ℕ) → Stocked m → length m.telegrams < 16 → is_reply t ≡ true → address_in t ≡ m.address → Stocked (longer m t)
longer_stocked m t h few r e =
    record {
      some_telegrams = omega (arith, length_push m.telegrams t);
      few_telegrams = omega (arith, length_push m.telegrams t);
      carry = All-push (Carries m.address) m.telegrams t h.carry (r, e);
    }

added_stocked : (ms ms' : List Meter) (t a : List ℕ) → AllByRecursion Stocked ms → is_reply t ≡ true → address_in t ≡ a → Added ms t a ms' → AllByRecursion Stocked ms'
added_stocked ms ms' t a h r c (Added.joins front m e same few e') =
    let p = all_front Stocked front m (subst (AllByRecursion Stocked) e h) in
    subst (AllByRecursion Stocked) (sym e') (All-push Stocked front (longer m t) p.0 (longer_stocked m t p.1 few r (c ∙ sym same)))
added_stocked ms ms' t a h r c (Added.begins u _ e') =
    let n : Meter = record { address = a; telegrams = t ∷ [] } in
    let s : Stocked n = record { some_telegrams = omega arith; few_telegrams = omega arith; carry = ((r, c), tt) } in
    subst (AllByRecursion Stocked) (sym e') (All-push Stocked ms n h s)

added_few : (ms ms' : List Meter) (t a : List ℕ) → length ms ≤ 250 → Added ms t a ms' → length ms' ≤ 250
added_few ms ms' t a h (Added.joins front m e _ _ e') =
    omega (arith, ap length e, ap length e', length_push front m, length_push front (longer m t))
added_few ms ms' t a h (Added.begins _ few e') =
    omega (arith, ap length e', length_push ms (record { address = a; telegrams = t ∷ [] }))

pub added_recorded : (bytes : List ℕ) (ms ms' : List Meter) (t a : List ℕ) → Recorded bytes ms → is_reply t ≡ true → address_in t ≡ a → Added ms t a ms' → Recorded (bytes ++ t) ms'
added_recorded bytes ms ms' t a h r c added =
    record {
      whole = ap end_to_end (added_telegrams ms ms' t a added) ∙ joined_push (λ x. x) (telegrams_of ms) t ∙ ap (λ x. x ++ t) h.whole;
      apart = added_apart ms ms' t a h.apart added;
      stocked = added_stocked ms ms' t a h.stocked r c added;
      few = added_few ms ms' t a h.few added;
    }
