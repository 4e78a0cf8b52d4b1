-- The address that a reply telegram carries has eight bytes and a number of eight decimal digits.
use Rattle.std.proofs.Common.{◌≡◌, ℕ, ◌+◌, ◌<◌, ◌≤◌, true, not, List, [], ◌∷◌, ◌++◌, length, get_or, drop, is_some, Some, None, Option, refl, ◌∙◌, subst, arith, length-drop, length-take, get_or-take}
use Rattle.std.specs.List.{AllByRecursion}
use Rattle.std.proofs.ByRecursion.{All-get_or}
use Rattle.std.proofs.lemmas.Bool.{leb-true, eqb-true, and_from}
use Rattle.link.specs.declared.fault.Report.{Report}
use Rattle.link.specs.Checks.{Check, condition, first_fault, FailsFirst}
use Rattle.link.specs.Frames.{checks_from, frame_checks, long_checks}
use Rattle.link.proofs.Ordering.{fails_first}
use Rattle.telegram.specs.Digits.{decimal, decimal_number}
use Rattle.telegram.specs.Replies.{is_reply, reply_checks, reply_refusal, telegram_checks}
use Rattle.line.specs.Meters.{Meter, Carries, Stocked, address_in}
use Rattle.search.specs.Addresses.{number}
use Rattle.search.specs.Numbers.{Number}
use Rattle.search.proofs.Addressing.{number_digits}

abbrev Holds : List Check → Type 0
Holds cs = AllByRecursion (λ c. condition c ≡ true) cs

none_by : (o : Option Report) → not (is_some o) ≡ true → o ≡ None
none_by None h = refl
none_by (Some r) h = absurd (let z : ◌≡◌ {A = ℕ} 0 1 = cc in omega arith)

reply_holds : (bs : List ℕ) → is_reply bs ≡ true → Holds (reply_checks bs)
unfolding is_reply reply_refusal
reply_holds bs h =
    let o : first_fault (reply_checks bs) ≡ None = none_by (first_fault (reply_checks bs)) h in
    subst (FailsFirst (reply_checks bs)) o (fails_first (reply_checks bs))

all_front : (cs ds : List Check) → Holds (cs ++ ds) → Holds cs × Holds ds
all_front [] ds h = (tt, h)
all_front (c ∷ cs) ds h = let r = all_front cs ds h.1 in ((h.0, r.0), r.1)

-- a reply telegram has 21 bytes at least, and its number is decimal
pub reply_parts_hold : (bs : List ℕ) → is_reply bs ≡ true → (21 ≤ length bs) × (decimal_number (drop 7 bs) ≡ true)
reply_parts_hold bs h =
    let r = all_front (frame_checks bs) (telegram_checks bs) (reply_holds bs h) in
    let t = r.1 in
    let start : get_or bs 0 0 ≡ 0x68 = eqb-true (get_or bs 0 0) 0x68 t.0 in
    let l : 15 ≤ get_or bs 1 0 = leb-true 15 (get_or bs 1 0) t.1.1.1.0 in
    let ds = t.1.1.1.1 in
    let long : Holds (long_checks bs) = subst (λ b. Holds (checks_from b bs)) start r.0.1 in
    let size : get_or bs 1 0 + 6 ≤ length bs = leb-true (get_or bs 1 0 + 6) (length bs) long.1.1.1.1.0 in
    (omega arith, and_from (decimal (get_or (drop 7 bs) 0 0)) _ ds.0 (and_from (decimal (get_or (drop 7 bs) 1 0)) _ ds.1.0 (and_from (decimal (get_or (drop 7 bs) 2 0)) _ ds.1.1.0 ds.1.1.1.0)))

pub carried : (bs : List ℕ) → is_reply bs ≡ true → (length (address_in bs) ≡ 8) × Number 8 (number (address_in bs))
carried bs h =
    let p = reply_parts_hold bs h in
    let long : length (address_in bs) ≡ 8 = simp (length-take, length-drop) (omega (arith, p.0)) in
    let at : (i : ℕ) → i < 8 → get_or (address_in bs) i 0 ≡ get_or (drop 7 bs) i 0 = λ i l. get_or-take 8 (drop 7 bs) i 0 l in
    let same : decimal_number (address_in bs) ≡ decimal_number (drop 7 bs) = simp (at 0 (omega arith), at 1 (omega arith), at 2 (omega arith), at 3 (omega arith)) in
    (long, number_digits (address_in bs) (same ∙ p.1))

pub stocked_address : (m : Meter) → Stocked m → (length m.address ≡ 8) × Number 8 (number m.address)
stocked_address m h =
    let first = All-get_or (Carries m.address) m.telegrams 0 [] (omega (arith, h.some_telegrams)) h.carry in
    subst (λ a. (length a ≡ 8) × Number 8 (number a)) first.1 (carried (get_or m.telegrams 0 []) first.0)
