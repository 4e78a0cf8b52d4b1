-- Where the parts of a record stand that nothing refuses.
use Rattle.std.proofs.Common.{◌≡◌, ℕ, ◌+◌, ◌-◌, ◌≤◌, Bool, true, false, cond, ltb, leb, List, length, get_or, is_some, Some, None, Option, sym, refl, ap, ◌∙◌, subst, ap₂, arith}
use Rattle.std.proofs.lemmas.Bool.{leb-true}
use Rattle.link.specs.declared.fault.Report.{Report}
use Rattle.link.specs.Checks.{first_fault}
use Rattle.quantity.specs.declared.meaning.Meaning.{Meaning}
use Rattle.record.specs.declared.coding.Coding.{Coding}
use Rattle.record.specs.declared.coding.Coding.TheVariants.{Fixed, Text}
use Rattle.record.specs.declared.coding.Kind.TheVariants as kind
use Rattle.record.specs.declared.decode.Decoded.{Decoded}
use Rattle.record.specs.Records.{TextLast, Within, coding_at, data_checks, data_place, decoded, dib_checks, meaning_at, reading_of, record_of, record_refusal, vib_checks, vif_place}
use Rattle.record.specs.Values.{value_checks, value_end, value_of}
use Rattle.record.proofs.Refusals.{passed_parts}

-- a check that holds, and those after it
held : (c : Bool) (f : Option Report) (r : Report) → None ≡ cond c f (Some r) → (c ≡ true) × (None ≡ f)
held true f r h = (refl, h)
held false f r h = let z : ◌≡◌ {A = ℕ} 0 1 = cc in absurd (omega arith)

-- the data end in the body, a text at their end
value_within : (bs : List ℕ) (d : ℕ) (c : Coding) → None ≡ first_fault (value_checks bs d c) → (d ≤ value_end bs d c) × (value_end bs d c ≤ length bs) × TextLast d (value_end bs d c) (value_of bs d c)
value_within bs d (Fixed n kind.NoData) h = (omega arith, leb-true (d + n) (length bs) (held (leb (d + n) (length bs)) _ _ h).0, tt)
value_within bs d (Fixed n kind.Integer) h = (omega arith, leb-true (d + n) (length bs) (held (leb (d + n) (length bs)) _ _ h).0, tt)
value_within bs d (Fixed n kind.Real) h = (omega arith, leb-true (d + n) (length bs) (held (leb (d + n) (length bs)) _ _ h).0, tt)
value_within bs d (Fixed n kind.Decimal) h = (omega arith, leb-true (d + n) (length bs) (held (leb (d + n) (length bs)) _ _ h).0, tt)
value_within bs d Text h =
    let k = (held (leb (get_or bs d 0) 0xBF) _ _ (held (ltb d (length bs)) _ _ h).1).1 in
    (omega arith, leb-true (d + 1 + get_or bs d 0) (length bs) (held (leb (d + 1 + get_or bs d 0) (length bs)) _ _ k).0, (refl, refl))

-- where coding and meaning are known
placed : (bs : List ℕ) (p : ℕ) (o : Option Coding) (m : Option Meaning) (x : Decoded) → None ≡ first_fault (dib_checks bs p) → None ≡ first_fault (vib_checks bs (vif_place bs p)) → None ≡ first_fault (data_checks bs (data_place bs p) o) → decoded bs p o m ≡ Some x → Within bs p x.next x.reading
placed bs p None m x f g h e = let z : ◌≡◌ {A = ℕ} 0 1 = cc in absurd (omega arith)
placed bs p (Some c) None x f g h e = let z : ◌≡◌ {A = ℕ} 0 1 = cc in absurd (omega arith)
placed bs p (Some c) (Some m) x f g h e =
    let y : Decoded = record { reading = reading_of bs p m c; next = value_end bs (data_place bs p) c } in
    let k : y ≡ x = cc in
    let d = data_place bs p in
    let w = value_within bs d c h in
    let s : vif_place bs p + 1 + (d - (vif_place bs p + 1)) ≡ d = omega arith in
    let T : ℕ → Type 0 = λ q. TextLast q (value_end bs d c) (value_of bs d c) in
    let i : Within bs p y.next y.reading = record { begins = refl; forward = omega arith; ends = w.1; vifes_from = omega arith; vifes_to = omega arith; text = subst T (sym s) w.2 } in
    let P : Decoded → Type 0 = λ q. Within bs p q.next q.reading in
    subst P k i

pub within : (bs : List ℕ) (p : ℕ) (x : Decoded) → None ≡ record_refusal bs p → record_of bs p ≡ Some x → Within bs p x.next x.reading
unfolding record_of
within bs p x n e =
    let h = passed_parts bs p n in
    let k : decoded bs p (coding_at bs p) (meaning_at bs p) ≡ Some x = ap (λ o. cond (is_some o) None (decoded bs p (coding_at bs p) (meaning_at bs p))) n ∙ e in
    placed bs p (coding_at bs p) (meaning_at bs p) x h.0 h.1 h.2 k

some_known : {A : Type 0} (o : Option A) → is_some o ≡ true → (x : A) × (o ≡ Some x)
some_known None h = let z : ◌≡◌ {A = ℕ} 0 1 = cc in absurd (omega arith)
some_known (Some x) h = (x, refl)

-- where nothing is refused there is a record
pub some_record : (bs : List ℕ) (p : ℕ) → None ≡ record_refusal bs p → (x : Decoded) × (record_of bs p ≡ Some x)
unfolding record_of
some_record bs p n =
    let h = passed_parts bs p n in
    let c = some_known (coding_at bs p) (held (is_some (coding_at bs p)) _ _ (held (ltb p (length bs)) _ _ h.0).1).0 in
    let m = some_known (meaning_at bs p) (held (is_some (meaning_at bs p)) _ _ (held (ltb (vif_place bs p) (length bs)) _ _ h.1).1).0 in
    let x : Decoded = record { reading = reading_of bs p m.0 c.0; next = value_end bs (data_place bs p) c.0 } in
    (x, ap (λ o. cond (is_some o) None (decoded bs p (coding_at bs p) (meaning_at bs p))) (sym n) ∙ ap₂ (decoded bs p) c.1 m.1)
