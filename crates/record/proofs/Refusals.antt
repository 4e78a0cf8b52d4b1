-- The refusal of a record, from those of its parts, and the record where there is none.
use Rattle.std.proofs.Common.{◌≡◌, ℕ, cond, List, ◌++◌, get_or, is_some, is_err, IfOk, Some, None, Err, Option, Result, sym, refl, ap, ◌∙◌, ap₂, arith}
use Rattle.std.proofs.lemmas.Result.{IfOk-from_err}
use Rattle.link.specs.declared.fault.Report.{Report}
use Rattle.link.specs.Checks.{FailsFirst, first_fault}
use Rattle.link.proofs.Ordering.{fails_first_at, first_joined, or_else}
use Rattle.quantity.specs.declared.meaning.Meaning.{Meaning}
use Rattle.record.specs.declared.coding.Coding.{Coding}
use Rattle.quantity.specs.Table.{vif_meaning}
use Rattle.record.specs.declared.fault.RecordFault.{RecordFault}
use Rattle.record.specs.declared.reading.Reading.{Reading}
use Rattle.record.specs.declared.reading.Value.{Value}
use Rattle.record.specs.Chains.{chain_end}
use Rattle.record.specs.Faults.{record_fault, record_report}
use Rattle.record.specs.Records.{coding_at, data_checks, data_place, decoded, dib_checks, meaning_at, reading_by, reading_of, record_checks, record_of, record_refusal, vib_checks, vif_place}
use Rattle.record.specs.Values.{value_checks, value_end, value_of}

-- a fault that is handed on as it is
pub handed_on : {T : Type 0} (r : Result T RecordFault) (f e : RecordFault) (o : Option Report) (P Q : T → Type 0) → r ≡ Err f → f ≡ e → Some (record_report e) ≡ o → (record_fault r ≡ o) × IfOk r P × IfOk r Q
handed_on r f e o P Q k l h =
    (ap record_fault k ∙ ap (λ x. Some (record_report x)) l ∙ h, IfOk-from_err r P (ap is_err k), IfOk-from_err r Q (ap is_err k))

-- a record at p, with its VIF at v and its data at d
module _ (bs : List ℕ) (p v d : ℕ) (at_vif : v ≡ chain_end bs p) (at_data : d ≡ chain_end bs v) where
  rest : Option Report
  rest = or_else (first_fault (vib_checks bs v)) (first_fault (data_checks bs d (coding_at bs p)))

  parts_of : record_refusal bs p ≡ or_else (first_fault (dib_checks bs p)) rest
  unfolding record_refusal rest
  parts_of =
      let first = dib_checks bs p in
      ap₂ (λ x y. first_fault (first ++ (vib_checks bs x ++ data_checks bs y (coding_at bs p)))) (sym at_vif) (ap (chain_end bs) (sym at_vif) ∙ sym at_data)
      ∙ first_joined first (vib_checks bs v ++ data_checks bs d (coding_at bs p))
      ∙ ap (or_else (first_fault first)) (first_joined (vib_checks bs v) (data_checks bs d (coding_at bs p)))

  -- what the first block tells
  pub refused_first : (r : Report) → Some r ≡ first_fault (dib_checks bs p) → Some r ≡ record_refusal bs p
  refused_first r h = sym (parts_of ∙ ap (λ o. or_else o rest) (sym h))

  module _ (h : None ≡ first_fault (dib_checks bs p)) where
    rest_of : record_refusal bs p ≡ rest
    rest_of = parts_of ∙ ap (λ o. or_else o rest) (sym h)

    -- what the second block tells
    pub refused_second : (r : Report) → Some r ≡ first_fault (vib_checks bs v) → Some r ≡ record_refusal bs p
    unfolding rest
    refused_second r k = sym (rest_of ∙ ap (λ o. or_else o (first_fault (data_checks bs d (coding_at bs p)))) (sym k))

    -- what the data tell
    pub refused_last : None ≡ first_fault (vib_checks bs v) → (c : Coding) → coding_at bs p ≡ Some c → (o : Option Report) → o ≡ first_fault (value_checks bs d c) → o ≡ record_refusal bs p
    unfolding rest
    refused_last k c e o l =
        l ∙ sym (rest_of ∙ ap (λ q. or_else q (first_fault (data_checks bs d (coding_at bs p)))) (sym k) ∙ ap (λ q. first_fault (data_checks bs d q)) e)

  pub record_is : None ≡ record_refusal bs p → (c : Coding) (m : Meaning) → coding_at bs p ≡ Some c → vif_meaning (get_or bs v 0) ≡ Some m → (x : Reading) (z : Value) → x ≡ reading_by bs p v d m z → z ≡ value_of bs d c → (n : ℕ) → n ≡ value_end bs d c → record_of bs p ≡ Some (record { reading = x; next = n })
  unfolding record_of
  record_is n c m e f x z g w k l =
      let data_is : data_place bs p ≡ d = ap (chain_end bs) (sym at_vif) ∙ sym at_data in
      let f' : meaning_at bs p ≡ Some m = ap (λ w. vif_meaning (get_or bs w 0)) (sym at_vif) ∙ f in
      let value_is : reading_of bs p m c ≡ x = ap₂ (λ w y. reading_by bs p w y m (value_of bs y c)) (sym at_vif) data_is ∙ sym (g ∙ ap (reading_by bs p v d m) w) in
      let next_is : value_end bs (data_place bs p) c ≡ k = ap (λ y. value_end bs y c) data_is ∙ sym l in
      ap (λ o. cond (is_some o) None (decoded bs p (coding_at bs p) (meaning_at bs p))) (sym n)
      ∙ ap₂ (decoded bs p) e f'
      ∙ ap₂ (λ y z. Some (record { reading = y; next = z })) value_is next_is

both_passed : (a b : Option Report) → None ≡ or_else a b → (None ≡ a) × (None ≡ b)
both_passed None b h = (refl, h)
both_passed (Some r) b h = let z : ◌≡◌ {A = ℕ} 0 1 = cc in absurd (omega arith)

-- where nothing is refused, each part passes
pub passed_parts : (bs : List ℕ) (p : ℕ) → None ≡ record_refusal bs p → (None ≡ first_fault (dib_checks bs p)) × (None ≡ first_fault (vib_checks bs (vif_place bs p))) × (None ≡ first_fault (data_checks bs (data_place bs p) (coding_at bs p)))
unfolding rest
passed_parts bs p n =
    let h = both_passed (first_fault (dib_checks bs p)) _ (n ∙ parts_of bs p (vif_place bs p) (data_place bs p) refl refl) in
    let k = both_passed (first_fault (vib_checks bs (vif_place bs p))) _ h.1 in
    (h.0, k.0, k.1)

-- the order of the checks
pub refusal_order : (bs : List ℕ) (p : ℕ) (o : Option Report) → o ≡ record_refusal bs p → FailsFirst (record_checks bs p) o
unfolding record_refusal
refusal_order bs p o h = fails_first_at (record_checks bs p) o h
