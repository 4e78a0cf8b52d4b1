-- What befalls an exchange, and the state after it.
use Rattle.std.proofs.Common.{◌≡◌, ℕ, ◌+◌, ◌<◌, true, false, cond, eqb, List, [], length, get_or, vec_items, sym, refl, ap, ◌∙◌, subst, ap₂, ⊎_elim, arith}
use Rattle.std.proofs.lemmas.List.{get_or_past}
use Rattle.std.proofs.lemmas.Bool.{cases_lt, cond_both, not_from_false, not_from_true}
use Rattle.line.specs.Exchanges.{Exchange, Exchanged, cleared, faulted}
use Rattle.bus.specs.Memories.{bus_of}
use Rattle.bus.specs.declared.meter_bus.MeterBus.{MeterBus}
use Rattle.bench.specs.declared.fault_codes.Code.{Code}
use Rattle.bench.specs.declared.fault_codes.Code.TheVariants.{Clean, LostOut, LostBack, Damaged}
use Rattle.bench.specs.declared.fault_codes.FaultCodes.{FaultCodes}
use Rattle.bench.specs.declared.table.RowTable.{RowTable}
use Rattle.bench.specs.Codes.{code_at, faulty, longest, position_after, streak}
use Rattle.bench.specs.Meaning.{row_meters, state_of}
use Rattle.bench.proofs.Stretches.{fault_inside, streak_ends, streak_grows, streak_within}

-- a fault adds to the streak, which stays within the run
pub record Grows (run before after : ℕ) : Type 0 where
  pub below : before < run
  pub more : after ≡ before + 1

-- a clean exchange ends the streak
abbrev pub Counted : ℕ → ℕ → ℕ → Code → Type 0
Counted run before after Clean = after ≡ 0
Counted run before after LostOut = Grows run before after
Counted run before after LostBack = Grows run before after
Counted run before after Damaged = Grows run before after

abbrev pub Faulty : Code → Type 0
Faulty Clean = ⊥
Faulty LostOut = Unit {0}
Faulty LostBack = Unit {0}
Faulty Damaged = Unit {0}

module _ (codes : List ℕ) (n : ℕ) where
  grows : faulty (get_or codes n 0) ≡ true → Grows (longest codes) (streak codes n) (streak codes (position_after codes n))
  grows e =
      let inside : n < length codes = fault_inside codes n e in
      let next : n + 1 ≡ position_after codes n = omega arith in
      let more : streak codes (position_after codes n) ≡ streak codes n + 1 = ap (streak codes) (sym next) ∙ streak_grows codes n e in
      record { below = omega (arith, more, streak_within codes (position_after codes n)); more = more }

  -- a code that is no fault, or none at all
  ends : faulty (get_or codes n 0) ≡ false → streak codes (position_after codes n) ≡ 0
  ends e =
      ⊎_elim
      (λ h. let past : length codes + 1 ≡ position_after codes n = omega arith in
      ap (streak codes) (sym past) ∙ streak_ends codes (length codes) (ap faulty (get_or_past codes (length codes) 0 (omega arith))))
      (λ h. let next : n + 1 ≡ position_after codes n = omega arith in ap (streak codes) (sym next) ∙ streak_ends codes n e)
      (cases_lt (length codes) n)

  counted_at : Counted (longest codes) (streak codes n) (streak codes (position_after codes n)) (code_at codes n)
  counted_at =
      let v : ℕ = get_or codes n 0 in
      let P : Code → Type 0 = Counted (longest codes) (streak codes n) (streak codes (position_after codes n)) in
      cond_both (eqb v 0) Clean (cond (eqb v 1) LostOut (cond (eqb v 2) LostBack Damaged)) P
      (λ e. ends (not_from_true (eqb v 0) e))
      (λ e. let g = grows (not_from_false (eqb v 0) e) in
      cond_both (eqb v 1) LostOut (cond (eqb v 2) LostBack Damaged) P (λ _. g) (λ _. cond_both (eqb v 2) LostBack Damaged P (λ _. g) (λ _. g)))

-- faults of which one code was taken
module _ (f f' : FaultCodes) (codes : f'.codes ≡ f.codes) (position : f'.position ≡ position_after (vec_items f.codes) f.position) where
  counted : (code : Code) → code ≡ code_at (vec_items f.codes) f.position → Counted (longest (vec_items f.codes)) (streak (vec_items f.codes) f.position) (streak (vec_items f.codes) f'.position) code
  counted code e =
      let l : List ℕ = vec_items f.codes in
      let P : ℕ → Code → Type 0 = λ p x. Counted (longest l) (streak l f.position) (streak l p) x in
      subst (λ p. P p code) (sym position) (subst (P (position_after l f.position)) (sym e) (counted_at l f.position))

  -- of a fault
  growth : (code : Code) → Faulty code → code ≡ code_at (vec_items f.codes) f.position → Grows (longest (vec_items f.codes)) (streak (vec_items f.codes) f.position) (streak (vec_items f.codes) f'.position)
  growth Clean h e = absurd h
  growth LostOut h e = counted LostOut e
  growth LostBack h e = counted LostBack e
  growth Damaged h e = counted Damaged e

  module _ (m m' : MeterBus RowTable) where
    state_after : (k : ℕ) → streak (vec_items f.codes) f'.position ≡ k → record { bus = bus_of row_meters m'; run = (state_of m f).run; streak = k } ≡ state_of m' f'
    state_after k h =
        let e = ap vec_items (sym codes) in
        ap₂ (λ r s. record { bus = bus_of row_meters m'; run = r; streak = s }) (ap longest e) (sym h ∙ ap (λ l. streak l f'.position) e)

    module _ (request reply : List ℕ) (n : ℕ) where
      pub clean_exchange : Clean ≡ code_at (vec_items f.codes) f.position → Exchanged (state_of m f) request n reply (cleared (state_of m f) (bus_of row_meters m')) → Exchanged (state_of m f) request n reply (state_of m' f')
      clean_exchange e x = subst (Exchanged (state_of m f) request n reply) (state_after 0 (counted Clean e)) x

      pub faulty_exchange : (code : Code) → Faulty code → code ≡ code_at (vec_items f.codes) f.position → ((state_of m f).streak < (state_of m f).run → Exchanged (state_of m f) request n reply (faulted (state_of m f) (bus_of row_meters m'))) → Exchanged (state_of m f) request n reply (state_of m' f')
      faulty_exchange code h e x =
          let g = growth code h e in
          subst (Exchanged (state_of m f) request n reply) (state_after ((state_of m f).streak + 1) g.more) (x g.below)

  -- a request that no meter hears
  pub unheard : (m : MeterBus RowTable) (request : List ℕ) → LostOut ≡ code_at (vec_items f.codes) f.position → Exchange (state_of m f) request [] (state_of m f')
  unheard m request e =
      let g = growth LostOut tt e in
      Exchange.lost_out g.below refl (sym (state_after m m ((state_of m f).streak + 1) g.more))
