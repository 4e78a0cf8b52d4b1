-- What it means that every check before making holds, and what a new bench means.
use Rattle.std.proofs.Common.{◌≡◌, ℕ, ◌+◌, ◌≤◌, Bool, true, false, cond, leb, List, [], ◌∷◌, length, is_ok, Some, None, Ok, Err, vec_items, vec_len, Decides, Option, Result, sym, refl, ap, ◌∙◌, subst, arith}
use Rattle.std.specs.List.{AllByRecursion}
use Rattle.std.proofs.ByRecursion.{All-weaker}
use Rattle.std.proofs.lemmas.Bool.{and_from, and_parts, cond-true, false≢true, le-leb, leb-true}
use Rattle.link.specs.declared.fault.Report.{Report}
use Rattle.link.specs.Checks.{first_fault}
use Rattle.link.proofs.Ordering.{or_else}
use Rattle.line.specs.Exchanges.{Sound, State}
use Rattle.bus.proofs.Sharing.{neither}
use Rattle.bus.specs.Memories.{at_rest, bus_of}
use Rattle.bus.specs.declared.meter_bus.MeterBus.{MeterBus}
use Rattle.bench.specs.declared.fault.BenchFault.{BenchFault}
use Rattle.bench.specs.declared.row.Body.{Body}
use Rattle.bench.specs.declared.row.Row.{Row}
use Rattle.bench.specs.declared.table.RowTable.{RowTable}
use Rattle.bench.specs.Checks.{bench_refusal, code_checks, numbered, row_checks, size_checks}
use Rattle.bench.specs.Codes.{known, longest, streak}
use Rattle.bench.specs.Faults.{bad, bench_fault, bench_report, oversize}
use Rattle.bench.specs.Meaning.{row_meters}
use Rattle.bench.specs.Meters.{meters_of}
use Rattle.bench.specs.Proper.{Fits, Inside, Proper}
use Rattle.bench.specs.Rows.{body_fits, each, row_fits}
use Rattle.bench.specs.Stocking.{all_pass, rows_stocked}
use Rattle.bench.proofs.Ordering.{refusal_by}

-- a check that holds, and those after it
holds_then : (b : Bool) (o : Option Report) (r : Report) → cond b o (Some r) ≡ None → (b ≡ true) × (o ≡ None)
holds_then true o r e = (refl, e)
holds_then false o r e = absurd cc

module _ {X : Type 0} (p : X → Bool) where
  each_checked : (n : ℕ) (xs : List X) → first_fault (numbered p n xs) ≡ None → each p xs ≡ true
  each_checked n [] e = refl
  each_checked n (x ∷ xs) e =
      let h = holds_then (p x) (first_fault (numbered p (n + 1) xs)) (bad n) e in
      and_from (p x) (each p xs) h.0 (each_checked (n + 1) xs h.1)

  unchecked : (n : ℕ) (xs : List X) → AllByRecursion (λ x. p x ≡ true) xs → first_fault (numbered p n xs) ≡ None
  unchecked n [] h = refl
  unchecked n (x ∷ xs) h = cond-true (p x) _ _ h.0 ∙ unchecked (n + 1) xs h.1

each_passes : {X : Type 0} (p : X → Bool) (xs : List X) → AllByRecursion (λ x. p x ≡ true) xs → each p xs ≡ true
each_passes p [] h = refl
each_passes p (x ∷ xs) h = and_from (p x) (each p xs) h.0 (each_passes p xs h.1)

-- the tests of rows and bodies, and what they say
inside : (size : ℕ) (b : Body) → body_fits size b ≡ true → Inside size b
inside size b e =
    let h = and_parts (leb b.length 240) (leb (b.start + b.length) size) e in
    record { short = leb-true _ _ h.0; ends = leb-true _ _ h.1 }

from_inside : (size : ℕ) (b : Body) → Inside size b → body_fits size b ≡ true
from_inside size b h = and_from _ _ (le-leb b.length 240 h.short) (le-leb (b.start + b.length) size h.ends)

fits : (size : ℕ) (r : Row) → row_fits size r ≡ true → Fits size r
fits size r e =
    let bodies : List Body = vec_items r.bodies in
    let h = and_parts (leb 1 (vec_len r.bodies)) _ e in
    let k = and_parts (leb (vec_len r.bodies) 16) (each (body_fits size) bodies) h.1 in
    record {
      some_bodies = omega (arith, r.bodies.ok.0, leb-true _ _ h.0);
      few_bodies = omega (arith, r.bodies.ok.0, leb-true _ _ k.0);
      inside = All-weaker (λ b. body_fits size b ≡ true) (Inside size) (inside size) bodies (all_pass (body_fits size) bodies k.1);
    }

from_fits : (size : ℕ) (r : Row) → Fits size r → row_fits size r ≡ true
from_fits size r h =
    let bodies : List Body = vec_items r.bodies in
    let low : 1 ≤ length bodies = h.some_bodies in
    let high : length bodies ≤ 16 = h.few_bodies in
    and_from _ _ (le-leb 1 (vec_len r.bodies) (omega (arith, r.bodies.ok.0)))
    (and_from _ _ (le-leb (vec_len r.bodies) 16 (omega (arith, r.bodies.ok.0)))
    (each_passes (body_fits size) bodies (All-weaker (Inside size) (λ b. body_fits size b ≡ true) (from_inside size) bodies h.inside)))

-- what no refusal says
pub record Accepted (rows : List Row) (area codes : List ℕ) : Type 0 where
  pub few_codes : length codes ≤ 4096
  pub all_known : each known codes ≡ true
  pub fitting : each (row_fits (length area)) rows ≡ true
  pub proper : Proper rows area codes

module _ (rows : List Row) (area codes : List ℕ) where
  pub accepted : None ≡ bench_refusal rows area codes → Accepted rows area codes
  accepted e =
      let s : Option Report = first_fault (size_checks (length rows) (length area) (length codes)) in
      let t : Option Report = first_fault (row_checks (length area) 0 rows) in
      let u : Option Report = first_fault (code_checks 0 codes) in
      let h = neither s (or_else t u) (refusal_by rows area codes s t u refl refl refl ∙ sym e) in
      let k = neither t u h.1 in
      let a = holds_then (leb (length rows) 250) _ oversize h.0 in
      let b = holds_then (leb (length area) 65535) _ oversize a.1 in
      let c = holds_then (leb (length codes) 4096) _ oversize b.1 in
      let rows_pass = each_checked (row_fits (length area)) 0 rows k.0 in
      let codes_pass = each_checked known 0 codes k.1 in
      record {
        few_codes = leb-true _ _ c.0;
        all_known = codes_pass;
        fitting = rows_pass;
        proper =
            record {
              few_rows = leb-true _ _ a.0;
              small_area = leb-true _ _ b.0;
              few_codes = leb-true _ _ c.0;
              rows_fit = All-weaker (λ r. row_fits (length area) r ≡ true) (Fits (length area)) (fits (length area)) rows (all_pass (row_fits (length area)) rows rows_pass);
              codes_known = All-weaker (λ code. known code ≡ true) (λ code. code ≤ 3) (λ code h. leb-true code 3 h) codes (all_pass known codes codes_pass);
            };
      }

  proper_passes : Proper rows area codes → None ≡ bench_refusal rows area codes
  proper_passes p =
      refusal_by rows area codes None None None
      (sym (cond-true _ _ _ (le-leb (length rows) 250 p.few_rows) ∙ cond-true _ _ _ (le-leb (length area) 65535 p.small_area) ∙ cond-true _ _ _ (le-leb (length codes) 4096 p.few_codes)))
      (sym (unchecked (row_fits (length area)) 0 rows (All-weaker (Fits (length area)) (λ r. row_fits (length area) r ≡ true) (from_fits (length area)) rows p.rows_fit)))
      (sym (unchecked known 0 codes (All-weaker (λ code. code ≤ 3) (λ code. known code ≡ true) (λ code h. le-leb code 3 h) codes p.codes_known)))

  -- made exactly from what is proper
  pub decided : {T : Type 0} (r : Result T BenchFault) → bench_fault r ≡ bench_refusal rows area codes → Decides (is_ok r) (Proper rows area codes)
  decided (Ok x) e = (λ _. (accepted e).proper, λ _. refl)
  decided (Err f) e =
      (λ h. absurd (false≢true h), λ p. let s : Some (bench_report f) ≡ None = e ∙ sym (proper_passes p) in absurd cc)

  -- a new bench
  module _ (m : MeterBus RowTable) (h : bus_of row_meters m ≡ at_rest (meters_of rows area)) where
    pub new_means : ◌≡◌ {A = State} (record { bus = bus_of row_meters m; run = longest codes; streak = streak codes 0 }) (record { bus = at_rest (meters_of rows area); run = longest codes; streak = 0 })
    unfolding streak
    new_means = ap (λ b. record { bus = b; run = longest codes; streak = 0 }) h

    pub new_sound : None ≡ bench_refusal rows area codes → Sound (record { bus = bus_of row_meters m; run = longest codes; streak = streak codes 0 })
    new_sound e =
        subst Sound (sym new_means) (record { stocked = rows_stocked rows area (accepted e).fitting; turned = refl; limited = omega arith })
