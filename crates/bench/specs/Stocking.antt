-- Proof that rows that fit are meters: each telegram is a reply telegram that carries the row's address.
use Rattle.std.specs.Prelude.{◌≡◌, ℕ, Bool, true, List, [], ◌∷◌, length, vec_items, vec_len, nat_le}
use Rattle.std.proofs.Common.{arith}
use Rattle.std.specs.List.{AllByRecursion}
use Rattle.std.proofs.ByRecursion.{All-map, All-weaker}
use Rattle.std.proofs.lemmas.List.{length-map}
use Rattle.std.proofs.lemmas.Bool.{and_parts, leb-true}
use Rattle.telegram.specs.Addresses.{address_bytes}
use Rattle.telegram.proofs.Writing.{written_is_reply}
use Rattle.line.specs.Meters.{Carries, Stocked}
use Rattle.bus.proofs.Sharing.{written_carries}
use Rattle.bench.specs.declared.row.Body.{Body}
use Rattle.bench.specs.declared.row.Row.{Row}
use Rattle.bench.specs.Meters.{body_bytes, meter_of, meters_of, reply_of, telegram_of, telegram_with}
use Rattle.bench.specs.Rows.{body_fits, each, row_fits}

pub all_pass : {X : Type 0} (p : X → Bool) (xs : List X) → each p xs ≡ true → AllByRecursion (λ x. p x ≡ true) xs
all_pass p [] e = tt
all_pass p (x ∷ xs) e = let h = and_parts (p x) (each p xs) e in (h.0, all_pass p xs h.1)

carries : (area : List ℕ) (r : Row) (b : Body) → Carries (address_bytes r.address) (telegram_of area r b)
unfolding telegram_with
carries area r b = (written_is_reply (reply_of r) (body_bytes area b), written_carries (reply_of r) (body_bytes area b))

row_stocked : (area : List ℕ) (r : Row) → row_fits (length area) r ≡ true → Stocked (meter_of area r)
row_stocked area r e =
    let bodies : List Body = vec_items r.bodies in
    let p = and_parts (nat_le 1 (vec_len r.bodies)) _ e in
    let q = and_parts (nat_le (vec_len r.bodies) 16) (each (body_fits (length area)) bodies) p.1 in
    let size = length-map bodies (telegram_of area r) in
    record {
      some_telegrams = omega (arith, size, r.bodies.ok.0, leb-true _ _ p.0);
      few_telegrams = omega (arith, size, r.bodies.ok.0, leb-true _ _ q.0);
      carry = All-map (Carries (address_bytes r.address)) (telegram_of area r) bodies (All-weaker (λ b. body_fits (length area) b ≡ true) (λ b. Carries (address_bytes r.address) (telegram_of area r b)) (λ b _. carries area r b) bodies (all_pass (body_fits (length area)) bodies q.1));
    }

pub rows_stocked : (rows : List Row) (area : List ℕ) → each (row_fits (length area)) rows ≡ true → AllByRecursion Stocked (meters_of rows area)
rows_stocked rows area e =
    All-map Stocked (meter_of area) rows (All-weaker (λ r. row_fits (length area) r ≡ true) (λ r. Stocked (meter_of area r)) (row_stocked area) rows (all_pass (row_fits (length area)) rows e))
