-- What a row may be.
use Rattle.std.specs.Prelude.{ℕ, ◌+◌, Bool, ◌&&◌, List, vec_items, vec_len, nat_le}
use Rattle.std.specs.List.{list_all}
use Rattle.bench.specs.declared.row.Body.{Body}
use Rattle.bench.specs.declared.row.Row.{Row}

-- each element passes
abbrev pub each : {X : Type 0} → (X → Bool) → List X → Bool
each p xs = list_all p xs

-- a body has at most 240 bytes, and lies inside an area of this size
abbrev pub body_fits : ℕ → Body → Bool
body_fits size b = nat_le b.length 240 && nat_le (b.start + b.length) size

-- a row has 1 to 16 bodies, and each fits
abbrev pub row_fits : ℕ → Row → Bool
row_fits size r =
    nat_le 1 (vec_len r.bodies) && (nat_le (vec_len r.bodies) 16 && each (body_fits size) (vec_items r.bodies))
