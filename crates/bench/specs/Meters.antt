-- The meters that the rows of a table are.
use Rattle.std.specs.Prelude.{ℕ, ◌+◌, List, map, vec_items}
use Rattle.std.specs.List.{between}
use Rattle.link.specs.Frames.{written}
use Rattle.telegram.specs.declared.reply.Reply.{Reply}
use Rattle.telegram.specs.Addresses.{address_bytes}
use Rattle.telegram.specs.Replies.{reply_parts}
use Rattle.line.specs.Meters.{Meter}
use Rattle.bench.specs.declared.row.Body.{Body}
use Rattle.bench.specs.declared.row.Row.{Row}

-- the bytes of a body, in the area
abbrev pub body_bytes : List ℕ → Body → List ℕ
body_bytes area b = between b.start (b.start + b.length) area

-- a row's telegrams, apart from their bodies: access number, status and signature are 00
abbrev pub reply_of : Row → Reply
reply_of r = record { primary = r.primary; address = r.address; access = 0; status = 0; signature = 0 }

unfoldable pub telegram_with : Row → List ℕ → List ℕ
telegram_with r body = written (reply_parts (reply_of r) body)

abbrev pub telegram_of : List ℕ → Row → Body → List ℕ
telegram_of area r b = telegram_with r (body_bytes area b)

abbrev pub meter_of : List ℕ → Row → Meter
meter_of area r =
    record { address = address_bytes r.address; telegrams = map (telegram_of area r) (vec_items r.bodies) }

abbrev pub meters_of : List Row → List ℕ → List Meter
meters_of rows area = map (meter_of area) rows
