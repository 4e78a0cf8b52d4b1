-- The very bytes that arrive from a table of meters.
use Rattle.std.specs.Prelude.{ℕ, List, [], ◌∷◌}
use Rattle.link.specs.Frames.{ack, written}
use Rattle.line.specs.Meters.{Meter}
use Rattle.line.specs.Buses.{Due}
use Rattle.bus.specs.declared.due.DueReply.{DueReply}
use Rattle.bus.specs.declared.due.DueReply.TheVariants.{Silence, Acknowledgement, Telegram, Collision}
use Rattle.bus.specs.Tables.{telegram_at}

-- the due reply, where a telegram is known by its row and its place
abbrev pub due_from : List Meter → DueReply → Due
due_from ms Silence = Due.silence
due_from ms Acknowledgement = Due.acknowledgement
due_from ms (Telegram row place) = Due.telegram (telegram_at ms row place)
due_from ms Collision = Due.collision

-- the byte 00, which is garbled
abbrev pub garble : List ℕ
garble = 0 ∷ []

-- what arrives without a fault
abbrev pub arriving : Due → List ℕ
arriving Due.silence = []
arriving Due.acknowledgement = written ack
arriving (Due.telegram t) = t
arriving Due.collision = garble

-- what arrives where the reply is damaged
abbrev pub damaged : Due → List ℕ
damaged Due.silence = []
damaged Due.acknowledgement = garble
damaged (Due.telegram t) = garble
damaged Due.collision = garble
