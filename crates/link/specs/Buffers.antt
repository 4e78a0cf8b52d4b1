-- What a telegram buffer holds.
use Rattle.std.specs.Prelude.{ℕ, ◌-◌, List, ◌++◌, length, replicate}

-- 261 bytes that begin with these, the rest 00
unfoldable pub filled : List ℕ → List ℕ
filled bs = bs ++ replicate (261 - length bs) 0
