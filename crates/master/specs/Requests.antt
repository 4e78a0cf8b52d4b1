-- The bytes of what a master sends.
use Rattle.std.specs.Prelude.{ℕ, Bool, List}
use Rattle.telegram.specs.declared.pattern.Pattern.{Pattern}
use Rattle.telegram.specs.declared.request.Request.TheVariants.{Selection, Fetch, Release}
use Rattle.telegram.specs.Requests.{request_bytes}

-- eight bytes as a pattern; an address as a pattern fits itself alone
abbrev pub pattern_of : List ℕ → Pattern
pattern_of bytes = record { bytes = bytes }

abbrev pub selection : List ℕ → List ℕ
selection pattern = request_bytes (Selection (pattern_of pattern))

abbrev pub fetch : Bool → List ℕ
fetch bit = request_bytes (Fetch bit)

abbrev pub release : List ℕ
release = request_bytes Release
