-- What reading has to do with writing.
use Rattle.std.specs.Prelude.{◌≡◌, ℕ, List, Some, None, Option, ◌≢◌}
use Rattle.link.specs.Frames.{Parts, written}

-- bytes are read as the one frame whose bytes they are, and refused only where they are the bytes of no frame
pub record ReadAs (bs : List ℕ) (p : Parts) : Type 0 where
  pub writes_back : written p ≡ bs
  pub only : (q : Parts) → written q ≡ bs → q ≡ p

abbrev pub Reads : List ℕ → Option Parts → Type 0
Reads bs None = (p : Parts) → written p ≢ bs
Reads bs (Some p) = ReadAs bs p
