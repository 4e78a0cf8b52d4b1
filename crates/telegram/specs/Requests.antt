-- The requests of a master, as frames and as bytes. All go to the address FD.
use Rattle.std.specs.Prelude.{◌≡◌, ℕ, true, false, cond, ◌&&◌, ◌||◌, ◌⊎◌, List, [], ◌∷◌, length, Some, None, Option, ◌==◌}
use Rattle.link.specs.Frames.{Parts, ack, short, long, frame_of, written}
use Rattle.telegram.specs.declared.pattern.Pattern.{Pattern}
use Rattle.telegram.specs.declared.request.Request.{Request}
use Rattle.telegram.specs.declared.request.Request.TheVariants.{Selection, Fetch, Release}

-- the frame of a request, as a master sends it
abbrev pub request_frame : Request → Parts
request_frame (Selection p) = long 0x53 0xfd 0x52 p.bytes
request_frame (Fetch true) = short 0x7b 0xfd
request_frame (Fetch false) = short 0x5b 0xfd
request_frame Release = short 0x40 0xfd

unfoldable pub request_bytes : Request → List ℕ
request_bytes q = written (request_frame q)

-- the request that a frame is, if it is one: a selection may have the control byte 73 too
abbrev pub request_in : Parts → Option Request
request_in ack = None
request_in (short c a) =
    cond (a == 0xfd)
    (cond (c == 0x7b) (Some (Fetch true)) (cond (c == 0x5b) (Some (Fetch false)) (cond (c == 0x40) (Some Release) None)))
    None
request_in (long c a i d) =
    cond ((c == 0x53 || c == 0x73) && (a == 0xfd && (i == 0x52 && length d == 8))) (Some (Selection (record { bytes = d }))) None

abbrev pub request_among : Option Parts → Option Request
request_among None = None
request_among (Some p) = request_in p

-- the request that some bytes are, if they are one
unfoldable pub request_of : List ℕ → Option Request
request_of bs = request_among (frame_of bs)

-- the same as a relation, byte by byte
pub data Asks (bs : List ℕ) : Request → Type 0 where
  selects : (control : ℕ) (p : Pattern) → (control ≡ 0x53) ⊎ (control ≡ 0x73) → length p.bytes ≡ 8 → written (long control 0xfd 0x52 p.bytes) ≡ bs → Asks bs (Selection p)
  fetches_1 : 0x10 ∷ 0x7b ∷ 0xfd ∷ 0x78 ∷ 0x16 ∷ [] ≡ bs → Asks bs (Fetch true)
  fetches_0 : 0x10 ∷ 0x5b ∷ 0xfd ∷ 0x58 ∷ 0x16 ∷ [] ≡ bs → Asks bs (Fetch false)
  releases : 0x10 ∷ 0x40 ∷ 0xfd ∷ 0x3d ∷ 0x16 ∷ [] ≡ bs → Asks bs Release

-- a request is understood where the bytes ask it, and none only where they ask none
abbrev pub Understands : List ℕ → Option Request → Type 0
Understands bs None = (q : Request) → Asks bs q → ⊥
Understands bs (Some q) = Asks bs q
