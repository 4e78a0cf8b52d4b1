-- The requests of a master are understood.
use Rattle.std.proofs.Common.{◌≡◌, ℕ, Bool, true, false, List, length, Some, refl, inl}
use Rattle.telegram.specs.declared.request.Request.TheVariants.{Selection, Fetch, Release}
use Rattle.telegram.specs.Requests.{request_bytes, request_of, selects}
use Rattle.telegram.proofs.Asking.{asked, request_is}
use Rattle.link.specs.Frames.{short}
use Rattle.master.specs.Requests.{pattern_of, selection, fetch, release}

pub selection_read : (p : List ℕ) → length p ≡ 8 → request_of (selection p) ≡ Some (Selection (pattern_of p))
unfolding request_bytes
selection_read p l = asked (selection p) (Selection (pattern_of p)) (selects 0x53 (pattern_of p) (inl refl) l refl)

pub fetch_read : (bit : Bool) → request_of (fetch bit) ≡ Some (Fetch bit)
unfolding request_bytes
fetch_read true = request_is (fetch true) (short 0x7b 0xfd) refl
fetch_read false = request_is (fetch false) (short 0x5b 0xfd) refl

pub release_read : request_of release ≡ Some Release
unfolding request_bytes
release_read = request_is release (short 0x40 0xfd) refl
