use Rattle.std.proofs.Common.{◌≡◌, ◌&&◌, length, ap, ◌∙◌, ap₂, rules}
use Rattle.telegram.specs.Patterns.{fits}
use Rattle.telegram.proofs.Fitting.{fits_bytes}
use Rattle.telegram.proofs.pattern.Pattern.fits.Goals as goal

pub returns : goal.returns
returns c =
    let p = c.args.self.now.bytes in
    let a = c.bytes-a.result in
    let k : length p ≡ 8 = search rules in
    let l : length a ≡ 8 = search rules in
    ap₂ ◌&&◌
    (ap₂ ◌&&◌ (ap₂ ◌&&◌ (ap₂ ◌&&◌ c.fits_digits.ensures c.fits_digits-2.ensures) c.fits_digits-3.ensures) c.fits_digits-4.ensures)
    (ap₂ ◌&&◌ (ap₂ ◌&&◌ (ap₂ ◌&&◌ c.fits_byte.ensures c.fits_byte-2.ensures) c.fits_byte-3.ensures) c.fits_byte-4.ensures)
    ∙ fits_bytes p a k l
    ∙ ap (fits p) c.bytes-a.ensures
