-- What is kept after a request is what the meters keep.
use Rattle.std.proofs.Common.{◌≡◌, ℕ, ◌+◌, ◌%◌, Bool, true, false, cond, not, List, [], ◌∷◌, Some, None, Option, sym, refl, ap, ◌∙◌, arith}
use mathlib.Core.Bool.{beq}
use native.Mathlib.Nat.{zero-mod}
use Rattle.telegram.specs.declared.pattern.Pattern.{Pattern}
use Rattle.telegram.specs.declared.request.Request.{Request}
use Rattle.telegram.specs.declared.request.Request.TheVariants.{Selection, Fetch, Release}
use Rattle.line.specs.Meters.{Meter}
use Rattle.line.specs.Buses.{Bus, fetched, hear, holds, selected}
use Rattle.bus.specs.declared.memory.Kept.{Kept}
use Rattle.bus.specs.declared.memory.Memory.{Memory}
use Rattle.bus.specs.Memories.{OnlyHas, remembering}

abbrev memory : Option Pattern → Option Kept → Memory
memory s k = record { selection = s; kept = k }

-- hearing a request makes one memory of another
abbrev pub Keeps : Memory → Request → Option ℕ → Memory → Type 0
Keeps m q only m' =
    (ms : List Meter) → OnlyHas (selected (remembering ms m)) only → remembering ms m' ≡ hear (Some q) (remembering ms m)

-- a fetch where one meter with n telegrams is selected, and where not exactly one is
fetched_one : (ms : List Meter) (bit : Bool) (b : Bus) (n : ℕ) → OnlyHas ms (Some n) → fetched ms bit b ≡ cond (holds b.kept bit) b (record { meters = b.meters; selection = b.selection; kept = Some bit; turn = b.turn % n + 1 })
fetched_one [] bit b n e = absurd e
fetched_one (m ∷ []) bit b n e =
    ap (λ k. cond (holds b.kept bit) b (record { meters = b.meters; selection = b.selection; kept = Some bit; turn = b.turn % k + 1 })) (sym e)
fetched_one (m ∷ m' ∷ ms) bit b n e = absurd e

fetched_none : (ms : List Meter) (bit : Bool) (b : Bus) → OnlyHas ms None → fetched ms bit b ≡ b
fetched_none [] bit b e = refl
fetched_none (m ∷ []) bit b e = absurd e
fetched_none (m ∷ m' ∷ ms) bit b e = refl

differs : (a b : Bool) → not (beq a b) ≡ true → holds (Some a) b ≡ false
differs true true e = sym e
differs true false e = refl
differs false true e = refl
differs false false e = sym e

agrees : (a b : Bool) → not (beq a b) ≡ false → holds (Some a) b ≡ true
agrees true true e = refl
agrees true false e = sym e
agrees false true e = sym e
agrees false false e = refl

module _ (s : Option Pattern) where
  pub keeps_selection : (k : Option Kept) (only : Option ℕ) (p : Pattern) → Keeps (memory s k) (Selection p) only (memory (Some p) None)
  unfolding hear
  keeps_selection k only p ms o = refl

  pub keeps_release : (k : Option Kept) (only : Option ℕ) → Keeps (memory s k) Release only (memory None None)
  unfolding hear
  keeps_release k only ms o = refl

  pub keeps_next : (k : Kept) (next : Bool) (n : ℕ) → not (beq k.bit next) ≡ true → Keeps (memory s (Some k)) (Fetch next) (Some n) (memory s (Some (record { bit = next; turn = k.turn % n + 1 })))
  unfolding hear
  keeps_next k next n e ms o =
      let b = remembering ms (memory s (Some k)) in
      let b' = remembering ms (memory s (Some (record { bit = next; turn = k.turn % n + 1 }))) in
      sym (fetched_one (selected b) next b n o ∙ ap (λ t. cond t b b') (differs k.bit next e))

  pub keeps_same : (k : Kept) (next : Bool) (n : ℕ) → not (beq k.bit next) ≡ false → Keeps (memory s (Some k)) (Fetch next) (Some n) (memory s (Some k))
  unfolding hear
  keeps_same k next n e ms o =
      let b = remembering ms (memory s (Some k)) in
      let b' = remembering ms (memory s (Some (record { bit = next; turn = k.turn % n + 1 }))) in
      sym (fetched_one (selected b) next b n o ∙ ap (λ t. cond t b b') (agrees k.bit next e))

  pub keeps_first : (next : Bool) (n : ℕ) → Keeps (memory s None) (Fetch next) (Some n) (memory s (Some (record { bit = next; turn = 1 })))
  unfolding hear
  keeps_first next n ms o =
      let b = remembering ms (memory s None) in
      let t : 1 ≡ 0 % n + 1 = omega (arith, zero-mod n) in
      ap (λ x. remembering ms (memory s (Some (record { bit = next; turn = x })))) t ∙ sym (fetched_one (selected b) next b n o)

  pub keeps_alone : (k : Option Kept) (next : Bool) → Keeps (memory s k) (Fetch next) None (memory s k)
  unfolding hear
  keeps_alone k next ms o = let b = remembering ms (memory s k) in sym (fetched_none (selected b) next b o)
