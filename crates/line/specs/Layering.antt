-- Proofs that the traits' members hold of a line, of a layer over one, and of a pile of layers.
use Rattle.std.specs.Prelude.{◌≡◌, ℕ, ◌+◌, ◌*◌, ◌/◌, ◌<◌, ◌≤◌, [], ◌∷◌}
use Rattle.std.proofs.Common.{sym, ap, ap₂, ◌∙◌, le-div_iff_mul-le, div-mul-le_self, le_trans, mul-pos, div-one, arith}
use Rattle.std.proofs.Math.Nat.{div-div-eq-div-mul, div-eq_of_lt}
use Rattle.line.specs.Exchanges.{State, Sound}
use Rattle.line.specs.Layers.{divided}
use Rattle.line.specs.Laws.{LayersMultiply, product}

-- a line that is no layer
pub one_try : ◌<◌ 0 1
one_try = omega arith

pub layered_none : (s : State) → s ≡ divided 1 s
layered_none s =
    ap₂ (λ r k. record { bus = s.bus; run = r; streak = k }) (sym (div-one s.run)) (sym (div-one s.streak))

-- one layer over another
pub divided_twice : (a b : ℕ) (s : State) → divided b (divided a s) ≡ divided (a * b) s
divided_twice a b s =
    ap₂ (λ r k. record { bus = s.bus; run = r; streak = k }) (div-div-eq-div-mul s.run a b) (div-div-eq-div-mul s.streak a b)

-- one layer more over a pile
pub layered_more : (k t : ℕ) (s b : State) → s ≡ divided t b → divided k s ≡ divided (t * k) b
layered_more k t s b e = ap (divided k) e ∙ divided_twice t k b

pub layers_multiply : LayersMultiply
layers_multiply [] s = layered_none s
layers_multiply (k ∷ ks) s = layers_multiply ks (divided k s) ∙ divided_twice k (product ks) s

pub more_tries : (t limit : ℕ) → 0 < t → 0 < t * (limit + 1)
more_tries t limit h = let pos : 0 < limit + 1 = omega arith in mul-pos h pos

pub div_mono : (k a b : ℕ) → 0 < k → a ≤ b → a / k ≤ b / k
div_mono k a b pos h = (le-div_iff_mul-le pos).1 (le_trans (div-mul-le_self a k) h)

pub divided_sound : (limit : ℕ) (s : State) → Sound s → Sound (divided (limit + 1) s)
divided_sound limit s h =
    record { stocked = h.stocked; turned = h.turned; limited = div_mono (limit + 1) s.streak s.run (omega arith) h.limited }

-- where the run below all layers is less than their tries, no fault shows above them
pub run_gone : (t : ℕ) (s b : State) → s ≡ divided t b → b.run < t → s.run ≡ 0
run_gone t s b e h = ap (λ x. x.run) e ∙ div-eq_of_lt h
