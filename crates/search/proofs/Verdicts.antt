-- What a probe tells, by the meters that begin with what was probed.
use Rattle.std.proofs.Common.{◌≡◌, ℕ, ◌≤◌, List, [], ◌∷◌, length, arith}
use Rattle.search.specs.Verdicts.{Verdict, nobody, one, several, verdict_on, fitting, Clear, Faulty}

pub verdict_one : {M : Type 0} (fs : List M) (m : M) → one m ≡ verdict_on fs → fs ≡ m ∷ []
verdict_one [] m h = cc
verdict_one (x ∷ []) m h = cc
verdict_one (x ∷ y ∷ fs) m h = cc

pub verdict_several : {M : Type 0} (fs : List M) → several ≡ verdict_on fs → 2 ≤ length fs
verdict_several [] h = let z : ◌≡◌ {A = ℕ} 0 1 = cc in omega arith
verdict_several (x ∷ []) h = let z : ◌≡◌ {A = ℕ} 0 1 = cc in omega arith
verdict_several (x ∷ y ∷ fs) h = omega arith

-- a line without faults is a line
pub clear_faulty : {M : Type 0} (number : M → List ℕ) (ms : List M) (p : List ℕ) (v : Verdict M) → Clear number ms p v → Faulty number ms p v
clear_faulty number ms p nobody h = tt
clear_faulty number ms p (one m) h = verdict_one (fitting number ms p) m h
clear_faulty number ms p several h = let l = verdict_several (fitting number ms p) h in omega arith
