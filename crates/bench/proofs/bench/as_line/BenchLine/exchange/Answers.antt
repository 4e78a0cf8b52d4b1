use Rattle.std.proofs.Common.{ℕ, List, refl}
use Rattle.line.specs.Exchanges.{Exchange, Sound, State}
use Rattle.line.specs.Soundness.{sound_out}
use Rattle.line.proofs.Exchanging.{exchange_sound}
use Rattle.bench.specs.declared.bench.Bench.{Bench}
use Rattle.bench.specs.declared.fault_codes.Code.TheVariants.{LostOut, LostBack, Damaged}
use Rattle.bench.specs.Benches.{meaning}
use Rattle.bench.proofs.Exchanging.{clean_exchange, faulty_exchange, unheard}
use Rattle.bench.proofs.bench.as_line.BenchLine.exchange.Goals as goal

stays_sound : (b : Bench) (s : State) {request reply : List ℕ} → Exchange (meaning b) request reply s → ∥ Sound s ∥₁
stays_sound b s x = ∣ exchange_sound (sound_out (meaning b) b.sound) x ∣₁

pub invariant_of-self : goal.invariant_of-self
invariant_of-self c =
    let b = c.args.self.now in
    let e = c.in-Clean.ensures in
    let x = clean_exchange b.faults c.next.new.self e.codes e.position b.bus c.answer.new.self c.args.request.now _ _ e.code (c.answer.ensures.exchanged (meaning b) refl) in
    record { sound = stays_sound b _ x.exchange }

pub invariant_of-self-in-LostOut : goal.invariant_of-self-in-LostOut
invariant_of-self-in-LostOut c =
    let b = c.args.self.now in
    let e = c.in-LostOut.ensures in
    record { sound = stays_sound b _ (unheard b.faults c.next.new.self e.codes e.position b.bus c.args.request.now e.code) }

pub invariant_of-self-in-LostBack : goal.invariant_of-self-in-LostBack
invariant_of-self-in-LostBack c =
    let b = c.args.self.now in
    let e = c.in-LostBack.ensures in
    let x = faulty_exchange b.faults c.next.new.self e.codes e.position b.bus c.lose_reply.new.self c.args.request.now _ _ LostBack tt e.code (c.lose_reply.ensures.exchanged (meaning b) refl) in
    record { sound = stays_sound b _ x.exchange }

pub invariant_of-self-in-Damaged : goal.invariant_of-self-in-Damaged
invariant_of-self-in-Damaged c =
    let b = c.args.self.now in
    let e = c.in-Damaged.ensures in
    let x = faulty_exchange b.faults c.next.new.self e.codes e.position b.bus c.damage_reply.new.self c.args.request.now _ _ Damaged tt e.code (c.damage_reply.ensures.exchanged (meaning b) refl) in
    record { sound = stays_sound b _ x.exchange }

pub returns-in-Clean-clause-exchanged : goal.returns-in-Clean-clause-exchanged
returns-in-Clean-clause-exchanged c =
    let b = c.args.self.now in
    let e = c.in-Clean.ensures in
    clean_exchange b.faults c.next.new.self e.codes e.position b.bus c.answer.new.self c.args.request.now _ _ e.code (c.answer.ensures.exchanged (meaning b) refl)

pub returns-in-LostOut-clause-exchanged : goal.returns-in-LostOut-clause-exchanged
returns-in-LostOut-clause-exchanged c =
    let b = c.args.self.now in
    let e = c.in-LostOut.ensures in
    faulty_exchange b.faults c.next.new.self e.codes e.position b.bus b.bus c.args.request.now _ _ LostOut tt e.code (c.lose_request.ensures.exchanged (meaning b) c.args.request.now)

pub returns-in-LostBack-clause-exchanged : goal.returns-in-LostBack-clause-exchanged
returns-in-LostBack-clause-exchanged c =
    let b = c.args.self.now in
    let e = c.in-LostBack.ensures in
    faulty_exchange b.faults c.next.new.self e.codes e.position b.bus c.lose_reply.new.self c.args.request.now _ _ LostBack tt e.code (c.lose_reply.ensures.exchanged (meaning b) refl)

pub returns-in-Damaged-clause-exchanged : goal.returns-in-Damaged-clause-exchanged
returns-in-Damaged-clause-exchanged c =
    let b = c.args.self.now in
    let e = c.in-Damaged.ensures in
    faulty_exchange b.faults c.next.new.self e.codes e.position b.bus c.damage_reply.new.self c.args.request.now _ _ Damaged tt e.code (c.damage_reply.ensures.exchanged (meaning b) refl)
