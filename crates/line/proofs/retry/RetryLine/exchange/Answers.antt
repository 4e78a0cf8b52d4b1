use Rattle.std.proofs.Common.{◌≡◌, ℕ, ◌+◌, ◌-◌, ◌*◌, true, length, sym, refl, ◌∙◌, subst, ap₂, arith}
use Rattle.line.specs.Layers.{Tries}
use Rattle.line.proofs.Exchanging.{stands}
use Rattle.line.proofs.Retrying.{retried_buffer, tries_answered, tries_again, tries_failed}
use Rattle.line.proofs.retry.RetryLine.exchange.Goals as goal

pub is_answered-requires : goal.is_answered-requires
is_answered-requires g c = c.exchange-count.ensures.exchanged.within

pub loop-init : goal.loop-init
loop-init g c =
    let s = g.L.Line.means c.args.self.now.below in
    let k : ℕ = c.args.self.now.limit + 1 in
    let whole : k - 0 ≡ k = omega arith in
    (λ r u h. subst (λ m. Tries c.args.request.now m true s r u) whole h, refl, refl)

pub returns-then-is_answered : goal.returns-then-is_answered
returns-then-is_answered g c =
    let inv = c.loop.invariant in
    let x = c.exchange-count.ensures in
    let k : ℕ = c.args.self.now.limit + 1 in
    let tries = inv.0 _ _ (tries_answered k c.loop.counter c.loop-test.true c.loop.silent x.exchanged c.if-is_answered.ensures) in
    let all = retried_buffer k (omega arith) (g.L.Line.sound c.args.self.now.below) x.exchanged.within x.exchanged.then_zeros tries in
    record { exchanged = rw inv.1 all; layers = ap₂ (λ t n. t * (n + 1)) (x.layers ∙ inv.2) inv.1; retried = tries; limit = inv.1 }

pub loop-preserved : goal.loop-preserved
loop-preserved g c =
    let inv = c.loop.invariant in
    let x = c.exchange-count.ensures in
    let k : ℕ = c.args.self.now.limit + 1 in
    let size : length c.exchange-count.new.reply ≡ 261 = omega arith in
    (λ r u rest. inv.0 r u (tries_again k c.loop.counter c.loop-test.true c.loop.silent x.exchanged size c.if-is_answered.ensures r u rest), inv.1, x.layers ∙ inv.2)

pub returns : goal.returns
returns g c =
    let inv = c.loop.invariant in
    let h = stands c.give_up.ensures.count c.give_up.ensures.buffer c.give_up.array_long in
    let t = g.L.Line.means c.loop.self.below in
    let q = c.args.request.now in
    let k : ℕ = c.args.self.now.limit + 1 in
    let last = inv.0 _ _ (tries_failed q k c.loop.counter c.loop.silent t c.loop-test.false) in
    let tries = subst (λ r. Tries q k true (g.L.Line.means c.args.self.now.below) r t) (sym h.front) last in
    let all = retried_buffer k (omega arith) (g.L.Line.sound c.args.self.now.below) h.within h.then_zeros tries in
    record { exchanged = rw inv.1 all; layers = ap₂ (λ t n. t * (n + 1)) inv.2 inv.1; retried = tries; limit = inv.1 }
