use Rattle.std.proofs.Common.{◌≡◌, ℕ, ◌+◌, ◌<◌, ap, subst, vec_len, rules, arith}
use Rattle.epoch_domain.specs.Openings.{IsFirst}
use Rattle.epoch_domain.proofs.Openings.{in_ranges, new_seated, one_more}
use Rattle.epoch_domain.proofs.domain.EpochDomain.open_others.Goals as goal

pub new_seat-requires-clause-seated : goal.new_seat-requires-clause-seated
new_seat-requires-clause-seated g c =
    let d = c.args.self.now in
    let opened : c.loop-number.root.me.0.opened ≡ c.loop-number.number = search rules in
    let there : c.loop-number.root.me.0.opened < d.shape.seats = search rules in
    new_seated (g.P.Protocol.first d.protocol) d
    (in_ranges d _ _ c.self.view_is c.self.invariant) _
    c.open_another-seat.result there c.open_another-seat.ensures.seat

pub loop-number-preserved : goal.loop-number-preserved
loop-number-preserved g c =
    let d = c.args.self.now in
    let first = g.P.Protocol.first d.protocol in
    let opened : c.loop-number.root.me.0.opened ≡ c.loop-number.number = search rules in
    let count = c.loop-number.invariant.count in
    let at : c.loop-number.root.me.0.opened ≡ 1 + vec_len c.loop-number.others = omega arith in
    record {
      root = subst (λ (n : ℕ). IsFirst first d n c.open_another-seat.new.root)
          (ap (λ (n : ℕ). n + 1) opened) c.open_another-seat.ensures.root;
      others = one_more first d (vec_len c.loop-number.others) _ _
          c.open_another-seat.result _ _ _ at c.push_reserved.ensures.len
          c.open_another-seat.ensures.seat c.in_ok-new_seat.ensures c.push_reserved.ensures.items
          c.loop-number.invariant.others;
      count = search rules;
      capacity = search rules;
    }
