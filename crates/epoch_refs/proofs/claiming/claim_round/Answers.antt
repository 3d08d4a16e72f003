use Rattle.std.proofs.Common.{◌≡◌, ◌-◌, ◌++◌, ℕ, subst, arith}
use Rattle.epoch_domain.specs.epoch_core.declared.shape.EpochShape.{EpochShape}
use Rattle.epoch_refs.specs.Searching.{Searches, slots_from}
use Rattle.epoch_refs.proofs.Searching.{misses_rest, searches_more}
use Rattle.epoch_refs.proofs.claiming.claim_round.Goals as goal

pub claim_between-requires-in-None-clause-rest : goal.claim_between-requires-in-None-clause-rest
claim_between-requires-in-None-clause-rest g c =
    let missed = rw c.in-None.is at c.claim_between.ensures in
    misses_rest _ c.args.domain.now
    (slots_from c.args.first (c.shape-slots.result.slots - c.args.first)) c.args.seat.now c.claim_between.new.seat missed
    c.requires.rest

pub returns-in-None : goal.returns-in-None
returns-in-None g c =
    let missed = rw c.in-None.is at c.claim_between.ensures in
    let none : c.args.first - 0 ≡ c.args.first = omega arith in
    subst (λ (z : EpochShape). Searches g.P.Kind.PayloadKind.fits c.args.domain.now
    (slots_from c.args.first (z.slots - c.args.first) ++ slots_from 0 c.args.first)
    c.args.seat.now c.claim_between-in-None.new.seat c.claim_between-in-None.result)
    c.shape-slots.ensures
    (searches_more _ c.args.domain.now
    (slots_from c.args.first (c.shape-slots.result.slots - c.args.first))
    (slots_from 0 c.args.first) c.args.seat.now c.claim_between.new.seat
    c.claim_between-in-None.new.seat missed c.claim_between-in-None.result
    (subst (λ (n : ℕ). Searches g.P.Kind.PayloadKind.fits c.args.domain.now (slots_from 0 n)
    c.claim_between.new.seat c.claim_between-in-None.new.seat c.claim_between-in-None.result)
    none c.claim_between-in-None.ensures))
