use Rattle.std.proofs.Common.{◌<◌, refl, rules, subst}
use Rattle.epoch_domain.specs.epoch_core.declared.act.EpochAct.TheVariants as act
use Rattle.epoch_domain.specs.Calls.{IsSameView, Steps, same_view}
use Rattle.epoch_refs.proofs.Seeing.{all_fit, all_known, all_walks, none_seen, one_seen}
use Rattle.epoch_refs.proofs.destroying.see_all.Goals as goal

pub loop-index-init : goal.loop-index-init
loop-index-init g c = none_seen _ c.args.domain.now c.args.slot _ c.args.seat.now refl c.requires.rest

pub loop-index-preserved : goal.loop-index-preserved
loop-index-preserved g c =
    let low : c.loop-index.index < 16 = search rules in
    one_seen _ c.args.domain.now c.args.slot c.loop-index.index c.loop-index.payload c.args.seat.now
    c.loop-index.seat c.see.new.seat c.in-Word.word c.requires.ended c.loop-index.invariant low
    (subst (Steps _ c.args.domain.now same_view IsSameView (act.See c.args.slot c.loop-index.index)
    c.loop-index.seat c.see.new.seat) c.in-Word.is c.see.ensures)

pub returns-clause-sees : goal.returns-clause-sees
returns-clause-sees g c =
    all_walks g.P.Kind.PayloadKind.fits c.args.domain.now c.args.slot c.loop-index.payload c.args.seat.now c.loop-index.seat
    (search rules)

pub returns-clause-known : goal.returns-clause-known
returns-clause-known g c =
    all_known g.P.Kind.PayloadKind.fits c.args.domain.now c.args.slot c.loop-index.payload c.args.seat.now c.loop-index.seat
    (search rules)

pub returns-clause-fits : goal.returns-clause-fits
returns-clause-fits g c =
    all_fit g.P.Kind.PayloadKind.fits c.args.domain.now c.args.slot c.loop-index.payload c.args.seat.now c.loop-index.seat
    (search rules)
