use Rattle.std.proofs.Common.{subst}
use Rattle.epoch_domain.specs.Calls.{IsSameView, Steps, same_view}
use Rattle.epoch_domain.specs.epoch_core.declared.act.EpochAct.TheVariants as act
use Rattle.epoch_domain.proofs.Below.epoch_rule_Others.{held_has}
use Rattle.epoch_refs.proofs.Reading.{read_made}
use Rattle.epoch_refs.proofs.counting.e_read.Goals as goal

pub returns-clause-made : goal.returns-clause-made
returns-clause-made g c =
    read_made _ c.args.domain.now c.args.slot c.args.word c.in-Word.found c.args.seat.now c.see.new.seat
    (subst (Steps _ c.args.domain.now same_view IsSameView (act.See c.args.slot c.args.word)
    c.args.seat.now c.see.new.seat) c.in-Word.is c.see.ensures) (held_has c.args.slot c.args.seat.now.view.core c.requires.held)
    c.requires.word
