use Rattle.std.proofs.Common.{◌<◌, subst}
use Rattle.control_word.specs.plain_state.declared.slot.Kind.{Kind}
use Rattle.control_word.specs.plain_state.Lists.{entry_times}
use Rattle.control_word.specs.core_events.Views.{snapshots}
use Rattle.protected_loads.proofs.Counted.{up_under_snapshot}
use Rattle.protected_loads.proofs.loading.count.Goals as goal

pub returns-in-Strong : goal.returns-in-Strong
returns-in-Strong g c =
    rw c.in-Strong.is
    (up_under_snapshot c.args.domain.now c.args.seat.now c.add.new.seat c.args.slot c.add.result
    c.add.ensures
    (subst (λ (k : Kind). 0 < entry_times k c.args.slot (snapshots c.args.seat.now.view.core))
    c.in-Strong.is c.requires.protected))
