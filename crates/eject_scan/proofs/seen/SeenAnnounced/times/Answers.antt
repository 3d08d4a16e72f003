use Rattle.std.proofs.Common.{◌∙◌, List, ap, subst}
use Rattle.announce_slots.specs.Words.{code}
use Rattle.eject_scan.specs.Rows.{IsGap, StandsAt}
use Rattle.eject_scan.specs.Seen.{Noted, times_noted}
use Rattle.eject_scan.specs.declared.seen.Row.{Row}
use Rattle.eject_scan.proofs.Searches.{tells_here, tells_none}
use Rattle.eject_scan.proofs.seen.SeenAnnounced.times.Goals as goal

pub returns-in-Ok : goal.returns-in-Ok
returns-in-Ok c =
    tells_here c.announced_as.result c.self.inside.rows.items c.in-Ok.place c.index.result.now
    c.self.invariant.0
    (subst (λ (l : List Row). StandsAt c.announced_as.result l c.in-Ok.place)
    c.deref.ensures.value c.in-Ok.ensures.place) c.index.ensures
    ∙ (ap (λ w. times_noted w c.self.inside.rows.items) c.announced_as.ensures
    ∙ ap (λ (n : Noted). times_noted (code c.args.kind c.args.slot) n.rows) c.self.view_is)

pub returns-in-Err : goal.returns-in-Err
returns-in-Err c =
    tells_none c.announced_as.result c.self.inside.rows.items c.in-Err.field-0
    (subst (λ (l : List Row). IsGap c.announced_as.result l c.in-Err.field-0)
    c.deref.ensures.value c.in-Err.ensures.gap)
    ∙ (ap (λ w. times_noted w c.self.inside.rows.items) c.announced_as.ensures
    ∙ ap (λ (n : Noted). times_noted (code c.args.kind c.args.slot) n.rows) c.self.view_is)
