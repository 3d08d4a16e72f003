use Rattle.std.proofs.Common.{◌<◌, subst, sym}
use Rattle.std.specs.Prelude.{Some}
use Rattle.control_word.specs.plain_state.declared.slot.Kind.{Kind}
use Rattle.control_word.specs.plain_state.Lists.{entry_times}
use Rattle.control_word.specs.core_events.Views.{snapshots}
use Rattle.protected_loads.proofs.Referring.{loaded, may_release, snapshot_there}
use Rattle.protected_loads.proofs.Remaining.{loaded_notes, loaded_owned, loaded_room}
use Rattle.protected_loads.proofs.loading.load_once.Goals as goal

pub count-requires-clause-protected : goal.count-requires-clause-protected
count-requires-clause-protected g c =
    let protects = rw c.in-Some.is at (c.in_ok-found.ensures {u = tt}).protected in
    subst (λ (k : Kind).
    0 < entry_times k c.in-Some.slot (snapshots c.acquire.new.seat.view.core))
    (sym c.kind_of.ensures)
    (snapshot_there c.args.domain.now c.args.place c.in-Some.slot c.args.seat.now
    c.acquire.new.seat c.requires.rest protects)

pub release-requires-clause-may : goal.release-requires-clause-may
release-requires-clause-may g c =
    let protects = rw c.in-Some.is at (c.in_ok-found.ensures {u = tt}).protected in
    may_release c.args.domain.now c.args.place c.in-Some.slot c.args.seat.now c.acquire.new.seat
    c.requires.rest protects c.kind_of.result c.kind_of.ensures c.count.new.seat c.count.ensures

pub returns-in-Some-clause-loaded : goal.returns-in-Some-clause-loaded
returns-in-Some-clause-loaded g c =
    let protects = rw c.in-Some.is at (c.in_ok-found.ensures {u = tt}).protected in
    (loaded c.args.domain.now c.args.place c.in-Some.slot c.args.seat.now c.acquire.new.seat
    c.requires.rest protects c.kind_of.result c.kind_of.ensures c.count.new.seat c.count.ensures
    c.release.new.seat c.release.result c.release.ensures c.acquire.ensures.objects).0

pub returns-in-Some-clause-objects : goal.returns-in-Some-clause-objects
returns-in-Some-clause-objects g c =
    let protects = rw c.in-Some.is at (c.in_ok-found.ensures {u = tt}).protected in
    (loaded c.args.domain.now c.args.place c.in-Some.slot c.args.seat.now c.acquire.new.seat
    c.requires.rest protects c.kind_of.result c.kind_of.ensures c.count.new.seat c.count.ensures
    c.release.new.seat c.release.result c.release.ensures c.acquire.ensures.objects).1

pub returns-in-Some-clause-rest : goal.returns-in-Some-clause-rest
returns-in-Some-clause-rest g c =
    let protects = rw c.in-Some.is at (c.in_ok-found.ensures {u = tt}).protected in
    (loaded c.args.domain.now c.args.place c.in-Some.slot c.args.seat.now c.acquire.new.seat
    c.requires.rest protects c.kind_of.result c.kind_of.ensures c.count.new.seat c.count.ensures
    c.release.new.seat c.release.result c.release.ensures c.acquire.ensures.objects).2

pub returns-in-Some-clause-owned : goal.returns-in-Some-clause-owned
returns-in-Some-clause-owned g c =
    loaded_owned g.P.Kind.PayloadKind.fits c.args.domain.now c.args.place
    (g.D.Deed.next c.args.deed c.args.domain.now.protocol)
    (g.D.Deed.allows c.args.deed c.args.domain.now.protocol) c.args.seat.now c.release.new.seat
    (Some c.in-Some.slot) (returns-in-Some-clause-loaded g c)

pub returns-in-Some-clause-room : goal.returns-in-Some-clause-room
returns-in-Some-clause-room g c =
    loaded_room g.P.Kind.PayloadKind.fits c.args.domain.now c.args.place
    (g.D.Deed.next c.args.deed c.args.domain.now.protocol)
    (g.D.Deed.allows c.args.deed c.args.domain.now.protocol) c.args.seat.now c.release.new.seat
    (Some c.in-Some.slot) (returns-in-Some-clause-loaded g c)

pub returns-in-Some-clause-notes : goal.returns-in-Some-clause-notes
returns-in-Some-clause-notes g c =
    loaded_notes g.P.Kind.PayloadKind.fits c.args.domain.now c.args.place
    (g.D.Deed.next c.args.deed c.args.domain.now.protocol)
    (g.D.Deed.allows c.args.deed c.args.domain.now.protocol) c.args.seat.now c.release.new.seat
    (Some c.in-Some.slot) (returns-in-Some-clause-loaded g c)
