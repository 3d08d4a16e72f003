use Rattle.std.proofs.Common.{refl, ap, ◌∙◌}
use Rattle.std.specs.Prelude.{Some}
use Rattle.control_word.specs.core_events.declared.outcome.Outcome.TheVariants as outcome
use Rattle.protected_loads.proofs.Checking.{may_check}
use Rattle.protected_loads.proofs.Looking.{announces, finds_null, may_announce}
use Rattle.protected_loads.proofs.Protecting.{may_release, missed, protected}
use Rattle.protected_loads.proofs.Remaining.{missed_room, null_room, protected_room}
use Rattle.protected_loads.proofs.acquiring.acquire.Goals as goal

pub look-requires-clause-deed : goal.look-requires-clause-deed
look-requires-clause-deed g c = λ w. (refl, c.requires.look w)

pub returns-in_default-found-clause-null : goal.returns-in_default-found-clause-null
returns-in_default-found-clause-null g c =
    λ is. (finds_null c.args.domain.now c.args.place
    (g.L.Deed.next c.args.look c.args.domain.now.protocol)
    (g.L.Deed.allows c.args.look c.args.domain.now.protocol) c.args.seat.now c.look.new.seat
    c.look.result c.look.ensures (c.in-Found.is ∙ ap outcome.Found c.in_default-found.is)
    c.requires.rest).0

pub announce-requires-clause-may : goal.announce-requires-clause-may
announce-requires-clause-may g c =
    may_announce c.args.domain.now c.args.place c.args.note c.requires.note c.in-Some.slot
    c.kind_of.result c.kind_of.ensures c.args.seat.now c.look.new.seat c.look.new.seat
    c.requires.rest c.requires.free (g.L.Deed.next c.args.look c.args.domain.now.protocol)
    (g.L.Deed.allows c.args.look c.args.domain.now.protocol) c.look.result c.look.ensures
    (c.in-Found.is ∙ ap outcome.Found c.in-Some.is)

pub check-requires-clause-may : goal.check-requires-clause-may
check-requires-clause-may g c =
    let announced = announces c.args.domain.now c.args.place c.args.note c.requires.note
    c.in-Some.slot c.kind_of.result c.kind_of.ensures c.args.seat.now c.look.new.seat
    c.announce.new.seat c.requires.rest c.requires.free
    (g.L.Deed.next c.args.look c.args.domain.now.protocol)
    (g.L.Deed.allows c.args.look c.args.domain.now.protocol) c.look.result c.look.ensures
    (c.in-Found.is ∙ ap outcome.Found c.in-Some.is) c.announce.result c.announce.ensures in
    may_check c.args.domain.now c.args.place c.args.note c.requires.note c.in-Some.slot
    c.args.seat.now c.announce.new.seat c.requires.rest c.requires.free announced c.requires.place

pub check-requires-clause-deed : goal.check-requires-clause-deed
check-requires-clause-deed g c =
    c.requires.check c.in-Some.slot c.announce.new.seat
    (announces c.args.domain.now c.args.place c.args.note c.requires.note
    c.in-Some.slot c.kind_of.result c.kind_of.ensures c.args.seat.now c.look.new.seat
    c.announce.new.seat c.requires.rest c.requires.free
    (g.L.Deed.next c.args.look c.args.domain.now.protocol)
    (g.L.Deed.allows c.args.look c.args.domain.now.protocol) c.look.result c.look.ensures
    (c.in-Found.is ∙ ap outcome.Found c.in-Some.is) c.announce.result c.announce.ensures)

pub release-requires-clause-may : goal.release-requires-clause-may
release-requires-clause-may g c =
    let announced = announces c.args.domain.now c.args.place c.args.note c.requires.note
    c.in-Some.slot c.kind_of.result c.kind_of.ensures c.args.seat.now c.look.new.seat
    c.announce.new.seat c.requires.rest c.requires.free
    (g.L.Deed.next c.args.look c.args.domain.now.protocol)
    (g.L.Deed.allows c.args.look c.args.domain.now.protocol) c.look.result c.look.ensures
    (c.in-Found.is ∙ ap outcome.Found c.in-Some.is) c.announce.result c.announce.ensures in
    may_release c.args.domain.now c.args.place c.args.note c.requires.note c.in-Some.slot
    c.args.seat.now c.announce.new.seat c.requires.rest c.requires.free announced
    {next = g.C.Deed.next c.args.check c.args.domain.now.protocol}
    {allows = g.C.Deed.allows c.args.check c.args.domain.now.protocol}
    c.check.new.seat c.in-Moved.now (c.in-Moved.ensures {u = tt})

pub returns-in-Moved-clause-moved : goal.returns-in-Moved-clause-moved
returns-in-Moved-clause-moved g c =
    let announced = announces c.args.domain.now c.args.place c.args.note c.requires.note
    c.in-Some.slot c.kind_of.result c.kind_of.ensures c.args.seat.now c.look.new.seat
    c.announce.new.seat c.requires.rest c.requires.free
    (g.L.Deed.next c.args.look c.args.domain.now.protocol)
    (g.L.Deed.allows c.args.look c.args.domain.now.protocol) c.look.result c.look.ensures
    (c.in-Found.is ∙ ap outcome.Found c.in-Some.is) c.announce.result c.announce.ensures in
    (missed c.args.domain.now c.args.place c.args.note c.requires.note c.in-Some.slot
    c.args.seat.now c.announce.new.seat c.requires.rest c.requires.free announced
    {next = g.C.Deed.next c.args.check c.args.domain.now.protocol}
    {allows = g.C.Deed.allows c.args.check c.args.domain.now.protocol}
    c.check.new.seat c.in-Moved.now (c.in-Moved.ensures {u = tt}) c.release.new.seat
    c.release.result c.release.ensures).0

pub returns-in-Moved-clause-objects : goal.returns-in-Moved-clause-objects
returns-in-Moved-clause-objects g c =
    let announced = announces c.args.domain.now c.args.place c.args.note c.requires.note
    c.in-Some.slot c.kind_of.result c.kind_of.ensures c.args.seat.now c.look.new.seat
    c.announce.new.seat c.requires.rest c.requires.free
    (g.L.Deed.next c.args.look c.args.domain.now.protocol)
    (g.L.Deed.allows c.args.look c.args.domain.now.protocol) c.look.result c.look.ensures
    (c.in-Found.is ∙ ap outcome.Found c.in-Some.is) c.announce.result c.announce.ensures in
    (missed c.args.domain.now c.args.place c.args.note c.requires.note c.in-Some.slot
    c.args.seat.now c.announce.new.seat c.requires.rest c.requires.free announced
    {next = g.C.Deed.next c.args.check c.args.domain.now.protocol}
    {allows = g.C.Deed.allows c.args.check c.args.domain.now.protocol}
    c.check.new.seat c.in-Moved.now (c.in-Moved.ensures {u = tt}) c.release.new.seat
    c.release.result c.release.ensures).1

pub returns-in-Moved-clause-rest : goal.returns-in-Moved-clause-rest
returns-in-Moved-clause-rest g c =
    let announced = announces c.args.domain.now c.args.place c.args.note c.requires.note
    c.in-Some.slot c.kind_of.result c.kind_of.ensures c.args.seat.now c.look.new.seat
    c.announce.new.seat c.requires.rest c.requires.free
    (g.L.Deed.next c.args.look c.args.domain.now.protocol)
    (g.L.Deed.allows c.args.look c.args.domain.now.protocol) c.look.result c.look.ensures
    (c.in-Found.is ∙ ap outcome.Found c.in-Some.is) c.announce.result c.announce.ensures in
    λ e. (missed c.args.domain.now c.args.place c.args.note c.requires.note c.in-Some.slot
    c.args.seat.now c.announce.new.seat c.requires.rest c.requires.free announced
    {next = g.C.Deed.next c.args.check c.args.domain.now.protocol}
    {allows = g.C.Deed.allows c.args.check c.args.domain.now.protocol}
    c.check.new.seat c.in-Moved.now (c.in-Moved.ensures {u = tt}) c.release.new.seat
    c.release.result c.release.ensures).2

pub returns-clause-protected : goal.returns-clause-protected
returns-clause-protected g c =
    let announced = announces c.args.domain.now c.args.place c.args.note c.requires.note
    c.in-Some.slot c.kind_of.result c.kind_of.ensures c.args.seat.now c.look.new.seat
    c.announce.new.seat c.requires.rest c.requires.free
    (g.L.Deed.next c.args.look c.args.domain.now.protocol)
    (g.L.Deed.allows c.args.look c.args.domain.now.protocol) c.look.result c.look.ensures
    (c.in-Found.is ∙ ap outcome.Found c.in-Some.is) c.announce.result c.announce.ensures in
    (protected c.args.domain.now c.args.place c.args.note c.requires.note c.in-Some.slot
    c.args.seat.now c.announce.new.seat c.requires.rest c.requires.free announced
    {next = g.C.Deed.next c.args.check c.args.domain.now.protocol}
    {allows = g.C.Deed.allows c.args.check c.args.domain.now.protocol}
    c.check.new.seat c.check.result c.check.ensures c.in_default-check.not-Moved).0

pub returns-clause-objects : goal.returns-clause-objects
returns-clause-objects g c =
    let announced = announces c.args.domain.now c.args.place c.args.note c.requires.note
    c.in-Some.slot c.kind_of.result c.kind_of.ensures c.args.seat.now c.look.new.seat
    c.announce.new.seat c.requires.rest c.requires.free
    (g.L.Deed.next c.args.look c.args.domain.now.protocol)
    (g.L.Deed.allows c.args.look c.args.domain.now.protocol) c.look.result c.look.ensures
    (c.in-Found.is ∙ ap outcome.Found c.in-Some.is) c.announce.result c.announce.ensures in
    (protected c.args.domain.now c.args.place c.args.note c.requires.note c.in-Some.slot
    c.args.seat.now c.announce.new.seat c.requires.rest c.requires.free announced
    {next = g.C.Deed.next c.args.check c.args.domain.now.protocol}
    {allows = g.C.Deed.allows c.args.check c.args.domain.now.protocol}
    c.check.new.seat c.check.result c.check.ensures c.in_default-check.not-Moved).1

pub returns-clause-seat : goal.returns-clause-seat
returns-clause-seat g c =
    let announced = announces c.args.domain.now c.args.place c.args.note c.requires.note
    c.in-Some.slot c.kind_of.result c.kind_of.ensures c.args.seat.now c.look.new.seat
    c.announce.new.seat c.requires.rest c.requires.free
    (g.L.Deed.next c.args.look c.args.domain.now.protocol)
    (g.L.Deed.allows c.args.look c.args.domain.now.protocol) c.look.result c.look.ensures
    (c.in-Found.is ∙ ap outcome.Found c.in-Some.is) c.announce.result c.announce.ensures in
    (protected c.args.domain.now c.args.place c.args.note c.requires.note c.in-Some.slot
    c.args.seat.now c.announce.new.seat c.requires.rest c.requires.free announced
    {next = g.C.Deed.next c.args.check c.args.domain.now.protocol}
    {allows = g.C.Deed.allows c.args.check c.args.domain.now.protocol}
    c.check.new.seat c.check.result c.check.ensures c.in_default-check.not-Moved).2

pub returns-clause-rest : goal.returns-clause-rest
returns-clause-rest g c =
    let announced = announces c.args.domain.now c.args.place c.args.note c.requires.note
    c.in-Some.slot c.kind_of.result c.kind_of.ensures c.args.seat.now c.look.new.seat
    c.announce.new.seat c.requires.rest c.requires.free
    (g.L.Deed.next c.args.look c.args.domain.now.protocol)
    (g.L.Deed.allows c.args.look c.args.domain.now.protocol) c.look.result c.look.ensures
    (c.in-Found.is ∙ ap outcome.Found c.in-Some.is) c.announce.result c.announce.ensures in
    λ other. (protected c.args.domain.now c.args.place c.args.note c.requires.note c.in-Some.slot
    c.args.seat.now c.announce.new.seat c.requires.rest c.requires.free announced
    {next = g.C.Deed.next c.args.check c.args.domain.now.protocol}
    {allows = g.C.Deed.allows c.args.check c.args.domain.now.protocol}
    c.check.new.seat c.check.result c.check.ensures c.in_default-check.not-Moved).3
    (other c.in-Some.slot refl)

pub returns-in_default-found-clause-room : goal.returns-in_default-found-clause-room
returns-in_default-found-clause-room g c =
    null_room c.args.place c.args.seat.now c.look.new.seat
    (returns-in_default-found-clause-null g c refl)

pub returns-in-Moved-clause-room : goal.returns-in-Moved-clause-room
returns-in-Moved-clause-room g c =
    missed_room c.args.place c.args.seat.now c.release.new.seat c.args.note (Some c.in-Some.slot)
    c.in-Moved.now (returns-in-Moved-clause-moved g c)

pub returns-clause-room : goal.returns-clause-room
returns-clause-room g c =
    protected_room c.args.place c.args.seat.now c.check.new.seat c.args.note c.in-Some.slot
    (returns-clause-protected g c)
