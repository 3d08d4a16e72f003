use Rattle.std.proofs.Common.{ap, inl, ◌∙◌, None, arith, refl}
use Rattle.record_making.specs.directory_calls.Directories.{area_of}
use Rattle.record_making.proofs.Below.directory_calls_Parts.{place_of}
use Rattle.record_making.specs.Texts.{text_of}
use Rattle.atomic_weak.specs.core_events.declared.view.CoreView.{CoreView}
use Rattle.weak_intern.specs.Walking.{met_by}
use Rattle.weak_intern.proofs.LetGo.{sighted_held}
use Rattle.weak_intern.proofs.Meeting.{is_not, other_met}
use Rattle.weak_intern.proofs.Moves.{ends_by, ends_then, free_then, head_then, leaves_then, met_then, raised_leaves, saw_then, sighted_then}
use Rattle.weak_intern.proofs.Compared.{compared_adds}
use Rattle.weak_intern.proofs.looking.meet.Goals as goal

pub is_payload-requires-clause-holds : goal.is_payload-requires-clause-holds
is_payload-requires-clause-holds g c =
    sighted_held c.args.sighted c.args.seat.now.view.core c.requires.sighted

pub let_go-requires-clause-sighted : goal.let_go-requires-clause-sighted
let_go-requires-clause-sighted g c =
    sighted_then (place_of g.P.Part.seen g.P.Part.with_seen g.P.Part.reads g.P.Part.puts_back
    g.P.Part.puts_over)
    c.args.sighted c.args.seat.now c.is_payload.new.seat c.requires.sighted
    c.is_payload.ensures.compares c.is_payload.ensures.objects c.is_payload.ensures.client

pub returns-then-not-is_payload-clause-meets : goal.returns-then-not-is_payload-clause-meets
returns-then-not-is_payload-clause-meets g c =
    other_met c.args.domain.now
    (place_of g.P.Part.seen g.P.Part.with_seen g.P.Part.reads g.P.Part.puts_back
    g.P.Part.puts_over)
    (area_of (g.P.Part.part c.args.domain.now.protocol)) c.args.sighted.slot (text_of
    c.args.sought.now.text.now)
    c.args.sought.now.head c.requires.sought.begins c.args.seat.now c.let_go.new.seat
    (λ same. is_not c.is_payload.result c.if-not-is_payload.true (c.is_payload.ensures.same.1 same))
    (c.let_go.ensures.client ∙ c.is_payload.ensures.client)

pub returns-then-not-is_payload-clause-ends : goal.returns-then-not-is_payload-clause-ends
returns-then-not-is_payload-clause-ends g c =
    λ short. inl (ends_then (place_of g.P.Part.seen g.P.Part.with_seen g.P.Part.reads g.P.Part.puts_back
    g.P.Part.puts_over)
    c.args.sighted c.args.seat.now c.is_payload.new.seat c.requires.sighted
    c.is_payload.ensures.compares c.is_payload.ensures.objects c.is_payload.ensures.client
    c.let_go.new.seat None (λ some. absurd (some refl)) c.let_go.ensures.core)

pub returns-then-not-is_payload-clause-leaves : goal.returns-then-not-is_payload-clause-leaves
returns-then-not-is_payload-clause-leaves g c =
    leaves_then (place_of g.P.Part.seen g.P.Part.with_seen g.P.Part.reads g.P.Part.puts_back
    g.P.Part.puts_over)
    c.args.sighted c.args.seat.now c.is_payload.new.seat c.requires.sighted
    c.is_payload.ensures.compares c.is_payload.ensures.objects c.is_payload.ensures.client
    c.let_go.new.seat None
    (raised_leaves c.args.sighted c.is_payload.new.seat c.let_go.new.seat None
    c.let_go.ensures.core c.let_go.ensures.objects)

pub returns-then-not-is_payload-clause-makes : goal.returns-then-not-is_payload-clause-makes
returns-then-not-is_payload-clause-makes g c =
    ap (λ (v : CoreView). v.makes) c.let_go.ensures.core ∙ c.is_payload.ensures.makes

pub meet_short-requires-clause-sighted : goal.meet_short-requires-clause-sighted
meet_short-requires-clause-sighted g c =
    sighted_then (place_of g.P.Part.seen g.P.Part.with_seen g.P.Part.reads g.P.Part.puts_back
    g.P.Part.puts_over)
    c.args.sighted c.args.seat.now c.is_payload.new.seat c.requires.sighted
    c.is_payload.ensures.compares c.is_payload.ensures.objects c.is_payload.ensures.client

pub meet_short-requires-clause-saw : goal.meet_short-requires-clause-saw
meet_short-requires-clause-saw g c =
    saw_then (place_of g.P.Part.seen g.P.Part.with_seen g.P.Part.reads g.P.Part.puts_back
    g.P.Part.puts_over)
    c.args.sighted c.args.seat.now c.is_payload.new.seat c.requires.sighted
    c.is_payload.ensures.compares c.is_payload.ensures.objects c.is_payload.ensures.client c.requires.saw

pub meet_short-requires-clause-head : goal.meet_short-requires-clause-head
meet_short-requires-clause-head g c =
    head_then (place_of g.P.Part.seen g.P.Part.with_seen g.P.Part.reads g.P.Part.puts_back
    g.P.Part.puts_over)
    c.args.sighted c.args.seat.now c.is_payload.new.seat c.requires.sighted
    c.is_payload.ensures.compares c.is_payload.ensures.objects c.is_payload.ensures.client
    c.args.sought.now.head (c.is_payload.ensures.same.0 c.if-not-is_payload.false)

pub returns-then-sought-le120-clause-meets : goal.returns-then-sought-le120-clause-meets
returns-then-sought-le120-clause-meets g c =
    met_then (place_of g.P.Part.seen g.P.Part.with_seen g.P.Part.reads g.P.Part.puts_back
    g.P.Part.puts_over)
    c.args.sighted c.args.seat.now c.is_payload.new.seat c.requires.sighted
    c.is_payload.ensures.compares c.is_payload.ensures.objects c.is_payload.ensures.client
    c.args.domain.now (area_of (g.P.Part.part c.args.domain.now.protocol)) c.meet_short.new.seat
    (text_of c.args.sought.now.text.now) c.meet_short.result c.meet_short.ensures.meets

pub returns-then-sought-le120-clause-ends : goal.returns-then-sought-le120-clause-ends
returns-then-sought-le120-clause-ends g c =
    λ short. ends_by (place_of g.P.Part.seen g.P.Part.with_seen g.P.Part.reads g.P.Part.puts_back
    g.P.Part.puts_over)
    c.args.sighted c.args.seat.now c.is_payload.new.seat c.requires.sighted
    c.is_payload.ensures.compares c.is_payload.ensures.objects c.is_payload.ensures.client
    c.meet_short.new.seat c.meet_short.result c.if-not-is_payload.false
    c.meet_short.ensures.raises

pub returns-then-sought-le120-clause-leaves : goal.returns-then-sought-le120-clause-leaves
returns-then-sought-le120-clause-leaves g c =
    leaves_then (place_of g.P.Part.seen g.P.Part.with_seen g.P.Part.reads g.P.Part.puts_back
    g.P.Part.puts_over)
    c.args.sighted c.args.seat.now c.is_payload.new.seat c.requires.sighted
    c.is_payload.ensures.compares c.is_payload.ensures.objects c.is_payload.ensures.client
    c.meet_short.new.seat (met_by c.meet_short.result) c.meet_short.ensures.leaves

pub returns-then-sought-le120-clause-makes : goal.returns-then-sought-le120-clause-makes
returns-then-sought-le120-clause-makes g c =
    c.meet_short.ensures.makes ∙ c.is_payload.ensures.makes

pub meet_long-requires-clause-sighted : goal.meet_long-requires-clause-sighted
meet_long-requires-clause-sighted g c =
    sighted_then (place_of g.P.Part.seen g.P.Part.with_seen g.P.Part.reads g.P.Part.puts_back
    g.P.Part.puts_over)
    c.args.sighted c.args.seat.now c.is_payload.new.seat c.requires.sighted
    c.is_payload.ensures.compares c.is_payload.ensures.objects c.is_payload.ensures.client

pub meet_long-requires-clause-saw : goal.meet_long-requires-clause-saw
meet_long-requires-clause-saw g c =
    saw_then (place_of g.P.Part.seen g.P.Part.with_seen g.P.Part.reads g.P.Part.puts_back
    g.P.Part.puts_over)
    c.args.sighted c.args.seat.now c.is_payload.new.seat c.requires.sighted
    c.is_payload.ensures.compares c.is_payload.ensures.objects c.is_payload.ensures.client c.requires.saw

pub meet_long-requires-clause-head : goal.meet_long-requires-clause-head
meet_long-requires-clause-head g c =
    head_then (place_of g.P.Part.seen g.P.Part.with_seen g.P.Part.reads g.P.Part.puts_back
    g.P.Part.puts_over)
    c.args.sighted c.args.seat.now c.is_payload.new.seat c.requires.sighted
    c.is_payload.ensures.compares c.is_payload.ensures.objects c.is_payload.ensures.client
    c.args.sought.now.head (c.is_payload.ensures.same.0 c.if-not-is_payload.false)

pub meet_long-requires-clause-free : goal.meet_long-requires-clause-free
meet_long-requires-clause-free g c =
    free_then (place_of g.P.Part.seen g.P.Part.with_seen g.P.Part.reads g.P.Part.puts_back
    g.P.Part.puts_over)
    c.args.sighted c.args.seat.now c.is_payload.new.seat c.requires.sighted
    c.is_payload.ensures.compares c.is_payload.ensures.objects c.is_payload.ensures.client c.requires.free

pub returns-clause-meets : goal.returns-clause-meets
returns-clause-meets g c =
    met_then (place_of g.P.Part.seen g.P.Part.with_seen g.P.Part.reads g.P.Part.puts_back
    g.P.Part.puts_over)
    c.args.sighted c.args.seat.now c.is_payload.new.seat c.requires.sighted
    c.is_payload.ensures.compares c.is_payload.ensures.objects c.is_payload.ensures.client
    c.args.domain.now (area_of (g.P.Part.part c.args.domain.now.protocol)) c.meet_long.new.seat
    (text_of c.args.sought.now.text.now) c.meet_long.result c.meet_long.ensures.meets

pub returns-clause-leaves : goal.returns-clause-leaves
returns-clause-leaves g c =
    leaves_then (place_of g.P.Part.seen g.P.Part.with_seen g.P.Part.reads g.P.Part.puts_back
    g.P.Part.puts_over)
    c.args.sighted c.args.seat.now c.is_payload.new.seat c.requires.sighted
    c.is_payload.ensures.compares c.is_payload.ensures.objects c.is_payload.ensures.client
    c.meet_long.new.seat (met_by c.meet_long.result) c.meet_long.ensures.leaves

pub returns-clause-makes : goal.returns-clause-makes
returns-clause-makes g c =
    c.meet_long.ensures.makes ∙ c.is_payload.ensures.makes

pub returns-then-not-is_payload-clause-adds : goal.returns-then-not-is_payload-clause-adds
returns-then-not-is_payload-clause-adds g c =
    let gone = ap (λ (v : CoreView). v.adds) c.let_go.ensures.core in
    let compared = compared_adds c.args.sighted.slot c.args.sought.now.head _ c.args.seat.now.view.core
    c.is_payload.new.seat.view.core c.is_payload.ensures.compares in
    omega (arith, gone, compared)

pub returns-then-sought-le120-clause-adds : goal.returns-then-sought-le120-clause-adds
returns-then-sought-le120-clause-adds g c =
    let compared = compared_adds c.args.sighted.slot c.args.sought.now.head _ c.args.seat.now.view.core
    c.is_payload.new.seat.view.core c.is_payload.ensures.compares in
    omega (arith, c.meet_short.ensures.adds, compared)

pub returns-clause-adds : goal.returns-clause-adds
returns-clause-adds g c =
    let compared = compared_adds c.args.sighted.slot c.args.sought.now.head _ c.args.seat.now.view.core
    c.is_payload.new.seat.view.core c.is_payload.ensures.compares in
    omega (arith, c.meet_long.ensures.adds, compared)
