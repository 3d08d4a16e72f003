use Rattle.std.proofs.Common.{arith, ◌∙◌, ◌+◌}
use Rattle.record_making.specs.directory_calls.Directories.{area_of}
use Rattle.record_making.proofs.Below.directory_calls_Parts.{place_of, zero_then}
use Rattle.record_making.specs.Texts.{text_of}
use Rattle.text_reading.proofs.LetGo.{least_there}
use Rattle.weak_intern.specs.Walking.{met_by, taken_by}
use Rattle.weak_intern.proofs.Looked.{look_adds, look_by, look_free, look_leaves, look_makes, look_met, look_saw, look_sighted, null_adds, null_by, null_leaves, null_makes}
use Rattle.weak_intern.proofs.Looked.{no_null}
use Rattle.weak_intern.proofs.looking.look.Goals as goal

pub see-requires-clause-free : goal.see-requires-clause-free
see-requires-clause-free g c =
    let two = c.requires.free in
    least_there c.args.seat.now.view.core two.0
    (two.2, omega (arith, two.3, two.4), two.5)

pub meet-requires-clause-sighted : goal.meet-requires-clause-sighted
meet-requires-clause-sighted g c =
    look_sighted ((g.P.Part.part c.args.domain.now.protocol).first + c.args.cell)
    c.args.seat.now c.see.new.seat c.see.result c.see.ensures.sights c.see.ensures.objects
    c.in-Some.sighted c.in-Some.is

pub meet-requires-clause-saw : goal.meet-requires-clause-saw
meet-requires-clause-saw g c = (
  c.args.cell,
  look_saw ((g.P.Part.part c.args.domain.now.protocol).first + c.args.cell)
      c.args.seat.now c.see.new.seat c.see.result c.see.ensures.sights c.see.ensures.objects
      c.in-Some.sighted c.in-Some.is
      g.P.Part.seen c.args.domain.now (area_of (g.P.Part.part c.args.domain.now.protocol))
      c.args.cell c.see.ensures.sees,
)

pub meet-requires-clause-free : goal.meet-requires-clause-free
meet-requires-clause-free g c =
    look_free ((g.P.Part.part c.args.domain.now.protocol).first + c.args.cell)
    c.args.seat.now c.see.new.seat c.see.result c.see.ensures.sights c.see.ensures.objects
    c.in-Some.sighted c.in-Some.is c.requires.free

pub returns-in-Some-clause-meets : goal.returns-in-Some-clause-meets
returns-in-Some-clause-meets g c =
    look_met ((g.P.Part.part c.args.domain.now.protocol).first + c.args.cell)
    c.args.seat.now c.see.new.seat c.see.result c.see.ensures.sights c.see.ensures.objects
    c.in-Some.sighted c.in-Some.is c.meet.new.seat
    c.args.domain.now
    (place_of g.P.Part.seen g.P.Part.with_seen g.P.Part.reads g.P.Part.puts_back
    g.P.Part.puts_over)
    (area_of (g.P.Part.part c.args.domain.now.protocol)) c.args.cell
    (text_of c.args.sought.now.text.now) c.meet.result c.see.ensures.sees c.see.ensures.learns
    c.meet.ensures.meets

pub returns-in-Some-clause-looks : goal.returns-in-Some-clause-looks
returns-in-Some-clause-looks g c =
    λ short. look_by ((g.P.Part.part c.args.domain.now.protocol).first + c.args.cell)
    c.args.seat.now c.see.new.seat c.see.result c.see.ensures.sights c.see.ensures.objects
    c.in-Some.sighted c.in-Some.is c.meet.new.seat c.args.sought.now.head
    c.meet.result (c.meet.ensures.ends short)

pub returns-in-Some-clause-leaves : goal.returns-in-Some-clause-leaves
returns-in-Some-clause-leaves g c =
    look_leaves ((g.P.Part.part c.args.domain.now.protocol).first + c.args.cell)
    c.args.seat.now c.see.new.seat c.see.result c.see.ensures.sights c.see.ensures.objects
    c.in-Some.sighted c.in-Some.is c.meet.new.seat
    (met_by c.meet.result) c.meet.ensures.leaves

pub returns-in-Some-clause-learns : goal.returns-in-Some-clause-learns
returns-in-Some-clause-learns g c =
    zero_then (place_of g.P.Part.seen g.P.Part.with_seen g.P.Part.reads g.P.Part.puts_back
    g.P.Part.puts_over)
    (taken_by c.args.intern c.meet.result) c.args.seat.now.view.client c.see.new.seat.view.client
    c.meet.new.seat.view.client c.see.ensures.learns c.meet.ensures.learns

pub returns-in-Some-clause-makes : goal.returns-in-Some-clause-makes
returns-in-Some-clause-makes g c =
    c.meet.ensures.makes
    ∙ look_makes ((g.P.Part.part c.args.domain.now.protocol).first + c.args.cell)
    c.args.seat.now c.see.new.seat c.see.result c.see.ensures.sights c.see.ensures.objects
    c.in-Some.sighted c.in-Some.is

pub returns-in-None-clause-looks : goal.returns-in-None-clause-looks
returns-in-None-clause-looks g c =
    λ short. null_by ((g.P.Part.part c.args.domain.now.protocol).first + c.args.cell)
    c.args.seat.now c.see.new.seat c.see.result c.see.ensures.sights c.see.ensures.objects c.in-None.is

pub returns-in-None-clause-leaves : goal.returns-in-None-clause-leaves
returns-in-None-clause-leaves g c =
    null_leaves ((g.P.Part.part c.args.domain.now.protocol).first + c.args.cell)
    c.args.seat.now c.see.new.seat c.see.result c.see.ensures.sights c.see.ensures.objects c.in-None.is

pub returns-in-None-clause-makes : goal.returns-in-None-clause-makes
returns-in-None-clause-makes g c =
    null_makes ((g.P.Part.part c.args.domain.now.protocol).first + c.args.cell)
    c.args.seat.now c.see.new.seat c.see.result c.see.ensures.sights c.see.ensures.objects c.in-None.is

pub returns-in-Some-clause-adds : goal.returns-in-Some-clause-adds
returns-in-Some-clause-adds g c =
    let saw = look_adds ((g.P.Part.part c.args.domain.now.protocol).first + c.args.cell)
    c.args.seat.now c.see.new.seat c.see.result c.see.ensures.sights c.see.ensures.objects
    c.in-Some.sighted c.in-Some.is in
    omega (arith, c.meet.ensures.adds, saw)

pub returns-in-None-clause-adds : goal.returns-in-None-clause-adds
returns-in-None-clause-adds g c =
    let saw = null_adds ((g.P.Part.part c.args.domain.now.protocol).first + c.args.cell)
    c.args.seat.now c.see.new.seat c.see.result c.see.ensures.sights c.see.ensures.objects
    c.in-None.is in
    omega (arith, saw)

pub returns-in-None-clause-null : goal.returns-in-None-clause-null
returns-in-None-clause-null g c =
    λ is. null_by ((g.P.Part.part c.args.domain.now.protocol).first + c.args.cell)
    c.args.seat.now c.see.new.seat c.see.result c.see.ensures.sights c.see.ensures.objects
    c.in-None.is

pub returns-in-Some-clause-null : goal.returns-in-Some-clause-null
returns-in-Some-clause-null g c = no_null c.meet.result c.meet.ensures.head
