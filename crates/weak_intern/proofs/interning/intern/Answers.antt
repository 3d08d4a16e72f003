use Rattle.weak_intern.proofs.Sights.{free_still}
use Rattle.std.proofs.Common.{ap, arith, inl, length, refl, ◌+◌, ◌∙◌}
use Rattle.std.specs.Prelude.{Ok}
use Rattle.record_making.specs.directory_calls.Directories.{area_of}
use Rattle.weak_intern.specs.Interning.{interned_by}
use Rattle.record_making.specs.directory_calls.Steps.{handle_by}
use Rattle.record_making.specs.Texts.{text_of}
use Rattle.record_making.proofs.Noted.{misses_after}
use Rattle.record_making.proofs.Below.record_texts_Packed.{is_text_of}
use Rattle.weak_intern.proofs.Heads.{sought_is}
use Rattle.weak_intern.proofs.Interned.{absent_learns, absent_leaves, absent_none, added_grows, added_leaves, added_none, all_interns, all_knows, answered_owned, walked_interns, walked_knows, walked_owned}
use Rattle.record_making.proofs.Below.directory_calls_Parts.{place_of}
use Rattle.std.specs.Int.{div_ceil}
use Rattle.atomic_weak.specs.core_events.declared.view.CoreView.{CoreView}
use Rattle.weak_intern.proofs.Races.{few_left, short_then}
use Rattle.weak_intern.proofs.interning.intern.Goals as goal

pub returns-in-Ok-Absent-clause-interns : goal.returns-in-Ok-Absent-clause-interns
returns-in-Ok-Absent-clause-interns g c =
    all_interns c.args.domain.now
    (place_of g.P.Part.seen g.P.Part.with_seen g.P.Part.reads g.P.Part.puts_back
    g.P.Part.puts_over)
    (area_of (g.P.Part.part c.args.domain.now.protocol)) c.args.text.now (text_of c.args.text.now)
    (is_text_of c.args.text.now c.requires.text.0 (omega (arith, c.requires.text.1)))
    c.args.seat.now c.seek.new.seat
    (absent_leaves c.args.domain.now
    (place_of g.P.Part.seen g.P.Part.with_seen g.P.Part.reads g.P.Part.puts_back
    g.P.Part.puts_over)
    (area_of (g.P.Part.part c.args.domain.now.protocol)) (text_of c.args.text.now)
    c.args.seat.now c.seek.new.seat c.seek.result c.in-Ok-Absent.passed
    (c.in-Ok-Absent.is ∙ ap Ok c.in-Ok-Absent.field-0-is)
    c.seek.ensures.leaves)
    (absent_learns c.args.domain.now
    (place_of g.P.Part.seen g.P.Part.with_seen g.P.Part.reads g.P.Part.puts_back
    g.P.Part.puts_over)
    (area_of (g.P.Part.part c.args.domain.now.protocol)) (text_of c.args.text.now)
    c.args.seat.now c.seek.new.seat c.seek.result c.in-Ok-Absent.passed
    (c.in-Ok-Absent.is ∙ ap Ok c.in-Ok-Absent.field-0-is)
    c.seek.ensures.learns)
    c.add.new.seat c.add.result c.add.ensures.places

pub returns-in-Ok-Absent-clause-none : goal.returns-in-Ok-Absent-clause-none
returns-in-Ok-Absent-clause-none g c = λ refused other.
    added_none c.args.domain.now
    (place_of g.P.Part.seen g.P.Part.with_seen g.P.Part.reads g.P.Part.puts_back
    g.P.Part.puts_over)
    (area_of (g.P.Part.part c.args.domain.now.protocol)) c.args.text.now (text_of c.args.text.now)
    (is_text_of c.args.text.now c.requires.text.0 (omega (arith, c.requires.text.1)))
    c.args.seat.now c.seek.new.seat
    (absent_leaves c.args.domain.now
    (place_of g.P.Part.seen g.P.Part.with_seen g.P.Part.reads g.P.Part.puts_back
    g.P.Part.puts_over)
    (area_of (g.P.Part.part c.args.domain.now.protocol)) (text_of c.args.text.now)
    c.args.seat.now c.seek.new.seat c.seek.result c.in-Ok-Absent.passed
    (c.in-Ok-Absent.is ∙ ap Ok c.in-Ok-Absent.field-0-is)
    c.seek.ensures.leaves)
    (absent_learns c.args.domain.now
    (place_of g.P.Part.seen g.P.Part.with_seen g.P.Part.reads g.P.Part.puts_back
    g.P.Part.puts_over)
    (area_of (g.P.Part.part c.args.domain.now.protocol)) (text_of c.args.text.now)
    c.args.seat.now c.seek.new.seat c.seek.result c.in-Ok-Absent.passed
    (c.in-Ok-Absent.is ∙ ap Ok c.in-Ok-Absent.field-0-is)
    c.seek.ensures.learns)
    c.add.new.seat
    (absent_none c.args.domain.now
    (place_of g.P.Part.seen g.P.Part.with_seen g.P.Part.reads g.P.Part.puts_back
    g.P.Part.puts_over)
    (area_of (g.P.Part.part c.args.domain.now.protocol)) (text_of c.args.text.now)
    c.args.seat.now c.seek.new.seat c.seek.result c.in-Ok-Absent.passed
    (c.in-Ok-Absent.is ∙ ap Ok c.in-Ok-Absent.field-0-is)
    c.seek.ensures.comes)
    c.add.ensures.leaves.goes

pub returns-in-Ok-Absent-clause-leaves : goal.returns-in-Ok-Absent-clause-leaves
returns-in-Ok-Absent-clause-leaves g c =
    added_leaves c.args.domain.now
    (place_of g.P.Part.seen g.P.Part.with_seen g.P.Part.reads g.P.Part.puts_back
    g.P.Part.puts_over)
    (area_of (g.P.Part.part c.args.domain.now.protocol)) c.args.text.now (text_of c.args.text.now)
    (is_text_of c.args.text.now c.requires.text.0 (omega (arith, c.requires.text.1)))
    c.args.seat.now c.seek.new.seat
    (absent_leaves c.args.domain.now
    (place_of g.P.Part.seen g.P.Part.with_seen g.P.Part.reads g.P.Part.puts_back
    g.P.Part.puts_over)
    (area_of (g.P.Part.part c.args.domain.now.protocol)) (text_of c.args.text.now)
    c.args.seat.now c.seek.new.seat c.seek.result c.in-Ok-Absent.passed
    (c.in-Ok-Absent.is ∙ ap Ok c.in-Ok-Absent.field-0-is)
    c.seek.ensures.leaves)
    (absent_learns c.args.domain.now
    (place_of g.P.Part.seen g.P.Part.with_seen g.P.Part.reads g.P.Part.puts_back
    g.P.Part.puts_over)
    (area_of (g.P.Part.part c.args.domain.now.protocol)) (text_of c.args.text.now)
    c.args.seat.now c.seek.new.seat c.seek.result c.in-Ok-Absent.passed
    (c.in-Ok-Absent.is ∙ ap Ok c.in-Ok-Absent.field-0-is)
    c.seek.ensures.learns)
    c.add.new.seat (handle_by c.add.result) c.add.ensures.leaves

pub returns-in-Ok-Absent-clause-grows : goal.returns-in-Ok-Absent-clause-grows
returns-in-Ok-Absent-clause-grows g c =
    added_grows c.args.domain.now
    (place_of g.P.Part.seen g.P.Part.with_seen g.P.Part.reads g.P.Part.puts_back
    g.P.Part.puts_over)
    (area_of (g.P.Part.part c.args.domain.now.protocol)) c.args.text.now (text_of c.args.text.now)
    (is_text_of c.args.text.now c.requires.text.0 (omega (arith, c.requires.text.1)))
    c.args.seat.now c.seek.new.seat
    (absent_leaves c.args.domain.now
    (place_of g.P.Part.seen g.P.Part.with_seen g.P.Part.reads g.P.Part.puts_back
    g.P.Part.puts_over)
    (area_of (g.P.Part.part c.args.domain.now.protocol)) (text_of c.args.text.now)
    c.args.seat.now c.seek.new.seat c.seek.result c.in-Ok-Absent.passed
    (c.in-Ok-Absent.is ∙ ap Ok c.in-Ok-Absent.field-0-is)
    c.seek.ensures.leaves)
    (absent_learns c.args.domain.now
    (place_of g.P.Part.seen g.P.Part.with_seen g.P.Part.reads g.P.Part.puts_back
    g.P.Part.puts_over)
    (area_of (g.P.Part.part c.args.domain.now.protocol)) (text_of c.args.text.now)
    c.args.seat.now c.seek.new.seat c.seek.result c.in-Ok-Absent.passed
    (c.in-Ok-Absent.is ∙ ap Ok c.in-Ok-Absent.field-0-is)
    c.seek.ensures.learns)
    c.add.new.seat (interned_by c.add.result) c.add.ensures.grows

pub seek-requires-clause-sought : goal.seek-requires-clause-sought
seek-requires-clause-sought g c =
    sought_is c.args.text.now c.head_of.result c.hash_of.result
    (λ i. omega (arith, c.type_inv.text i)) c.requires.text.0 (omega (arith, c.requires.text.1))
    c.head_of.ensures c.hash_of.ensures.hash c.hash_of.ensures.small

pub returns-in-Ok-Absent-clause-knows : goal.returns-in-Ok-Absent-clause-knows
returns-in-Ok-Absent-clause-knows g c =
    all_knows g.P.Part.seen c.args.text.now (text_of c.args.text.now)
    (is_text_of c.args.text.now c.requires.text.0 (omega (arith, c.requires.text.1)))
    c.add.new.seat c.add.result c.add.ensures.knows

pub returns-in-Ok-Absent-clause-full : goal.returns-in-Ok-Absent-clause-full
returns-in-Ok-Absent-clause-full g c told =
    misses_after g.P.Kind.PayloadKind.fits c.args.domain.now c.args.seat.now c.seek.new.seat
    c.add.new.seat
    (absent_leaves c.args.domain.now
    (place_of g.P.Part.seen g.P.Part.with_seen g.P.Part.reads g.P.Part.puts_back
    g.P.Part.puts_over)
    (area_of (g.P.Part.part c.args.domain.now.protocol)) (text_of c.args.text.now)
    c.args.seat.now c.seek.new.seat c.seek.result c.in-Ok-Absent.passed
    (c.in-Ok-Absent.is ∙ ap Ok c.in-Ok-Absent.field-0-is)
    c.seek.ensures.leaves).goes
    (c.add.ensures.full told)

pub add-requires-clause-sought : goal.add-requires-clause-sought
add-requires-clause-sought g c =
    sought_is c.args.text.now c.head_of.result c.hash_of.result
    (λ i. omega (arith, c.type_inv.text i)) c.requires.text.0 (omega (arith, c.requires.text.1))
    c.head_of.ensures c.hash_of.ensures.hash c.hash_of.ensures.small

pub returns-in-Ok-Record-clause-interns : goal.returns-in-Ok-Record-clause-interns
returns-in-Ok-Record-clause-interns g c =
    walked_interns c.args.domain.now g.P.Part.seen (area_of (g.P.Part.part
    c.args.domain.now.protocol))
    c.args.text.now (text_of c.args.text.now)
    (is_text_of c.args.text.now c.requires.text.0 (omega (arith, c.requires.text.1)))
    c.args.seat.now c.seek.new.seat c.seek.result c.in-Ok-Record.strong
    (c.in-Ok-Record.is ∙ ap Ok c.in-Ok-Record.field-0-is) c.seek.ensures.comes

pub returns-in-Ok-Record-clause-knows : goal.returns-in-Ok-Record-clause-knows
returns-in-Ok-Record-clause-knows g c =
    walked_knows c.args.domain.now g.P.Part.seen (area_of (g.P.Part.part
    c.args.domain.now.protocol))
    c.args.text.now (text_of c.args.text.now)
    (is_text_of c.args.text.now c.requires.text.0 (omega (arith, c.requires.text.1)))
    c.args.seat.now c.seek.new.seat c.seek.result c.in-Ok-Record.strong
    (c.in-Ok-Record.is ∙ ap Ok c.in-Ok-Record.field-0-is) c.seek.ensures.comes

pub returns-in-Ok-Record-clause-owned : goal.returns-in-Ok-Record-clause-owned
returns-in-Ok-Record-clause-owned g c =
    walked_owned c.args.domain.now g.P.Part.seen (area_of (g.P.Part.part
    c.args.domain.now.protocol))
    c.args.text.now (text_of c.args.text.now)
    (is_text_of c.args.text.now c.requires.text.0 (omega (arith, c.requires.text.1)))
    c.args.seat.now c.seek.new.seat c.seek.result c.in-Ok-Record.strong
    (c.in-Ok-Record.is ∙ ap Ok c.in-Ok-Record.field-0-is) c.seek.ensures.leaves

pub returns-in-Ok-Absent-clause-owned : goal.returns-in-Ok-Absent-clause-owned
returns-in-Ok-Absent-clause-owned g c =
    answered_owned c.add.result c.seek.new.seat c.add.new.seat c.add.ensures.leaves

pub returns-in-Ok-Absent-clause-makes : goal.returns-in-Ok-Absent-clause-makes
returns-in-Ok-Absent-clause-makes g c =
    omega (arith, c.seek.ensures.makes, c.add.ensures.makes)

pub returns-in-Ok-Record-clause-makes : goal.returns-in-Ok-Record-clause-makes
returns-in-Ok-Record-clause-makes g c =
    omega (arith, c.seek.ensures.makes)

pub returns-in-Err-clause-makes : goal.returns-in-Err-clause-makes
returns-in-Err-clause-makes g c =
    omega (arith, c.seek.ensures.makes)

pub add-requires-clause-free : goal.add-requires-clause-free
add-requires-clause-free g c =
    free_still c.args.seat.now c.seek.new.seat c.seek.ensures.leaves.same c.requires.free

pub returns-in-Err-clause-short : goal.returns-in-Err-clause-short
returns-in-Err-clause-short g c told =
    inl (few_left _ c.args.seat.now.view.core c.seek.new.seat.view.core
    (c.in-Err.ensures.spent refl) (ap (λ (v : CoreView). v.quota) c.in-Err.ensures.leaves.same)
    (omega (arith, c.seek.ensures.adds)))

pub returns-in-Ok-Absent-clause-short : goal.returns-in-Ok-Absent-clause-short
returns-in-Ok-Absent-clause-short g c told =
    short_then (c.args.directory.now.cells + div_ceil (length c.args.text.now) 120)
    c.args.directory.now.cells _ c.args.seat.now.view.core c.seek.new.seat.view.core
    c.add.new.seat.view.core (omega arith) c.in-Ok-Absent.ensures.leaves.goes
    (ap (λ (v : CoreView). v.quota) c.in-Ok-Absent.ensures.leaves.same) c.seek.ensures.adds
    (c.add.ensures.short told)
