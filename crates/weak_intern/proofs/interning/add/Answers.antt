use Rattle.weak_intern.proofs.Sights.{free_still}
use Rattle.std.proofs.Common.{ap, arith, inl, length, refl, ◌∙◌, Some, None}
use Rattle.std.specs.Prelude.{Ok}
use Rattle.record_making.specs.directory_calls.Directories.{area_of}
use Rattle.record_making.specs.Texts.{text_of}
use Rattle.record_making.proofs.Noted.{on_err, same_refusal}
use Rattle.record_making.proofs.Dropped.{dropped, makes_still}
use Rattle.weak_intern.proofs.Added.{dropped_known, dropped_leaves, dropped_places, err_grows, err_leaves, found_some, is_err, knows_still, noted_made, ok_grows, ok_leaves, ok_places, owned_then, passed_made, placed_knows, quota_made, refused_grows}
use Rattle.record_making.proofs.Below.directory_calls_Parts.{place_of}
use Rattle.weak_intern.proofs.Placed.{grows_as}
use Rattle.std.specs.Int.{div_ceil}
use Rattle.atomic_weak.specs.core_events.declared.view.CoreView.{CoreView}
use Rattle.weak_intern.proofs.Races.{few_left, short_on, short_then}
use Rattle.weak_intern.proofs.interning.add.Goals as goal

pub place-requires-clause-quota : goal.place-requires-clause-quota
place-requires-clause-quota g c =
    quota_made c.args.domain.now
    (place_of g.P.Part.seen g.P.Part.with_seen g.P.Part.reads g.P.Part.puts_back
    g.P.Part.puts_over)
    (area_of (g.P.Part.part c.args.domain.now.protocol)) (text_of c.args.sought.now.text.now)
    c.in_ok-candidate.candidate.slot c.args.seat.now c.make_record.new.seat
    c.in_ok-candidate.ensures.leaves c.in_ok-candidate.ensures.noted
    c.requires.quota

pub place-requires-clause-passed : goal.place-requires-clause-passed
place-requires-clause-passed g c =
    passed_made c.args.domain.now
    (place_of g.P.Part.seen g.P.Part.with_seen g.P.Part.reads g.P.Part.puts_back
    g.P.Part.puts_over)
    (area_of (g.P.Part.part c.args.domain.now.protocol)) (text_of c.args.sought.now.text.now)
    c.in_ok-candidate.candidate.slot c.args.seat.now c.make_record.new.seat
    c.in_ok-candidate.ensures.leaves c.in_ok-candidate.ensures.noted
    c.args.passed c.requires.passed

pub place-requires-clause-noted : goal.place-requires-clause-noted
place-requires-clause-noted g c =
    noted_made c.args.domain.now
    (place_of g.P.Part.seen g.P.Part.with_seen g.P.Part.reads g.P.Part.puts_back
    g.P.Part.puts_over)
    (area_of (g.P.Part.part c.args.domain.now.protocol)) (text_of c.args.sought.now.text.now)
    c.in_ok-candidate.candidate.slot c.args.seat.now c.make_record.new.seat
    c.in_ok-candidate.ensures.leaves c.in_ok-candidate.ensures.noted

pub drop_strong-requires-clause-owned : goal.drop_strong-requires-clause-owned
drop_strong-requires-clause-owned g c =
    owned_then c.args.domain.now
    (place_of g.P.Part.seen g.P.Part.with_seen g.P.Part.reads g.P.Part.puts_back
    g.P.Part.puts_over)
    (area_of (g.P.Part.part c.args.domain.now.protocol)) (text_of c.args.sought.now.text.now)
    c.in_ok-candidate.candidate.slot c.args.seat.now c.make_record.new.seat
    c.in_ok-candidate.ensures.leaves c.in_ok-candidate.ensures.noted
    c.place.new.seat (Some c.in-Ok-Some.strong.slot)
    (ok_leaves c.args.domain.now
    (place_of g.P.Part.seen g.P.Part.with_seen g.P.Part.reads g.P.Part.puts_back
    g.P.Part.puts_over)
    (area_of (g.P.Part.part c.args.domain.now.protocol)) (text_of c.args.sought.now.text.now)
    c.in_ok-candidate.candidate.slot c.args.seat.now c.make_record.new.seat
    c.in_ok-candidate.ensures.leaves c.in_ok-candidate.ensures.noted
    c.place.new.seat c.place.result (Some c.in-Ok-Some.strong)
    (c.in-Ok-Some.is ∙ ap Ok c.in-Ok-Some.field-0-is) c.place.ensures.leaves)

pub returns-in-Ok-None-clause-places : goal.returns-in-Ok-None-clause-places
returns-in-Ok-None-clause-places g c =
    ok_places c.args.domain.now
    (place_of g.P.Part.seen g.P.Part.with_seen g.P.Part.reads g.P.Part.puts_back
    g.P.Part.puts_over)
    (area_of (g.P.Part.part c.args.domain.now.protocol)) (text_of c.args.sought.now.text.now)
    c.in_ok-candidate.candidate.slot c.args.seat.now c.make_record.new.seat
    c.in_ok-candidate.ensures.leaves c.in_ok-candidate.ensures.noted
    c.place.new.seat c.place.result None (c.in-Ok-None.is ∙ ap Ok c.in-Ok-None.field-0-is)
    c.place.ensures.places

pub returns-in-Ok-None-clause-leaves : goal.returns-in-Ok-None-clause-leaves
returns-in-Ok-None-clause-leaves g c =
    ok_leaves c.args.domain.now
    (place_of g.P.Part.seen g.P.Part.with_seen g.P.Part.reads g.P.Part.puts_back
    g.P.Part.puts_over)
    (area_of (g.P.Part.part c.args.domain.now.protocol)) (text_of c.args.sought.now.text.now)
    c.in_ok-candidate.candidate.slot c.args.seat.now c.make_record.new.seat
    c.in_ok-candidate.ensures.leaves c.in_ok-candidate.ensures.noted
    c.place.new.seat c.place.result None (c.in-Ok-None.is ∙ ap Ok c.in-Ok-None.field-0-is)
    c.place.ensures.leaves

pub returns-in-Ok-None-clause-grows : goal.returns-in-Ok-None-clause-grows
returns-in-Ok-None-clause-grows g c =
    ok_grows c.args.domain.now
    (place_of g.P.Part.seen g.P.Part.with_seen g.P.Part.reads g.P.Part.puts_back
    g.P.Part.puts_over)
    (area_of (g.P.Part.part c.args.domain.now.protocol)) (text_of c.args.sought.now.text.now)
    c.in_ok-candidate.candidate.slot c.args.seat.now c.make_record.new.seat
    c.in_ok-candidate.ensures.leaves c.in_ok-candidate.ensures.noted
    c.place.new.seat c.place.result None (c.in-Ok-None.is ∙ ap Ok c.in-Ok-None.field-0-is)
    c.place.ensures.grows

pub returns-in-Ok-Some-clause-places : goal.returns-in-Ok-Some-clause-places
returns-in-Ok-Some-clause-places g c =
    dropped_places c.args.domain.now
    (place_of g.P.Part.seen g.P.Part.with_seen g.P.Part.reads g.P.Part.puts_back
    g.P.Part.puts_over)
    (area_of (g.P.Part.part c.args.domain.now.protocol)) (text_of c.args.sought.now.text.now)
    c.in_ok-candidate.candidate.slot c.args.seat.now c.make_record.new.seat
    c.in_ok-candidate.ensures.leaves c.in_ok-candidate.ensures.noted
    c.place.new.seat c.drop_strong.new.seat (Some c.in-Ok-Some.strong.slot)
    (ok_leaves c.args.domain.now
    (place_of g.P.Part.seen g.P.Part.with_seen g.P.Part.reads g.P.Part.puts_back
    g.P.Part.puts_over)
    (area_of (g.P.Part.part c.args.domain.now.protocol)) (text_of c.args.sought.now.text.now)
    c.in_ok-candidate.candidate.slot c.args.seat.now c.make_record.new.seat
    c.in_ok-candidate.ensures.leaves c.in_ok-candidate.ensures.noted
    c.place.new.seat c.place.result (Some c.in-Ok-Some.strong)
    (c.in-Ok-Some.is ∙ ap Ok c.in-Ok-Some.field-0-is) c.place.ensures.leaves)
    (dropped c.place.new.seat c.drop_strong.new.seat c.in_ok-candidate.candidate.slot
    g.P.Kind.PayloadKind.fits c.args.domain.now c.drop_strong.ensures.dropped
    c.drop_strong.ensures.objects)
    c.in-Ok-Some.strong.slot
    (ok_places c.args.domain.now
    (place_of g.P.Part.seen g.P.Part.with_seen g.P.Part.reads g.P.Part.puts_back
    g.P.Part.puts_over)
    (area_of (g.P.Part.part c.args.domain.now.protocol)) (text_of c.args.sought.now.text.now)
    c.in_ok-candidate.candidate.slot c.args.seat.now c.make_record.new.seat
    c.in_ok-candidate.ensures.leaves c.in_ok-candidate.ensures.noted
    c.place.new.seat c.place.result (Some c.in-Ok-Some.strong)
    (c.in-Ok-Some.is ∙ ap Ok c.in-Ok-Some.field-0-is) c.place.ensures.places)

pub returns-in-Ok-Some-clause-leaves : goal.returns-in-Ok-Some-clause-leaves
returns-in-Ok-Some-clause-leaves g c =
    dropped_leaves c.args.domain.now
    (place_of g.P.Part.seen g.P.Part.with_seen g.P.Part.reads g.P.Part.puts_back
    g.P.Part.puts_over)
    (area_of (g.P.Part.part c.args.domain.now.protocol)) (text_of c.args.sought.now.text.now)
    c.in_ok-candidate.candidate.slot c.args.seat.now c.make_record.new.seat
    c.in_ok-candidate.ensures.leaves c.in_ok-candidate.ensures.noted
    c.place.new.seat c.drop_strong.new.seat (Some c.in-Ok-Some.strong.slot)
    (ok_leaves c.args.domain.now
    (place_of g.P.Part.seen g.P.Part.with_seen g.P.Part.reads g.P.Part.puts_back
    g.P.Part.puts_over)
    (area_of (g.P.Part.part c.args.domain.now.protocol)) (text_of c.args.sought.now.text.now)
    c.in_ok-candidate.candidate.slot c.args.seat.now c.make_record.new.seat
    c.in_ok-candidate.ensures.leaves c.in_ok-candidate.ensures.noted
    c.place.new.seat c.place.result (Some c.in-Ok-Some.strong)
    (c.in-Ok-Some.is ∙ ap Ok c.in-Ok-Some.field-0-is) c.place.ensures.leaves)
    (dropped c.place.new.seat c.drop_strong.new.seat c.in_ok-candidate.candidate.slot
    g.P.Kind.PayloadKind.fits c.args.domain.now c.drop_strong.ensures.dropped
    c.drop_strong.ensures.objects)

pub returns-in-Ok-Some-clause-grows : goal.returns-in-Ok-Some-clause-grows
returns-in-Ok-Some-clause-grows g c =
    grows_as (place_of g.P.Part.seen g.P.Part.with_seen g.P.Part.reads g.P.Part.puts_back
    g.P.Part.puts_over) 1 c.args.seat.now.view.client c.place.new.seat.view.client
    c.drop_strong.new.seat.view.client c.drop_strong.ensures.client
    (ok_grows c.args.domain.now
    (place_of g.P.Part.seen g.P.Part.with_seen g.P.Part.reads g.P.Part.puts_back
    g.P.Part.puts_over)
    (area_of (g.P.Part.part c.args.domain.now.protocol)) (text_of c.args.sought.now.text.now)
    c.in_ok-candidate.candidate.slot c.args.seat.now c.make_record.new.seat
    c.in_ok-candidate.ensures.leaves c.in_ok-candidate.ensures.noted
    c.place.new.seat c.place.result (Some c.in-Ok-Some.strong)
    (c.in-Ok-Some.is ∙ ap Ok c.in-Ok-Some.field-0-is) c.place.ensures.grows)

pub returns-in-Err-clause-leaves : goal.returns-in-Err-clause-leaves
returns-in-Err-clause-leaves g c =
    dropped_leaves c.args.domain.now
    (place_of g.P.Part.seen g.P.Part.with_seen g.P.Part.reads g.P.Part.puts_back
    g.P.Part.puts_over)
    (area_of (g.P.Part.part c.args.domain.now.protocol)) (text_of c.args.sought.now.text.now)
    c.in_ok-candidate.candidate.slot c.args.seat.now c.make_record.new.seat
    c.in_ok-candidate.ensures.leaves c.in_ok-candidate.ensures.noted
    c.place.new.seat c.drop_strong-in-Err.new.seat None
    (err_leaves c.args.domain.now
    (place_of g.P.Part.seen g.P.Part.with_seen g.P.Part.reads g.P.Part.puts_back
    g.P.Part.puts_over)
    (area_of (g.P.Part.part c.args.domain.now.protocol)) (text_of c.args.sought.now.text.now)
    c.in_ok-candidate.candidate.slot c.args.seat.now c.make_record.new.seat
    c.in_ok-candidate.ensures.leaves c.in_ok-candidate.ensures.noted
    c.place.new.seat c.place.result c.in-Err.field-0 c.in-Err.is c.place.ensures.leaves)
    (dropped c.place.new.seat c.drop_strong-in-Err.new.seat c.in_ok-candidate.candidate.slot
    g.P.Kind.PayloadKind.fits c.args.domain.now c.drop_strong-in-Err.ensures.dropped
    c.drop_strong-in-Err.ensures.objects)

pub returns-in-Err-clause-grows : goal.returns-in-Err-clause-grows
returns-in-Err-clause-grows g c =
    grows_as (place_of g.P.Part.seen g.P.Part.with_seen g.P.Part.reads g.P.Part.puts_back
    g.P.Part.puts_over) 0 c.args.seat.now.view.client c.place.new.seat.view.client
    c.drop_strong-in-Err.new.seat.view.client c.drop_strong-in-Err.ensures.client
    (err_grows c.args.domain.now
    (place_of g.P.Part.seen g.P.Part.with_seen g.P.Part.reads g.P.Part.puts_back
    g.P.Part.puts_over)
    (area_of (g.P.Part.part c.args.domain.now.protocol)) (text_of c.args.sought.now.text.now)
    c.in_ok-candidate.candidate.slot c.args.seat.now c.make_record.new.seat
    c.in_ok-candidate.ensures.leaves c.in_ok-candidate.ensures.noted
    c.place.new.seat c.place.result c.in-Err.field-0 c.in-Err.is c.place.ensures.grows)

pub returns-in_err-candidate-clause-full : goal.returns-in_err-candidate-clause-full
returns-in_err-candidate-clause-full g c told =
    c.in_err-candidate.ensures.full (same_refusal _ _ _ c.from_residual.ensures.1 told)

pub returns-in_err-candidate-clause-grows : goal.returns-in_err-candidate-clause-grows
returns-in_err-candidate-clause-grows g c =
    refused_grows (place_of g.P.Part.seen g.P.Part.with_seen g.P.Part.reads g.P.Part.puts_back
    g.P.Part.puts_over)
    c.from_residual.result c.args.seat.now c.make_record.new.seat
    (is_err _ c.from_residual.result c.from_residual.ensures.1)
    (on_err c.from_residual.result c.in_err-candidate.ensures.client)

pub returns-in-Ok-None-clause-knows : goal.returns-in-Ok-None-clause-knows
returns-in-Ok-None-clause-knows g c =
    placed_knows g.P.Part.seen c.in_ok-candidate.candidate.slot (text_of c.args.sought.now.text.now)
    c.place.new.seat c.place.result None (c.in-Ok-None.is ∙ ap Ok c.in-Ok-None.field-0-is)
    c.place.ensures.knows

pub returns-in-Ok-Some-clause-knows : goal.returns-in-Ok-Some-clause-knows
returns-in-Ok-Some-clause-knows g c =
    knows_still g.P.Part.seen c.in-Ok-Some.strong.slot (text_of c.args.sought.now.text.now)
    c.place.new.seat c.drop_strong.new.seat c.drop_strong.ensures.client
    (dropped_known c.args.domain.now
    (place_of g.P.Part.seen g.P.Part.with_seen g.P.Part.reads g.P.Part.puts_back
    g.P.Part.puts_over)
    (area_of (g.P.Part.part c.args.domain.now.protocol)) (text_of c.args.sought.now.text.now)
    c.in_ok-candidate.candidate.slot c.args.seat.now c.make_record.new.seat
    c.in_ok-candidate.ensures.leaves c.in_ok-candidate.ensures.noted
    c.place.new.seat c.drop_strong.new.seat (Some c.in-Ok-Some.strong.slot)
    (ok_leaves c.args.domain.now
    (place_of g.P.Part.seen g.P.Part.with_seen g.P.Part.reads g.P.Part.puts_back
    g.P.Part.puts_over)
    (area_of (g.P.Part.part c.args.domain.now.protocol)) (text_of c.args.sought.now.text.now)
    c.in_ok-candidate.candidate.slot c.args.seat.now c.make_record.new.seat
    c.in_ok-candidate.ensures.leaves c.in_ok-candidate.ensures.noted
    c.place.new.seat c.place.result (Some c.in-Ok-Some.strong)
    (c.in-Ok-Some.is ∙ ap Ok c.in-Ok-Some.field-0-is) c.place.ensures.leaves)
    (dropped c.place.new.seat c.drop_strong.new.seat c.in_ok-candidate.candidate.slot
    g.P.Kind.PayloadKind.fits c.args.domain.now c.drop_strong.ensures.dropped
    c.drop_strong.ensures.objects)
    c.in-Ok-Some.strong.slot (found_some c.in-Ok-Some.strong.slot c.args.seat.now.view.core.owned))
    (placed_knows g.P.Part.seen c.in_ok-candidate.candidate.slot (text_of
    c.args.sought.now.text.now)
    c.place.new.seat c.place.result (Some c.in-Ok-Some.strong)
    (c.in-Ok-Some.is ∙ ap Ok c.in-Ok-Some.field-0-is) c.place.ensures.knows)

pub returns-in_err-candidate-clause-makes : goal.returns-in_err-candidate-clause-makes
returns-in_err-candidate-clause-makes g c =
    c.make_record.ensures.makes

pub returns-in-Ok-None-clause-makes : goal.returns-in-Ok-None-clause-makes
returns-in-Ok-None-clause-makes g c =
    omega (arith, c.make_record.ensures.makes, c.place.ensures.makes)

pub returns-in-Ok-Some-clause-makes : goal.returns-in-Ok-Some-clause-makes
returns-in-Ok-Some-clause-makes g c =
    omega (
      arith,
      c.make_record.ensures.makes,
      c.place.ensures.makes,
      makes_still c.place.new.seat c.drop_strong.new.seat c.in_ok-candidate.candidate.slot
          g.P.Kind.PayloadKind.fits c.args.domain.now c.drop_strong.ensures.dropped,
    )

pub returns-in-Err-clause-makes : goal.returns-in-Err-clause-makes
returns-in-Err-clause-makes g c =
    omega (
      arith,
      c.make_record.ensures.makes,
      c.place.ensures.makes,
      makes_still c.place.new.seat c.drop_strong-in-Err.new.seat c.in_ok-candidate.candidate.slot
          g.P.Kind.PayloadKind.fits c.args.domain.now c.drop_strong-in-Err.ensures.dropped,
    )

pub place-requires-clause-free : goal.place-requires-clause-free
place-requires-clause-free g c =
    free_still c.args.seat.now c.make_record.new.seat c.in_ok-candidate.ensures.leaves.same
    c.requires.free

pub returns-in_err-candidate-clause-short : goal.returns-in_err-candidate-clause-short
returns-in_err-candidate-clause-short g c told =
    inl (few_left _ c.args.seat.now.view.core c.make_record.new.seat.view.core
    (c.in_err-candidate.ensures.adds (same_refusal _ _ _ c.from_residual.ensures.1 told))
    (ap (λ (v : CoreView). v.quota) c.in_err-candidate.ensures.leaves.same)
    (omega (arith, c.make_record.ensures.used, c.make_record.ensures.makes)))

pub returns-in-Err-clause-short : goal.returns-in-Err-clause-short
returns-in-Err-clause-short g c told =
    short_on _ c.args.seat.now.view.core c.place.new.seat.view.core
    c.drop_strong-in-Err.new.seat.view.core
    (short_then c.args.directory.now.cells (div_ceil (length c.args.sought.now.text.now) 120) _
    c.args.seat.now.view.core c.make_record.new.seat.view.core c.place.new.seat.view.core
    (omega arith) c.in_ok-candidate.ensures.leaves.goes
    (ap (λ (v : CoreView). v.quota) c.in_ok-candidate.ensures.leaves.same)
    (omega (arith, c.make_record.ensures.used, c.make_record.ensures.makes))
    (c.in-Err.ensures.short refl))
    (dropped c.place.new.seat c.drop_strong-in-Err.new.seat c.in_ok-candidate.candidate.slot
    g.P.Kind.PayloadKind.fits c.args.domain.now c.drop_strong-in-Err.ensures.dropped
    c.drop_strong-in-Err.ensures.objects).goes
