use Rattle.std.proofs.Common.{sym, subst, ◌∙◌, ◌<◌, arith}
use Rattle.record_making.specs.directory_calls.Directories.{area_of}
use Rattle.record_making.proofs.Below.directory_calls_Parts.{place_of}
use Rattle.text_reading.proofs.Below.snapshot_ptr_Under.{least_is_free}
use Rattle.weak_intern.proofs.Seen.{after_found, after_null, ready}
use Rattle.weak_intern.proofs.seeing.see.Goals as goal

pub acquire_at_last-requires-clause-note : goal.acquire_at_last-requires-clause-note
acquire_at_last-requires-clause-note g c =
    (least_is_free c.args.seat.now.view.core c.in-Some.word
    (sym c.free_note.ensures ∙ c.in-Some.is)).1

pub acquire_at_last-requires-clause-free : goal.acquire_at_last-requires-clause-free
acquire_at_last-requires-clause-free g c =
    (least_is_free c.args.seat.now.view.core c.in-Some.word
    (sym c.free_note.ensures ∙ c.in-Some.is)).2

pub acquire_at_last-requires-clause-deed : goal.acquire_at_last-requires-clause-deed
acquire_at_last-requires-clause-deed g c =
    ready g.P.Kind.PayloadKind.fits c.args.domain.now
    (place_of g.P.Part.seen g.P.Part.with_seen g.P.Part.reads g.P.Part.puts_back
    g.P.Part.puts_over)
    (area_of (g.P.Part.part c.args.domain.now.protocol)) c.number-at.result c.args.cell
    c.number-at.ensures.is c.in-Some.word c.args.seat.now
    _ _ _ (g.met.P.Part.frees c.args.domain.now.protocol)
    (g.met.P.HasDirectory.minds_none c.args.domain.now.protocol)
    (subst (λ n. c.args.cell < n) c.requires.over.cells c.requires.inside)

pub returns-in-Some-acquire_at_last-clause-sees : goal.returns-in-Some-acquire_at_last-clause-sees
returns-in-Some-acquire_at_last-clause-sees g c =
    (after_found g.P.Kind.PayloadKind.fits c.args.domain.now
    (place_of g.P.Part.seen g.P.Part.with_seen g.P.Part.reads g.P.Part.puts_back
    g.P.Part.puts_over)
    (area_of (g.P.Part.part c.args.domain.now.protocol)) c.number-at.result c.args.cell
    c.number-at.ensures.is c.in-Some.word c.args.seat.now
    c.requires.rest (least_is_free c.args.seat.now.view.core c.in-Some.word
    (sym c.free_note.ensures ∙ c.in-Some.is)) (sym c.free_note.ensures ∙ c.in-Some.is)
    c.acquire_at_last.new.seat c.acquire_at_last.result
    c.in-Some-acquire_at_last.slot c.in-Some-acquire_at_last.is
    c.acquire_at_last.ensures.acquired).0

pub returns-in-Some-acquire_at_last-clause-sights : goal.returns-in-Some-acquire_at_last-clause-sights
returns-in-Some-acquire_at_last-clause-sights g c =
    (after_found g.P.Kind.PayloadKind.fits c.args.domain.now
    (place_of g.P.Part.seen g.P.Part.with_seen g.P.Part.reads g.P.Part.puts_back
    g.P.Part.puts_over)
    (area_of (g.P.Part.part c.args.domain.now.protocol)) c.number-at.result c.args.cell
    c.number-at.ensures.is c.in-Some.word c.args.seat.now
    c.requires.rest (least_is_free c.args.seat.now.view.core c.in-Some.word
    (sym c.free_note.ensures ∙ c.in-Some.is)) (sym c.free_note.ensures ∙ c.in-Some.is)
    c.acquire_at_last.new.seat c.acquire_at_last.result
    c.in-Some-acquire_at_last.slot c.in-Some-acquire_at_last.is
    c.acquire_at_last.ensures.acquired).1

pub returns-in-Some-acquire_at_last-clause-learns : goal.returns-in-Some-acquire_at_last-clause-learns
returns-in-Some-acquire_at_last-clause-learns g c =
    (after_found g.P.Kind.PayloadKind.fits c.args.domain.now
    (place_of g.P.Part.seen g.P.Part.with_seen g.P.Part.reads g.P.Part.puts_back
    g.P.Part.puts_over)
    (area_of (g.P.Part.part c.args.domain.now.protocol)) c.number-at.result c.args.cell
    c.number-at.ensures.is c.in-Some.word c.args.seat.now
    c.requires.rest (least_is_free c.args.seat.now.view.core c.in-Some.word
    (sym c.free_note.ensures ∙ c.in-Some.is)) (sym c.free_note.ensures ∙ c.in-Some.is)
    c.acquire_at_last.new.seat c.acquire_at_last.result
    c.in-Some-acquire_at_last.slot c.in-Some-acquire_at_last.is
    c.acquire_at_last.ensures.acquired).2

pub returns-in-None-clause-sees : goal.returns-in-None-clause-sees
returns-in-None-clause-sees g c =
    (after_null g.P.Kind.PayloadKind.fits c.args.domain.now
    (place_of g.P.Part.seen g.P.Part.with_seen g.P.Part.reads g.P.Part.puts_back
    g.P.Part.puts_over)
    (area_of (g.P.Part.part c.args.domain.now.protocol)) c.number-at.result c.args.cell
    c.number-at.ensures.is c.in-Some.word c.args.seat.now
    c.requires.rest (least_is_free c.args.seat.now.view.core c.in-Some.word
    (sym c.free_note.ensures ∙ c.in-Some.is))
    c.acquire_at_last.new.seat c.acquire_at_last.result c.in-None.is
    c.acquire_at_last.ensures.acquired).0

pub returns-in-None-clause-sights : goal.returns-in-None-clause-sights
returns-in-None-clause-sights g c =
    (after_null g.P.Kind.PayloadKind.fits c.args.domain.now
    (place_of g.P.Part.seen g.P.Part.with_seen g.P.Part.reads g.P.Part.puts_back
    g.P.Part.puts_over)
    (area_of (g.P.Part.part c.args.domain.now.protocol)) c.number-at.result c.args.cell
    c.number-at.ensures.is c.in-Some.word c.args.seat.now
    c.requires.rest (least_is_free c.args.seat.now.view.core c.in-Some.word
    (sym c.free_note.ensures ∙ c.in-Some.is))
    c.acquire_at_last.new.seat c.acquire_at_last.result c.in-None.is
    c.acquire_at_last.ensures.acquired).1

pub returns-in-None-clause-learns : goal.returns-in-None-clause-learns
returns-in-None-clause-learns g c =
    (after_null g.P.Kind.PayloadKind.fits c.args.domain.now
    (place_of g.P.Part.seen g.P.Part.with_seen g.P.Part.reads g.P.Part.puts_back
    g.P.Part.puts_over)
    (area_of (g.P.Part.part c.args.domain.now.protocol)) c.number-at.result c.args.cell
    c.number-at.ensures.is c.in-Some.word c.args.seat.now
    c.requires.rest (least_is_free c.args.seat.now.view.core c.in-Some.word
    (sym c.free_note.ensures ∙ c.in-Some.is))
    c.acquire_at_last.new.seat c.acquire_at_last.result c.in-None.is
    c.acquire_at_last.ensures.acquired).2

pub returns-in-Some-acquire_at_last-clause-rest : goal.returns-in-Some-acquire_at_last-clause-rest
returns-in-Some-acquire_at_last-clause-rest g c =
    let free = least_is_free c.args.seat.now.view.core c.in-Some.word
    (sym c.free_note.ensures ∙ c.in-Some.is) in
    c.acquire_at_last.ensures.rest (λ slot is zero. omega (arith, zero, free.0))
