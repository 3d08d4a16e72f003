use Rattle.std.proofs.Common.{◌∙◌, arith, subst, sym}
use Rattle.record_making.specs.directory_calls.Directories.{area_of}
use Rattle.record_making.proofs.Below.directory_law_Bytes.{text_is}
use Rattle.record_making.specs.Texts.{text_of}
use Rattle.weak_intern.specs.Races.{MissesCell}
use Rattle.weak_intern.proofs.Bound.{bound_after, bound_client, bound_leaves, bound_makes, lost_client, lost_leaves, lost_makes, lost_misses, ready}
use Rattle.record_making.proofs.Below.directory_calls_Parts.{place_of}
use Rattle.weak_intern.proofs.binding.bind.Goals as goal

pub try_replace_weak-requires-clause-deed : goal.try_replace_weak-requires-clause-deed
try_replace_weak-requires-clause-deed g c =
    ready g.P.Kind.PayloadKind.fits c.args.domain.now
    (place_of g.P.Part.seen g.P.Part.with_seen g.P.Part.reads g.P.Part.puts_back
    g.P.Part.puts_over)
    (area_of (g.P.Part.part c.args.domain.now.protocol)) (text_of c.args.sought.now.text.now)
    c.args.candidate.now.slot c.in_ok-weak.weak.slot c.in_ok-weak.ensures.gained.0
    c.args.seat.now c.weaken.new.seat c.in_ok-weak.ensures.gained.1 c.weaken.ensures.client
    c.weaken.ensures.objects c.requires.owned c.requires.noted _ _ _
    (g.met.P.Part.frees c.args.domain.now.protocol)
    (g.met.P.HasDirectory.minds_none c.args.domain.now.protocol)
    c.number-at.result c.args.cell c.number-at.ensures.is
    (omega (arith, c.requires.over.some_cells, c.requires.over.cells)) (
      omega (arith, c.number-at.ensures.is),
      omega (arith, c.number-at.ensures.is, c.requires.inside, c.requires.over.cells),
    )
    (text_is c.args.sought.now.text.now (text_of c.args.sought.now.text.now)
    c.requires.sought.text)
    c.requires.quota c.requires.comes

pub returns-in-Ok-clause-binds : goal.returns-in-Ok-clause-binds
returns-in-Ok-clause-binds g c = (
  bound_after g.P.Kind.PayloadKind.fits c.args.domain.now
      (place_of g.P.Part.seen g.P.Part.with_seen g.P.Part.reads g.P.Part.puts_back
      g.P.Part.puts_over)
      (area_of (g.P.Part.part c.args.domain.now.protocol)) (text_of c.args.sought.now.text.now)
      c.args.candidate.now.slot c.in_ok-weak.weak.slot c.in_ok-weak.ensures.gained.0
      c.args.seat.now c.weaken.new.seat c.in_ok-weak.ensures.gained.1 c.weaken.ensures.client
      c.weaken.ensures.objects c.requires.owned c.requires.noted
      c.number-at.result c.try_replace_weak.new.seat c.in-Ok.ensures.replaced.0
      c.try_replace_weak.ensures.objects,
  bound_client g.P.Kind.PayloadKind.fits c.args.domain.now
      (place_of g.P.Part.seen g.P.Part.with_seen g.P.Part.reads g.P.Part.puts_back
      g.P.Part.puts_over)
      (area_of (g.P.Part.part c.args.domain.now.protocol)) (text_of c.args.sought.now.text.now)
      c.args.candidate.now.slot c.in_ok-weak.weak.slot c.in_ok-weak.ensures.gained.0
      c.args.seat.now c.weaken.new.seat c.in_ok-weak.ensures.gained.1 c.weaken.ensures.client
      c.weaken.ensures.objects c.requires.owned c.requires.noted
      c.number-at.result c.try_replace_weak.new.seat c.in-Ok.ensures.replaced.0
      c.try_replace_weak.ensures.objects,
)

pub returns-in-Ok-clause-leaves : goal.returns-in-Ok-clause-leaves
returns-in-Ok-clause-leaves g c =
    bound_leaves g.P.Kind.PayloadKind.fits c.args.domain.now
    (place_of g.P.Part.seen g.P.Part.with_seen g.P.Part.reads g.P.Part.puts_back
    g.P.Part.puts_over)
    (area_of (g.P.Part.part c.args.domain.now.protocol)) (text_of c.args.sought.now.text.now)
    c.args.candidate.now.slot c.in_ok-weak.weak.slot c.in_ok-weak.ensures.gained.0
    c.args.seat.now c.weaken.new.seat c.in_ok-weak.ensures.gained.1 c.weaken.ensures.client
    c.weaken.ensures.objects c.requires.owned c.requires.noted
    c.number-at.result c.try_replace_weak.new.seat c.in-Ok.ensures.replaced.0
    c.try_replace_weak.ensures.objects

pub returns-in-Err-clause-binds : goal.returns-in-Err-clause-binds
returns-in-Err-clause-binds g c =
    c.drop_weak.ensures.client
    ∙ lost_client g.P.Kind.PayloadKind.fits c.args.domain.now
    (place_of g.P.Part.seen g.P.Part.with_seen g.P.Part.reads g.P.Part.puts_back
    g.P.Part.puts_over)
    (area_of (g.P.Part.part c.args.domain.now.protocol)) (text_of c.args.sought.now.text.now)
    c.args.candidate.now.slot c.in_ok-weak.weak.slot c.in_ok-weak.ensures.gained.0
    c.args.seat.now c.weaken.new.seat c.in_ok-weak.ensures.gained.1 c.weaken.ensures.client
    c.weaken.ensures.objects c.requires.owned c.requires.noted
    c.number-at.result c.in-Err.field-0.now c.try_replace_weak.new.seat c.in-Err.ensures.lost

pub returns-in-Err-clause-leaves : goal.returns-in-Err-clause-leaves
returns-in-Err-clause-leaves g c =
    lost_leaves g.P.Kind.PayloadKind.fits c.args.domain.now
    (place_of g.P.Part.seen g.P.Part.with_seen g.P.Part.reads g.P.Part.puts_back
    g.P.Part.puts_over)
    (area_of (g.P.Part.part c.args.domain.now.protocol)) (text_of c.args.sought.now.text.now)
    c.args.candidate.now.slot c.in_ok-weak.weak.slot c.in_ok-weak.ensures.gained.0
    c.args.seat.now c.weaken.new.seat c.in_ok-weak.ensures.gained.1 c.weaken.ensures.client
    c.weaken.ensures.objects c.requires.owned c.requires.noted
    c.number-at.result c.in-Err.field-0.now c.try_replace_weak.new.seat c.in-Err.ensures.lost
    c.try_replace_weak.ensures.objects c.drop_weak.new.seat c.of.result.slot
    (c.of.ensures ∙ c.slot.ensures ∙ sym c.in_ok-weak.ensures.gained.0)
    c.drop_weak.ensures.dropped c.drop_weak.ensures.objects

pub returns-in-Ok-clause-makes : goal.returns-in-Ok-clause-makes
returns-in-Ok-clause-makes g c =
    bound_makes g.P.Kind.PayloadKind.fits c.args.domain.now
    (place_of g.P.Part.seen g.P.Part.with_seen g.P.Part.reads g.P.Part.puts_back
    g.P.Part.puts_over)
    (area_of (g.P.Part.part c.args.domain.now.protocol)) (text_of c.args.sought.now.text.now)
    c.args.candidate.now.slot c.in_ok-weak.weak.slot c.in_ok-weak.ensures.gained.0
    c.args.seat.now c.weaken.new.seat c.in_ok-weak.ensures.gained.1 c.weaken.ensures.client
    c.weaken.ensures.objects c.requires.owned c.requires.noted
    c.number-at.result c.try_replace_weak.new.seat c.in-Ok.ensures.replaced.0
    c.try_replace_weak.ensures.objects

pub returns-in-Err-clause-makes : goal.returns-in-Err-clause-makes
returns-in-Err-clause-makes g c =
    lost_makes g.P.Kind.PayloadKind.fits c.args.domain.now
    (place_of g.P.Part.seen g.P.Part.with_seen g.P.Part.reads g.P.Part.puts_back
    g.P.Part.puts_over)
    (area_of (g.P.Part.part c.args.domain.now.protocol)) (text_of c.args.sought.now.text.now)
    c.args.candidate.now.slot c.in_ok-weak.weak.slot c.in_ok-weak.ensures.gained.0
    c.args.seat.now c.weaken.new.seat c.in_ok-weak.ensures.gained.1 c.weaken.ensures.client
    c.weaken.ensures.objects c.requires.owned c.requires.noted
    c.number-at.result c.in-Err.field-0.now c.try_replace_weak.new.seat c.in-Err.ensures.lost
    c.try_replace_weak.ensures.objects c.drop_weak.new.seat c.of.result.slot
    (c.of.ensures ∙ c.slot.ensures ∙ sym c.in_ok-weak.ensures.gained.0)
    c.drop_weak.ensures.dropped c.drop_weak.ensures.objects

pub returns-in-Err-clause-lost : goal.returns-in-Err-clause-lost
returns-in-Err-clause-lost g c = λ is.
    subst (λ i. MissesCell i c.args.candidate.now.slot c.args.seat.now.view.core
    c.drop_weak.new.seat.view.core) c.number-at.ensures.is
    (lost_misses g.P.Kind.PayloadKind.fits c.args.domain.now
    (place_of g.P.Part.seen g.P.Part.with_seen g.P.Part.reads g.P.Part.puts_back
    g.P.Part.puts_over)
    (area_of (g.P.Part.part c.args.domain.now.protocol)) (text_of c.args.sought.now.text.now)
    c.args.candidate.now.slot c.in_ok-weak.weak.slot c.in_ok-weak.ensures.gained.0
    c.args.seat.now c.weaken.new.seat c.in_ok-weak.ensures.gained.1 c.weaken.ensures.client
    c.weaken.ensures.objects c.requires.owned c.requires.noted
    c.number-at.result c.in-Err.field-0.now c.try_replace_weak.new.seat c.in-Err.ensures.lost
    c.try_replace_weak.ensures.objects c.drop_weak.new.seat c.of.result.slot
    (c.of.ensures ∙ c.slot.ensures ∙ sym c.in_ok-weak.ensures.gained.0)
    c.drop_weak.ensures.dropped c.drop_weak.ensures.objects)
