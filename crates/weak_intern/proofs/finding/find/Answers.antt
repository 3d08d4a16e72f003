use Rattle.std.proofs.Common.{ap, arith, length, refl, subst, take}
use Rattle.record_making.specs.directory_calls.Directories.{area_of}
use Rattle.record_making.specs.Texts.{payload_of, text_of}
use Rattle.record_making.proofs.Below.record_texts_Packed.{is_text_of}
use Rattle.weak_intern.specs.Walking.{CostsBy}
use Rattle.weak_intern.proofs.Heads.{sought_is}
use Rattle.weak_intern.proofs.Answered.{came_to_none, came_to_record}
use Rattle.atomic_weak.specs.core_events.declared.view.CoreView.{CoreView}
use Rattle.weak_intern.proofs.Races.{few_left}
use Rattle.weak_intern.proofs.finding.find.Goals as goal

pub returns-in-Absent-clause-finds : goal.returns-in-Absent-clause-finds
returns-in-Absent-clause-finds g c =
    came_to_none c.args.domain.now (area_of (g.P.Part.part c.args.domain.now.protocol))
    c.args.text.now
    (text_of c.args.text.now) (is_text_of c.args.text.now c.requires.text.0 (omega (
      arith,
      c.requires.text.1,
    ))) c.args.seat.now c.seek.new.seat
    g.P.Part.seen c.in_ok-strong.field-0 c.in-Absent.field-0 c.in-Absent.is
    c.in_ok-strong.ensures.comes

pub seek-requires-clause-sought : goal.seek-requires-clause-sought
seek-requires-clause-sought g c =
    sought_is c.args.text.now c.head_of.result c.hash_of.result
    (λ i. omega (arith, c.type_inv.text i)) c.requires.text.0 (omega (arith, c.requires.text.1))
    c.head_of.ensures c.hash_of.ensures.hash c.hash_of.ensures.small

pub returns-in-Record-clause-finds : goal.returns-in-Record-clause-finds
returns-in-Record-clause-finds g c =
    (came_to_record c.args.domain.now (area_of (g.P.Part.part c.args.domain.now.protocol))
    c.args.text.now (text_of c.args.text.now)
    (is_text_of c.args.text.now c.requires.text.0 (omega (arith, c.requires.text.1)))
    c.args.seat.now c.seek.new.seat g.P.Part.seen c.in_ok-strong.field-0 c.in-Record.strong
    c.in-Record.is c.in_ok-strong.ensures.comes).0

pub returns-in-Record-clause-knows : goal.returns-in-Record-clause-knows
returns-in-Record-clause-knows g c =
    (came_to_record c.args.domain.now (area_of (g.P.Part.part c.args.domain.now.protocol))
    c.args.text.now (text_of c.args.text.now)
    (is_text_of c.args.text.now c.requires.text.0 (omega (arith, c.requires.text.1)))
    c.args.seat.now c.seek.new.seat g.P.Part.seen c.in_ok-strong.field-0 c.in-Record.strong
    c.in-Record.is c.in_ok-strong.ensures.comes).1

pub returns-in-Record-clause-takes : goal.returns-in-Record-clause-takes
returns-in-Record-clause-takes g c =
    λ short. subst (λ w. CostsBy (payload_of (length c.args.text.now) (take 120 c.args.text.now)) w
    c.args.seat.now.view.core c.seek.new.seat.view.core) c.in-Record.is
    (subst (λ head. CostsBy head c.in_ok-strong.field-0 c.args.seat.now.view.core
    c.seek.new.seat.view.core) c.head_of.ensures (c.in_ok-strong.ensures.costs short))

pub returns-in_err-strong-clause-short : goal.returns-in_err-strong-clause-short
returns-in_err-strong-clause-short g c = λ err.
    few_left c.args.directory.now.cells c.args.seat.now.view.core c.seek.new.seat.view.core
    (c.in_err-strong.ensures.spent refl)
    (ap (λ (v : CoreView). v.quota) c.in_err-strong.ensures.leaves.same) c.seek.ensures.adds
