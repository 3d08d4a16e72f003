use Rattle.std.proofs.Common.{subst}
use Rattle.std.specs.Prelude.{IfSome}
use Rattle.std.proofs.lemmas.List.Elements.{All-pop}
use Rattle.structure_tests.specs.declared.text_seats.Done.{Done}
use Rattle.structure_tests.specs.Texts.{IsFree}
use Rattle.structure_tests.proofs.Joined.{left_joined}
use Rattle.structure_tests.proofs.text_seats.leave_last.Goals as goal

pub leave-requires-clause-rests : goal.leave-requires-clause-rests
leave-requires-clause-rests c =
    let free = λ (d : Done). IsFree c.args.domain.now d.seat in
    let last = (All-pop free c.args.done.now.items c.pop.new.self.items c.pop.result
    c.pop.ensures.items c.requires.done).1 in
    (c.requires.root.0.0.rest, (subst (λ r. IfSome r free) c.in_ok-seat.was last).0.rest)

pub leave-requires-clause-none : goal.leave-requires-clause-none
leave-requires-clause-none c =
    let free = λ (d : Done). IsFree c.args.domain.now d.seat in
    let last = (All-pop free c.args.done.now.items c.pop.new.self.items c.pop.result
    c.pop.ensures.items c.requires.done).1 in
    (c.requires.root.0.0.none, (subst (λ r. IfSome r free) c.in_ok-seat.was last).0.none)

pub returns-clause-root : goal.returns-clause-root
returns-clause-root c =
    let free = λ (d : Done). IsFree c.args.domain.now d.seat in
    let last = (All-pop free c.args.done.now.items c.pop.new.self.items c.pop.result
    c.pop.ensures.items c.requires.done).1 in (
      (
        record {
          rest = c.leave.ensures.rest;
          none = c.leave.ensures.none;
          room = c.leave.ensures.room;
        },
        left_joined _ c.args.domain.now c.args.root.now c.in_ok-seat.field-0.seat c.leave.new.root
            c.leave.ensures.leaves c.requires.root.0.1
            (subst (λ r. IfSome r free) c.in_ok-seat.was last).1,
      ),
      c.leave.ensures.first,
    )

pub returns-clause-done : goal.returns-clause-done
returns-clause-done c =
    (All-pop (λ (d : Done). IsFree c.args.domain.now d.seat) c.args.done.now.items
    c.pop.new.self.items c.pop.result c.pop.ensures.items c.requires.done).0
