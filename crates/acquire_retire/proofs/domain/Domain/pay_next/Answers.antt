use Rattle.core_promises.specs.core_events.declared.outcome.Outcome.TheVariants as outcome
use Rattle.acquire_retire.specs.declared.payment.Payment.TheVariants as payment
use Rattle.acquire_retire.proofs.Payments.{finish_lost, finish_step, free_step, idle_after_finish, idle_after_free, idle_after_pay, idle_after_take, part_append, pay_step, pays_one, take_no_help, take_step}
use Rattle.acquire_retire.proofs.domain.Domain.pay_next.Goals as goal

pub returns-in-Ended : goal.returns-in-Ended
returns-in-Ended g c =
    let d = c.args.self.now in
    let pay = pay_step d c.args.seat.now c.pay.new.seat _ outcome.Zeroed c.requires.owes
    c.pay.ensures c.in-Zeroed.is in
    let finish = finish_step d c.pay.new.seat c.finish.new.seat _ outcome.Ended c.finish.ensures
    c.in-Ended.is in
    pays_one d payment.Ended _ _ (part_append d _ _ 1 0 _ _ _ pay finish) c.requires.idle
    (idle_after_finish d _ _ c.finish.result c.finish.ensures (λ e. cc (e, c.in-Ended.is)))

pub returns-in-Ended-take : goal.returns-in-Ended-take
returns-in-Ended-take g c =
    let d = c.args.self.now in
    let pay = pay_step d c.args.seat.now c.pay.new.seat _ outcome.Zeroed c.requires.owes
    c.pay.ensures c.in-Zeroed.is in
    let finish = finish_step d c.pay.new.seat c.finish.new.seat _ outcome.Help c.finish.ensures
    c.in-Help.is in
    let take = take_step d c.finish.new.seat c.take.new.seat _ outcome.Ended c.take.ensures
    c.in-Ended-take.is in
    pays_one d payment.Helped _ _
    (part_append d _ _ 1 0 _ _ _ pay (part_append d _ _ 0 0 _ _ _ finish take)) c.requires.idle
    (idle_after_take d _ _ _ c.take.ensures)

pub returns-in_default-take : goal.returns-in_default-take
returns-in_default-take g c =
    let d = c.args.self.now in
    let pay = pay_step d c.args.seat.now c.pay.new.seat _ outcome.Zeroed c.requires.owes
    c.pay.ensures c.in-Zeroed.is in
    let finish = finish_step d c.pay.new.seat c.finish.new.seat _ outcome.Help c.finish.ensures
    c.in-Help.is in
    let take = take_step d c.finish.new.seat c.take.new.seat _ outcome.NoHelp c.take.ensures
    (take_no_help d _ _ _ c.take.ensures c.in_default-take.not-Ended) in
    pays_one d payment.NoHelp _ _
    (part_append d _ _ 1 0 _ _ _ pay (part_append d _ _ 0 0 _ _ _ finish take)) c.requires.idle
    (idle_after_take d _ _ _ c.take.ensures)

pub returns-in_default-finish : goal.returns-in_default-finish
returns-in_default-finish g c =
    let d = c.args.self.now in
    let pay = pay_step d c.args.seat.now c.pay.new.seat _ outcome.Zeroed c.requires.owes
    c.pay.ensures c.in-Zeroed.is in
    let finish = finish_step d c.pay.new.seat c.finish.new.seat _ outcome.Lost c.finish.ensures
    (finish_lost d _ _ _ c.finish.ensures c.in_default-finish.not-Ended
    c.in_default-finish.not-Help) in
    pays_one d payment.Lost _ _ (part_append d _ _ 1 0 _ _ _ pay finish) c.requires.idle
    (idle_after_finish d _ _ _ c.finish.ensures c.in_default-finish.not-Help)

pub returns-in-Last : goal.returns-in-Last
returns-in-Last g c =
    let d = c.args.self.now in
    let pay = pay_step d c.args.seat.now c.pay.new.seat _ outcome.Last c.requires.owes
    c.pay.ensures c.in-Last.is in
    let free = free_step d c.pay.new.seat c.free.new.seat _ c.free.ensures in
    pays_one d payment.Freed _ _ (part_append d _ _ 1 0 _ _ _ pay free) c.requires.idle
    (idle_after_free d _ _ _ c.free.ensures)

pub returns-in_default : goal.returns-in_default
returns-in_default g c =
    let d = c.args.self.now in
    let left = idle_after_pay d c.args.seat.now c.pay.new.seat _ c.requires.owes c.pay.ensures
    c.in_default.not-Zeroed c.in_default.not-Last in
    let pay = pay_step d c.args.seat.now c.pay.new.seat _ outcome.Left c.requires.owes c.pay.ensures
    left.0 in
    pays_one d payment.Left _ _ pay c.requires.idle left.1
