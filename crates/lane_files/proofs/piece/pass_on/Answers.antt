use Rattle.std.proofs.Common.{refl, ap, ◌∙◌, arith}
use Rattle.std.specs.Prelude.{Ok}
use Rattle.words_protocol.specs.directory_law.Bytes.{text_bytes}
use Rattle.lane_files.proofs.SeatsKept.{owns_on, uses_then}
use Rattle.lane_files.proofs.Passed.{ok_unless, passed}
use Rattle.lane_files.proofs.Unmade.{take_lacks}
use Rattle.lane_files.proofs.piece.pass_on.Goals as goal

pub returns-in-Err-clause-why : goal.returns-in-Err-clause-why
returns-in-Err-clause-why g c = λ text known.
    (c.in-Err.ensures.why, c.in-Err.ensures.refused, refl)

pub returns-in-Ok-clause-passes : goal.returns-in-Ok-clause-passes
returns-in-Ok-clause-passes g c = λ text known.
    passed _ c.args.domain.now (text_bytes text) c.in-Ok._one c.args.seat.now
    c.offer_copy.new.seat c.take_one.new.seat c.args.tally.now c.take_one.new.tally
    (ok_unless c.offer_copy.result c.in_default.not-Err c.offer_copy.ensures.counts text known)
    c.in-Ok.ensures.takes (λ is. c.take_one.ensures.none (c.in-Ok.is ∙ ap Ok is))

pub returns-in-Err-take_one-clause-why : goal.returns-in-Err-take_one-clause-why
returns-in-Err-take_one-clause-why g c = λ text known. (
  c.offer_copy.new.seat,
  ok_unless c.offer_copy.result c.in_default.not-Err c.offer_copy.ensures.counts text known,
  c.in-Err-take_one.ensures.why,
)

pub returns-in-Ok-clause-owns : goal.returns-in-Ok-clause-owns
returns-in-Ok-clause-owns g c =
    owns_on c.args.seat.now.view.core.owned c.args.seat.now c.offer_copy.new.seat
    c.take_one.new.seat c.offer_copy.ensures.owns (λ x. omega arith) c.take_one.ensures.owns

pub returns-in-Err-take_one-clause-owns : goal.returns-in-Err-take_one-clause-owns
returns-in-Err-take_one-clause-owns g c =
    owns_on c.args.seat.now.view.core.owned c.args.seat.now c.offer_copy.new.seat
    c.take_one.new.seat c.offer_copy.ensures.owns (λ x. omega arith) c.take_one.ensures.owns

pub returns-in-Ok-clause-interns : goal.returns-in-Ok-clause-interns
returns-in-Ok-clause-interns g c =
    uses_then 0 0 c.args.seat.now.view.client c.offer_copy.new.seat.view.client
    c.take_one.new.seat.view.client c.offer_copy.ensures.interns c.take_one.ensures.interns

pub returns-in-Err-take_one-clause-interns : goal.returns-in-Err-take_one-clause-interns
returns-in-Err-take_one-clause-interns g c =
    uses_then 0 0 c.args.seat.now.view.client c.offer_copy.new.seat.view.client
    c.take_one.new.seat.view.client c.offer_copy.ensures.interns c.take_one.ensures.interns

pub returns-in-Err-take_one-clause-lacks : goal.returns-in-Err-take_one-clause-lacks
returns-in-Err-take_one-clause-lacks g c =
    take_lacks c.args.domain.now c.in-Err-take_one.why c.offer_copy.new.seat c.take_one.new.seat
    c.args.tally.now c.take_one.new.tally c.in-Err-take_one.ensures.why
    c.args.seat.now.view.core c.take_one.new.seat.view.core
