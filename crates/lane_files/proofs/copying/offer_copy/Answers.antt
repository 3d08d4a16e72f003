use Rattle.std.proofs.Common.{[], inr, refl, ap, subst, sym, ◌∙◌, arith}
use Rattle.control_word.specs.counted_handles.Handles.{Handle}
use Rattle.words_protocol.specs.words_law.Views.{View}
use Rattle.lane_files.specs.Passed.{Counts}
use Rattle.lane_files.proofs.Copied.{back_owns, copy_counts, copy_interns, copy_known, copy_owns, copy_ready, copy_stays, drop_then, no_drop, owns_copy, copy_makes, copy_adds}
use Rattle.lane_files.proofs.PiecesCounted.{counts_none}
use Rattle.lane_files.proofs.Offered.{texts}
use Rattle.lane_files.proofs.SeatsKept.{owns_drop, uses_none, drop_counts, spent_drop}
use Rattle.lane_files.proofs.Unmade.{allows_same, copy_lacks}
use Rattle.lane_files.proofs.copying.offer_copy.Goals as goal

pub returns-in_default-clause-refused : goal.returns-in_default-clause-refused
returns-in_default-clause-refused g c =
    subst (λ (v : View). Counts [] [] c.args.seat.now.view.client v)
    (sym c.copy_strong.ensures.client) (counts_none c.args.seat.now.view.client)

pub offer-requires-clause-ready : goal.offer-requires-clause-ready
offer-requires-clause-ready g c =
    copy_ready c.args.seat.now c.copy_strong.new.seat c.requires.ready
    (owns_copy _ c.args.domain.now c.args.handle.now.slot c.in-Ok.copy.slot
    c.in-Ok.ensures.copied.0 c.args.seat.now c.copy_strong.new.seat c.in-Ok.ensures.copied.1
    c.copy_strong.ensures.objects)
    c.copy_strong.ensures.client (c.copy_strong.ensures.room c.requires.ready.room)
    c.copy_strong.ensures.rest

pub offer-requires-clause-known : goal.offer-requires-clause-known
offer-requires-clause-known g c = (
  c.requires.known.0,
  copy_known c.args.handle.now.slot c.in-Ok.copy.slot c.in-Ok.ensures.copied.0
      c.requires.known.0 c.args.seat.now c.copy_strong.new.seat c.requires.owned
      c.copy_strong.ensures.client c.copy_strong.ensures.objects c.requires.known.1,
)

pub returns-in-Ok-offer-clause-counts : goal.returns-in-Ok-offer-clause-counts
returns-in-Ok-offer-clause-counts g c =
    copy_counts c.args.handle.now.slot c.in-Ok.copy.slot c.in-Ok.ensures.copied.0
    c.args.seat.now c.copy_strong.new.seat c.offer.new.seat c.offer.result _
    c.in-Ok-offer.is c.requires.owned c.copy_strong.ensures.client
    c.copy_strong.ensures.objects c.offer.ensures.counts

pub returns-in-Ok-offer-clause-owns : goal.returns-in-Ok-offer-clause-owns
returns-in-Ok-offer-clause-owns g c =
    copy_owns c.in-Ok.copy.slot c.args.seat.now c.copy_strong.new.seat c.offer.new.seat
    c.offer.result _ c.in-Ok-offer.is
    (owns_copy _ c.args.domain.now c.args.handle.now.slot c.in-Ok.copy.slot
    c.in-Ok.ensures.copied.0 c.args.seat.now c.copy_strong.new.seat c.in-Ok.ensures.copied.1
    c.copy_strong.ensures.objects) c.offer.ensures.owns

pub returns-in-Err-clause-owns : goal.returns-in-Err-clause-owns
returns-in-Err-clause-owns g c =
    back_owns _ c.args.domain.now c.in-Ok.copy.slot c.in-Err.refused.back.slot c.args.seat.now
    c.copy_strong.new.seat c.offer.new.seat c.drop_strong.new.seat c.offer.result _ c.in-Err.is
    (ap (λ (h : Handle). h.slot) c.in-Err.ensures.back) c.in-Ok.ensures.owned
    (owns_copy _ c.args.domain.now c.args.handle.now.slot c.in-Ok.copy.slot
    c.in-Ok.ensures.copied.0 c.args.seat.now c.copy_strong.new.seat c.in-Ok.ensures.copied.1
    c.copy_strong.ensures.objects) c.offer.ensures.kept c.drop_strong.ensures.dropped
    c.drop_strong.ensures.objects

pub returns-in-Err-clause-ready : goal.returns-in-Err-clause-ready
returns-in-Err-clause-ready g c =
    copy_ready c.offer.new.seat c.drop_strong.new.seat c.offer.ensures.ready
    (owns_drop _ c.args.domain.now c.in-Err.refused.back.slot c.offer.new.seat
    c.drop_strong.new.seat c.drop_strong.ensures.dropped c.drop_strong.ensures.objects)
    c.drop_strong.ensures.client (c.drop_strong.ensures.room c.offer.ensures.ready.room)
    c.drop_strong.ensures.rest

pub returns-in_default-clause-interns : goal.returns-in_default-clause-interns
returns-in_default-clause-interns g c =
    uses_none c.args.seat.now.view.client c.copy_strong.new.seat.view.client
    (ap texts c.copy_strong.ensures.client)

pub returns-in-Ok-offer-clause-interns : goal.returns-in-Ok-offer-clause-interns
returns-in-Ok-offer-clause-interns g c =
    copy_interns c.args.seat.now c.copy_strong.new.seat c.offer.new.seat c.offer.new.seat
    c.copy_strong.ensures.client c.offer.ensures.interns refl

pub returns-in-Err-clause-why : goal.returns-in-Err-clause-why
returns-in-Err-clause-why g c =
    inr (copy_stays _ c.args.domain.now c.args.handle.now.slot c.args.seat.now
    c.copy_strong.new.seat c.offer.new.seat c.drop_strong.new.seat c.in-Ok.ensures.copied.1
    c.in-Err.refused.why c.in-Err.ensures.why
    (drop_then _ c.args.domain.now c.args.handle.now.slot c.in-Err.refused.back.slot
    (ap (λ (h : Handle). h.slot) c.in-Err.ensures.back ∙ c.in-Ok.ensures.copied.0)
    c.offer.new.seat c.offer.new.seat c.drop_strong.new.seat
    (no_drop c.args.handle.now.slot c.offer.new.seat) c.drop_strong.ensures.dropped)
    (spent_drop _ c.args.domain.now c.in-Err.refused.back.slot c.offer.new.seat
    c.drop_strong.new.seat c.drop_strong.ensures.dropped))

pub returns-in-Err-clause-interns : goal.returns-in-Err-clause-interns
returns-in-Err-clause-interns g c =
    copy_interns c.args.seat.now c.copy_strong.new.seat c.offer.new.seat c.drop_strong.new.seat
    c.copy_strong.ensures.client c.offer.ensures.interns c.drop_strong.ensures.client

pub returns-in-Ok-offer-clause-makes : goal.returns-in-Ok-offer-clause-makes
returns-in-Ok-offer-clause-makes g c =
    copy_makes _ c.args.domain.now c.args.handle.now.slot c.args.seat.now c.copy_strong.new.seat
    c.offer.new.seat c.in-Ok.ensures.copied.1 c.offer.ensures.makes

pub returns-in-Ok-offer-clause-adds : goal.returns-in-Ok-offer-clause-adds
returns-in-Ok-offer-clause-adds g c =
    copy_adds _ c.args.domain.now c.args.handle.now.slot c.args.seat.now c.copy_strong.new.seat
    c.offer.new.seat c.in-Ok.ensures.copied.1 c.offer.ensures.adds

pub returns-in-Err-clause-makes : goal.returns-in-Err-clause-makes
returns-in-Err-clause-makes g c =
    let same = (drop_counts _ c.args.domain.now c.in-Err.refused.back.slot c.offer.new.seat
    c.drop_strong.new.seat c.drop_strong.ensures.dropped).1 in
    let makes = copy_makes _ c.args.domain.now c.args.handle.now.slot c.args.seat.now
    c.copy_strong.new.seat c.offer.new.seat c.in-Ok.ensures.copied.1 c.offer.ensures.makes in
    omega arith

pub returns-in-Err-clause-adds : goal.returns-in-Err-clause-adds
returns-in-Err-clause-adds g c =
    let same = (drop_counts _ c.args.domain.now c.in-Err.refused.back.slot c.offer.new.seat
    c.drop_strong.new.seat c.drop_strong.ensures.dropped).0 in
    let adds = copy_adds _ c.args.domain.now c.args.handle.now.slot c.args.seat.now
    c.copy_strong.new.seat c.offer.new.seat c.in-Ok.ensures.copied.1 c.offer.ensures.adds in
    omega arith

pub returns-in-Err-clause-lacks : goal.returns-in-Err-clause-lacks
returns-in-Err-clause-lacks g c =
    copy_lacks _ c.args.domain.now c.args.handle.now.slot c.in-Err.refused.why c.args.seat.now
    c.copy_strong.new.seat c.offer.new.seat c.drop_strong.new.seat c.in-Ok.ensures.copied.1
    c.in-Err.ensures.why c.in-Err.ensures.unmade
    (allows_same c.copy_strong.new.seat c.offer.new.seat c.in-Err.ensures.kept)
    (drop_counts _ c.args.domain.now c.in-Err.refused.back.slot c.offer.new.seat
    c.drop_strong.new.seat c.drop_strong.ensures.dropped).1
    (allows_same c.offer.new.seat c.drop_strong.new.seat
    (owns_drop _ c.args.domain.now c.in-Err.refused.back.slot c.offer.new.seat
    c.drop_strong.new.seat c.drop_strong.ensures.dropped c.drop_strong.ensures.objects))
