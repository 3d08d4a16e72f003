use Rattle.std.proofs.Common.{refl, sym, subst, arith}
use Rattle.std.specs.Int.{div_ceil}
use Rattle.std.specs.Prelude.{length}
use Rattle.words_protocol.specs.words_law.Views.{View}
use Rattle.lane_files.specs.Passed.{UsesInterns}
use Rattle.lane_files.specs.PieceMakes.{cause_in}
use Rattle.lane_files.proofs.Copied.{copy_ready}
use Rattle.lane_files.proofs.SeatsKept.{owns_back, owns_drop, owns_on, uses_then, drop_counts}
use Rattle.lane_files.proofs.Passed.{had_more, piece_counts, piece_knows, piece_steps, piece_stops, piece_used, same_record, still_more}
use Rattle.lane_files.proofs.Unmade.{allows_same, intern_lacks, lacks_on}
use Rattle.lane_files.proofs.piece.count_piece.Goals as goal

pub returns-in-Ok-pass_on-clause-counts : goal.returns-in-Ok-pass_on-clause-counts
returns-in-Ok-pass_on-clause-counts g c =
    piece_counts _ c.args.domain.now c.args.piece.now (λ i. omega (arith, c.type_inv.piece i))
    c.in-Ok.handle.slot c.args.seat.now c.intern_piece.new.seat c.in-Ok.ensures.first
    c.in-Ok.ensures.knows c.pass_on.new.seat c.args.tally.now c.pass_on.new.tally
    c.in-Ok-pass_on.ensures.passes

pub returns-in-Ok-pass_on-clause-steps : goal.returns-in-Ok-pass_on-clause-steps
returns-in-Ok-pass_on-clause-steps g c =
    piece_steps _ c.args.domain.now c.args.piece.now (λ i. omega (arith, c.type_inv.piece i))
    c.in-Ok.handle.slot c.args.seat.now c.intern_piece.new.seat c.in-Ok.ensures.first
    c.in-Ok.ensures.knows c.pass_on.new.seat c.args.tally.now c.pass_on.new.tally
    c.in-Ok-pass_on.ensures.passes

pub returns-in-Ok-pass_on-clause-knows : goal.returns-in-Ok-pass_on-clause-knows
returns-in-Ok-pass_on-clause-knows g c =
    piece_knows _ c.args.domain.now c.args.piece.now (λ i. omega (arith, c.type_inv.piece i))
    c.in-Ok.handle.slot c.args.seat.now c.intern_piece.new.seat c.in-Ok.ensures.first
    c.in-Ok.ensures.knows c.pass_on.new.seat c.args.tally.now c.pass_on.new.tally
    c.in-Ok-pass_on.ensures.passes
    (same_record c.in-Ok.handle.slot c.args.seat.now.view.core.owned c.args.seat.now
    c.intern_piece.new.seat c.pass_on.new.seat c.in-Ok.ensures.owns c.pass_on.ensures.owns)

pub returns-in-Ok-pass_on-clause-owned : goal.returns-in-Ok-pass_on-clause-owned
returns-in-Ok-pass_on-clause-owned g c =
    still_more c.in-Ok.handle.slot c.args.seat.now.view.core.owned c.args.seat.now
    c.intern_piece.new.seat c.pass_on.new.seat c.in-Ok.ensures.owns c.pass_on.ensures.owns

pub returns-in-Ok-pass_on-clause-owns : goal.returns-in-Ok-pass_on-clause-owns
returns-in-Ok-pass_on-clause-owns g c =
    owns_on _ c.args.seat.now c.intern_piece.new.seat c.pass_on.new.seat c.in-Ok.ensures.owns
    (had_more c.in-Ok.handle.slot c.args.seat.now.view.core.owned c.args.seat.now
    c.intern_piece.new.seat c.pass_on.new.seat c.in-Ok.ensures.owns)
    c.pass_on.ensures.owns

pub returns-in-Ok-pass_on-clause-interns : goal.returns-in-Ok-pass_on-clause-interns
returns-in-Ok-pass_on-clause-interns g c =
    uses_then 1 0 c.args.seat.now.view.client c.intern_piece.new.seat.view.client
    c.pass_on.new.seat.view.client c.in-Ok.ensures.interns c.pass_on.ensures.interns

-- IT STOPPED THERE
pub drop_strong-requires-clause-owned : goal.drop_strong-requires-clause-owned
drop_strong-requires-clause-owned g c =
    still_more c.in-Ok.handle.slot c.args.seat.now.view.core.owned c.args.seat.now
    c.intern_piece.new.seat c.pass_on.new.seat c.in-Ok.ensures.owns c.pass_on.ensures.owns

pub returns-in-Err-pass_on-clause-why : goal.returns-in-Err-pass_on-clause-why
returns-in-Err-pass_on-clause-why g c =
    piece_stops _ c.args.domain.now c.args.piece.now (λ i. omega (arith, c.type_inv.piece i))
    c.in-Ok.handle.slot c.args.seat.now c.intern_piece.new.seat c.in-Ok.ensures.first
    c.in-Ok.ensures.knows c.pass_on.new.seat c.drop_strong.new.seat c.drop_strong.ensures.client
    c.drop_strong.ensures.dropped
    c.args.tally.now c.pass_on.new.tally c.in-Err-pass_on.error c.in-Err-pass_on.ensures.why

pub returns-in-Err-pass_on-clause-interns : goal.returns-in-Err-pass_on-clause-interns
returns-in-Err-pass_on-clause-interns g c =
    subst (λ n. UsesInterns n c.args.seat.now.view.client c.drop_strong.new.seat.view.client)
    (sym (piece_used _ c.args.domain.now c.args.piece.now
    (λ i. omega (arith, c.type_inv.piece i))
    c.in-Ok.handle.slot c.args.seat.now c.intern_piece.new.seat c.in-Ok.ensures.first
    c.in-Ok.ensures.knows c.pass_on.new.seat c.drop_strong.new.seat c.drop_strong.ensures.client
    c.drop_strong.ensures.dropped
    c.args.tally.now c.pass_on.new.tally c.in-Err-pass_on.error c.in-Err-pass_on.ensures.why))
    (subst (λ (v : View). UsesInterns 1 c.args.seat.now.view.client v)
    (sym c.drop_strong.ensures.client)
    (uses_then 1 0 c.args.seat.now.view.client c.intern_piece.new.seat.view.client
    c.pass_on.new.seat.view.client c.in-Ok.ensures.interns c.pass_on.ensures.interns))

pub returns-in-Err-pass_on-clause-owns : goal.returns-in-Err-pass_on-clause-owns
returns-in-Err-pass_on-clause-owns g c =
    owns_back c.in-Ok.handle.slot c.args.seat.now.view.core.owned c.args.seat.now
    c.pass_on.new.seat c.drop_strong.new.seat
    (owns_on _ c.args.seat.now c.intern_piece.new.seat c.pass_on.new.seat c.in-Ok.ensures.owns
    (had_more c.in-Ok.handle.slot c.args.seat.now.view.core.owned c.args.seat.now
    c.intern_piece.new.seat c.pass_on.new.seat c.in-Ok.ensures.owns)
    c.pass_on.ensures.owns)
    (owns_drop _ c.args.domain.now c.in-Ok.handle.slot c.pass_on.new.seat
    c.drop_strong.new.seat c.drop_strong.ensures.dropped c.drop_strong.ensures.objects)
    (λ x. refl)

pub returns-in-Err-pass_on-clause-ready : goal.returns-in-Err-pass_on-clause-ready
returns-in-Err-pass_on-clause-ready g c =
    copy_ready c.pass_on.new.seat c.drop_strong.new.seat c.pass_on.ensures.ready
    (owns_drop _ c.args.domain.now c.in-Ok.handle.slot c.pass_on.new.seat
    c.drop_strong.new.seat c.drop_strong.ensures.dropped c.drop_strong.ensures.objects)
    c.drop_strong.ensures.client (c.drop_strong.ensures.room c.pass_on.ensures.ready.room)
    c.drop_strong.ensures.rest

pub pass_on-requires-clause-known : goal.pass_on-requires-clause-known
pass_on-requires-clause-known g c = (c.in-Ok.ensures.knows.0, c.in-Ok.ensures.knows.2)

pub returns-in-Err-pass_on-clause-makes : goal.returns-in-Err-pass_on-clause-makes
returns-in-Err-pass_on-clause-makes g c =
    let same = (drop_counts _ c.args.domain.now c.in-Ok.handle.slot c.pass_on.new.seat
    c.drop_strong.new.seat c.drop_strong.ensures.dropped).1 in
    let first = c.intern_piece.ensures.makes in
    let second = c.pass_on.ensures.makes in omega arith

pub returns-in-Err-clause-lacks : goal.returns-in-Err-clause-lacks
returns-in-Err-clause-lacks g c =
    intern_lacks _ c.args.domain.now c.args.piece.now _ c.in-Err.why c.args.seat.now
    c.intern_piece.new.seat c.in-Err.ensures.why c.intern_piece.ensures.makes

pub returns-in-Err-pass_on-clause-lacks : goal.returns-in-Err-pass_on-clause-lacks
returns-in-Err-pass_on-clause-lacks g c =
    lacks_on c.args.domain.now (div_ceil (length c.args.piece.now) 120)
    (cause_in c.in-Err-pass_on.error) c.args.seat.now c.intern_piece.new.seat c.pass_on.new.seat
    c.drop_strong.new.seat c.intern_piece.ensures.makes c.in-Err-pass_on.ensures.lacks
    (drop_counts _ c.args.domain.now c.in-Ok.handle.slot c.pass_on.new.seat
    c.drop_strong.new.seat c.drop_strong.ensures.dropped).1
    (allows_same c.pass_on.new.seat c.drop_strong.new.seat
    (owns_drop _ c.args.domain.now c.in-Ok.handle.slot c.pass_on.new.seat
    c.drop_strong.new.seat c.drop_strong.ensures.dropped c.drop_strong.ensures.objects))
