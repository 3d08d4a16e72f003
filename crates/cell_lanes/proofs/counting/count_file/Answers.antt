use Rattle.std.proofs.Common.{ℕ, ◌+◌, ◌<◌, ◌≤◌, List, refl, sym, subst, arith}
use Rattle.std.proofs.lemmas.List.{length-take-le, take_more}
use Rattle.std.proofs.lemmas.Result.{err_from_is_err_and}
use Rattle.std.specs.Prelude.{drop, length, slice_index_or, take, []}
use Rattle.lane_work.specs.FilePieces.{pieces_in}
use Rattle.lane_work.proofs.Pieces.{pieces_many, sized}
use Rattle.cell_lanes.specs.Counting.{CountsPiece}
use Rattle.cell_lanes.specs.Stopping.{StopsAt}
use Rattle.cell_lanes.proofs.Counted.{IsCounted, can_then, counted_none, counted_on}
use Rattle.cell_lanes.proofs.Stopped.{split_at, stops_next}
use Rattle.cell_lanes.proofs.counting.count_file.Goals as goal

pub loop-number-init : goal.loop-number-init
loop-number-init g c = record {
  ready = c.requires.ready;
  counts = counted_none c.args.domain.now c.args.seat.now c.args.lane.now _ refl
      c.begin_file.ensures.kept refl refl c.begin_file.ensures.none;
}

pub count_piece-requires-clause-ready : goal.count_piece-requires-clause-ready
count_piece-requires-clause-ready g c = c.loop-number.invariant.ready

pub count_piece-requires-clause-piece : goal.count_piece-requires-clause-piece
count_piece-requires-clause-piece g c =
    subst (λ (w : List ℕ). (1 ≤ length w) × (length w ≤ 4096)) (sym c.piece.ensures)
    (sized c.args.file.now c.requires.pieces c.loop-number.number
    (subst (λ n. c.loop-number.number < n) c.len-number-end.ensures c.loop-number-test.true))

pub count_piece-requires-clause-room : goal.count_piece-requires-clause-room
count_piece-requires-clause-room g c =
    can_then c.args.domain.now (take c.loop-number.number (pieces_in c.args.file.now))
    (length (pieces_in c.args.file.now)) 1 c.args.seat.now c.loop-number.seat c.args.lane.now
    c.loop-number.lane c.loop-number.invariant.counts.0.counts c.requires.room
    (let all = pieces_many c.args.file.now in let is = c.loop-number-test.true in
    let t = length-take-le c.loop-number.number (pieces_in c.args.file.now) (omega (arith, is)) in
    omega (arith, is))

pub returns-in_err-count_piece-clause-stops : goal.returns-in_err-count_piece-clause-stops
returns-in_err-count_piece-clause-stops g c =
    let p = err_from_is_err_and c.from_residual.result c.from_residual.ensures.1 in
    let all = pieces_many c.args.file.now in let is = c.loop-number-test.true in
    rw (p.1, p.2)
    (stops_next c.args.domain.now c.in_err-count_piece.field-0.0
    (take c.loop-number.number (pieces_in c.args.file.now))
    (slice_index_or (pieces_in c.args.file.now) c.loop-number.number [])
    (drop (c.loop-number.number + 1) (pieces_in c.args.file.now)) (pieces_in c.args.file.now)
    c.args.seat.now c.loop-number.seat c.count_piece.new.seat c.args.lane.now c.loop-number.lane
    c.count_piece.new.lane
    (split_at (pieces_in c.args.file.now) c.loop-number.number (omega (arith, is)))
    c.loop-number.invariant.counts.0.counts
    (subst (λ w. StopsAt c.args.domain.now w c.in_err-count_piece.field-0.0 c.loop-number.seat
    c.count_piece.new.seat c.loop-number.lane c.count_piece.new.lane) c.piece.ensures
    c.in_err-count_piece.ensures.stops))

pub loop-number-preserved : goal.loop-number-preserved
loop-number-preserved g c = record {
  ready = c.count_piece.ensures.ready;
  counts = subst (λ ws. IsCounted c.args.domain.now ws c.args.seat.now c.count_piece.new.seat
      c.args.lane.now c.count_piece.new.lane)
      (sym (take_more (pieces_in c.args.file.now) c.loop-number.number []
      (let all = pieces_many c.args.file.now in let is = c.loop-number-test.true in
      omega (arith, is))))
      (counted_on c.args.domain.now (take c.loop-number.number (pieces_in c.args.file.now))
      (slice_index_or (pieces_in c.args.file.now) c.loop-number.number [])
      c.args.seat.now c.loop-number.seat c.count_piece.new.seat c.args.lane.now c.loop-number.lane
      c.count_piece.new.lane c.loop-number.invariant.counts
      (subst (λ w. CountsPiece c.args.domain.now w c.loop-number.seat c.count_piece.new.seat
      c.loop-number.lane c.count_piece.new.lane) c.piece.ensures
      c.in_ok-count_piece.ensures.counts));
}
