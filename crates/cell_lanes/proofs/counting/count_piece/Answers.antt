use Rattle.std.proofs.Common.{refl, inl, inr}
use Rattle.std.proofs.lemmas.Result.{err_from_is_err_and}
use Rattle.cell_lanes.proofs.Pieces.{piece_counts, piece_refused, piece_stops, same_keeper}
use Rattle.cell_lanes.proofs.Tallied.{tallies_one}
use Rattle.cell_lanes.proofs.counting.count_piece.Goals as goal

pub returns-in_err-record-clause-stops : goal.returns-in_err-record-clause-stops
returns-in_err-record-clause-stops g c =
    let p = err_from_is_err_and c.from_residual.result c.from_residual.ensures.1 in
    rw (p.1, p.2)
    (piece_refused c.args.domain.now c.args.piece.now c.args.seat.now c.intern.new.seat
    c.requires.piece.0 c.requires.piece.1 c.intern.ensures.grows c.in_err-record.field-0.0
    c.in_err-record.ensures.makes c.args.lane.now _ c.in_err-record.ensures.refused
    c.in_err-record.ensures.keeps refl (same_keeper c.args.lane.now.keeper) refl refl)

pub returns-in-Err-clause-stops : goal.returns-in-Err-clause-stops
returns-in-Err-clause-stops g c =
    piece_stops c.args.domain.now c.args.piece.now c.args.seat.now c.intern.new.seat
    c.requires.piece.0 c.requires.piece.1 c.intern.ensures.grows c.in_ok-record.record
    c.in_ok-record.ensures.has c.in_ok-record.ensures.makes c.in_ok-record.ensures.keeps
    c.give_up.new.seat c.args.lane.now _ c.give_up.ensures.client refl refl
    (inl (c.in-Err.ensures.err)) (same_keeper c.args.lane.now.keeper) c.give_up.ensures.gives

pub returns-in-Err-keep-clause-stops : goal.returns-in-Err-keep-clause-stops
returns-in-Err-keep-clause-stops g c =
    piece_stops c.args.domain.now c.args.piece.now c.args.seat.now c.intern.new.seat
    c.requires.piece.0 c.requires.piece.1 c.intern.ensures.grows c.in_ok-record.record
    c.in_ok-record.ensures.has c.in_ok-record.ensures.makes c.in_ok-record.ensures.keeps
    c.keep.new.seat c.args.lane.now _ c.keep.ensures.client refl refl
    (inr (
      refl,
      tallies_one c.args.piece.now c.args.lane.now.tally c.add.new.self
          c.in_default.ensures.ok,
    ))
    c.in-Err-keep.ensures.refused c.in-Err-keep.ensures.gives

pub returns-clause-counts : goal.returns-clause-counts
returns-clause-counts g c =
    piece_counts c.args.domain.now c.args.piece.now c.args.seat.now c.intern.new.seat
    c.requires.piece.0 c.requires.piece.1 c.intern.ensures.grows c.in_ok-record.record
    c.in_ok-record.ensures.has c.in_ok-record.ensures.makes c.in_ok-record.ensures.keeps
    c.keep.new.seat c.args.lane.now _ c.keep.ensures.client refl refl
    c.in_default.ensures.ok c.in_default-keep.ensures.keeps
