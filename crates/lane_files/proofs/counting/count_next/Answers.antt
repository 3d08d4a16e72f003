use Rattle.std.proofs.Common.{refl, sym, subst, [], ◌∷◌, arith}
use Rattle.std.proofs.lemmas.Result.{err_from_is_err_and}
use Rattle.std.specs.Prelude.{cond}
use Rattle.words_protocol.specs.words_law.Views.{View}
use Rattle.lane_files.specs.Passed.{Takes}
use Rattle.lane_files.proofs.SeatsKept.{owns_back}
use Rattle.lane_files.proofs.Nexts.{counts_next}
use Rattle.lane_files.proofs.counting.count_next.Goals as goal

pub returns-in_err-keep-clause-why : goal.returns-in_err-keep-clause-why
returns-in_err-keep-clause-why g c =
    let p = err_from_is_err_and c.from_residual-in_err-keep.result
    c.from_residual-in_err-keep.ensures.1 in
    rw (p.1, p.2) (
      (
        c.in_ok-handle.ensures.counts.0,
        subst (λ (v : View). Takes (c.args.piece.now ∷ []) (cond c.in_ok-handle.ensures.counts.0 1 0)
            c.args.seat.now.view.client v c.args.lane.now.tally c.count_piece.new.tally)
            (sym c.keep.ensures.client) c.in_ok-handle.ensures.counts.1,
      ),
      c.in_err-keep.ensures.refused,
      owns_back c.in_ok-handle.handle.slot c.args.seat.now.view.core.owned c.args.seat.now
          c.count_piece.new.seat c.keep.new.seat c.in_ok-handle.ensures.owns
          c.in_err-keep.ensures.gives (λ x. refl),
    )

pub returns-clause-makes : goal.returns-clause-makes
returns-clause-makes g c =
    let few = c.count_piece.ensures.makes in let keep = c.keep.ensures.makes in
    let tidy = c.tidy.ensures.makes in omega arith

pub returns-clause-counts : goal.returns-clause-counts
returns-clause-counts g c =
    counts_next c.args.piece.now c.in_ok-handle.handle c.args.seat.now c.count_piece.new.seat
    c.keep.new.seat c.tidy.new.seat c.args.lane.now _ c.in_ok-handle.ensures.counts
    c.in_ok-handle.ensures.knows c.in_ok-handle.ensures.owns c.in_ok-handle.ensures.interns
    c.in_ok-keep.ensures.keeps c.keep.ensures.client c.tidy.ensures.owns c.tidy.ensures.client
    c.requires.held (returns-clause-makes g c) c.tidy.ensures.scans

pub returns-in_err-handle-clause-lacks : goal.returns-in_err-handle-clause-lacks
returns-in_err-handle-clause-lacks g c =
    let p = err_from_is_err_and c.from_residual.result c.from_residual.ensures.1 in
    rw (p.1, p.2) c.in_err-handle.ensures.lacks

pub returns-in_err-keep-clause-lacks : goal.returns-in_err-keep-clause-lacks
returns-in_err-keep-clause-lacks g c =
    let p = err_from_is_err_and c.from_residual-in_err-keep.result
    c.from_residual-in_err-keep.ensures.1 in
    rw (p.1, p.2) tt
