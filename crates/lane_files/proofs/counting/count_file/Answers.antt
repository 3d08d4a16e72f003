use Rattle.std.proofs.Common.{ℕ, ◌<◌, ◌≤◌, List, refl, sym, ap, subst, ◌∙◌, arith}
use Rattle.std.proofs.lemmas.List.{take_more}
use Rattle.std.proofs.lemmas.Result.{err_from_is_err_and}
use Rattle.std.specs.Prelude.{length, slice_index_or, take, []}
use Rattle.words_protocol.specs.cdrc_text.Text.{slots_of_word}
use Rattle.lane_files.specs.PieceMakes.{LacksMake}
use Rattle.lane_files.specs.Counting.{IsWhyStopped}
use Rattle.lane_files.specs.FilePieces.{pieces_in}
use Rattle.lane_files.specs.Makes.{cause_at}
use Rattle.lane_files.specs.Next.{CountsNext}
use Rattle.lane_files.proofs.Counted.{IsCounted, begun, counted_none, counts_on, held_by, stopped_begun}
use Rattle.lane_work.proofs.Pieces.{pieces_many, sized}
use Rattle.lane_files.proofs.counting.count_file.Goals as goal

pub loop-number-init : goal.loop-number-init
loop-number-init g c = record {
  ready = c.requires.ready;
  counts = counted_none c.args.seat.now c.args.lane.now _ refl c.begin_file.ensures.kept
      c.begin_file.ensures.none;
  turn = omega arith;
  number = refl;
}

pub count_next-requires-clause-piece : goal.count_next-requires-clause-piece
count_next-requires-clause-piece g c =
    subst (λ (w : List ℕ). (1 ≤ length w) × (length w ≤ 4096)) (sym c.piece.ensures)
    (sized c.args.file.now c.requires.pieces c.loop-number.number
    (subst (λ n. c.loop-number.number < n) c.len-number-end.ensures c.loop-number-test.true))

pub count_next-requires-clause-held : goal.count_next-requires-clause-held
count_next-requires-clause-held g c =
    held_by _ c.args.seat.now c.loop-number.seat c.args.lane.now c.loop-number.lane
    c.loop-number.invariant.counts.0 c.loop-number.invariant.counts.1

pub returns-in_err-count_next-clause-why : goal.returns-in_err-count_next-clause-why
returns-in_err-count_next-clause-why g c =
    let p = err_from_is_err_and c.from_residual.result c.from_residual.ensures.1 in
    let all = pieces_many c.args.file.now in
    rw (p.1, p.2) (record {
      done = c.loop-number.number;
      fewer = let is = c.loop-number-test.true in omega (arith, is);
      last = c.loop-number.seat;
      lane = c.loop-number.lane;
      counts = c.loop-number.invariant.counts.0;
      why = subst (λ w. IsWhyStopped _ c.args.domain.now w c.in_err-count_next.field-0.0
          c.loop-number.seat c.count_next.new.seat c.loop-number.lane c.count_next.new.lane)
          c.piece.ensures
          (stopped_begun _ c.args.domain.now c.piece.result.now c.in_err-count_next.field-0.0
          c.loop-number.seat c.count_next.new.seat c.loop-number.lane _ c.count_next.new.lane
          c.in_err-count_next.ensures.why.0);
      keeps = c.in_err-count_next.ensures.why.1;
      owns = c.in_err-count_next.ensures.why.2;
      makes = let m = c.count_next.ensures.makes in
          let e = ap slots_of_word c.piece.ensures in omega arith;
      lacks = subst (λ w. LacksMake c.args.domain.now (slots_of_word w)
          (cause_at c.in_err-count_next.field-0.0) c.loop-number.seat.view.core
          c.count_next.new.seat.view.core) c.piece.ensures c.in_err-count_next.ensures.lacks;
    })

pub loop-number-preserved : goal.loop-number-preserved
loop-number-preserved g c = record {
  ready = c.count_next.ensures.ready;
  counts = subst (λ ws. IsCounted ws c.args.seat.now c.count_next.new.seat c.args.lane.now
      c.count_next.new.lane)
      (sym (take_more (pieces_in c.args.file.now) c.loop-number.number []
      (let all = pieces_many c.args.file.now in let is = c.loop-number-test.true in
      omega (arith, is))))
      (counts_on (take c.loop-number.number (pieces_in c.args.file.now))
      (slice_index_or (pieces_in c.args.file.now) c.loop-number.number [])
      c.args.seat.now c.loop-number.seat c.count_next.new.seat c.args.lane.now c.loop-number.lane
      c.count_next.new.lane c.loop-number.invariant.counts.0
      (subst (λ w. CountsNext w c.loop-number.seat c.count_next.new.seat c.loop-number.lane
      c.count_next.new.lane) c.piece.ensures
      (begun c.piece.result.now c.loop-number.seat c.count_next.new.seat c.loop-number.lane _
      c.count_next.new.lane c.in_ok-count_next.ensures.counts))
      c.loop-number.invariant.counts.1);
  turn = let t = c.count_next.ensures.turn in let u = c.loop-number.invariant.turn in omega arith;
  number = c.count_next.ensures.number ∙ c.loop-number.invariant.number;
}
