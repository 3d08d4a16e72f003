use Rattle.std.proofs.Common.{◌≡◌, ◌<◌, Option, arith, false, length, subst, sym, true}
use Rattle.std.specs.Prelude.{slice_index_or}
use Rattle.call_times.proofs.Seats.{each_job, each_seat, job_there, ok_true}
use Rattle.call_times.proofs.jobs.in_threads.Goals as goal

pub map_vec-requires-after_bounds : goal.map_vec-requires-after_bounds
map_vec-requires-after_bounds g c κs within = λ i x low at.
    each_job _ c.args.seats.items (λ j y under here. c.requires j y under here) i x
    (subst (λ l. i < length l) c.in_ok-jobs.ensures low)
    (subst (λ l. x ≡ slice_index_or l i x) c.in_ok-jobs.ensures at)

pub returns : goal.returns
returns g c all = λ i low.
    let there = job_there c.args.seats.items i low in
    let job_low = subst (λ l. i < length l) (sym c.in_ok-jobs.ensures) there in
    let gives = (c.in_ok-made.ensures.each i false job_low).1 in
    let made_low : i < length c.as_slice.result.now =
    omega (arith, c.as_slice.ensures.len, c.in_ok-made.ensures.len, job_low) in
    let is_true = subst (λ l. slice_index_or l i false ≡ true) c.as_slice.ensures.value
    (c.are_true.ensures (ok_true c.are_true.result all) i made_low) in
    each_seat _ c.args.seats.items i low gives.job
    (subst (λ l. (d : Option g.row.T.Denot) → slice_index_or l i d ≡ gives.job) c.in_ok-jobs.ensures gives.job_is)
    (gives.call.met is_true)
