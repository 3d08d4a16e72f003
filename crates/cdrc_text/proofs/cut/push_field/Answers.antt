use Rattle.std.proofs.Common.{◌≡◌, ◌+◌, ◌-◌, ◌++◌, ◌∷◌, [], length, map, sym, ap, ◌∙◌, arith, append_assoc, length-append}
use Rattle.std.proofs.lemmas.List.FromFn.{length-map-range_with_len, map-range_with_len_more}
use Rattle.std.specs.Int.{div_ceil}
use Rattle.std.specs.List.{range_with_len}
use Rattle.cdrc_text.proofs.Cutting.{cut_places-is, over-cut_places, run_at}
use Rattle.cdrc_text.proofs.cut.push_field.Goals as goal

-- the list holds the first runs, so its length tells which run is over the limit
pub returns-then-len-limit-clause-refused : goal.returns-then-len-limit-clause-refused
returns-then-len-limit-clause-refused c =
    let old = c.args.places.now.items in
    let runs = map (run_at c.args.first c.args.end) (range_with_len 0 c.loop-index.index) in
    let size : length c.loop-index.places.items ≡ length old + c.loop-index.index
    = ap length c.loop-index.invariant.pushed ∙ length-append old runs
    ∙ ap (λ n. length old + n) (length-map-range_with_len (run_at c.args.first c.args.end) 0 c.loop-index.index) in
    over-cut_places old c.args.first c.args.end c.loop-index.index c.args.limit (omega arith) (omega arith)

pub loop-index-preserved : goal.loop-index-preserved
loop-index-preserved c =
    let old = c.args.places.now.items in
    let run = run_at c.args.first c.args.end in
    let runs = map run (range_with_len 0 c.loop-index.index) in
    let more : map run (range_with_len 0 (c.loop-index.index + 1)) ≡ runs ++ run c.loop-index.index ∷ []
    = map-range_with_len_more run 0 c.loop-index.index c.loop-index.index (omega arith) in
    let assoc : (old ++ runs) ++ run c.loop-index.index ∷ [] ≡ old ++ (runs ++ run c.loop-index.index ∷ [])
    = append_assoc old runs (run c.loop-index.index ∷ []) in
    let items = c.in_ok-push.ensures.items in
    record {
      pushed = cc;
      room = omega (arith, c.in_ok-push.ensures.len);
    }

-- after the last run, the list holds them all
pub returns-clause-ok : goal.returns-clause-ok
returns-clause-ok c =
    let old = c.args.places.now.items in
    let run = run_at c.args.first c.args.end in
    let all : c.loop-index.index ≡ div_ceil (c.args.end - c.args.first) 4096 = omega arith in
    c.loop-index.invariant.pushed
    ∙ ap (λ n. old ++ map run (range_with_len 0 n)) all
    ∙ ap (λ places. old ++ places) (sym (cut_places-is c.args.first c.args.end))
