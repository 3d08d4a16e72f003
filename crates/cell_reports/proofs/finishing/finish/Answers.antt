use Rattle.std.proofs.Common.{subst, sym}
use Rattle.std.specs.Prelude.{length}
use Rattle.cell_records.specs.tally_sums.Sums.{Tallies}
use Rattle.cell_reports.specs.Counted.{HasCounted}
use Rattle.cell_reports.proofs.finishing.finish.Goals as goal

pub write_report-requires-clause-counted : goal.write_report-requires-clause-counted
write_report-requires-clause-counted g c κs within =
    let gathers = c.in_ok-tallies.ensures.gathers in
    subst (λ (ts : Tallies). HasCounted c.args.work.now c.in_ok-tallies.field-0.kept.items ts
    c.gather.new.root) (sym c.deref.ensures.value) (record {
      lanes = length c.args.done.items;
      some = c.requires.ran.some;
      owns = gathers.owns;
      tells = gathers.tells;
      bound = gathers.bound;
      texts = gathers.texts;
      counts = gathers.counts.sums;
    })

pub returns-clause-root : goal.returns-clause-root
returns-clause-root g c =
    let wrote = c.in_ok-text.ensures in record {
      domain = c.args.domain.now;
      is = c.requires.domain;
      ready = c.write_report.ensures.ready;
      nothing = wrote.nothing;
      live = wrote.live;
      lists = wrote.lists;
    }
