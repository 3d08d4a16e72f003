use Rattle.domain_desk.proofs.Opened.{all_nobody, opened_kept, opened_settled}
use Rattle.domain_desk.proofs.desk.DomainDesk.open.Goals as goal

pub returns-clause-settled : goal.returns-clause-settled
returns-clause-settled c =
    opened_settled c.args.slots c.args.cells c.args.weak_cells _ c.in_ok-domain.ensures.empty

pub returns-clause-makers : goal.returns-clause-makers
returns-clause-makers c = all_nobody _ c.in_ok-makers.ensures.each

pub returns-clause-kept : goal.returns-clause-kept
returns-clause-kept c = record {
  ready = c.in_ok-domain.ensures.ready;
  noted = c.in_ok-domain.ensures.noted;
  kept =
      opened_kept c.args.slots c.args.cells c.args.weak_cells _ c.in_ok-domain.ensures.empty _ _
      c.new.ensures c.in_ok-makers.ensures.size;
}
