use Rattle.cell_calls.specs.Cells.{area_of}
use Rattle.cell_finding.specs.Finding.{IsNullOn}
use Rattle.cell_finding.proofs.Later.{found_after, found_before, step_after, step_before}
use Rattle.cell_finding.proofs.laws.finds_stay_over_calls.Goals as goal

pub returns : goal.returns
returns c = record {
  before = found_before;
  after = found_after;
  null_before = λ d makes adds owned text passed old mid new keeps at.
      step_before d makes adds owned (IsNullOn (area_of d.protocol) text passed) old mid new keeps at;
  null_after = λ d makes adds owned text passed old mid new at keeps.
      step_after d makes adds owned (IsNullOn (area_of d.protocol) text passed) old mid new at keeps;
}
