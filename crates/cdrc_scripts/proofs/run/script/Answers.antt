use Rattle.std.proofs.Common.{subst}
use Rattle.cdrc_scripts.specs.Domains.{IsClosed, Place}
use Rattle.cdrc_scripts.proofs.Taking.{is_script}
use Rattle.cdrc_scripts.proofs.run.script.Goals as goal

pub returns-clause-meaning : goal.returns-clause-meaning
returns-clause-meaning c =
    is_script c.args.text.now c.in_ok-written.written.text.items c.in_ok-written.written.refused
    c.run_lines.new.machine c.in_ok-written.ensures

pub returns-clause-on : goal.returns-clause-on
returns-clause-on c = record {
  last = c.run_lines.new.machine;
  run = c.in_ok-written.ensures;
  closed =
      subst (λ (last : Place). IsClosed last c.close.result) c.machine.view_is c.close.ensures;
}
