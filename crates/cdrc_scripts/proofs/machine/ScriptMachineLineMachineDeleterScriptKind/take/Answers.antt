use Rattle.std.proofs.Common.{◌≡◌, [], None, Ok, Some, ap, subst, sym, rules}
use Rattle.std.proofs.lemmas.List.{append-nil}
use Rattle.line_machine.specs.line_words.Words.{texts_of}
use Rattle.cdrc_scripts.specs.Domains.{IsSettledDesk, Place, RefusesOn, TakesOn}
use Rattle.cdrc_scripts.proofs.Taking.{settled_still}
use Rattle.cdrc_scripts.proofs.machine.ScriptMachineLineMachineDeleterScriptKind.take.Goals as goal

pub returns-in-Ok-clause-taken : goal.returns-in-Ok-clause-taken
returns-in-Ok-clause-taken g c told =
    let none : c.args.self.now ≡ None = search rules in
    let taken : TakesOn None (texts_of c.args.words.now) [] (Some c.in-Ok.desk)
    × IsSettledDesk (Some c.in-Ok.desk) = search rules in (
      [],
      sym (append-nil c.args.text.now.items),
      subst (λ (desk : Place). TakesOn desk (texts_of c.args.words.now) [] (Some c.in-Ok.desk))
          (sym none) taken.0,
    )

pub invariant_of-self-in-Some : goal.invariant_of-self-in-Some
invariant_of-self-in-Some g c =
    let settled : IsSettledDesk (Some c.in-Some.desk) = search rules in
    settled_still c.in_ok-refused.refused c.in-Some.desk c.take_command.new.desk settled
    (λ is. c.in_ok-refused.ensures.settled (ap Ok is))
    (λ reason is. c.in_ok-refused.ensures.stays reason (ap Ok is))

pub returns-in-Some-clause-refused : goal.returns-in-Some-clause-refused
returns-in-Some-clause-refused g c reason told =
    let whole : c.args.self.now ≡ Some c.in-Some.desk = search rules in
    let why = c.in_ok-refused.ensures.refused reason told in (
      why.0,
      subst (λ (desk : Place). RefusesOn desk (texts_of c.args.words.now) reason) (sym whole) why.1,
    )
