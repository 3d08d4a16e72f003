use Rattle.std.proofs.Common.{IfSome, inl, map, refl, string_bytes, subst}
use Rattle.std.specs.declared.option.Option.{Option}
use Rattle.command_line.specs.Requests.{Asks}
use Rattle.command_line.specs.run_requests.declared.asked.Request.{Request}
use Rattle.cdrc_run.specs.Jobs.{job_of}
use Rattle.cdrc_run.proofs.Asked.{ends_as_asked, many_as_asked}
use Rattle.cdrc_run.proofs.running.run.Goals as goal

pub returns-in-Ok-Some-clause-ends : goal.returns-in-Ok-Some-clause-ends
returns-in-Ok-Some-clause-ends g c job asks =
    let asked = c.in-Ok-Some.request in
    let line = map string_bytes c.args.words.now in
    let found = subst (λ (o : Option Request). IfSome o (Asks line)) c.in-Ok-Some.field-0-is
    c.in-Ok-Some.ensures.found in
    ends_as_asked line (job_of asked) job (asked, found, refl) asks c.do_request.ensures.ends

pub returns-in-Ok-Some-clause-many : goal.returns-in-Ok-Some-clause-many
returns-in-Ok-Some-clause-many g c job asks many =
    let asked = c.in-Ok-Some.request in
    let line = map string_bytes c.args.words.now in
    let found = subst (λ (o : Option Request). IfSome o (Asks line)) c.in-Ok-Some.field-0-is
    c.in-Ok-Some.ensures.found in
    inl (c.do_request.ensures.many
    (many_as_asked line (job_of asked) job (asked, found, refl) asks many))

pub returns-in-Ok-Some-clause-unread : goal.returns-in-Ok-Some-clause-unread
returns-in-Ok-Some-clause-unread g c job asks many =
    let asked = c.in-Ok-Some.request in
    let line = map string_bytes c.args.words.now in
    let found = subst (λ (o : Option Request). IfSome o (Asks line)) c.in-Ok-Some.field-0-is
    c.in-Ok-Some.ensures.found in
    c.do_request.ensures.unread
    (many_as_asked line (job_of asked) job (asked, found, refl) asks many)
