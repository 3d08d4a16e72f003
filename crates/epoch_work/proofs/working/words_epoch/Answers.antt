use Rattle.std.proofs.Common.{◌≡◌, ℕ, ◌<◌, ◌≤◌, List, Err, ap, length, map, string_bytes, sym, subst, arith, Global, String, Vec}
use Rattle.std.proofs.lemmas.List.{length-map}
use Rattle.std.proofs.lemmas.Result.{err_from_is_err_and}
use Rattle.file_work.specs.Contents.{AreContents, Counts, bytes_of}
use Rattle.file_work.specs.Limits.{most_files, names_of}
use Rattle.file_work.specs.Outcomes.{Answers}
use Rattle.file_work.specs.Reads.{IsWhyNoContents}
use Rattle.file_work.specs.declared.plan.Plan.{Plan}
use Rattle.file_work.proofs.Answering.{answers_counted, answers_unread}
use Rattle.file_work.proofs.Told.{contents_many}
use Rattle.epoch_work.specs.Outcomes.{IsCounted, IsFull, IsSpentOn}
use Rattle.epoch_work.proofs.working.words_epoch.Goals as goal

pub returns-in_err-contents-clause-answers : goal.returns-in_err-contents-clause-answers
returns-in_err-contents-clause-answers g c =
    let told = g.F.Files.told c.args.files.now in
    let names = ap (map string_bytes) c.deref.ensures.value in
    let size = length-map c.args.args.now.names.items string_bytes in
    let same = ap length c.deref.ensures.value in
    let counts : Counts = record {
      faults = g.F.Files.faults c.args.files.now;
      faults_now = g.F.Files.faults c.read_named.new.files;
      overlong = g.F.Files.overlong c.args.files.now;
      overlong_now = g.F.Files.overlong c.read_named.new.files;
    } in
    let error = c.in_err-contents.field-0.0 in
    let p = err_from_is_err_and c.from_residual.result c.from_residual.ensures.1 in
    rw (p.1, p.2)
    (answers_unread IsCounted IsFull IsSpentOn told (names_of c.args.args.now) _ counts _ error
    (subst (λ (ns : List (List ℕ)). IsWhyNoContents told ns counts error) names
    c.in_err-contents.ensures.why)
    (λ more.
    let many = c.in_err-contents.ensures.many (omega (arith, more, size, same)) in (
      cc,
      c.in_err-contents.ensures.unread (omega (arith, more, size, same)),
    )))

pub count_contents-requires-clause-some : goal.count_contents-requires-clause-some
count_contents-requires-clause-some g c κs within =
    let a = contents_many (g.F.Files.told c.args.files.now) (map string_bytes c.deref.result.now)
    (bytes_of c.in_ok-contents.contents.items) c.in_ok-contents.ensures.contents in
    let b = length-map c.in_ok-contents.contents.items (λ (text : Vec ℕ Global). text.items) in
    let d = length-map c.deref.result.now string_bytes in
    let e = ap length c.deref.ensures.value in
    let f = length-map c.args.args.now.names.items string_bytes in
    let s = c.requires.some in omega (arith, a, b, d, e, f, s)

pub count_contents-requires-clause-few : goal.count_contents-requires-clause-few
count_contents-requires-clause-few g c κs within =
    let a = contents_many (g.F.Files.told c.args.files.now) (map string_bytes c.deref.result.now)
    (bytes_of c.in_ok-contents.contents.items) c.in_ok-contents.ensures.contents in
    let b = length-map c.in_ok-contents.contents.items (λ (text : Vec ℕ Global). text.items) in
    let d = length-map c.deref.result.now string_bytes in
    let few = c.in_ok-contents.ensures.few in omega (arith, a, b, d, few)

pub returns-clause-answers : goal.returns-clause-answers
returns-clause-answers g c =
    let told = g.F.Files.told c.args.files.now in
    let names = ap (map string_bytes) c.deref.ensures.value in
    let contents = bytes_of c.in_ok-contents.contents.items in
    let size = length-map c.args.args.now.names.items string_bytes in
    let same = ap length c.deref.ensures.value in
    let few = c.in_ok-contents.ensures.few in
    subst
    (λ (p : Plan). Answers IsCounted IsFull IsSpentOn told (names_of c.args.args.now) p (record {
      faults = g.F.Files.faults c.args.files.now;
      faults_now = g.F.Files.faults c.read_named.new.files;
      overlong = g.F.Files.overlong c.args.files.now;
      overlong_now = g.F.Files.overlong c.read_named.new.files;
    }) (c.read_named.new.files ≡ c.args.files.now) c.count_contents.result)
    c.plan_of.ensures
    (answers_counted IsCounted IsFull IsSpentOn told (names_of c.args.args.now) c.plan_of.result _ _
    contents
    (subst (λ (ns : List (List ℕ)). AreContents told ns contents) names
    c.in_ok-contents.ensures.contents)
    c.count_contents.result (λ done is. is.within) (omega (arith, few, same, size))
    c.count_contents.ensures.done c.count_contents.ensures.why)
