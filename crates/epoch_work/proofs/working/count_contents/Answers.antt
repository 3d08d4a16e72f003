use Rattle.std.proofs.Common.{ℕ, ◌<◌, List, subst}
use Rattle.cell_reports.specs.cdrc_text.Fold.{File}
use Rattle.cell_reports.specs.cdrc_text.Text.{IsReport}
use Rattle.cell_reports.specs.declared.counted.EpochCountError.{EpochCountError}
use Rattle.file_work.specs.Contents.{bytes_of}
use Rattle.file_work.specs.Limits.{AreSlots}
use Rattle.file_work.specs.lane_work.Sizes.{texts_in}
use Rattle.file_work.proofs.Sizes.{most_is}
use Rattle.epoch_work.specs.Beginnings.{IsWhyStopped}
use Rattle.epoch_work.proofs.working.count_contents.Goals as goal

pub returns-in-Ok-clause-done : goal.returns-in-Ok-clause-done
returns-in-Ok-clause-done g c =
    let plan = c.args.plan in let work = c.in_ok-work.work in let on = c.in_ok-work.ensures.on in
    let contents = bytes_of c.args.contents.items in
    let counted = c.in-Ok.field-0 in
    let done = c.in-Ok.ensures.done in record {
      within = c.in_ok-work.ensures.within;
      text = subst (λ (fs : List File). IsReport fs plan.rounds counted.text.items) on.texts
          (subst (λ (n : ℕ). IsReport (texts_in work) n counted.text.items) on.often done.report);
      work = work;
      on = on;
      slots = done.slots;
      opened = subst (λ (n : ℕ). AreSlots plan.slots n done.slots)
          (most_is plan.rounds contents work on) done.opened;
      root = done.root;
    }

pub returns-in-Err-Full-clause-why : goal.returns-in-Err-Full-clause-why
returns-in-Err-Full-clause-why g c =
    let contents = bytes_of c.args.contents.items in
    let plan = c.args.plan in let work = c.in_ok-work.work in let on = c.in_ok-work.ensures.on in
    let why = subst (λ (e : EpochCountError). IsWhyStopped work plan.lanes plan.slots e)
    c.in-Err-Full.field-0-is c.in-Err-Full.ensures.why in (
      c.in_ok-work.ensures.within,
      record {
        few = (why.0, why.1, subst (λ (n : ℕ). why.0 < n) (most_is plan.rounds contents work on) why.2);
        work = work;
        on = on;
        full = why.3;
      },
    )

pub returns-clause-why : goal.returns-clause-why
returns-clause-why g c =
    let contents = bytes_of c.args.contents.items in
    let plan = c.args.plan in let work = c.in_ok-work.work in let on = c.in_ok-work.ensures.on in
    let why = subst (λ (e : EpochCountError). IsWhyStopped work plan.lanes plan.slots e)
    c.in-Err-Spent.field-0-is c.in-Err-Spent.ensures.why in (
      c.in_ok-work.ensures.within,
      record {
        work = work;
        on = on;
        slots = why.0;
        opened = subst (λ (n : ℕ). AreSlots plan.slots n why.0)
            (most_is plan.rounds contents work on) why.1;
        spent = why.2;
      },
    )
