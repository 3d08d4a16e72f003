-- The ends of runs that offered an output to their sink.
use Rattle.std.proofs.Common.{◌≡◌, ℕ, ◌⊎◌, inl, inr, Bool, true, false, List, refl, sym, subst, arith}
use Rattle.words_work.specs.lane_gate.Causes.{Rose}
use Rattle.words_work.proofs.Below.file_work_Refusing.{rose_stood}
use Rattle.cdrc_run.specs.Ends.{Ends, IsWritingEnd, SinkRun, SourceRun, TookAll, TookPart, kept_evidence}
use Rattle.cdrc_run.specs.Jobs.{Job}
use Rattle.cdrc_run.specs.Outputs.{IsOutputOf}
use Rattle.cdrc_run.specs.Statuses.{IsStatus}
use Rattle.cdrc_run.specs.declared.outcome.End.{End}
use Rattle.cdrc_run.specs.declared.outcome.Output.{Output}
use Rattle.cdrc_run.specs.declared.outcome.Why.{Why}
use Rattle.cdrc_run.specs.declared.outcome.Why.TheVariants as why
use Rattle.cdrc_run.proofs.Told.{told_passes}

-- no such status is one of those with an output
not_quiet : (n : ℕ) → (n ≡ 3) ⊎ (n ≡ 5) ⊎ (n ≡ 6) ⊎ (n ≡ 7)
    → (n ≡ 0) ⊎ (n ≡ 4) ⊎ (n ≡ 8) ⊎ (n ≡ 9) → ⊥
not_quiet n quiet is = grind arith

not_unshown : (n : ℕ) → (n ≡ 3) ⊎ (n ≡ 5) ⊎ (n ≡ 9) → (n ≡ 0) ⊎ (n ≡ 4) ⊎ (n ≡ 8) → ⊥
not_unshown n unshown is = grind arith

module _ (fits : List ℕ → Type 0) (job : Job) (source : SourceRun) (sink : SinkRun) (end : End)
    (output : Output)
    (is : IsOutputOf job source.told output.text.items output.refused output.why) where
  -- the output as it was told
  told_so : (refused : Bool) (shown : Why) → output.refused ≡ refused → shown ≡ output.why
      → IsOutputOf job source.told output.text.items refused shown
  told_so refused shown as_said same =
      subst (λ (r : Bool). IsOutputOf job source.told output.text.items r shown) as_said
      (subst (λ (w : Why). IsOutputOf job source.told output.text.items output.refused w) (sym same) is)

  ends_done : end.status ≡ 0 → output.refused ≡ false → end.why ≡ output.why
      → TookAll output.text.items sink → Ends fits job source sink end
  ends_done zero_is said shown took = record {
    understood = λ e. omega arith;
    done = λ e. (output.text.items, told_so false end.why said shown, took);
    refused = λ e. absurd (omega arith);
    read = λ e. absurd (omega arith);
    write = λ e. absurd (omega arith);
    part = λ e. absurd (omega arith);
    large = λ e. absurd (omega arith);
    full = λ e. absurd (omega arith);
    few = λ e. absurd (omega arith);
    spent = λ e. absurd (omega arith);
    memory = λ e. absurd (omega arith);
    nothing = λ e. absurd (not_quiet end.status e (inl zero_is));
    unshown = λ e. absurd (not_unshown end.status e (inl zero_is));
    refuses = λ contents tells passes stood.
        absurd (told_passes job source.told contents is.contents tells is.are is.within passes);
    complete = λ contents tells within stood still. inl zero_is;
  }

  ends_refused : end.status ≡ 8 → output.refused ≡ true → end.why ≡ output.why
      → TookAll output.text.items sink → Ends fits job source sink end
  ends_refused eight_is said shown took = record {
    understood = λ e. omega arith;
    done = λ e. absurd (omega arith);
    refused = λ e. (output.text.items, told_so true end.why said shown, took);
    read = λ e. absurd (omega arith);
    write = λ e. absurd (omega arith);
    part = λ e. absurd (omega arith);
    large = λ e. absurd (omega arith);
    full = λ e. absurd (omega arith);
    few = λ e. absurd (omega arith);
    spent = λ e. absurd (omega arith);
    memory = λ e. absurd (omega arith);
    nothing = λ e. absurd (not_quiet end.status e (inr (inr (inl eight_is))));
    unshown = λ e. absurd (not_unshown end.status e (inr (inr eight_is)));
    refuses = λ contents tells passes stood.
        absurd (told_passes job source.told contents is.contents tells is.are is.within passes);
    complete = λ contents tells within stood still. inr (inr (inr (inl eight_is)));
  }

  ends_failed : end.status ≡ 4 → end.why ≡ kept_evidence output.why
      → TookPart output.text.items sink → Rose sink.faults sink.faults_now
      → Ends fits job source sink end
  ends_failed four_is shown part rose = record {
    understood = λ e. omega arith;
    done = λ e. absurd (omega arith);
    refused = λ e. absurd (omega arith);
    read = λ e. absurd (omega arith);
    write = λ e. rose;
    part = λ e. record {
      bytes = output.text.items;
      refused = output.refused;
      shown = output.why;
      is_output = is;
      part = part;
      kept = shown;
    };
    large = λ e. absurd (omega arith);
    full = λ e. absurd (omega arith);
    few = λ e. absurd (omega arith);
    spent = λ e. absurd (omega arith);
    memory = λ e. absurd (omega arith);
    nothing = λ e. absurd (not_quiet end.status e (inr (inl four_is)));
    unshown = λ e. absurd (not_unshown end.status e (inr (inl four_is)));
    refuses = λ contents tells passes stood.
        absurd (told_passes job source.told contents is.contents tells is.are is.within passes);
    complete = λ contents tells within stood still.
        absurd (rose_stood sink.faults sink.faults_now rose still);
  }

  ends_unwritten : end.status ≡ 9 → end.why ≡ why.Nothing → TookPart output.text.items sink
      → Ends fits job source sink end
  ends_unwritten nine_is shown part = record {
    understood = λ e. omega arith;
    done = λ e. absurd (omega arith);
    refused = λ e. absurd (omega arith);
    read = λ e. absurd (omega arith);
    write = λ e. absurd (omega arith);
    part = λ e. absurd (omega arith);
    large = λ e. absurd (omega arith);
    full = λ e. absurd (omega arith);
    few = λ e. absurd (omega arith);
    spent = λ e. absurd (omega arith);
    memory = λ e. inr (
      output.why,
      record {
        bytes = output.text.items;
        refused = output.refused;
        shown = output.why;
        is_output = is;
        part = part;
        kept = refl;
      },
    );
    nothing = λ e. absurd (not_quiet end.status e (inr (inr (inr nine_is))));
    unshown = λ e. shown;
    refuses = λ contents tells passes stood.
        absurd (told_passes job source.told contents is.contents tells is.are is.within passes);
    complete = λ contents tells within stood still. inr (inr (inr (inr nine_is)));
  }

  -- the run offered this output to the sink
  pub ends_written : IsWritingEnd output sink end → Ends fits job source sink end
  ends_written (inl d) = ends_done d.0 d.1 d.2 d.3
  ends_written (inr (inl d)) = ends_refused d.0 d.1 d.2 d.3
  ends_written (inr (inr (inl d))) = ends_failed d.0 d.1 d.2 d.3
  ends_written (inr (inr (inr d))) = ends_unwritten d.0 d.1 d.2

pub status_written : (output : Output) (sink : SinkRun) (end : End) → IsWritingEnd output sink end
    → IsStatus end.status
status_written output sink end (inl d) = inl d.0
status_written output sink end (inr (inl d)) = inr (inr (inr (inr (inr (inr (inr (inl d.0)))))))
status_written output sink end (inr (inr (inl d))) = inr (inr (inr (inl d.0)))
status_written output sink end (inr (inr (inr d))) = inr (inr (inr (inr (inr (inr (inr (inr d.0)))))))
