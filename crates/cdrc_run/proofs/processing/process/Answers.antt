use Rattle.cdrc_run.proofs.Processed.{ends_with, many_with}
use Rattle.cdrc_run.proofs.processing.process.Goals as goal
use Rattle.cdrc_run.proofs.processing.process.Goals.{in-Ok, in-Err}

pub returns-then-status-ne0-clause-ran : goal.returns-then-status-ne0-clause-ran
returns-then-status-ne0-clause-ran g c = elim c.match-words.branch [
  | in-Ok w ↦
      rw (w.in-Ok.is, ← w.deref.ensures.value, w.files-is, w.sink-is)
      (ends_with _ _ _ _ w.run.result w.run.ensures.usage
      (λ none. let refused = w.run.ensures.usage_exactly none in (refused.0, refused.2))
      w.run.ensures.ends c.exit_status-status.result
      (rw w.outcome-is at c.exit_status-status.ensures.ran))
  | in-Err w ↦ rw w.in-Err.is tt
]

pub returns-else-status-ne0-clause-ran : goal.returns-else-status-ne0-clause-ran
returns-else-status-ne0-clause-ran g c = elim c.match-words.branch [
  | in-Ok w ↦
      rw (w.in-Ok.is, ← w.deref.ensures.value, w.files-is, w.sink-is)
      (ends_with _ _ _ _ w.run.result w.run.ensures.usage
      (λ none. let refused = w.run.ensures.usage_exactly none in (refused.0, refused.2))
      w.run.ensures.ends c.exit_status-status.result
      (rw w.outcome-is at c.exit_status-status.ensures.ran))
  | in-Err w ↦ rw w.in-Err.is tt
]

pub returns-then-status-ne0-clause-unread : goal.returns-then-status-ne0-clause-unread
returns-then-status-ne0-clause-unread g c = elim c.match-words.branch [
  | in-Ok w ↦
      rw (w.in-Ok.is, ← w.deref.ensures.value, w.files-is)
      (λ none. (w.run.ensures.usage_exactly none).3)
  | in-Err w ↦ rw w.in-Err.is tt
]

pub returns-else-status-ne0-clause-unread : goal.returns-else-status-ne0-clause-unread
returns-else-status-ne0-clause-unread g c = elim c.match-words.branch [
  | in-Ok w ↦
      rw (w.in-Ok.is, ← w.deref.ensures.value, w.files-is)
      (λ none. (w.run.ensures.usage_exactly none).3)
  | in-Err w ↦ rw w.in-Err.is tt
]

pub returns-then-status-ne0-clause-many : goal.returns-then-status-ne0-clause-many
returns-then-status-ne0-clause-many g c = elim c.match-words.branch [
  | in-Ok w ↦
      rw (w.in-Ok.is, ← w.deref.ensures.value, w.files-is)
      (λ job asks many. (
        many_with w.run.result.status c.exit_status-status.result
            (rw w.outcome-is at c.exit_status-status.ensures.ran) (w.run.ensures.many job asks many),
        w.run.ensures.unread job asks many,
      ))
  | in-Err w ↦ rw w.in-Err.is tt
]

pub returns-else-status-ne0-clause-many : goal.returns-else-status-ne0-clause-many
returns-else-status-ne0-clause-many g c = elim c.match-words.branch [
  | in-Ok w ↦
      rw (w.in-Ok.is, ← w.deref.ensures.value, w.files-is)
      (λ job asks many. (
        many_with w.run.result.status c.exit_status-status.result
            (rw w.outcome-is at c.exit_status-status.ensures.ran) (w.run.ensures.many job asks many),
        w.run.ensures.unread job asks many,
      ))
  | in-Err w ↦ rw w.in-Err.is tt
]
