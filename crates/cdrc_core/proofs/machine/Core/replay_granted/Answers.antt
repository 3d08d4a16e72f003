use Rattle.std.proofs.Common.{◌≡◌, Err, ap, subst, rules}
use Rattle.core_law.specs.core_events.Runs.{start}
use Rattle.cdrc_core.specs.Replays.{IsFirstRefused}
use Rattle.cdrc_core.specs.declared.errors.StepError.TheVariants.{NotEnabled, OutOfMemory}
use Rattle.cdrc_core.proofs.FirstBad.{passed_bad}
use Rattle.cdrc_core.proofs.Replaying.{replayed_none, replayed_more, replayed_all, replay_refused, replay_on}
use Rattle.cdrc_core.proofs.machine.Core.replay_granted.Goals as goal

pub returns-in_err-core-clause-bad : goal.returns-in_err-core-clause-bad
returns-in_err-core-clause-bad c =
    passed_bad _ (record { quotas = c.args.quotas.now; grants = c.args.grants.now }) _ _ _
    (search rules) c.in_err-core.was c.start_granted.ensures.bad

pub loop-at-init : goal.loop-at-init
loop-at-init c = record {
  replayed = replayed_none _ _ _ _ _ c.in_ok-core.ensures.ok c.in_ok-outcomes.ensures.items;
  count = search rules;
  room = search rules;
}

pub loop-at-preserved : goal.loop-at-preserved
loop-at-preserved c = record {
  replayed = replayed_more _ _ _ _ _ _ _ _ _ _ c.loop-at-test.true c.loop-at.invariant.replayed
      c.in-Ok.ensures.enabled c.in-Ok.ensures.ok c.in-Ok.ensures.told c.push_reserved.ensures.items;
  count = search rules;
  room = search rules;
}

pub returns-in-Err-clause-refused : goal.returns-in-Err-clause-refused
returns-in-Err-clause-refused c = λ i e.
    let same : c.loop-at.at ≡ i = cc (e) in
    let why : c.in-Err.error ≡ NotEnabled = cc (e) in
    subst
    (IsFirstRefused c.args.shape (start c.args.shape
    (record { quotas = c.args.quotas.now; grants = c.args.grants.now })) c.args.events.now) same
    (replay_refused _ _ _ _ _ _ _ c.loop-at-test.true c.loop-at.invariant.replayed
    (c.in-Err.ensures.refused.0 (ap Err why)))

pub returns-in-Err-clause-memory : goal.returns-in-Err-clause-memory
returns-in-Err-clause-memory c = λ i e.
    let same : c.loop-at.at ≡ i = cc (e) in
    let why : c.in-Err.error ≡ OutOfMemory = cc (e) in
    let on = replay_on _ _ _ _ _ _ _ c.loop-at-test.true c.loop-at.invariant.replayed
    (c.in-Err.ensures.memory (ap Err why)) in
    (rw (← same) c.loop-at-test.true, rw (← same) on)

pub returns-clause-enabled : goal.returns-clause-enabled
returns-clause-enabled c =
    let all = replayed_all _ _ _ _ _ _ c.loop-at-test.false c.loop-at.invariant.replayed in
    let ranges = c.in_ok-core.ensures.ranges in (ranges.0, ranges.1, all.0)

pub returns-clause-ok : goal.returns-clause-ok
returns-clause-ok c =
    (replayed_all _ _ _ _ _ _ c.loop-at-test.false c.loop-at.invariant.replayed).1

pub returns-clause-told : goal.returns-clause-told
returns-clause-told c =
    (replayed_all _ _ _ _ _ _ c.loop-at-test.false c.loop-at.invariant.replayed).2
