use Rattle.std.proofs.Common.{Some}
use Rattle.plain_settling.proofs.Taking.{snaps_take}
use Rattle.plain_settling.specs.plain_store.Calls.{strong_place}
use Rattle.script_desk.specs.declared.handle.Handle.TheVariants.{Snapshot}
use Rattle.script_desk.proofs.Sums.{has_more}
use Rattle.script_desk.proofs.Gaining.{is_strong_kind, takes_more}
use Rattle.script_desk.proofs.Naming.{kept_bound, kept_undone}
use Rattle.script_desk.proofs.desk.Desk.snap.Goals as goal

pub bind-requires-clause-has : goal.bind-requires-clause-has
bind-requires-clause-has c =
    has_more c.self.inside.heap c.snap.new.self (Snapshot c.in-Some.hand)
    (takes_more c.self.inside.heap c.snap.new.self (strong_place c.in-Strong.at) c.in-Some.hand.0 c.in-Some.hand.1 (is_strong_kind c.in-Strong.at)
    (snaps_take c.self.inside.heap c.snap.new.self (strong_place c.in-Strong.at) (Some c.in-Some.hand) (rw c.in-Some.is at c.in_ok-hand.ensures.snaps)))

pub invariant_of-self-in_err-bind : goal.invariant_of-self-in_err-bind
invariant_of-self-in_err-bind c =
    kept_undone _ _ _ _ _ c.self.invariant c.snap.new.self (Snapshot c.in-Some.hand)
    (takes_more c.self.inside.heap c.snap.new.self (strong_place c.in-Strong.at) c.in-Some.hand.0 c.in-Some.hand.1 (is_strong_kind c.in-Strong.at)
    (snaps_take c.self.inside.heap c.snap.new.self (strong_place c.in-Strong.at) (Some c.in-Some.hand) (rw c.in-Some.is at c.in_ok-hand.ensures.snaps)))
    c.bind.new.heap c.bind.new.names c.in_err-bind.ensures.err c.in_err-bind.ensures.gave

pub invariant_of-self-2 : goal.invariant_of-self-2
invariant_of-self-2 c =
    kept_bound _ _ _ _ _ c.self.invariant c.snap.new.self (Snapshot c.in-Some.hand)
    (takes_more c.self.inside.heap c.snap.new.self (strong_place c.in-Strong.at) c.in-Some.hand.0 c.in-Some.hand.1 (is_strong_kind c.in-Strong.at)
    (snaps_take c.self.inside.heap c.snap.new.self (strong_place c.in-Strong.at) (Some c.in-Some.hand) (rw c.in-Some.is at c.in_ok-hand.ensures.snaps)))
    c.bind.new.heap c.bind.new.names c.in_ok-bind.ensures.heap c.in_ok-bind.ensures.more
