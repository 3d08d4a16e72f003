use Rattle.std.proofs.Common.{[], ◌∷◌, ◌++◌}
use Rattle.script_desk.specs.Desks.{scope_of}
use Rattle.script_desk.specs.Faults.{need_of, place_needs, taken_by}
use Rattle.script_desk.specs.Handles.{is_strong, is_weak, is_snapshot, is_firm, is_any}
use Rattle.script_desk.proofs.Needs.{first_met, met_left, met_right, faultless_met}
use Rattle.script_desk.proofs.Giving.{give_met, give_told}
use Rattle.script_desk.proofs.desk.Desk.act.Goals as goal

pub copy-requires-clause-bound : goal.copy-requires-clause-bound
copy-requires-clause-bound c = first_met c.args.self.now.names c.in-Copy.name is_strong [] (rw c.in-Copy.is at (faultless_met (scope_of c.args.self.now) c.args.command.now c.requires.faultless))

pub weaken-requires-clause-bound : goal.weaken-requires-clause-bound
weaken-requires-clause-bound c = first_met c.args.self.now.names c.in-Weaken.name is_strong [] (rw c.in-Weaken.is at (faultless_met (scope_of c.args.self.now) c.args.command.now c.requires.faultless))

pub copy_weak-requires-clause-bound : goal.copy_weak-requires-clause-bound
copy_weak-requires-clause-bound c = first_met c.args.self.now.names c.in-CopyWeak.name is_weak [] (rw c.in-CopyWeak.is at (faultless_met (scope_of c.args.self.now) c.args.command.now c.requires.faultless))

pub upgrade-requires-clause-bound : goal.upgrade-requires-clause-bound
upgrade-requires-clause-bound c = first_met c.args.self.now.names c.in-Upgrade.name is_weak [] (rw c.in-Upgrade.is at (faultless_met (scope_of c.args.self.now) c.args.command.now c.requires.faultless))

pub keep-requires-clause-bound : goal.keep-requires-clause-bound
keep-requires-clause-bound c = first_met c.args.self.now.names c.in-Keep.name is_snapshot [] (rw c.in-Keep.is at (faultless_met (scope_of c.args.self.now) c.args.command.now c.requires.faultless))

pub read-requires-clause-bound : goal.read-requires-clause-bound
read-requires-clause-bound c = first_met c.args.self.now.names c.in-Read.name is_any [] (rw c.in-Read.is at (faultless_met (scope_of c.args.self.now) c.args.command.now c.requires.faultless))

pub counts-requires : goal.counts-requires
counts-requires c = first_met c.args.self.now.names c.in-Counts.name is_any [] (rw c.in-Counts.is at (faultless_met (scope_of c.args.self.now) c.args.command.now c.requires.faultless))

pub clear-requires-clause-needs : goal.clear-requires-clause-needs
clear-requires-clause-needs c = rw c.in-Clear.is at (faultless_met (scope_of c.args.self.now) c.args.command.now c.requires.faultless)

pub load-requires-clause-needs : goal.load-requires-clause-needs
load-requires-clause-needs c = rw c.in-Load.is at (faultless_met (scope_of c.args.self.now) c.args.command.now c.requires.faultless)

pub snap-requires-clause-needs : goal.snap-requires-clause-needs
snap-requires-clause-needs c = rw c.in-Snap.is at (faultless_met (scope_of c.args.self.now) c.args.command.now c.requires.faultless)

pub put-requires-clause-needs : goal.put-requires-clause-needs
put-requires-clause-needs c =
    met_left c.args.self.now.names (place_needs c.in-Put.place) ((c.in-Put.name, taken_by c.in-Put.place) ∷ [])
    (rw c.in-Put.is at (faultless_met (scope_of c.args.self.now) c.args.command.now c.requires.faultless))

pub put-requires-clause-bound : goal.put-requires-clause-bound
put-requires-clause-bound c =
    first_met c.args.self.now.names c.in-Put.name (taken_by c.in-Put.place) []
    (met_right c.args.self.now.names (place_needs c.in-Put.place) ((c.in-Put.name, taken_by c.in-Put.place) ∷ [])
    (rw c.in-Put.is at (faultless_met (scope_of c.args.self.now) c.args.command.now c.requires.faultless)))

pub replace-requires-clause-needs : goal.replace-requires-clause-needs
replace-requires-clause-needs c =
    met_left c.args.self.now.names (place_needs c.in-Replace.place) (need_of c.in-Replace.old is_firm ++ need_of c.in-Replace.new is_strong)
    (rw c.in-Replace.is at (faultless_met (scope_of c.args.self.now) c.args.command.now c.requires.faultless))

pub replace-requires-clause-expected : goal.replace-requires-clause-expected
replace-requires-clause-expected c =
    met_left c.args.self.now.names (need_of c.in-Replace.old is_firm) (need_of c.in-Replace.new is_strong)
    (met_right c.args.self.now.names (place_needs c.in-Replace.place) (need_of c.in-Replace.old is_firm ++ need_of c.in-Replace.new is_strong)
    (rw c.in-Replace.is at (faultless_met (scope_of c.args.self.now) c.args.command.now c.requires.faultless)))

pub replace-requires-clause-given : goal.replace-requires-clause-given
replace-requires-clause-given c =
    met_right c.args.self.now.names (need_of c.in-Replace.old is_firm) (need_of c.in-Replace.new is_strong)
    (met_right c.args.self.now.names (place_needs c.in-Replace.place) (need_of c.in-Replace.old is_firm ++ need_of c.in-Replace.new is_strong)
    (rw c.in-Replace.is at (faultless_met (scope_of c.args.self.now) c.args.command.now c.requires.faultless)))

pub give-requires : goal.give-requires
give-requires c = give_met c.args.self.now c.args.command.now c.in-Drop.name c.in-Drop.is c.requires.faultless

pub returns-in-Make : goal.returns-in-Make
returns-in-Make c = rw c.in-Make.is c.make.ensures

pub returns-in-Put : goal.returns-in-Put
returns-in-Put c = rw c.in-Put.is c.put.ensures

pub returns-in-Drop : goal.returns-in-Drop
returns-in-Drop c =
    give_told c.args.self.now c.give.new.self c.args.command.now c.in-Drop.name c.in-Drop.is c.requires.faultless c.give.ensures
