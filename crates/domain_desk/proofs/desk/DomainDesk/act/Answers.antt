use Rattle.std.proofs.Common.{[], ◌∷◌, ◌++◌, sym, subst}
use Rattle.script_desk.specs.script_lines.declared.command.Command.{Command}
use Rattle.script_desk.specs.script_lines.declared.command.Command.TheVariants as command
use Rattle.script_desk.specs.Desks.{scope_of}
use Rattle.script_desk.specs.Faults.{need_of, place_needs, taken_by}
use Rattle.script_desk.specs.Handles.{is_any, is_firm, is_snapshot, is_strong, is_weak}
use Rattle.script_desk.proofs.Giving.{give_met}
use Rattle.script_desk.proofs.Needs.{faultless_met, first_met, met_left, met_right}
use Rattle.domain_desk.specs.Desks.{core_of, desk_of}
use Rattle.domain_desk.proofs.Shown.{shown_as}
use Rattle.domain_desk.specs.Runs.{Begins}
use Rattle.domain_desk.proofs.GivenUp.{given_begins}
use Rattle.domain_desk.proofs.Keeping.{acts_as, acts_if_ok}
use Rattle.domain_desk.proofs.desk.DomainDesk.act.Goals as goal

pub copy-requires-clause-bound : goal.copy-requires-clause-bound
copy-requires-clause-bound g c =
    first_met c.args.self.now.names c.in-Copy.name is_strong []
    (rw c.in-Copy.is at
    (faultless_met (scope_of (desk_of c.args.self.now)) c.args.command.now c.requires.faultless))

pub weaken-requires-clause-bound : goal.weaken-requires-clause-bound
weaken-requires-clause-bound g c =
    first_met c.args.self.now.names c.in-Weaken.name is_strong []
    (rw c.in-Weaken.is at
    (faultless_met (scope_of (desk_of c.args.self.now)) c.args.command.now c.requires.faultless))

pub copy_weak-requires-clause-bound : goal.copy_weak-requires-clause-bound
copy_weak-requires-clause-bound g c =
    first_met c.args.self.now.names c.in-CopyWeak.name is_weak []
    (rw c.in-CopyWeak.is at
    (faultless_met (scope_of (desk_of c.args.self.now)) c.args.command.now c.requires.faultless))

pub returns-in-Make-clause-begins : goal.returns-in-Make-clause-begins
returns-in-Make-clause-begins g c =
    acts_if_ok (desk_of c.args.self.now) c.args.command.now
    (command.Make c.in-Make.name c.in-Make.weight) c.make.result
    (desk_of c.make.new.self) c.in-Make.is c.make.ensures.makes

pub returns-in-Copy-clause-begins : goal.returns-in-Copy-clause-begins
returns-in-Copy-clause-begins g c =
    acts_if_ok (desk_of c.args.self.now) c.args.command.now
    (command.Copy c.in-Copy.name c.in-Copy.new) c.copy.result
    (desk_of c.copy.new.self) c.in-Copy.is c.copy.ensures.acts

pub returns-in-Weaken-clause-begins : goal.returns-in-Weaken-clause-begins
returns-in-Weaken-clause-begins g c =
    acts_if_ok (desk_of c.args.self.now) c.args.command.now
    (command.Weaken c.in-Weaken.name c.in-Weaken.new) c.weaken.result
    (desk_of c.weaken.new.self) c.in-Weaken.is c.weaken.ensures.acts

pub returns-in-CopyWeak-clause-begins : goal.returns-in-CopyWeak-clause-begins
returns-in-CopyWeak-clause-begins g c =
    acts_if_ok (desk_of c.args.self.now) c.args.command.now
    (command.CopyWeak c.in-CopyWeak.name c.in-CopyWeak.new) c.copy_weak.result
    (desk_of c.copy_weak.new.self) c.in-CopyWeak.is c.copy_weak.ensures.acts

pub upgrade-requires-clause-bound : goal.upgrade-requires-clause-bound
upgrade-requires-clause-bound g c =
    first_met c.args.self.now.names c.in-Upgrade.name is_weak []
    (rw c.in-Upgrade.is at
    (faultless_met (scope_of (desk_of c.args.self.now)) c.args.command.now c.requires.faultless))

pub read-requires-clause-bound : goal.read-requires-clause-bound
read-requires-clause-bound g c =
    first_met c.args.self.now.names c.in-Read.name is_any []
    (rw c.in-Read.is at
    (faultless_met (scope_of (desk_of c.args.self.now)) c.args.command.now c.requires.faultless))

pub counts-requires-clause-bound : goal.counts-requires-clause-bound
counts-requires-clause-bound g c =
    first_met c.args.self.now.names c.in-Counts.name is_any []
    (rw c.in-Counts.is at
    (faultless_met (scope_of (desk_of c.args.self.now)) c.args.command.now c.requires.faultless))

pub clear-requires-clause-needs : goal.clear-requires-clause-needs
clear-requires-clause-needs g c =
    rw c.in-Clear.is at
    (faultless_met (scope_of (desk_of c.args.self.now)) c.args.command.now c.requires.faultless)

pub load-requires-clause-needs : goal.load-requires-clause-needs
load-requires-clause-needs g c =
    rw c.in-Load.is at
    (faultless_met (scope_of (desk_of c.args.self.now)) c.args.command.now c.requires.faultless)

pub put-requires-clause-needs : goal.put-requires-clause-needs
put-requires-clause-needs g c =
    met_left c.args.self.now.names (place_needs c.in-Put.place)
    ((c.in-Put.name, taken_by c.in-Put.place) ∷ [])
    (rw c.in-Put.is at
    (faultless_met (scope_of (desk_of c.args.self.now)) c.args.command.now c.requires.faultless))

pub put-requires-clause-bound : goal.put-requires-clause-bound
put-requires-clause-bound g c =
    first_met c.args.self.now.names c.in-Put.name (taken_by c.in-Put.place) []
    (met_right c.args.self.now.names (place_needs c.in-Put.place)
    ((c.in-Put.name, taken_by c.in-Put.place) ∷ [])
    (rw c.in-Put.is at
    (faultless_met (scope_of (desk_of c.args.self.now)) c.args.command.now c.requires.faultless)))

pub replace-requires-clause-needs : goal.replace-requires-clause-needs
replace-requires-clause-needs g c =
    met_left c.args.self.now.names (place_needs c.in-Replace.place)
    (need_of c.in-Replace.old is_firm ++ need_of c.in-Replace.new is_strong)
    (rw c.in-Replace.is at
    (faultless_met (scope_of (desk_of c.args.self.now)) c.args.command.now c.requires.faultless))

pub replace-requires-clause-expected : goal.replace-requires-clause-expected
replace-requires-clause-expected g c =
    met_left c.args.self.now.names (need_of c.in-Replace.old is_firm)
    (need_of c.in-Replace.new is_strong)
    (met_right c.args.self.now.names (place_needs c.in-Replace.place)
    (need_of c.in-Replace.old is_firm ++ need_of c.in-Replace.new is_strong)
    (rw c.in-Replace.is at
    (faultless_met (scope_of (desk_of c.args.self.now)) c.args.command.now c.requires.faultless)))

pub replace-requires-clause-given : goal.replace-requires-clause-given
replace-requires-clause-given g c =
    met_right c.args.self.now.names (need_of c.in-Replace.old is_firm)
    (need_of c.in-Replace.new is_strong)
    (met_right c.args.self.now.names (place_needs c.in-Replace.place)
    (need_of c.in-Replace.old is_firm ++ need_of c.in-Replace.new is_strong)
    (rw c.in-Replace.is at
    (faultless_met (scope_of (desk_of c.args.self.now)) c.args.command.now c.requires.faultless)))

pub returns-in-Upgrade-clause-begins : goal.returns-in-Upgrade-clause-begins
returns-in-Upgrade-clause-begins g c =
    acts_if_ok (desk_of c.args.self.now) c.args.command.now
    (command.Upgrade c.in-Upgrade.name c.in-Upgrade.new) c.upgrade.result
    (desk_of c.upgrade.new.self) c.in-Upgrade.is c.upgrade.ensures.acts

pub returns-in-Load-clause-begins : goal.returns-in-Load-clause-begins
returns-in-Load-clause-begins g c =
    acts_if_ok (desk_of c.args.self.now) c.args.command.now
    (command.Load c.in-Load.place c.in-Load.new) c.load.result
    (desk_of c.load.new.self) c.in-Load.is c.load.ensures.acts

pub returns-in-Read-clause-begins : goal.returns-in-Read-clause-begins
returns-in-Read-clause-begins g c =
    acts_as (desk_of c.args.self.now) c.args.command.now
    (command.Read c.in-Read.name c.in-Read.word) c.read.result (desk_of c.read.new.self)
    c.in-Read.is c.read.ensures.acts

pub returns-in-Counts-clause-begins : goal.returns-in-Counts-clause-begins
returns-in-Counts-clause-begins g c =
    acts_as (desk_of c.args.self.now) c.args.command.now (command.Counts c.in-Counts.name)
    c.counts.result (desk_of c.counts.new.self) c.in-Counts.is c.counts.ensures.acts

pub returns-in-Replace-clause-begins : goal.returns-in-Replace-clause-begins
returns-in-Replace-clause-begins g c =
    subst
    (λ (x : Command). Begins (desk_of c.args.self.now) x c.replace.result
    (desk_of c.replace.new.self))
    (sym c.in-Replace.is) c.replace.ensures.begins

pub returns-in-Audit-clause-begins : goal.returns-in-Audit-clause-begins
returns-in-Audit-clause-begins g c =
    acts_if_ok (desk_of c.args.self.now) c.args.command.now
    command.Audit c.audit.result
    (desk_of c.audit.new.self) c.in-Audit.is c.audit.ensures.acts

pub keep-requires-clause-bound : goal.keep-requires-clause-bound
keep-requires-clause-bound g c =
    first_met c.args.self.now.names c.in-Keep.name is_snapshot []
    (rw c.in-Keep.is at
    (faultless_met (scope_of (desk_of c.args.self.now)) c.args.command.now c.requires.faultless))

pub give-requires-clause-bound : goal.give-requires-clause-bound
give-requires-clause-bound g c =
    give_met (desk_of c.args.self.now) c.args.command.now c.in-Drop.name c.in-Drop.is
    c.requires.faultless

pub returns-in-Snap-clause-begins : goal.returns-in-Snap-clause-begins
returns-in-Snap-clause-begins g c =
    acts_if_ok (desk_of c.args.self.now) c.args.command.now
    (command.Snap c.in-Snap.place c.in-Snap.new) c.snap.result
    (desk_of c.snap.new.self) c.in-Snap.is c.snap.ensures.acts

pub returns-in-Keep-clause-begins : goal.returns-in-Keep-clause-begins
returns-in-Keep-clause-begins g c =
    acts_if_ok (desk_of c.args.self.now) c.args.command.now
    (command.Keep c.in-Keep.name c.in-Keep.new) c.keep.result
    (desk_of c.keep.new.self) c.in-Keep.is c.keep.ensures.acts

pub returns-in-Drop-clause-begins : goal.returns-in-Drop-clause-begins
returns-in-Drop-clause-begins g c =
    given_begins (desk_of c.args.self.now) (desk_of c.give.new.self) c.args.command.now
    c.in-Drop.name c.in-Drop.is c.requires.faultless c.give.ensures.gives

pub returns-in-Load-clause-shows : goal.returns-in-Load-clause-shows
returns-in-Load-clause-shows g c =
    shown_as c.args.command.now (command.Load c.in-Load.place c.in-Load.new) c.load.result
    (core_of c.args.self.now) (core_of c.load.new.self) c.in-Load.is c.load.ensures.shows

pub returns-in-Audit-clause-shows : goal.returns-in-Audit-clause-shows
returns-in-Audit-clause-shows g c =
    shown_as c.args.command.now command.Audit c.audit.result (core_of c.args.self.now)
    (core_of c.audit.new.self) c.in-Audit.is c.audit.ensures.shows
