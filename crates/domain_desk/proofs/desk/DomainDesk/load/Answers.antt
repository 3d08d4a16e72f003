use Rattle.std.proofs.Common.{◌≡◌, refl, rules}
use Rattle.script_desk.specs.plain_state.declared.slot.Kind.TheVariants as kind
use Rattle.script_desk.specs.plain_state.Places.{place_kind}
use Rattle.lone_heap.proofs.Below.acquire_retire_Wholes.{then_ok}
use Rattle.script_desk.specs.script_lines.declared.command.Command.TheVariants as command
use Rattle.script_desk.specs.declared.said.Said.{Said}
use Rattle.script_desk.specs.Effects.{Acts, LoadsStrong, LoadsWeak}
use Rattle.domain_desk.specs.Desks.{desk_of}
use Rattle.domain_desk.proofs.Placing.{loads_strong_acts, loads_weak_acts, open_here, placed_so}
use Rattle.domain_desk.proofs.desk.DomainDesk.load.Goals as goal

pub load_strong-requires-clause-opened : goal.load_strong-requires-clause-opened
load_strong-requires-clause-opened c =
    open_here c.args.self.now c.args.self.now refl c.requires.kept c.args.place.now c.place_of-at.result
    c.requires.range c.requires.needs (placed_so _ _ c.self.view_is _ _ c.place_of-at.ensures)

pub returns-in-Cell-clause-acts : goal.returns-in-Cell-clause-acts
returns-in-Cell-clause-acts c =
    let is : place_kind c.place_of-at.result ≡ kind.Strong = search rules in
    then_ok
    (λ (answer : Said). LoadsStrong (desk_of c.args.self.now) c.place_of-at.result c.args.new.now
    answer (desk_of c.load_strong.new.self))
    (λ (answer : Said). Acts (desk_of c.args.self.now)
    (command.Load c.args.place.now c.args.new.now) answer (desk_of c.load_strong.new.self))
    c.load_strong.result
    (λ answer loads.
    loads_strong_acts (desk_of c.args.self.now) c.args.place.now c.place_of-at.result c.args.new.now
    answer (desk_of c.load_strong.new.self) (placed_so _ _ c.self.view_is _ _ c.place_of-at.ensures) is
    loads)
    c.load_strong.ensures.loads

pub load_weak-requires-clause-opened : goal.load_weak-requires-clause-opened
load_weak-requires-clause-opened c =
    open_here c.args.self.now c.args.self.now refl c.requires.kept c.args.place.now c.place_of-at.result
    c.requires.range c.requires.needs (placed_so _ _ c.self.view_is _ _ c.place_of-at.ensures)

pub returns-in-WeakCell-clause-acts : goal.returns-in-WeakCell-clause-acts
returns-in-WeakCell-clause-acts c =
    let is : place_kind c.place_of-at.result ≡ kind.Weak = search rules in
    then_ok
    (λ (answer : Said). LoadsWeak (desk_of c.args.self.now) c.place_of-at.result c.args.new.now
    answer (desk_of c.load_weak.new.self))
    (λ (answer : Said). Acts (desk_of c.args.self.now)
    (command.Load c.args.place.now c.args.new.now) answer (desk_of c.load_weak.new.self))
    c.load_weak.result
    (λ answer loads.
    loads_weak_acts (desk_of c.args.self.now) c.args.place.now c.place_of-at.result c.args.new.now
    answer (desk_of c.load_weak.new.self) (placed_so _ _ c.self.view_is _ _ c.place_of-at.ensures) is
    loads)
    c.load_weak.ensures.loads
