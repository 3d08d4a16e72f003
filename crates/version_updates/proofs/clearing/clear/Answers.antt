use Rattle.std.proofs.Common.{ap, ◌∙◌}
use Rattle.map_law.specs.declared.view.View.{View}
use Rattle.version_updates.proofs.Emptying.{alone_still, clear_ready, cleared, client_cleared, keeps_cleared}
use Rattle.version_updates.proofs.clearing.clear.Goals as goal

pub store-requires-clause-deed : goal.store-requires-clause-deed
store-requires-clause-deed c w =
    clear_ready c.args.domain.now c.args.cell c.args.domain.now.protocol.cell c.args.root.now
    c.requires.cell.0 c.requires.ready c.requires.alone c.alone-alone.ensures.knows

pub returns-clause-null : goal.returns-clause-null
returns-clause-null c =
    cleared c.args.domain.now c.args.cell c.args.root.now c.store.new.seat c.store.ensures.stored

pub returns-clause-client : goal.returns-clause-client
returns-clause-client c =
    client_cleared c.args.domain.now c.args.cell c.args.root.now c.store.new.seat
    c.store.ensures.stored

pub returns-clause-keeps : goal.returns-clause-keeps
returns-clause-keeps c =
    keeps_cleared c.args.domain.now c.args.cell c.args.root.now c.store.new.seat
    c.store.ensures.stored c.store.ensures.objects

pub returns-clause-alone : goal.returns-clause-alone
returns-clause-alone c =
    alone_still c.args.domain.now c.args.cell c.args.root.now c.store.new.seat
    c.store.ensures.stored c.requires.alone

pub returns-clause-ready : goal.returns-clause-ready
returns-clause-ready c = record {
  rest = c.store.ensures.rest;
  room = c.store.ensures.room;
  here = ap (λ (v : View). v.here) (returns-clause-client c) ∙ c.requires.ready.here;
}
