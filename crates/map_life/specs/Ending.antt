-- What is left of a map once one seat is alone and has destroyed all that it may.
use Rattle.map_rest.specs.plain_audit.plain_state.State.{Plain}
use Rattle.map_rest.specs.plain_audit.heap_audit.declared.finding.Audit.{Audit}
use Rattle.map_rest.specs.map_law.map_trees.Trees.{Shaped, Tree}
use Rattle.map_rest.specs.map_law.declared.view.View.{View}
use Rattle.map_rest.specs.map_law.Law.{MapLaw as Law}
use Rattle.map_rest.specs.map_law.Nodes.{IsNode, TreeAt, root}
use Rattle.map_rest.specs.map_law.Promises.{Remains}
use Rattle.map_rest.specs.map_law.Views.{gone}
use Rattle.map_rest.specs.Rest.{FindsTree}
use Rattle.version_map.specs.version_making.map_protocol.declared.law.MapLaw.{MapLaw}
use Rattle.seat_life.specs.domain_audit.acquire_retire.Domains.{DomainState}
use Rattle.seat_life.specs.domain_audit.acquire_retire.Seats.{SeatState}
use Rattle.seat_life.specs.domain_audit.acquire_retire.Wholes.{KnowsState}
use Rattle.seat_life.specs.law_lesson.Lessons.{HoldsOf}

-- Of the whole state, as the seat knows it, and of its view, the law of the map holds. The root cell leads to one tree,
-- a balanced search tree; what lives are its nodes, one for each key, and an audit found just these.
pub record LeavesTree (d : DomainState MapLaw) (seat : SeatState View) (found : Audit) : Type 0
  where
    pub state : Plain
    pub knows : KnowsState IsNode seat.view state
    pub holds : HoldsOf (Law d.protocol.cell) gone state 0 seat.view.client
    pub tree : Tree
    pub is : TreeAt state (root state d.protocol.cell) tree
    pub shaped : Shaped tree
    pub remains : Remains d.protocol.cell state tree
    pub finds : FindsTree tree found
