-- That the law alone doesn't tell that no node is left.
use Rattle.std.specs.Prelude.{◌≡◌, ◌≤◌, true, List, [], slice_index_or, Some}
use Rattle.plain_audit.specs.plain_state.declared.slot.SlotId.{SlotId}
use Rattle.plain_audit.specs.plain_state.State.{Plain, slot_at}
use Rattle.plain_audit.specs.plain_protocol.Laws.{Meets}
use Rattle.plain_audit.specs.plain_protocol.Owns.{is_alone}
use Rattle.words_law.specs.queue_law.Chain.{Ends}
use Rattle.words_law.specs.directory_law.Cells.{Area}
use Rattle.words_law.specs.Law.{WordsLaw}
use Rattle.words_law.specs.Texts.{AllPieces}
use Rattle.words_law.specs.Views.{View, gone}
use Rattle.words_rest.specs.Nodes.{IsLiveNode}
use Rattle.words_rest.specs.Rest.{IsLeft}

-- the law holds, seat 0 is alone, the queue is shut, nothing was left, and the state rests; and yet a node lives, which
-- its own field 1 holds
pub record HasNodeLeft (u : Ends) (z : Area) (p : Plain) (views : List View) : Type 0 where
  pub meets : Meets (WordsLaw u z) p views
  pub fit : AllPieces p
  pub left : IsLeft p views
  pub alone : is_alone p 0 ≡ true
  pub shut : 3 ≤ (slice_index_or views 0 gone).0.stand.laid
  pub nothing : (slice_index_or views 0 gone).0.stand.left ≡ []
  pub node : SlotId
  pub lives : IsLiveNode p node
  pub itself : (slot_at p node).second ≡ Some node
