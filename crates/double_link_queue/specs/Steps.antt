-- The steps of a push in order, with the deed of each; and those of a push that was lost to another seat.
use Rattle.std.specs.Prelude.{ℕ, ◌≡◌, ◌⊎◌, ◌+◌, false, Option, Some, None, List}
use Rattle.weak_part_calls.specs.plain_state.declared.act.EventPlace.TheVariants.{Cell, Field, WeakField}
use Rattle.weak_part_calls.specs.plain_state.declared.slot.SlotId.{SlotId}
use Rattle.weak_part_calls.specs.core_events.declared.act.Act.TheVariants as act
use Rattle.weak_part_calls.specs.core_events.declared.outcome.Outcome.{Outcome}
use Rattle.weak_part_calls.specs.acquire_retire.Calls.{IsSameView, Steps, same_view}
use Rattle.weak_part_calls.specs.acquire_retire.Domains.{DomainState}
use Rattle.weak_part_calls.specs.acquire_retire.Seats.{SeatState}
use Rattle.weak_part_calls.specs.control_word.Calls.{DropsStrong, DropsWeak, FindsEnded, GainsStrong, GainsWeak}
use Rattle.weak_part_calls.specs.protected_loads.References.{Loads}
use Rattle.weak_part_calls.specs.retiring_stores.Exchanging.{LosesTo, Replaces, Stores}
use Rattle.linked_queue.specs.queue_law.declared.view.View.{View}
use Rattle.linked_queue.specs.queue_law.Lessons.{EndedTells, TellsNothing, before_next, ended_next, learn_next, set_next}
use Rattle.linked_queue.specs.queue_law.Nodes.{back_next}
use Rattle.linked_queue.specs.queue_law.Pushes.{exchange_next, help_next, land_next}
use Rattle.linked_queue.specs.queue_protocol.declared.law.QueueLaw.{QueueLaw}
use Rattle.linked_queue.specs.Cells.{TailTells}
use Rattle.linked_queue.specs.PushLosses.{MissesTail}
use Rattle.linked_queue.specs.Pushes.{LoadsNode}
use Rattle.linked_queue.specs.Queues.{ends_of}
use Rattle.linked_queue.specs.Seeing.{MissesAt}
use Rattle.linked_queue.specs.UnlessRipe.{next_unless}
use Rattle.double_link_queue.specs.Before.{BeforeTells}

module _ (fits : List ℕ → Type 0) (d : DomainState QueueLaw) where
  -- BACK. The seat counted a weak reference to the last node, and put it into the weak field of its own.
  pub record LinksBack (last node : SlotId) (old new : SeatState View) : Type 0 where
    pub weak : SeatState View
    pub weakens : GainsWeak fits d last old weak
    pub stores :
        Stores fits d (next_unless back_next) TellsNothing (WeakField node) (Some last) weak new

  -- HELP. a weak reference to the node before the last one
  abbrev pub LoadsBack : SlotId → Option SlotId → SeatState View → SeatState View → Type 0
  LoadsBack last found old new =
      Loads fits d (WeakField last) before_next TellsNothing found old new

  -- the upgrade of that reference found that the node has ended, or counted a strong one
  abbrev pub CountsBefore : SlotId → Option SlotId → SeatState View → SeatState View → Type 0
  CountsBefore back None old new = FindsEnded fits d ended_next EndedTells back old new
  CountsBefore back (Some s) old new =
      (s ≡ back) × GainsStrong fits d ended_next EndedTells back old new

  -- The weak reference was given up then.
  pub record UpgradesBack (back : SlotId) (found : Option SlotId)
      (old new : SeatState View) : Type 0 where
    pub counted : SeatState View
    pub counts : CountsBefore back found old counted
    pub drops : DropsWeak fits d back counted new

  pub record FindsBack (last : SlotId) (found : Option SlotId) (old new : SeatState View) : Type 0
    where
      pub back : SlotId
      pub loaded : SeatState View
      pub loads : LoadsBack last (Some back) old loaded
      pub upgrades : UpgradesBack back found loaded new

  -- The weak field of the last node was null, or it upgraded what it held.
  abbrev pub FindsBefore : SlotId → Option SlotId → SeatState View → SeatState View → Type 0
  FindsBefore last found old new =
      ((found ≡ None) × LoadsBack last None old new) ⊎ FindsBack last found old new

  -- a look at field 0 of the node before
  abbrev pub LooksBefore : SlotId → SeatState View → SeatState View → Type 0
  LooksBefore before old new =
      (o : Outcome) × Steps fits d set_next BeforeTells (act.Look (Field before 0)) old new o

  -- It exchanged that field, which was null, for the last node, or found it set, and gave the reference up.
  abbrev pub SetsLink : SlotId → SlotId → SeatState View → SeatState View → Type 0
  SetsLink last before old new =
      Replaces fits d help_next TellsNothing (Field before 0) (Some last) None old new
      ⊎ ((now : ℕ) × (mid : SeatState View)
      × LosesTo fits d help_next TellsNothing (Field before 0) (Some last) None now old mid
      × DropsStrong fits d last mid new)

  pub record LinksBefore (last before : SlotId) (old new : SeatState View) : Type 0 where
    pub looked : SeatState View
    pub copied : SeatState View
    pub looks : LooksBefore before old looked
    pub copies : GainsStrong fits d same_view IsSameView last looked copied
    pub sets : SetsLink last before copied new

  -- The link behind the node before was there, by one look, or it set it.
  abbrev pub HelpsAt : SlotId → SlotId → SeatState View → SeatState View → Type 0
  HelpsAt last before old new = LooksBefore before old new ⊎ LinksBefore last before old new

  pub record HelpsBefore (last : SlotId) (old new : SeatState View) : Type 0 where
    pub before : SlotId
    pub found : SeatState View
    pub helped : SeatState View
    pub finds : FindsBefore last (Some before) old found
    pub helps : HelpsAt last before found helped
    pub drops : DropsStrong fits d before helped new

  -- There was no node before, or it has ended, or it saw to its link.
  abbrev pub Helps : SlotId → SeatState View → SeatState View → Type 0
  Helps last old new = FindsBefore last None old new ⊎ HelpsBefore last old new

  -- EXCHANGE. It counted a reference to its node, and exchanged the tail cell for it.
  pub record ExchangesTail (last node : SlotId) (old new : SeatState View) : Type 0 where
    pub copied : SeatState View
    pub copies : GainsStrong fits d same_view IsSameView node old copied
    pub replaces :
        Replaces fits d exchange_next TellsNothing (Cell d.protocol.tail) (Some node)
        (Some last) copied new

  -- It linked its node back, helped the node before, and exchanged the tail cell.
  pub record TakesTail (last node : SlotId) (old new : SeatState View) : Type 0 where
    pub backed : SeatState View
    pub helped : SeatState View
    pub links : LinksBack last node old backed
    pub helps : Helps last backed helped
    pub exchanges : ExchangesTail last node helped new

  -- a load of the tail cell
  abbrev pub LoadsTail : Option SlotId → SeatState View → SeatState View → Type 0
  LoadsTail found old new =
      Loads fits d (Cell d.protocol.tail) (learn_next false) (TailTells (ends_of d)) found old new

  -- It did so behind the node that the tail cell held.
  pub record TakesLast (last node : SlotId) (old new : SeatState View) : Type 0 where
    pub loaded : SeatState View
    pub loads : LoadsTail (Some last) old loaded
    pub takes : TakesTail last node loaded new

  -- LAND. It exchanged field 0 of the node before, which was null, for its own, or found it set, and gave the reference
  -- up.
  abbrev pub Lands : SlotId → SlotId → SeatState View → SeatState View → Type 0
  Lands last node old new =
      Replaces fits d land_next TellsNothing (Field last 0) (Some node) None old new
      ⊎ ((now : ℕ) × (mid : SeatState View)
      × LosesTo fits d land_next TellsNothing (Field last 0) (Some node) None now old mid
      × DropsStrong fits d node mid new)

  -- It took the tail cell, landed, and gave the node before up.
  pub record PushesNode (node : SlotId) (old new : SeatState View) : Type 0 where
    pub last : SlotId
    pub taken : SeatState View
    pub landed : SeatState View
    pub takes : TakesLast last node old taken
    pub lands : Lands last node taken landed
    pub drops : DropsStrong fits d last landed new

  -- It did so with a node that carries a reference of its own to the item.
  pub record PushesCopy (item : SlotId) (old new : SeatState View) : Type 0 where
    pub node : SlotId
    pub loaded : SeatState View
    pub loads : LoadsNode fits d item node old loaded
    pub pushes : PushesNode node loaded new

  -- all events of a push: in the end it gave up the reference that it was called with
  pub record PushesBy (item : SlotId) (old new : SeatState View) : Type 0 where
    pub pushed : SeatState View
    pub copy : PushesCopy item old pushed
    pub drops : DropsStrong fits d item pushed new

  -- LOST. The weak field of the last node changed.
  abbrev pub MissesBack : SlotId → ℕ → ℕ → SeatState View → SeatState View → Type 0
  MissesBack last = MissesAt fits d (WeakField last) before_next TellsNothing

  -- It counted a reference to its node, expected `last` in the tail cell, found `now` there, and gave the reference up.
  pub record LosesExchange (last node : SlotId) (seen now : ℕ) (old new : SeatState View) : Type 0
    where
      pub copied : SeatState View
      pub lost : SeatState View
      pub copies : GainsStrong fits d same_view IsSameView node old copied
      pub expected : seen ≡ last.0 + 1
      pub loses :
          LosesTo fits d exchange_next TellsNothing (Cell d.protocol.tail) (Some node)
          (Some last) now copied lost
      pub drops : DropsStrong fits d node lost new

  pub record LosesHelped (last node : SlotId) (seen now : ℕ) (old new : SeatState View) : Type 0
    where
      pub helped : SeatState View
      pub helps : Helps last old helped
      pub loses : LosesExchange last node seen now helped new

  -- It linked its node back, and lost one or the other.
  pub record LosesTake (last node : SlotId) (seen now : ℕ) (old new : SeatState View) : Type 0 where
    pub backed : SeatState View
    pub links : LinksBack last node old backed
    pub loses : MissesBack last seen now backed new ⊎ LosesHelped last node seen now backed new

  -- It did so with a reference to the tail cell's node, which it gave up.
  pub record LosesBehind (node : SlotId) (seen now : ℕ) (old new : SeatState View) : Type 0 where
    pub last : SlotId
    pub loaded : SeatState View
    pub lost : SeatState View
    pub loads : LoadsTail (Some last) old loaded
    pub loses : LosesTake last node seen now loaded lost
    pub drops : DropsStrong fits d last lost new

  -- The tail cell changed, or it held a node.
  abbrev pub LosesLast : SlotId → ℕ → ℕ → SeatState View → SeatState View → Type 0
  LosesLast node seen now old new =
      MissesTail fits d seen now old new ⊎ LosesBehind node seen now old new

  -- It gave its node up then.
  pub record LosesNode (node : SlotId) (seen now : ℕ) (old new : SeatState View) : Type 0 where
    pub lost : SeatState View
    pub loses : LosesLast node seen now old lost
    pub drops : DropsStrong fits d node lost new

  -- all events of a push that was lost: the node carried a reference of its own to the item
  pub record LosesPush (item : SlotId) (seen now : ℕ) (old new : SeatState View) : Type 0 where
    pub node : SlotId
    pub loaded : SeatState View
    pub loads : LoadsNode fits d item node old loaded
    pub loses : LosesNode node seen now loaded new
