-- The deciding exchange, and the clearing of the root cell.
use Rattle.std.specs.Prelude.{◌≡◌, ◌⊎◌, ℕ, true, false, ◌==◌, [], ◌∷◌, ◌++◌, if◌then◌else◌, Option, Some, None}
use Rattle.plain_protocol.specs.plain_state.declared.act.EventPlace.TheVariants.{Cell}
use Rattle.plain_protocol.specs.plain_state.declared.act.PlainAct.{PlainAct}
use Rattle.plain_protocol.specs.plain_state.declared.act.PlainAct.TheVariants as act
use Rattle.plain_protocol.specs.plain_state.declared.slot.SlotId.{SlotId}
use Rattle.plain_protocol.specs.plain_state.State.{Plain}
use Rattle.plain_protocol.specs.plain_state.Steps.{word_of}
use Rattle.plain_protocol.specs.Owns.{Object, OwnPart}
use Rattle.map_trees.specs.Trees.{Tree, pairs, Shaped}
use Rattle.map_trees.specs.declared.change.Change.{Change}
use Rattle.map_trees.specs.declared.change.Entry.{Entry}
use Rattle.map_trees.specs.Maps.{get, changed}
use Rattle.map_law.specs.Views.{Kid, View}
use Rattle.map_law.specs.Nodes.{root, IsNode, TreeAt, KeepsMap}
use Rattle.map_law.specs.Patterns.{Pattern, IsChange, IsKid, Spells}
use Rattle.map_law.specs.Making.{Known, frozen}

-- what is to be the new root is frozen by the exchange, whether it succeeds or is lost
abbrev pub frozen_object : SlotId → Option Object → View → View
frozen_object r None v = v
frozen_object r (Some o) v = frozen r o.life v

abbrev pub frozen_in : OwnPart → Option SlotId → View → View
frozen_in own None v = v
frozen_in own (Some r) v = frozen_object r (own.objects r) v

-- PUBLISH: seat 0 hasn't cleared; of both trees the seat's notes spell a pattern, and the new one is the old one with
-- the change
pub record PublishReady (c : ℕ) (old new : Option SlotId) (key : ℕ) (change : Change)
    (answer : Option ℕ) (own : OwnPart) (v : View) (step : PlainAct) : Type 0 where
  pub is : step ≡ act.TryReplace (Cell c) old new
  pub here : v.here ≡ true
  pub opened : v.cleared ≡ false
  pub old_kid : Option Kid
  pub old_is : IsKid own old old_kid
  pub old_pattern : Pattern
  pub old_spells : Spells v old_kid old_pattern
  pub new_kid : Option Kid
  pub new_is : IsKid own new new_kid
  pub new_node : (x : Kid) → new_kid ≡ Some x → IsNode x.payload
  pub new_known : (x : Kid) → new_kid ≡ Some x → Known v x.slot x.life
  pub new_pattern : Pattern
  pub new_spells : Spells (frozen_in own new v) new_kid new_pattern
  pub is_change : IsChange old_pattern new_pattern key change answer

abbrev pub entry_of : ℕ → Change → Option ℕ → View → Entry
entry_of key change answer v =
    record { seat = v.number; key = key; change = change; answer = answer }

-- the view has one entry more
abbrev pub entered : ℕ → Change → Option ℕ → View → View
entered key change answer v =
    record v { entries = v.entries ++ entry_of key change answer v ∷ [] }

abbrev pub publish_next
    : Option SlotId → Option SlotId → ℕ → Change → Option ℕ → OwnPart → OwnPart → View → PlainAct
    → ℕ → View
publish_next old new key change answer own after v step found =
    let w = frozen_in own new v in
    if found == word_of old then entered key change answer w else w

-- the map has the change, and nothing else: the trees before and after are these
abbrev pub ChangesMap : ℕ → ℕ → Change → Option ℕ → Plain → Plain → Type 0
ChangesMap c key change answer p q =
    (t : Tree) × (u : Tree) × TreeAt p (root p c) t × TreeAt q (root q c) u × Shaped u
    × (answer ≡ get key (pairs t)) × (pairs u ≡ changed key change (pairs t))

-- the exchange is lost, and neither the map nor the entries change; or the map has the change, and the view one entry
-- more, with the answer
abbrev pub PublishTells
    : ℕ → ℕ → Change → Option ℕ → Plain → Plain → ℕ → View → View → Type 0
PublishTells c key change answer p q n v w =
    (KeepsMap c p q × (w.entries ≡ v.entries))
    ⊎ ((w.entries ≡ v.entries ++ entry_of key change answer v ∷ [])
    × ChangesMap c key change answer p q)

-- CLEAR the root cell, by seat 0 when it is alone
pub record ClearReady (c : ℕ) (own : OwnPart) (v : View) (step : PlainAct) : Type 0 where
  pub is : step ≡ act.Replace (Cell c) None
  pub here : v.here ≡ true
  pub whole : Plain
  pub alone : own.whole ≡ Some whole

abbrev pub clear_next : OwnPart → OwnPart → View → PlainAct → ℕ → View
clear_next own after v step found = record v { cleared = true }

abbrev pub ClearTells : ℕ → Plain → Plain → ℕ → View → View → Type 0
ClearTells c p q n v w = root q c ≡ None
