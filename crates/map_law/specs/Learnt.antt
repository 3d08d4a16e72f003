-- What seats have noted of nodes, and that it is so as long as the node lives in its life.
use Rattle.std.specs.Prelude.{◌≡◌, ◌≤◌, List}
use Rattle.plain_protocol.specs.plain_state.declared.slot.Stage.TheVariants.{Live}
use Rattle.plain_protocol.specs.plain_state.State.{Plain, slot_at}
use Rattle.map_law.specs.Views.{Note, Raw, Led, Shown, View, Each, fresh}
use Rattle.map_law.specs.Nodes.{IsNode, Holds, side}

-- a raw node has the payload and the kids that its note tells
abbrev pub Built : Plain → Raw → Type 0
Built p e =
    (e.life ≤ (slot_at p e.slot).life)
    × ((slot_at p e.slot).life ≡ e.life → (slot_at p e.slot).stage ≡ Live
    → ((slot_at p e.slot).payload ≡ e.payload) × IsNode e.payload
    × Holds p e.first (slot_at p e.slot).first × Holds p e.second (slot_at p e.slot).second)

-- a node that stood in a tree is nobody's to change
abbrev pub Solid : Plain → List View → Note → Type 0
Solid p views e = (e.life ≤ (slot_at p e.slot).life) × (fresh views e.slot e.life ≡ 0)

-- nor is one of which a field was read; the field holds the kid that was found
abbrev pub IsLed : Plain → List View → Led → Type 0
IsLed p views e =
    (e.life ≤ (slot_at p e.slot).life) × (fresh views e.slot e.life ≡ 0)
    × ((slot_at p e.slot).life ≡ e.life → (slot_at p e.slot).stage ≡ Live
    → IsNode (slot_at p e.slot).payload × Holds p e.kid (side e.side (slot_at p e.slot)))

-- the same where the seat didn't have the kid: the field holds the slot that a look showed
abbrev pub IsShown : Plain → List View → Shown → Type 0
IsShown p views e =
    (e.life ≤ (slot_at p e.slot).life) × (fresh views e.slot e.life ≡ 0)
    × ((slot_at p e.slot).life ≡ e.life → (slot_at p e.slot).stage ≡ Live
    → IsNode (slot_at p e.slot).payload × (side e.side (slot_at p e.slot) ≡ e.next))

-- all notes of a view are so
pub record Learnt (p : Plain) (views : List View) (v : View) : Type 0 where
  pub raw : Each (Built p) v.raw
  pub solid : Each (Solid p views) v.solid
  pub led : Each (IsLed p views) v.led
  pub shown : Each (IsShown p views) v.shown
