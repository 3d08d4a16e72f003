-- What seats have learnt, which stays true for ever.
use Rattle.std.specs.Prelude.{◌≡◌, ℕ, ◌<◌, ◌≤◌, true, List, ◌++◌, Some}
use Rattle.plain_protocol.specs.plain_state.declared.slot.SlotId.{SlotId}
use Rattle.plain_protocol.specs.plain_state.declared.slot.Stage.TheVariants.{Live}
use Rattle.plain_protocol.specs.plain_state.State.{Plain, slot_at, stage_at}
use Rattle.directory_law.specs.Payloads.{Text, IsOwn}
use Rattle.directory_law.specs.Views.{Note, Rope, Seen, Ran, Led, View, Each, KeptIn, fresh}
use Rattle.directory_law.specs.Chains.{Along, Reads}
use Rattle.directory_law.specs.Cells.{Area, cell}

-- the life has begun
abbrev pub Began : Plain → SlotId → ℕ → Type 0
Began p s l = l ≤ (slot_at p s).life

-- as long as the slot lives in this life, it is the directory's, and this holds
abbrev pub While : Plain → SlotId → ℕ → Type 0 → Type 0
While p s l A =
    (slot_at p s).life ≡ l → stage_at p s ≡ Live → IsOwn (slot_at p s).payload × A

-- a slot that a seat made: its text is read from it
abbrev pub Built : Plain → Rope → Type 0
Built p e = Began p e.slot e.life × While p e.slot e.life (Reads p e.slot e.text)

-- a head that was seen in a cell: it stands there for good
abbrev pub Saw : Area → Plain → Seen → Type 0
Saw z p e =
    (e.cell < z.cells) × (cell z p e.cell ≡ Some e.slot) × ((slot_at p e.slot).life ≡ e.life)
    × ((slot_at p e.slot).payload ≡ e.head)

-- a life that has ended
abbrev pub Past : Plain → Note → Type 0
Past p e =
    Began p e.slot e.life × ((slot_at p e.slot).life ≡ e.life → (slot_at p e.slot).marked ≡ true)

-- a text that was read so far: it is kept, and what follows is read on from the slot `now`
abbrev pub Running : Plain → List View → Ran → Type 0
Running p views e =
    (rest : Text) × KeptIn views e.slot e.life (e.before ++ rest)
    × Began p e.now e.now_life × (fresh views e.now e.now_life ≡ 0)
    × While p e.now e.now_life (Along p (slot_at p e.now).second rest)

-- what field 1 was seen to hold
abbrev pub Leads : Plain → List View → Led → Type 0
Leads p views e =
    Began p e.slot e.life × (fresh views e.slot e.life ≡ 0)
    × While p e.slot e.life ((slot_at p e.slot).second ≡ e.next)

pub record Learnt (z : Area) (p : Plain) (views : List View) (v : View) : Type 0 where
  pub noted : Each (Built p) v.noted
  pub seen : Each (Saw z p) v.seen
  pub ended : Each (Past p) v.ended
  pub ran : Each (Running p views) v.ran
  pub led : Each (Leads p views) v.led
