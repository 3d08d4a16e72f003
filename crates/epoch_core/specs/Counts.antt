-- How often a slot stands in lists, phases and places, of one seat and of all.
use Rattle.std.specs.Prelude.{ℕ, ◌+◌, nat_lt, List, slice_index, sum_by, if◌then◌else◌}
use Rattle.core_law.specs.plain_state.declared.slot.SlotId.{SlotId}
use Rattle.core_law.specs.plain_state.Lists.{times}
use Rattle.core_law.specs.core_events.Counts.{one, in_word, sum_below}
use Rattle.epoch_core.specs.declared.act.Dated.{Dated}
use Rattle.epoch_core.specs.declared.shape.EpochShape.{EpochShape}
use Rattle.epoch_core.specs.declared.view.EpochPhase.{EpochPhase}
use Rattle.epoch_core.specs.declared.view.EpochPhase.TheVariants as phase
use Rattle.epoch_core.specs.declared.view.EpochView.{EpochView}
use Rattle.epoch_core.specs.Words.{cell_at, count_at, field_at}
use Rattle.epoch_core.specs.Runs.{Core}

-- f of each seat's view, added up
unfoldable pub total : (EpochView → ℕ) → List EpochView → ℕ
total f vs = sum_by f vs

-- how many pending entries are for s; and how many of them are dated g or later
unfoldable pub pending_times : SlotId → List Dated → ℕ
pending_times s ds = sum_by (λ (d : Dated). one s d.slot) ds

unfoldable pub pending_from : ℕ → SlotId → List Dated → ℕ
pending_from g s ds = sum_by (λ (d : Dated). if nat_lt d.date g then 0 else one s d.slot) ds

-- 1 where the phase is that of a seat which took s out of a place and hasn't dated it
abbrev pub undated : SlotId → EpochPhase → ℕ
undated s phase.Idle = 0
undated s (phase.Entering e) = 0
undated s (phase.Undated x) = one s x
undated s (phase.Blank x) = 0
undated s (phase.Scan w) = 0

-- 1 where it is that of a seat which has claimed s and fills it
abbrev pub filling : SlotId → EpochPhase → ℕ
filling s phase.Idle = 0
filling s (phase.Entering e) = 0
filling s (phase.Undated x) = 0
filling s (phase.Blank x) = one s x
filling s (phase.Scan w) = 0

-- the references to s that one seat owns or has yet to give up
abbrev pub listed : SlotId → EpochView → ℕ
listed s v = times s v.owned + pending_times s v.pending + undated s v.phase

-- how often a seat's lists and phase name s
abbrev pub naming : SlotId → EpochView → ℕ
naming s v =
    listed s v + times s v.dying + times s v.seen + filling s v.phase + times s v.made

-- the two fields of slot x that hold s
abbrev pub fields_holding : EpochShape → List ℕ → SlotId → ℕ → ℕ
fields_holding z ws s x =
    in_word s (slice_index ws (field_at z (record { 0 = x }) 0))
    + in_word s (slice_index ws (field_at z (record { 0 = x }) 1))

-- the places that hold s
abbrev pub places : EpochShape → List ℕ → SlotId → ℕ
places z ws s =
    sum_below z.cells (λ i. in_word s (slice_index ws (cell_at z i)))
    + sum_below z.slots (fields_holding z ws s)

-- all references to s
abbrev pub refs : EpochShape → Core → SlotId → ℕ
refs z c s = total (listed s) c.views + places z c.words s

-- what of a seat's entries keeps a slot that was seen at epoch g: one without a date, or dated g or later
abbrev pub guarding : ℕ → SlotId → EpochView → ℕ
guarding g s v = undated s v.phase + pending_from g s v.pending

-- the places that hold s, and the entries for it that are undated or dated g or later
abbrev pub witness : EpochShape → ℕ → Core → SlotId → ℕ
witness z g c s = total (guarding g s) c.views + places z c.words s

-- how many seats fill s
abbrev pub fillers : Core → SlotId → ℕ
fillers c s = total (λ v. filling s v.phase) c.views

-- how often s stands in dying lists
abbrev pub dying_times : Core → SlotId → ℕ
dying_times c s = total (λ v. times s v.dying) c.views

abbrev pub adds_used : Core → ℕ
adds_used c = total (λ v. v.adds) c.views

abbrev pub count : EpochShape → Core → SlotId → ℕ
count z c s = slice_index c.words (count_at z s)
