-- What a scan keeps of the retired entries, what it ejects, and which dying slots become ripe, by how often each slot
-- is announced: the multiset rule of deferred reference counting.
use Rattle.std.specs.Prelude.{ℕ, ◌≡◌, ◌+◌, ◌-◌, ◌⊎◌, ◌&&◌, ◌==◌, not, min, nat_lt, Bool, List, [], ◌∷◌, ◌++◌, if◌then◌else◌}
use Rattle.std.specs.List.{filter}
use Rattle.plain_state.specs.declared.slot.Kind.{Kind}
use Rattle.plain_state.specs.declared.slot.Kind.TheVariants.{Disposal}
use Rattle.plain_state.specs.declared.slot.SlotId.{SlotId}
use Rattle.plain_state.specs.Lists.{Entry, is_entry, times, entry_times}

-- how often each slot is announced under each kind
abbrev pub Announcements : Type 0
Announcements = Kind → SlotId → ℕ

-- the announcements that are left where an entry has used one
abbrev pub left_after : Announcements → Entry → Announcements
left_after seen e kind slot = if is_entry kind slot e then seen kind slot - 1 else seen kind slot

-- an entry is kept where it is still announced, and it uses that announcement
abbrev pub kept : List Entry → Announcements → List Entry
kept [] seen = []
kept (e ∷ es) seen =
    if nat_lt 0 (seen e.0 e.1) then e ∷ kept es (left_after seen e) else kept es seen

-- the other entries
abbrev pub ejected : List Entry → Announcements → List Entry
ejected [] seen = []
ejected (e ∷ es) seen =
    if nat_lt 0 (seen e.0 e.1) then ejected es (left_after seen e) else e ∷ ejected es seen

-- a dying slot becomes ripe where it isn't yet, and nothing announces it for disposal
abbrev pub ripens : List SlotId → Announcements → SlotId → Bool
ripens ripe seen s = not (nat_lt 0 (times s ripe)) && (seen Disposal s == 0)

-- those join the slots that are ripe
abbrev pub ripened : List SlotId → List SlotId → Announcements → List SlotId
ripened ripe dying seen = ripe ++ filter (ripens ripe seen) dying

-- xs is ys without some of its entries, in the order of ys
abbrev pub IsSublist : List Entry → List Entry → Type 0
IsSublist xs [] = xs ≡ []
IsSublist xs (y ∷ ys) = IsSublist xs ys ⊎ ((rest : List Entry) × (xs ≡ y ∷ rest) × IsSublist rest ys)

-- the smaller of its times in the list and of its announcements is how often an entry stays
abbrev pub KeepsTheSmaller : List Entry → Announcements → Type 0
KeepsTheSmaller es seen =
    (kind : Kind) (slot : SlotId)
    → entry_times kind slot (kept es seen) ≡ min (entry_times kind slot es) (seen kind slot)

-- each entry is kept or ejected
abbrev pub LosesNothing : List Entry → Announcements → Type 0
LosesNothing es seen =
    (kind : Kind) (slot : SlotId)
    → entry_times kind slot (kept es seen) + entry_times kind slot (ejected es seen)
    ≡ entry_times kind slot es

-- of equal entries the earlier ones are kept: one that stands after `front` is kept exactly where fewer equal ones
-- stand in front of it than are announced
abbrev pub KeepsTheEarlier : List Entry → Announcements → Type 0
KeepsTheEarlier front seen =
    (e : Entry)
    → let stays = nat_lt (entry_times e.0 e.1 front) (seen e.0 e.1) in
    (kept (front ++ e ∷ []) seen ≡ (if stays then kept front seen ++ e ∷ [] else kept front seen))
    × (ejected (front ++ e ∷ []) seen ≡ (if stays then ejected front seen else ejected front seen ++ e ∷ []))
