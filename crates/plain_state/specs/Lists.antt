-- Lists of references, as multisets: how often a slot stands in one, and what a list becomes when it loses or gains
-- one.
use Rattle.std.specs.Prelude.{ℕ, ◌≡◌, ◌==◌, ◌&&◌, Bool, true, false, List, ◌∷◌, ◌++◌, count_by, Option, Some, None}
use Rattle.plain_state.specs.declared.slot.Kind.{Kind}
use Rattle.plain_state.specs.declared.slot.Kind.TheVariants.{Strong, Weak, Disposal}
use Rattle.plain_state.specs.declared.slot.SlotId.{SlotId}

-- a reference and its kind, as a snapshot or a deferred decrement has them
abbrev pub Entry : Type 0
Entry = Kind × SlotId

abbrev pub same_kind : Kind → Kind → Bool
same_kind Strong Strong = true
same_kind Weak Weak = true
same_kind Disposal Disposal = true
same_kind k j = false

abbrev pub is_slot : SlotId → SlotId → Bool
is_slot s x = x.0 == s.0

abbrev pub is_entry : Kind → SlotId → Entry → Bool
is_entry k s e = same_kind k e.0 && is_slot s e.1

-- a place holds s, and not null
abbrev pub holds : SlotId → Option SlotId → Bool
holds s None = false
holds s (Some x) = is_slot s x

-- how often s stands in a list of slots
unfoldable pub times : SlotId → List SlotId → ℕ
times s xs = count_by (is_slot s) xs

-- how often (k, s) stands in a list of entries
unfoldable pub entry_times : Kind → SlotId → List Entry → ℕ
entry_times k s es = count_by (is_entry k s) es

-- how many of some cells hold s
unfoldable pub cell_times : SlotId → List (Option SlotId) → ℕ
cell_times s cs = count_by (holds s) cs

-- ys is xs with one x gone
abbrev pub Loses : {A : Type 0} → List A → A → List A → Type 0
Loses {A = A} xs x ys =
    (front : List A) × (back : List A) × (xs ≡ front ++ x ∷ back) × (ys ≡ front ++ back)

-- ys is xs with one x more, wherever it stands
abbrev pub Gains : {A : Type 0} → List A → A → List A → Type 0
Gains {A = A} xs x ys = Loses ys x xs
