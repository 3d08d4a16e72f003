-- Why a command is refused: what is out of range, which names it needs and binds, and of which kind they must be.
use Rattle.std.specs.Prelude.{ℕ, ◌≡◌, ◌<◌, ◌≤◌, ◌^◌, ◌⊎◌, Bool, true, false, List, [], ◌∷◌, ◌++◌, Option, Some, None, IsSome, IsSomeAnd}
use Rattle.std.specs.List.{Any}
use Rattle.script_lines.specs.line_words.declared.reason.Reason.{Reason}
use Rattle.script_lines.specs.line_words.declared.reason.Reason.TheVariants.{Syntax, Range, Name, Kind, NotEnabled}
use Rattle.script_lines.specs.declared.command.Command.{Command}
use Rattle.script_lines.specs.declared.command.Command.TheVariants as command
use Rattle.script_lines.specs.declared.command.TextPlace.{TextPlace}
use Rattle.script_lines.specs.declared.command.TextPlace.TheVariants as text
use Rattle.script_desk.specs.declared.handle.Handle.{Handle}
use Rattle.script_desk.specs.declared.sizes.Sizes.{Sizes}
use Rattle.script_desk.specs.Handles.{is_strong, is_weak, is_snapshot, is_firm, is_any}
use Rattle.script_desk.specs.Desks.{Names, Scope, bound}

-- the cell is there, and the field is one of two
abbrev pub IsPlaceInRange : Sizes → TextPlace → Type 0
IsPlaceInRange x (text.Cell i) = i < x.cells
IsPlaceInRange x (text.WeakCell i) = i < x.weak_cells
IsPlaceInRange x (text.Field name i) = i < 2
IsPlaceInRange x (text.WeakField name) = Unit {0}

-- every number of the command is in its range
abbrev pub IsInRange : Sizes → Command → Type 0
IsInRange x (command.Make name weight) = weight ≤ 2 ^ 32
IsInRange x (command.Put place name) = IsPlaceInRange x place
IsInRange x (command.Clear place) = IsPlaceInRange x place
IsInRange x (command.Load place name) = IsPlaceInRange x place
IsInRange x (command.Replace place old new) = IsPlaceInRange x place
IsInRange x (command.Snap place name) = IsPlaceInRange x place
IsInRange x (command.Read name word) = word < 16
IsInRange x _ = Unit {0}

-- a name that must be bound, and to what
abbrev pub Need : Type 0
Need = List ℕ × (Handle → Bool)

-- a field belongs to an object that is kept alive
abbrev pub place_needs : TextPlace → List Need
place_needs (text.Cell i) = []
place_needs (text.WeakCell i) = []
place_needs (text.Field name i) = (name, is_firm) ∷ []
place_needs (text.WeakField name) = (name, is_firm) ∷ []

abbrev pub is_weak_place : TextPlace → Bool
is_weak_place (text.Cell i) = false
is_weak_place (text.WeakCell i) = true
is_weak_place (text.Field name i) = false
is_weak_place (text.WeakField name) = true

-- what a place may take
abbrev pub taken_by : TextPlace → Handle → Bool
taken_by (text.Cell i) = is_strong
taken_by (text.WeakCell i) = is_weak
taken_by (text.Field name i) = is_strong
taken_by (text.WeakField name) = is_weak

-- the need of a name that isn't `null`
abbrev pub need_of : Option (List ℕ) → (Handle → Bool) → List Need
need_of None kind = []
need_of (Some name) kind = (name, kind) ∷ []

-- the names that a command needs, in the order of its words
abbrev pub needs : Command → List Need
needs (command.Make name weight) = []
needs (command.Copy name new) = (name, is_strong) ∷ []
needs (command.Drop name) = (name, is_strong) ∷ []
needs (command.Weaken name new) = (name, is_strong) ∷ []
needs (command.CopyWeak name new) = (name, is_weak) ∷ []
needs (command.DropWeak name) = (name, is_weak) ∷ []
needs (command.Upgrade name new) = (name, is_weak) ∷ []
needs (command.Put place name) = place_needs place ++ (name, taken_by place) ∷ []
needs (command.Clear place) = place_needs place
needs (command.Load place new) = place_needs place
needs (command.Replace place old new) =
    place_needs place ++ (need_of old is_firm ++ need_of new is_strong)
needs (command.Snap place new) = place_needs place
needs (command.EndSnapshot name) = (name, is_snapshot) ∷ []
needs (command.Keep name new) = (name, is_snapshot) ∷ []
needs (command.Read name word) = (name, is_any) ∷ []
needs (command.Counts name) = (name, is_any) ∷ []
needs command.Audit = []

-- the name that it binds, if it binds one
abbrev pub binds : Command → Option (List ℕ)
binds (command.Make new weight) = Some new
binds (command.Copy name new) = Some new
binds (command.Weaken name new) = Some new
binds (command.CopyWeak name new) = Some new
binds (command.Upgrade name new) = Some new
binds (command.Load place new) = Some new
binds (command.Snap place new) = Some new
binds (command.Keep name new) = Some new
binds _ = None

-- the name isn't bound
abbrev pub IsMissing : Names → Need → Type 0
IsMissing names need = bound names need.0 ≡ None

-- a name that must be bound isn't, or the name to be bound is bound already
abbrev pub HasNameFault : Names → Command → Type 0
HasNameFault names c =
    Any (IsMissing names) (needs c) ⊎ IsSomeAnd (binds c) (λ new. IsSome (bound names new))

-- a command on strong places is given a weak one
abbrev pub IsWrongPlace : Command → Type 0
IsWrongPlace (command.Replace place old new) = is_weak_place place ≡ true
IsWrongPlace (command.Snap place new) = is_weak_place place ≡ true
IsWrongPlace _ = ⊥

-- the name is bound to another kind of handle
abbrev pub IsOther : Names → Need → Type 0
IsOther names need = IsSomeAnd (bound names need.0) (λ h. need.1 h ≡ false)

-- a name is bound to another kind of handle than the command needs, or the place is of the other kind
abbrev pub HasKindFault : Names → Command → Type 0
HasKindFault names c = Any (IsOther names) (needs c) ⊎ IsWrongPlace c

-- nothing is wrong with the command
pub record IsFaultless (x : Scope) (c : Command) : Type 0 where
  pub range : IsInRange x.sizes c
  pub names : ¬ HasNameFault x.names c
  pub kinds : ¬ HasKindFault x.names c

-- the reason for which it is refused, which is the first of range, name and kind that holds; or none
abbrev pub IsFault : Scope → Command → Option Reason → Type 0
IsFault x c None = IsFaultless x c
IsFault x c (Some Syntax) = ⊥
IsFault x c (Some Range) = ¬ IsInRange x.sizes c
IsFault x c (Some Name) = IsInRange x.sizes c × HasNameFault x.names c
IsFault x c (Some Kind) = IsInRange x.sizes c × (¬ HasNameFault x.names c) × HasKindFault x.names c
IsFault x c (Some NotEnabled) = ⊥
