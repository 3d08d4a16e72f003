-- The places that a script names, as the heap has them.
use Rattle.std.specs.Prelude.{ℕ, ◌≡◌, Bool, true, false, List, All, IsSomeAnd}
use Rattle.plain_audit.specs.plain_state.declared.act.EventPlace.{EventPlace}
use Rattle.plain_settling.specs.plain_store.Calls.{strong_place, weak_place}
use Rattle.script_desk.specs.declared.handle.Handle.{Handle}
use Rattle.script_desk.specs.declared.place.HeapPlace.{HeapPlace}
use Rattle.script_desk.specs.declared.place.HeapPlace.TheVariants.{Strong, Weak}
use Rattle.script_desk.specs.declared.wanted.Wanted.{Wanted}
use Rattle.script_desk.specs.declared.wanted.Wanted.TheVariants as wanted
use Rattle.script_desk.specs.Desks.{Names, bound}
use Rattle.script_desk.specs.Faults.{Need}
use Rattle.script_desk.specs.Handles.{is_strong, is_weak, is_snapshot, is_firm}

-- the place, as plain steps name it
abbrev pub event_place : HeapPlace → EventPlace
event_place (Strong place) = strong_place place
event_place (Weak place) = weak_place place

abbrev pub is_weak_one : HeapPlace → Bool
is_weak_one (Strong place) = false
is_weak_one (Weak place) = true

-- the handles that are wanted
abbrev pub admitted : Wanted → Handle → Bool
admitted wanted.Strong = is_strong
admitted wanted.Weak = is_weak
admitted wanted.Snapshot = is_snapshot
admitted wanted.Firm = is_firm

-- the name is bound to such a handle
abbrev pub IsBoundTo : Names → List ℕ → (Handle → Bool) → Type 0
IsBoundTo names name kind = IsSomeAnd (bound names name) (λ h. kind h ≡ true)

-- all these names are bound to what they must be
abbrev pub AreMet : Names → List Need → Type 0
AreMet names list = All (λ need. IsBoundTo names need.0 need.1) list
