-- What a name is bound to: a strong handle, a weak one, or a snapshot.
use Rattle.std.specs.Prelude.{Bool, true, false}
use Rattle.plain_audit.specs.plain_state.declared.slot.SlotId.{SlotId}
use Rattle.script_desk.specs.declared.handle.Handle.{Handle}
use Rattle.script_desk.specs.declared.handle.Handle.TheVariants.{Strong, Weak, Snapshot}

abbrev pub slot_of : Handle → SlotId
slot_of (Strong s) = s
slot_of (Weak s) = s
slot_of (Snapshot s) = s.0

abbrev pub is_strong : Handle → Bool
is_strong (Strong s) = true
is_strong (Weak s) = false
is_strong (Snapshot s) = false

abbrev pub is_weak : Handle → Bool
is_weak (Strong s) = false
is_weak (Weak s) = true
is_weak (Snapshot s) = false

abbrev pub is_snapshot : Handle → Bool
is_snapshot (Strong s) = false
is_snapshot (Weak s) = false
is_snapshot (Snapshot s) = true

-- it keeps its object alive
abbrev pub is_firm : Handle → Bool
is_firm (Strong s) = true
is_firm (Weak s) = false
is_firm (Snapshot s) = true

abbrev pub is_any : Handle → Bool
is_any h = true
