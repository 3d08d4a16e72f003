-- A command but `make` and `audit`, at desks that are alike, answers the same and leaves desks that are alike.
use Rattle.std.proofs.Common.{◌≡◌, ℕ, List, length, refl, ap, sym, ◌∙◌, Bool, Some}
use Rattle.std.specs.Prelude.{slice_index}
use Rattle.script_desk.specs.plain_state.declared.slot.SlotId.{SlotId}
use Rattle.script_desk.specs.plain_state.References.{strong_refs, weak_refs}
use Rattle.script_desk.specs.plain_state.State.{slot_at}
use Rattle.script_desk.specs.script_lines.declared.command.Command.{Command}
use Rattle.script_desk.specs.script_lines.declared.command.Command.TheVariants as command
use Rattle.script_desk.specs.declared.handle.Handle.{Handle}
use Rattle.script_desk.specs.declared.handle.Handle.TheVariants.{Strong, Weak, Snapshot}
use Rattle.script_desk.specs.declared.said.Said.{Said}
use Rattle.script_desk.specs.declared.said.Said.TheVariants as said
use Rattle.script_desk.specs.Desks.{Desk, bound}
use Rattle.script_desk.specs.Effects.{Acts}
use Rattle.script_desk.specs.Handles.{slot_of}
use Rattle.script_law.specs.Desks.{DesksAlike}
use Rattle.script_law.specs.Orderly.{IsOrderly}
use Rattle.script_law.specs.Renamings.{IsRenaming}
use Rattle.script_law.proofs.Acts.{drops_two, ends_two, gains_two, load_two, snapshot_is, strong_is, upgrades_two, weak_drops_two, weak_is, weakly_gains_two}
use Rattle.script_law.proofs.Desks.{bound_alike, still_alike}
use Rattle.script_law.proofs.Orderly.{Moves}
use Rattle.script_law.proofs.Places.{handle_taken, is_place_alike, is_slot_alike, slot_bound_alike}
use Rattle.script_law.proofs.Replacing.{clears_two, puts_two, replaces_two, snaps_two}
use Rattle.script_law.proofs.States.{strong_refs_alike, weak_refs_alike}

-- the command isn't one of the two that are told of elsewhere
abbrev pub IsPlainer : Command → Type 0
IsPlainer (command.Make name weight) = ⊥
IsPlainer command.Audit = ⊥
IsPlainer _ = Unit {0}

module _ (to from : SlotId → SlotId) (d d' e e' : Desk) (r : IsRenaming (length d.plain.slots) to from) (alike : DesksAlike to d d')
    (k : IsOrderly d) (k' : IsOrderly d') (m : Moves d.plain e.plain) where
  strong_two : (name : List ℕ) (s s' : SlotId) → bound d.names name ≡ Some (Strong s) → bound d'.names name ≡ Some (Strong s') → s' ≡ to s
  strong_two name s s' is is' = strong_is s' (to s) (bound_alike to d d' alike name (Strong s) (Strong s') is is')

  weak_two : (name : List ℕ) (s s' : SlotId) → bound d.names name ≡ Some (Weak s) → bound d'.names name ≡ Some (Weak s') → s' ≡ to s
  weak_two name s s' is is' = weak_is s' (to s) (bound_alike to d d' alike name (Weak s) (Weak s') is is')

  snapshot_two : (name : List ℕ) (s s' : SlotId) (c c' : Bool) → bound d.names name ≡ Some (Snapshot (s, c))
      → bound d'.names name ≡ Some (Snapshot (s', c')) → (s' ≡ to s) × (c' ≡ c)
  snapshot_two name s s' c c' is is' =
      snapshot_is s' (to s) c' c (bound_alike to d d' alike name (Snapshot (s, c)) (Snapshot (s', c')) is is')

  -- what is read, and the counts
  read_two : (name : List ℕ) (word : ℕ) (h h' : Handle) → bound d.names name ≡ Some h → bound d'.names name ≡ Some h'
      → slice_index (slot_at d'.plain (slot_of h')).payload word ≡ slice_index (slot_at d.plain (slot_of h)).payload word
  read_two name word h h' is is' =
      ap (λ (s : SlotId). slice_index (slot_at d'.plain s).payload word) (slot_bound_alike to from d d' r alike name h h' is is')
      ∙ ap (λ (words : List ℕ). slice_index words word) ((alike.plain.slots (slot_of h)).payload (handle_taken d k name h is))

  counts_two : (name : List ℕ) (h h' : Handle) → bound d.names name ≡ Some h → bound d'.names name ≡ Some h'
      → (strong_refs d'.plain (slot_of h') ≡ strong_refs d.plain (slot_of h)) × (weak_refs d'.plain (slot_of h') ≡ weak_refs d.plain (slot_of h))
  counts_two name h h' is is' =
      let same = slot_bound_alike to from d d' r alike name h h' is is' in (
        ap (strong_refs d'.plain) same ∙ strong_refs_alike to from (length d.plain.slots) r d.plain d'.plain refl alike.plain k.one k'.one (slot_of h),
        ap (weak_refs d'.plain) same ∙ weak_refs_alike to from (length d.plain.slots) r d.plain d'.plain refl alike.plain k.one k'.one (slot_of h),
      )

  pub plainer : (c : Command) (a b : Said) → IsPlainer c → Acts d c a e → Acts d' c b e' → (a ≡ b) × DesksAlike to e e'
  plainer (command.Make name weight) a b not one two = absurd not
  plainer (command.Copy name new) a b not (z, (s, is, g, gets)) (z', (s', is', g', gets')) =
      (z ∙ sym z', gains_two to from d d' e e' r alike k k' m new s s' (strong_two name s s' is is') g gets g' gets')
  plainer (command.Drop name) a b not (z, (s, is, does, gives)) (z', (s', is', does', gives')) =
      (z ∙ sym z', drops_two to from d d' e e' r alike k k' m name s s' (strong_two name s s' is is') does gives does' gives')
  plainer (command.Weaken name new) a b not (z, (s, is, g, gets)) (z', (s', is', g', gets')) =
      (z ∙ sym z', weakly_gains_two to from d d' e e' r alike k k' m new s s' (strong_two name s s' is is') g gets g' gets')
  plainer (command.CopyWeak name new) a b not (z, (s, is, g, gets)) (z', (s', is', g', gets')) =
      (z ∙ sym z', weakly_gains_two to from d d' e e' r alike k k' m new s s' (weak_two name s s' is is') g gets g' gets')
  plainer (command.DropWeak name) a b not (z, (s, is, does, gives)) (z', (s', is', does', gives')) =
      (z ∙ sym z', weak_drops_two to from d d' e e' r alike k k' m name s s' (weak_two name s s' is is') does gives does' gives')
  plainer (command.Upgrade name new) a b not (s, is, cases) (s', is', cases') =
      upgrades_two to from d d' e e' r alike k k' m s s' new a b (weak_two name s s' is is') cases cases'
  plainer (command.Put place name) a b not (z, (at, h, is-at, is, puts, gives)) (z', (at', h', is-at', is', puts', gives')) = (
    z ∙ sym z',
    puts_two to from d d' e e' r alike k k' m at at' (is_place_alike to from d d' r alike place at at' is-at is-at') name
        (Some (slot_of h)) (Some (slot_of h')) (ap Some (slot_bound_alike to from d d' r alike name h h' is is')) puts gives puts' gives',
  )
  plainer (command.Clear place) a b not (z, (at, is-at, puts, keeps)) (z', (at', is-at', puts', keeps')) = (
    z ∙ sym z',
    clears_two to from d d' e e' r alike k k' m at at' (is_place_alike to from d d' r alike place at at' is-at is-at') puts keeps puts' keeps',
  )
  plainer (command.Load place new) a b not (at, is-at, l) (at', is-at', l') =
      load_two to from d d' e e' r alike k k' m at at' (is_place_alike to from d d' r alike place at at' is-at is-at') place new a b l l'
  plainer (command.Replace place old new) a b not (at, old-slot, slot, is-at, is-old, is-new, x) (at', old-slot', slot', is-at', is-old', is-new', y) =
      replaces_two to from d d' e e' r alike k k' m at at' (is_place_alike to from d d' r alike place at at' is-at is-at')
      old-slot old-slot' slot slot' (is_slot_alike to from d d' r alike old old-slot old-slot' is-old is-old')
      (is_slot_alike to from d d' r alike new slot slot' is-new is-new') new a b x y
  plainer (command.Snap place new) a b not (at, is-at, x) (at', is-at', y) =
      snaps_two to from d d' e e' r alike k k' m at at' (is_place_alike to from d d' r alike place at at' is-at is-at') new a b x y
  plainer (command.EndSnapshot name) a b not (z, (s, c, is, does, gives)) (z', (s', c', is', does', gives')) =
      let same = snapshot_two name s s' c c' is is' in
      (z ∙ sym z', ends_two to from d d' e e' r alike k k' m name s s' c c' same.0 same.1 does gives does' gives')
  plainer (command.Keep name new) a b not (z, (s, c, is, g, gets)) (z', (s', c', is', g', gets')) =
      let same = snapshot_two name s s' c c' is is' in
      (z ∙ sym z', gains_two to from d d' e e' r alike k k' m new s s' same.0 g gets g' gets')
  plainer (command.Read name word) a b not (h, is, said-is, still) (h', is', said-is', still') =
      (said-is ∙ sym (ap said.Word (read_two name word h h' is is')) ∙ sym said-is', still_alike to d d' alike e e' still still')
  plainer (command.Counts name) a b not (h, is, said-is, still) (h', is', said-is', still') =
      let same = counts_two name h h' is is' in
      (said-is ∙ sym (λ i. said.Counts (same.0 i) (same.1 i)) ∙ sym said-is', still_alike to d d' alike e e' still still')
  plainer command.Audit a b not one two = absurd not
