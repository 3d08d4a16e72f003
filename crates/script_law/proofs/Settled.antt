-- States that are alike settle to states that are alike.
use Rattle.std.proofs.Common.{◌≡◌, ◌≢◌, ◌⊎◌, inl, inr, ⊎_elim, ℕ, ◌+◌, ◌<◌, length, refl, ap, sym, ◌∙◌, subst, subst₂, arith}
use Rattle.std.specs.Prelude.{map}
use Rattle.script_desk.specs.plain_state.declared.slot.Kind.{Kind}
use Rattle.script_desk.specs.plain_state.declared.slot.Kind.TheVariants.{Weak}
use Rattle.script_desk.specs.plain_state.declared.slot.SlotId.{SlotId}
use Rattle.script_desk.specs.plain_state.declared.slot.Stage.{Stage}
use Rattle.script_desk.specs.plain_state.declared.slot.Stage.TheVariants.{Free, Blank, Live, Ended, Husk}
use Rattle.script_desk.specs.plain_state.Lawful.{HasNullFields, IsVacant}
use Rattle.script_desk.specs.plain_state.Lists.{entry_times, times}
use Rattle.script_desk.specs.plain_state.References.{deferrals, over_seats, own_reference, places, weak_refs}
use Rattle.script_desk.specs.plain_state.Sound.{Sound}
use Rattle.script_desk.specs.plain_state.State.{Plain, seat_at, slot_at, stage_at}
use Rattle.script_desk.proofs.Below.plain_state_Kit.{none_by}
use Rattle.script_desk.specs.plain_store.Settling.{IsSettled}
use Rattle.script_desk.proofs.Below.plain_audit_Numbers.{seat_alone}
use Rattle.script_law.specs.Renamings.{IsRenaming, renamed}
use Rattle.script_law.specs.States.{SeatsAlike, SlotsAlike, StatesAlike}
use Rattle.script_law.proofs.States.{FieldsAlike, fields_of, held_alike, places_alike}
use Rattle.script_law.proofs.Outliving.{none_ended}
use Rattle.script_law.proofs.Fates.{Tidying}

-- the weak references to a slot but for its own
abbrev rest_refs : Plain → SlotId → ℕ
rest_refs p s = over_seats (λ v. times s v.weaks) p.seats + places Weak p s + deferrals Weak p s

-- what lives, or doesn't
module _ (q : Plain) (so : Sound q) (one : length q.seats ≡ 1) (settled : IsSettled q) (s : SlotId) where
  is_vacant : stage_at q s ≢ Live → IsVacant (slot_at q s)
  is_vacant dead = (dead, none_ended q s so one settled)

  nulls : stage_at q s ≢ Live → HasNullFields (slot_at q s)
  nulls dead = so.lawful.nulls s (is_vacant dead)

  -- a husk has weak references, and a free slot has none
  husk_has : stage_at q s ≡ Husk → 0 < rest_refs q s
  husk_has husk =
      let a = settled.given s husk in
      let b = ap own_reference husk in omega arith

  free_has : stage_at q s ≡ Free → rest_refs q s ≡ 0
  free_has free =
      let a : weak_refs q s ≡ 0 = none_by (weak_refs q s) (λ some. so.lawful.weak s some free) in omega arith

-- the stage of a slot that isn't alive in the end, by what it was and whether weak references are left
abbrev IsEnd : Stage → Stage → ℕ → Type 0
IsEnd x y rest =
    (y ≢ Live) × (y ≢ Ended) × (y ≡ Husk → 0 < rest) × (y ≡ Free → rest ≡ 0)
    × ((y ≡ x) ⊎ ((y ≢ Live) × (y ≢ Blank) × (x ≢ Free) × (x ≢ Blank)))

-- what stays blank was blank, and stays so
blank_only : (x y : Stage) → (Blank ≡ x) ⊎ ((Blank ≢ Live) × (Blank ≢ Blank) × (x ≢ Free) × (x ≢ Blank))
    → (y ≡ x) ⊎ ((y ≢ Live) × (y ≢ Blank) × (x ≢ Free) × (x ≢ Blank)) → y ≢ Blank → ⊥
blank_only x y a b ne =
    ⊎_elim
    (λ (e : Blank ≡ x). ⊎_elim (λ (f : y ≡ x). ne (f ∙ sym e)) (λ o. o.3 (sym e)) b)
    (λ o. o.1 refl)
    a

one_end : (x y z : Stage) (rest : ℕ) → IsEnd x y rest → IsEnd x z rest → z ≡ y
one_end x y Live rest a b = absurd (b.0 refl)
one_end x y Ended rest a b = absurd (b.1 refl)
one_end x Live z rest a b = absurd (a.0 refl)
one_end x Ended z rest a b = absurd (a.1 refl)
one_end x Free Free rest a b = refl
one_end x Husk Husk rest a b = refl
one_end x Blank Blank rest a b = refl
one_end x Free Husk rest a b = let f = a.3 refl in let h = b.2 refl in absurd (omega arith)
one_end x Husk Free rest a b = let f = b.3 refl in let h = a.2 refl in absurd (omega arith)
one_end x Blank Free rest a b = absurd (blank_only x Free a.4 b.4 (λ e. cc))
one_end x Blank Husk rest a b = absurd (blank_only x Husk a.4 b.4 (λ e. cc))
one_end x Free Blank rest a b = absurd (blank_only x Free b.4 a.4 (λ e. cc))
one_end x Husk Blank rest a b = absurd (blank_only x Husk b.4 a.4 (λ e. cc))

-- what isn't free wasn't free
pub was_taken : (x y : Stage) → (y ≡ x) ⊎ ((y ≢ Live) × (y ≢ Blank) × (x ≢ Free) × (x ≢ Blank)) → y ≢ Free → x ≢ Free
was_taken x y later taken free = ⊎_elim (λ (e : y ≡ x). taken (e ∙ free)) (λ o. o.2 free) later

live_or_not : (x : Stage) → (x ≡ Live) ⊎ (x ≢ Live)
live_or_not Live = inl refl
live_or_not Free = inr (λ e. cc)
live_or_not Blank = inr (λ e. cc)
live_or_not Ended = inr (λ e. cc)
live_or_not Husk = inr (λ e. cc)

-- p and p' are alike, and are tidied to q and q' until nothing more may go; the same slots are alive in the end
module _ (to from : SlotId → SlotId) (p p' q q' : Plain) (r : IsRenaming (length p.slots) to from) (alike : StatesAlike to p p')
    (t : Tidying p q) (t' : Tidying p' q') (settled : IsSettled q) (settled' : IsSettled q')
    (lives : (s : SlotId) → stage_at q' (to s) ≡ Live → stage_at q s ≡ Live)
    (lives' : (s : SlotId) → stage_at q s ≡ Live → stage_at q' (to s) ≡ Live) where
  dead' : (s : SlotId) → stage_at q s ≢ Live → stage_at q' (to s) ≢ Live
  dead' s dead live = dead (lives s live)

  -- what is alive is as it was
  alive : (s : SlotId) → stage_at q s ≡ Live → SlotsAlike to (slot_at q s) (slot_at q' (to s))
  alive s live =
      subst₂ (SlotsAlike to) (sym ((t.slots.fates s).live live)) (sym ((t'.slots.fates (to s)).live (lives' s live))) (alike.slots s)

  fields : (s : SlotId) → FieldsAlike to (slot_at q s) (slot_at q' (to s))
  fields s =
      ⊎_elim
      (λ live. fields_of to (slot_at q s) (slot_at q' (to s)) (alive s live))
      (λ dead.
      let a = nulls q t.sound t.seats settled s dead in
      let b = nulls q' t'.sound t'.seats settled' (to s) (dead' s dead) in
      record {
        first = b.0 ∙ sym (ap (renamed to) a.0);
        second = b.1 ∙ sym (ap (renamed to) a.1);
        weak_field = b.2 ∙ sym (ap (renamed to) a.2);
      })
      (live_or_not (stage_at q s))

  sizes : length q'.slots ≡ length q.slots
  sizes = t'.slots.size ∙ alike.size ∙ sym t.slots.size

  cells : q'.cells ≡ map (renamed to) q.cells
  cells = t'.slots.cells ∙ alike.cells ∙ sym (ap (map (renamed to)) t.slots.cells)

  weak_cells : q'.weak_cells ≡ map (renamed to) q.weak_cells
  weak_cells = t'.slots.weak_cells ∙ alike.weak_cells ∙ sym (ap (map (renamed to)) t.slots.weak_cells)

  held : (k : Kind) (s : SlotId) → places k q' (to s) ≡ places k q s
  held = held_alike to from (length p.slots) r q q' (sym t.slots.size) sizes fields cells weak_cells

  -- as much waits: of all that ever waited so much as is announced
  waits : (k : Kind) (s : SlotId) → entry_times k (to s) (seat_at q' 0).deferred ≡ entry_times k s (seat_at q 0).deferred
  waits k s =
      let at_first = places_alike to from (length p.slots) r p p' refl alike k s in
      let waited = alike.seat.deferred k s in
      let in_the_end = held k s in
      let announced = ap (entry_times k (to s)) t'.lists.snapshots ∙ alike.seat.snapshots k s ∙ sym (ap (entry_times k s) t.lists.snapshots) in
      let one = settled.ejected k s in
      let other = settled'.ejected k (to s) in
      let most = t.balance.most k s in
      let most' = t'.balance.most k (to s) in
      ⊎_elim
      (λ e. ⊎_elim (λ f. omega arith) (λ g. omega arith) (t'.balance.kept k (to s)))
      (λ l. ⊎_elim (λ f. omega arith) (λ g. omega arith) (t'.balance.kept k (to s)))
      (t.balance.kept k s)

  seats : SeatsAlike to (seat_at q 0) (seat_at q' 0)
  seats = record {
    owned = λ s. ap (times (to s)) t'.lists.owned ∙ alike.seat.owned s ∙ sym (ap (times s) t.lists.owned);
    weaks = λ s. ap (times (to s)) t'.lists.weaks ∙ alike.seat.weaks s ∙ sym (ap (times s) t.lists.weaks);
    snapshots = λ k s. ap (entry_times k (to s)) t'.lists.snapshots ∙ alike.seat.snapshots k s ∙ sym (ap (entry_times k s) t.lists.snapshots);
    deferred = waits;
  }

  rest_alike : (s : SlotId) → rest_refs q' (to s) ≡ rest_refs q s
  rest_alike s =
      let a = seat_alone (λ v. times (to s) v.weaks) q' t'.seats ∙ seats.weaks s ∙ sym (seat_alone (λ v. times s v.weaks) q t.seats) in
      let b = held Weak s in
      let c = seat_alone (λ v. entry_times Weak (to s) v.deferred) q' t'.seats ∙ waits Weak s
      ∙ sym (seat_alone (λ v. entry_times Weak s v.deferred) q t.seats) in omega arith

  stages : (s : SlotId) → stage_at q s ≢ Live → stage_at q' (to s) ≡ stage_at q s
  stages s dead =
      let rest = rest_alike s in
      let was = (alike.slots s).stage in
      let husk' = husk_has q' t'.sound t'.seats settled' (to s) in
      let free' = free_has q' t'.sound t'.seats settled' (to s) in
      one_end (stage_at p s) (stage_at q s) (stage_at q' (to s)) (rest_refs q s)
      (dead, none_ended q s t.sound t.seats settled, husk_has q t.sound t.seats settled s, free_has q t.sound t.seats settled s, (t.slots.fates s).later) (
        dead' s dead,
        none_ended q' (to s) t'.sound t'.seats settled',
        (λ h. let a = husk' h in omega arith),
        (λ f. let a = free' f in omega arith),
        subst (λ (x : Stage). (stage_at q' (to s) ≡ x) ⊎ ((stage_at q' (to s) ≢ Live) × (stage_at q' (to s) ≢ Blank) × (x ≢ Free) × (x ≢ Blank))) was
            (t'.slots.fates (to s)).later,
      )

  slots : (s : SlotId) → SlotsAlike to (slot_at q s) (slot_at q' (to s))
  slots s =
      ⊎_elim
      (λ live. alive s live)
      (λ dead. record {
        stage = stages s dead;
        marked = t'.sound.lawful.marks (to s) (dead' s dead) ∙ sym (t.sound.lawful.marks s dead);
        payload = λ taken. (t'.slots.fates (to s)).payload ∙ (alike.slots s).payload (was_taken (stage_at p s) (stage_at q s) (t.slots.fates s).later taken)
            ∙ sym (t.slots.fates s).payload;
        first = (fields s).first;
        second = (fields s).second;
        weak_field = (fields s).weak_field;
      })
      (live_or_not (stage_at q s))

  pub settled_alike : StatesAlike to q q'
  settled_alike = record { size = sizes; slots = slots; cells = cells; weak_cells = weak_cells; seat = seats }
