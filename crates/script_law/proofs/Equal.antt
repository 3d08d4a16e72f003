-- What is alike to what is alike is alike.
use Rattle.std.proofs.Common.{◌≡◌, ℕ, List, [], ◌∷◌, length, refl, ap, ap₂, sym, ◌∙◌, subst, Option, Some, None}
use Rattle.std.specs.Prelude.{map}
use Rattle.script_desk.specs.plain_state.declared.slot.PlainSlot.{PlainSlot}
use Rattle.script_desk.specs.plain_state.declared.slot.SlotId.{SlotId}
use Rattle.script_desk.specs.plain_state.State.{Plain, slot_at}
use Rattle.script_desk.specs.declared.handle.Handle.{Handle}
use Rattle.script_desk.specs.declared.handle.Handle.TheVariants.{Strong, Weak, Snapshot}
use Rattle.script_desk.specs.Desks.{Desk, bound}
use Rattle.script_law.specs.Desks.{Alike, renamed_bound}
use Rattle.script_law.specs.Renamings.{IsRenaming, renamed}
use Rattle.script_law.specs.States.{SlotsAlike, StatesAlike}
use Rattle.script_law.proofs.Sums.{then_renamed}

module _ (to up : SlotId → SlotId) where
  place_then : (o : Option SlotId) → renamed up (renamed to o) ≡ renamed (λ s. up (to s)) o
  place_then None = refl
  place_then (Some s) = refl

  cells_then : (cs : List (Option SlotId)) → map (renamed up) (map (renamed to) cs) ≡ map (renamed (λ s. up (to s))) cs
  cells_then [] = refl
  cells_then (c ∷ cs) = ap₂ (λ (d : Option SlotId) (ds : List (Option SlotId)). d ∷ ds) (place_then c) (cells_then cs)

  bound_then : (o : Option Handle) → renamed_bound up (renamed_bound to o) ≡ renamed_bound (λ s. up (to s)) o
  bound_then None = refl
  bound_then (Some (Strong s)) = refl
  bound_then (Some (Weak s)) = refl
  bound_then (Some (Snapshot s)) = refl

  slots_then : (x y z : PlainSlot) → SlotsAlike to x y → SlotsAlike up y z → SlotsAlike (λ s. up (to s)) x z
  slots_then x y z a b = record {
    stage = b.stage ∙ a.stage;
    marked = b.marked ∙ a.marked;
    payload = λ taken. b.payload (λ free. taken (sym a.stage ∙ free)) ∙ a.payload taken;
    first = b.first ∙ ap (renamed up) a.first ∙ place_then x.first;
    second = b.second ∙ ap (renamed up) a.second ∙ place_then x.second;
    weak_field = b.weak_field ∙ ap (renamed up) a.weak_field ∙ place_then x.weak_field;
  }

  states_then : (p q r : Plain) → StatesAlike to p q → StatesAlike up q r → StatesAlike (λ s. up (to s)) p r
  states_then p q r a b = record {
    size = b.size ∙ a.size;
    slots = λ s. slots_then (slot_at p s) (slot_at q (to s)) (slot_at r (up (to s))) (a.slots s) (b.slots (to s));
    cells = b.cells ∙ ap (map (renamed up)) a.cells ∙ cells_then p.cells;
    weak_cells = b.weak_cells ∙ ap (map (renamed up)) a.weak_cells ∙ cells_then p.weak_cells;
    seat = record {
      owned = λ s. b.seat.owned (to s) ∙ a.seat.owned s;
      weaks = λ s. b.seat.weaks (to s) ∙ a.seat.weaks s;
      snapshots = λ k s. b.seat.snapshots k (to s) ∙ a.seat.snapshots k s;
      deferred = λ k s. b.seat.deferred k (to s) ∙ a.seat.deferred k s;
    };
  }

pub alike_on : (d e f : Desk) → Alike d e → Alike e f → Alike d f
alike_on d e f (to, from, r, a) (up, down, u, b) = (
  (λ s. up (to s)),
  (λ s. from (down s)),
  then_renamed (length d.plain.slots) to from up down r (subst (λ (n : ℕ). IsRenaming n up down) a.plain.size u),
  record {
    plain = states_then to up d.plain e.plain f.plain a.plain b.plain;
    names = λ name. b.names name ∙ ap (renamed_bound up) (a.names name) ∙ bound_then to up (bound d.names name);
    makers = λ s taken. b.makers (to s) (λ free. taken (sym (a.plain.slots s).stage ∙ free)) ∙ a.makers s taken;
    makes = b.makes ∙ a.makes;
  },
)
