-- What is reached is reached by the new names, and what isn't isn't.
use Rattle.std.proofs.Common.{◌≡◌, inl, inr, ⊎_elim, ℕ, List, [], ◌∷◌, length, refl, ap, sym, ◌∙◌, subst, arith}
use Rattle.std.specs.Prelude.{map}
use Rattle.script_desk.specs.plain_state.declared.slot.Kind.TheVariants.{Strong}
use Rattle.script_desk.specs.plain_state.declared.slot.SlotId.{SlotId}
use Rattle.script_desk.specs.plain_state.Lists.{cell_times, times}
use Rattle.script_desk.specs.plain_state.State.{Plain, slot_at}
use Rattle.script_desk.specs.heap_audit.Paths.{LeadsTo, Path}
use Rattle.script_desk.specs.plain_audit.Reached.{HasField, IsReached, IsRoot, IsUnreached}
use Rattle.script_law.specs.Renamings.{IsRenaming}
use Rattle.script_law.specs.States.{StatesAlike}
use Rattle.script_law.proofs.Backwards.{alike_back, renaming_back}
use Rattle.script_law.proofs.Counts.{cells_renamed}
use Rattle.script_law.proofs.States.{deferrals_alike, fields_of, seats_alike, strong_fields_alike}

-- a path by the new names
pub path_renamed : (to : SlotId → SlotId) (R S : SlotId → SlotId → Type 0) → ((a b : SlotId) → R a b → S (to a) (to b))
    → (x : SlotId) (ys : List SlotId) (z : SlotId) → Path R x ys z → Path S (to x) (map to ys) (to z)
path_renamed to R S so x [] z p = so x z p
path_renamed to R S so x (y ∷ ys) z (step, p) = (so x y step, path_renamed to R S so y ys z p)

module _ (to from : SlotId → SlotId) (p q : Plain) (r : IsRenaming (length p.slots) to from) (one : length p.seats ≡ 1) (one' : length q.seats ≡ 1)
    (alike : StatesAlike to p q) where
  pub field_renamed : (a b : SlotId) → HasField p a b → HasField q (to a) (to b)
  field_renamed a b (live, holds) =
      let e = strong_fields_alike to from (length p.slots) r b (slot_at p a) (slot_at q (to a))
      (fields_of to (slot_at p a) (slot_at q (to a)) (alike.slots a)) in
      ((alike.slots a).stage ∙ live, omega arith)

  root_renamed : (s : SlotId) → IsRoot p s → IsRoot q (to s)
  root_renamed s root =
      let a = seats_alike to from (length p.slots) r p q refl alike one one' (λ v. times s v.owned) (λ v. times (to s) v.owned) (alike.seat.owned s) in
      let b = ap (cell_times (to s)) alike.cells ∙ cells_renamed to from r.back r.forth s p.cells in
      let c = deferrals_alike to from (length p.slots) r p q refl alike one one' Strong s in omega arith

  leads_renamed : (x z : SlotId) → LeadsTo (HasField p) x z → LeadsTo (HasField q) (to x) (to z)
  leads_renamed x z l =
      ⊎_elim
      (λ e. inl (ap to e))
      (λ ys. inr (map to ys.0, path_renamed to (HasField p) (HasField q) field_renamed x ys.0 z ys.1))
      l

  reached_renamed : (s : SlotId) → IsReached p s → IsReached q (to s)
  reached_renamed s (root, is, leads) = (to root, root_renamed root is, leads_renamed root s leads)

module _ (to from : SlotId → SlotId) (p q : Plain) (r : IsRenaming (length p.slots) to from) (one : length p.seats ≡ 1) (one' : length q.seats ≡ 1)
    (alike : StatesAlike to p q) where
  back_too : IsRenaming (length q.slots) from to
  back_too = subst (λ (n : ℕ). IsRenaming n from to) (sym alike.size) (renaming_back (length p.slots) to from r)

  alike_too : StatesAlike from q p
  alike_too = alike_back to from (length p.slots) r p q alike

  pub unreached_renamed : (s : SlotId) → IsUnreached p s → IsUnreached q (to s)
  unreached_renamed s (live, un) = (
    (alike.slots s).stage ∙ live,
    (λ reached. un (subst (IsReached p) (r.back s) (reached_renamed from to q p back_too one' one alike_too (to s) reached))),
  )

  pub field_back : (a b : SlotId) → HasField q a b → HasField p (from a) (from b)
  field_back = field_renamed from to q p back_too one' one alike_too

module _ (to from : SlotId → SlotId) (p q : Plain) (r : IsRenaming (length p.slots) to from) (one : length p.seats ≡ 1) (one' : length q.seats ≡ 1)
    (alike : StatesAlike to p q) where
  pub unreached_back : (s : SlotId) → IsUnreached q s → IsUnreached p (from s)
  unreached_back = unreached_renamed from to q p (back_too to from p q r one one' alike) one' one (alike_too to from p q r one one' alike)
