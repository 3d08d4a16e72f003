-- What is alike by some names is alike by those that lead back; and so alike states are tidied to alike states.
use Rattle.std.proofs.Common.{◌≡◌, ℕ, List, [], ◌∷◌, length, refl, ap, ap₂, sym, ◌∙◌, subst, Option, Some, None}
use Rattle.std.specs.Prelude.{map}
use Rattle.script_desk.specs.plain_state.declared.slot.PlainSlot.{PlainSlot}
use Rattle.script_desk.specs.plain_state.declared.slot.SlotId.{SlotId}
use Rattle.script_desk.specs.plain_state.declared.slot.Stage.TheVariants.{Live}
use Rattle.script_desk.specs.plain_state.Lists.{entry_times, times}
use Rattle.script_desk.specs.plain_state.Sound.{Sound}
use Rattle.script_desk.specs.plain_state.State.{Plain, seat_at, slot_at, stage_at}
use Rattle.script_desk.specs.plain_store.Settling.{IsSettled}
use Rattle.script_desk.specs.plain_settling.Settling.{TidiesTo}
use Rattle.script_law.specs.Renamings.{IsRenaming, renamed}
use Rattle.script_law.specs.States.{SlotsAlike, StatesAlike}
use Rattle.script_law.proofs.Outliving.{Outlived, outlived_first, outlived_step}
use Rattle.script_law.proofs.Settled.{settled_alike}
use Rattle.script_law.proofs.Fates.{Tidying, tidying_none}
use Rattle.script_law.proofs.Tidying.{along}

pub renaming_back : (n : ℕ) (to from : SlotId → SlotId) → IsRenaming n to from → IsRenaming n from to
renaming_back n to from r = record { back = r.forth; forth = r.back; inside = r.inside_back; inside_back = r.inside }

module _ (to from : SlotId → SlotId) (n : ℕ) (r : IsRenaming n to from) where
  pub renamed_back : (o : Option SlotId) → renamed from (renamed to o) ≡ o
  renamed_back None = refl
  renamed_back (Some s) = ap Some (r.back s)

  all_back : (cs : List (Option SlotId)) → map (renamed from) (map (renamed to) cs) ≡ cs
  all_back [] = refl
  all_back (c ∷ cs) = ap₂ (λ (d : Option SlotId) (ds : List (Option SlotId)). d ∷ ds) (renamed_back c) (all_back cs)

  slot_back : (x y : PlainSlot) → SlotsAlike to x y → SlotsAlike from y x
  slot_back x y same = record {
    stage = sym same.stage;
    marked = sym same.marked;
    payload = λ taken. sym (same.payload (λ free. taken (same.stage ∙ free)));
    first = sym (ap (renamed from) same.first ∙ renamed_back x.first);
    second = sym (ap (renamed from) same.second ∙ renamed_back x.second);
    weak_field = sym (ap (renamed from) same.weak_field ∙ renamed_back x.weak_field);
  }

  pub alike_back : (p q : Plain) → StatesAlike to p q → StatesAlike from q p
  alike_back p q alike = record {
    size = sym alike.size;
    slots = λ s. subst (λ (t : SlotId). SlotsAlike from (slot_at q t) (slot_at p (from s))) (r.forth s)
        (slot_back (slot_at p (from s)) (slot_at q (to (from s))) (alike.slots (from s)));
    cells = sym (ap (map (renamed from)) alike.cells ∙ all_back p.cells);
    weak_cells = sym (ap (map (renamed from)) alike.weak_cells ∙ all_back p.weak_cells);
    seat = record {
      owned = λ s. sym (alike.seat.owned (from s)) ∙ ap (λ (t : SlotId). times t (seat_at q 0).owned) (r.forth s);
      weaks = λ s. sym (alike.seat.weaks (from s)) ∙ ap (λ (t : SlotId). times t (seat_at q 0).weaks) (r.forth s);
      snapshots = λ k s. sym (alike.seat.snapshots k (from s)) ∙ ap (λ (t : SlotId). entry_times k t (seat_at q 0).snapshots) (r.forth s);
      deferred = λ k s. sym (alike.seat.deferred k (from s)) ∙ ap (λ (t : SlotId). entry_times k t (seat_at q 0).deferred) (r.forth s);
    };
  }

-- what tidying leaves, at its end
pub tidied : (p q : Plain) → Sound p → length p.seats ≡ 1 → TidiesTo p q → Tidying p q
tidied p q so one (acts, by) =
    (along p (λ (m : Plain). Unit {0}) (λ m x a found t u tidies does. tt) acts p q (tidying_none p so one) tt by).0

-- what lives where p' is tidied lives where p is
outlives : (to from : SlotId → SlotId) (p p' q q' : Plain) → IsRenaming (length p.slots) to from → StatesAlike to p p'
    → Sound p → length p.seats ≡ 1 → TidiesTo p q → Tidying p' q' → IsSettled q'
    → (s : SlotId) → stage_at q' (to s) ≡ Live → stage_at q s ≡ Live
outlives to from p p' q q' r alike so one (acts, by) t' settled =
    (along p (Outlived to from p p' q' r alike t' settled) (outlived_step to from p p' q' r alike t' settled) acts p q
    (tidying_none p so one) (outlived_first to from p p' q' r alike t' settled) by).1

pub tidied_alike : (to from : SlotId → SlotId) (p p' q q' : Plain) → IsRenaming (length p.slots) to from → StatesAlike to p p'
    → Sound p → Sound p' → length p.seats ≡ 1 → length p'.seats ≡ 1
    → TidiesTo p q → IsSettled q → TidiesTo p' q' → IsSettled q' → StatesAlike to q q'
tidied_alike to from p p' q q' r alike so so' one one' tidies settled tidies' settled' =
    let t = tidied p q so one tidies in
    let t' = tidied p' q' so' one' tidies' in
    let r' : IsRenaming (length p'.slots) from to
    = subst (λ (n : ℕ). IsRenaming n from to) (sym alike.size) (renaming_back (length p.slots) to from r) in
    settled_alike to from p p' q q' r alike t t' settled settled'
    (outlives to from p p' q q' r alike so one tidies t' settled')
    (λ s live. outlives from to p' p q' q r' (alike_back to from (length p.slots) r p p' alike) so' one' tidies' t settled (to s)
    (ap (stage_at q) (r.back s) ∙ live))
