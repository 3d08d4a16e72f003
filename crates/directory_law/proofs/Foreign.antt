-- Steps that leave alone what a directory owns keep its law.
use Rattle.std.proofs.Common.{add-one, ◌≡◌, ◌≢◌, inl, ⊎_elim, ℕ, zero, suc, ◌+◌, ◌<◌, Bool, true, false, List, [], ◌∷◌, length, get_or, set, take, sum, refl, sym, ◌∙◌, subst, arith}
use Rattle.std.specs.Prelude.{if◌then◌else◌, ◌==◌, Option, None}
use Rattle.std.proofs.lemmas.List.{get_or-set_same, get_or-set_other, set_past}
use Rattle.std.proofs.lemmas.List.Sums.{sum_by-cons}
use Rattle.std.proofs.lemmas.Bool.{cases_lt}
use Rattle.plain_protocol.specs.plain_state.declared.act.EventPlace.{EventPlace}
use Rattle.plain_protocol.specs.plain_state.declared.act.EventPlace.TheVariants.{Cell, Field, WeakCell, WeakField}
use Rattle.plain_protocol.specs.plain_state.declared.act.PlainAct.{PlainAct}
use Rattle.plain_protocol.specs.plain_state.declared.act.PlainAct.TheVariants as act
use Rattle.plain_protocol.specs.plain_state.declared.slot.PlainSlot.{PlainSlot}
use Rattle.plain_protocol.specs.plain_state.declared.slot.SlotId.{SlotId}
use Rattle.plain_protocol.specs.plain_state.declared.slot.Stage.TheVariants.{Free, Blank}
use Rattle.plain_protocol.specs.plain_state.Lists.{cell_times}
use Rattle.plain_protocol.specs.plain_state.State.{Plain, PlainSeat, new_slot, slot_at, stage_at}
use Rattle.plain_protocol.specs.plain_state.Places.{with_content, with_field}
use Rattle.plain_protocol.specs.plain_state.Lawful.{Lawful}
use Rattle.plain_protocol.specs.plain_state.Steps.{Does}
use Rattle.plain_protocol.specs.Acts.{IsCalm, OwnsPlace}
use Rattle.plain_protocol.specs.Laws.{KeptByForeign, Meets}
use Rattle.plain_protocol.proofs.Calm.{calm_leaves}
use Rattle.directory_law.specs.Payloads.{IsHead, IsOwn}
use Rattle.directory_law.specs.Views.{View, view_at}
use Rattle.directory_law.specs.Cells.{Area}
use Rattle.directory_law.specs.Law.{DirectoryLaw}
use Rattle.directory_law.specs.Owned.{owns}
use Rattle.directory_law.proofs.Kit.{cases_id, number_other}
use Rattle.directory_law.proofs.Quiet.{SlotQuiet, Quiet, same_quiet, calmed_quiet, law_quiet}
use Rattle.directory_law.proofs.Making.{after_make, Made, learnt_made, law_made}
use Rattle.directory_law.proofs.Owns.{inside_if}

-- a make of another object
make_other : (z : Area) (p : Plain) (ss : List PlainSeat) (s : SlotId) (views : List View)
    → stage_at p s ≡ Blank → ¬ (IsOwn (slot_at p s).payload) → Lawful p → DirectoryLaw z p views
    → DirectoryLaw z (after_make p ss s) views
make_other z p ss s views blank other lawful law =
    law_made z p ss s inside blank lawful views views same law
    (λ m. learnt_made z p ss s inside blank lawful views views same law (view_at views m)
    (law.learnt m))
  where
    inside : s.0 < length p.slots
    inside = inside_if p s (λ free. let e : Blank ≡ Free = sym blank ∙ free in cc)

    not_head : IsHead (slot_at p s).payload → ⊥
    not_head h = other (let a = h.0 in omega arith)

    same : Made p s views views
    same = record {
      same = λ r l differs. refl;
      once = let a = law.once s ((slot_at p s).life + 1) in omega arith;
      head = λ h. absurd (not_head h);
      keeps_same = λ r l. refl;
      kept = λ r l t k. k;
      used = refl;
      quotas = refl;
      quota = law.quota;
    }

-- a write of another place
first_field : (refs : ℕ) (first : Bool) (new : Option SlotId) (x : PlainSlot) → ¬ (IsOwn x.payload)
    → SlotQuiet refs x (if first then record x { first = new } else record x { second = new })
first_field refs true new x other = record {
  life = refl;
  mark = λ h. h;
  live = λ h. h;
  payload = λ h. refl;
  second = λ h own. refl;
  held = λ h made. (made, refl);
  made = λ made own. absurd (other own);
}
first_field refs false new x other = record {
  life = refl;
  mark = λ h. h;
  live = λ h. h;
  payload = λ h. refl;
  second = λ h own. absurd (other own);
  held = λ h made. (made, refl);
  made = λ made own. absurd (other own);
}

weak_field : (refs : ℕ) (new : Option SlotId) (x : PlainSlot)
    → SlotQuiet refs x (record x { weak_field = new })
weak_field refs new x = record {
  life = refl;
  mark = λ h. h;
  live = λ h. h;
  payload = λ h. refl;
  second = λ h own. refl;
  held = λ h made. (made, refl);
  made = λ made own. (made, refl, inl refl, inl refl);
}

written : (z : Area) (p : Plain) (ss : List PlainSeat) (x : SlotId) (y : PlainSlot)
    → SlotQuiet (cell_times x p.weak_cells) (slot_at p x) y
    → Quiet z p (record p { seats = ss; slots = set p.slots x.0 y })
written z p ss x y quiet = record {
  cells = λ d h. refl;
  granted = omega arith;
  slots = λ s. ⊎_elim
      (λ (below : x.0 < length p.slots). ⊎_elim
      (λ (e : s ≡ x). subst (λ (k : SlotId). SlotQuiet (cell_times k p.weak_cells) (slot_at p k)
      (get_or (set p.slots x.0 y) k.0 new_slot)) (sym e)
      (subst (SlotQuiet (cell_times x p.weak_cells) (slot_at p x))
      (sym (get_or-set_same p.slots x.0 y new_slot below)) quiet))
      (λ (ne : s ≢ x). subst (SlotQuiet (cell_times s p.weak_cells) (slot_at p s))
      (sym (get_or-set_other p.slots x.0 s.0 y new_slot (number_other s x ne)))
      (same_quiet (cell_times s p.weak_cells) (slot_at p s)))
      (cases_id s x))
      (λ past. subst (λ (l : List PlainSlot). SlotQuiet (cell_times s p.weak_cells) (slot_at p s)
      (get_or l s.0 new_slot)) (sym (set_past p.slots x.0 y past))
      (same_quiet (cell_times s p.weak_cells) (slot_at p s)))
      (cases_lt x.0 (length p.slots));
}

put_elsewhere : (z : Area) (p : Plain) (ss : List PlainSeat) (place : EventPlace)
    (new : Option SlotId)
    → ¬ (OwnsPlace (owns z) p place) → Quiet z p (with_content (record p { seats = ss }) place new)
put_elsewhere z p ss (Cell i) new other = record {
  cells = λ d h. refl;
  granted = omega arith;
  slots = λ s. same_quiet (cell_times s p.weak_cells) (slot_at p s);
}
put_elsewhere z p ss (Field s i) new other =
    written z p ss s (with_field i new (slot_at p s))
    (first_field (cell_times s p.weak_cells) (i == 0) new (slot_at p s) other)
put_elsewhere z p ss (WeakCell i) new other = record {
  cells = λ d h. get_or-set_other p.weak_cells i (z.first + d) new None
      (λ e. other ((omega arith), (omega arith)));
  granted = omega arith;
  slots = λ s. same_quiet (cell_times s p.weak_cells) (slot_at p s);
}
put_elsewhere z p ss (WeakField s) new other =
    written z p ss s (record (slot_at p s) { weak_field = new })
    (weak_field (cell_times s p.weak_cells) new (slot_at p s))

put : (z : Area) (p q : Plain) (ss : List PlainSeat) (views : List View) (place : EventPlace)
    (new : Option SlotId)
    → Meets (DirectoryLaw z) p views → ¬ (OwnsPlace (owns z) p place)
    → q ≡ with_content (record p { seats = ss }) place new → DirectoryLaw z q views
put z p q ss views place new meets other is =
    subst (λ (r : Plain). DirectoryLaw z r views) (sym is)
    (law_quiet z p (with_content (record p { seats = ss }) place new)
    (put_elsewhere z p ss place new other) meets.lawful views meets.law)

-- a ticket: at least as many interns are given as before
granted_suc : (grants : List ℕ) (n : ℕ)
    → sum (take (suc n) grants) ≡ sum (take n grants) + get_or grants n 0
granted_suc [] zero = refl
granted_suc [] (suc n) = refl
granted_suc (x ∷ xs) zero = refl
granted_suc (x ∷ xs) (suc n) =
    let a : sum (x ∷ take (suc n) xs) ≡ x + sum (take (suc n) xs) =
    sum_by-cons (λ (k : ℕ). k) x (take (suc n) xs) in
    let b : sum (x ∷ take n xs) ≡ x + sum (take n xs) = sum_by-cons (λ (k : ℕ). k) x (take n xs) in
    let c = granted_suc xs n in omega arith

pub granted_next : (grants : List ℕ) (n : ℕ)
    → sum (take (n + 1) grants) ≡ sum (take n grants) + get_or grants n 0
granted_next grants n = rw add-one (granted_suc grants n)

pub ticket_quiet : (z : Area) (p : Plain) (ss : List PlainSeat)
    → Quiet z p (record p { seats = ss; tickets = p.tickets + 1 })
ticket_quiet z p ss = record {
  cells = λ d h. refl;
  granted = let e = granted_next z.grants p.tickets in omega arith;
  slots = λ s. same_quiet (cell_times s p.weak_cells) (slot_at p s);
}

pub calmly : (z : Area) (p q : Plain) (n : ℕ) (step : PlainAct) (found : ℕ) (views : List View)
    → Meets (DirectoryLaw z) p views → IsCalm step → Does p n step found q → DirectoryLaw z q views
calmly z p q n step found views meets calm does =
    law_quiet z p q (calmed_quiet z p q (calm_leaves p q n step found meets.lawful calm does))
    meets.lawful views meets.law

pub foreign_keeps : (z : Area) → KeptByForeign (DirectoryLaw z) (owns z)
foreign_keeps z p q n (act.Make s) found views meets other does =
    subst (λ (r : Plain). DirectoryLaw z r views) (sym does.1.3)
    (make_other z p _ s views does.1.0 other meets.lawful meets.law)
foreign_keeps z p q n (act.Replace place new) found views meets other does =
    put z p q _ views place new meets other does.1.2.2
foreign_keeps z p q n (act.TryReplace place old new) found views meets other does =
    ⊎_elim
    (λ yes. put z p q _ views place new meets other yes.1.2)
    (λ not. subst (λ (r : Plain). DirectoryLaw z r views) (sym not.1) meets.law)
    does.1.2
foreign_keeps z p q n act.Ticket found views meets other does =
    subst (λ (r : Plain). DirectoryLaw z r views) (sym does.1.1)
    (law_quiet z p _ (ticket_quiet z p _) meets.lawful views meets.law)
foreign_keeps z p q n (act.Leave j) found views meets other does = absurd other
foreign_keeps z p q n (act.Claim s) found views meets other does =
    calmly z p q n (act.Claim s) found views meets tt does
foreign_keeps z p q n (act.Fill s i word) found views meets other does =
    calmly z p q n (act.Fill s i word) found views meets tt does
foreign_keeps z p q n (act.Add s) found views meets other does =
    calmly z p q n (act.Add s) found views meets tt does
foreign_keeps z p q n (act.Drop s) found views meets other does =
    calmly z p q n (act.Drop s) found views meets tt does
foreign_keeps z p q n (act.WeakGain s) found views meets other does =
    calmly z p q n (act.WeakGain s) found views meets tt does
foreign_keeps z p q n (act.WeakDrop s) found views meets other does =
    calmly z p q n (act.WeakDrop s) found views meets tt does
foreign_keeps z p q n (act.Look place) found views meets other does =
    calmly z p q n (act.Look place) found views meets tt does
foreign_keeps z p q n (act.Check j place) found views meets other does =
    calmly z p q n (act.Check j place) found views meets tt does
foreign_keeps z p q n (act.Alive j) found views meets other does =
    calmly z p q n (act.Alive j) found views meets tt does
foreign_keeps z p q n (act.EndSnapshot k s) found views meets other does =
    calmly z p q n (act.EndSnapshot k s) found views meets tt does
foreign_keeps z p q n (act.Count s) found views meets other does =
    calmly z p q n (act.Count s) found views meets tt does
foreign_keeps z p q n (act.Mark s) found views meets other does =
    calmly z p q n (act.Mark s) found views meets tt does
foreign_keeps z p q n (act.WeakCount s) found views meets other does =
    calmly z p q n (act.WeakCount s) found views meets tt does
foreign_keeps z p q n (act.See s i) found views meets other does =
    calmly z p q n (act.See s i) found views meets tt does
foreign_keeps z p q n (act.Eject k s) found views meets other does =
    calmly z p q n (act.Eject k s) found views meets tt does
foreign_keeps z p q n (act.End s) found views meets other does =
    calmly z p q n (act.End s) found views meets tt does
foreign_keeps z p q n (act.Clear place) found views meets other does =
    calmly z p q n (act.Clear place) found views meets tt does
foreign_keeps z p q n (act.Destroy s) found views meets other does =
    calmly z p q n (act.Destroy s) found views meets tt does
foreign_keeps z p q n (act.Give s) found views meets other does =
    calmly z p q n (act.Give s) found views meets tt does
foreign_keeps z p q n act.Split found views meets other does =
    calmly z p q n act.Split found views meets tt does
foreign_keeps z p q n act.Still found views meets other does =
    calmly z p q n act.Still found views meets tt does
