-- A handle that is put into a place of its kind.
use Rattle.std.proofs.Common.{[], MatchOption, ◌≡◌, ⊎_elim, ℕ, ◌<◌, Bool, true, List, length, refl, ap, sym, ◌∙◌, subst, Option, Some, None, IfSome}
use Rattle.std.specs.Map.{values_of}
use Rattle.std.specs.Option.{option_and_then}
use Rattle.plain_audit.specs.plain_state.declared.act.EventPlace.{EventPlace}
use Rattle.plain_audit.specs.plain_state.declared.slot.Kind.TheVariants as kind
use Rattle.plain_audit.specs.plain_state.declared.slot.SlotId.{SlotId}
use Rattle.plain_audit.specs.plain_state.Places.{place_kind}
use Rattle.plain_audit.specs.plain_state.State.{Plain}
use Rattle.plain_audit.specs.plain_state.Steps.{Replaces}
use Rattle.plain_settling.specs.plain_store.Calls.{Puts, Tries, strong_place, weak_place}
use Rattle.plain_settling.specs.plain_store.declared.place.PlainPlace.{PlainPlace}
use Rattle.plain_settling.specs.plain_store.declared.place.PlainWeakPlace.{PlainWeakPlace}
use Rattle.plain_settling.specs.plain_store.declared.place.PlainWeakPlace.TheVariants as weak
use Rattle.script_desk.specs.declared.handle.Handle.{Handle}
use Rattle.script_desk.specs.declared.handle.Handle.TheVariants.{Strong, Weak, Snapshot}
use Rattle.script_desk.specs.declared.place.HeapPlace.{HeapPlace}
use Rattle.script_desk.specs.declared.place.HeapPlace.TheVariants as heap
use Rattle.script_desk.specs.Desks.{Desk, Names, Maker, bound, Binds}
use Rattle.script_desk.specs.Effects.{IsSlotOf}
use Rattle.script_desk.specs.Faults.{is_weak_place, need_of, taken_by}
use Rattle.script_desk.specs.Handles.{slot_of, is_strong, is_weak}
use Rattle.script_desk.specs.Holding.{HasHandle, HasMore, CountsMore, Kept}
use Rattle.script_desk.specs.Places.{AreMet, IsBoundTo, event_place, is_weak_one}
use Rattle.script_lines.specs.declared.command.TextPlace.{TextPlace}
use Rattle.script_lines.specs.declared.command.TextPlace.TheVariants as text
use Rattle.script_desk.proofs.Naming.{desk_of, has_there}
use Rattle.script_desk.proofs.Needs.{bound_so, first_met, kind_of}
use Rattle.script_desk.proofs.Gaining.{is_strong_kind, replaces_fewer, replaces_same}
use Rattle.script_desk.proofs.Sums.{kept_fewer, kept_same}

-- what a place of the heap takes
abbrev pub taken : HeapPlace → Handle → Bool
taken (heap.Strong at) = is_strong
taken (heap.Weak at) = is_weak

is_weak_kind : (at : PlainWeakPlace) → place_kind (weak_place at) ≡ kind.Weak
is_weak_kind (weak.Cell i) = refl
is_weak_kind (weak.Field s) = refl

pub put_fewer : (p q : Plain) (at : HeapPlace) (h : Handle) → taken at h ≡ true → 0 < length p.seats → Replaces p 0 (event_place at) (Some (slot_of h)) q
    → HasMore q h p
put_fewer p q (heap.Strong at) (Strong s) takes there r = replaces_fewer p q (strong_place at) kind.Strong s (is_strong_kind at) there r
put_fewer p q (heap.Strong at) (Weak s) takes there r = cc
put_fewer p q (heap.Strong at) (Snapshot s) takes there r = cc
put_fewer p q (heap.Weak at) (Strong s) takes there r = cc
put_fewer p q (heap.Weak at) (Weak s) takes there r = replaces_fewer p q (weak_place at) kind.Weak s (is_weak_kind at) there r
put_fewer p q (heap.Weak at) (Snapshot s) takes there r = cc

-- the place of the heap takes what the place of the text takes
pub same_taken : (at : HeapPlace) (place : TextPlace) → is_weak_one at ≡ is_weak_place place → (h : Handle) → taken at h ≡ taken_by place h
same_taken (heap.Strong at) (text.Cell i) e h = refl
same_taken (heap.Strong at) (text.WeakCell i) e h = cc
same_taken (heap.Strong at) (text.Field name i) e h = refl
same_taken (heap.Strong at) (text.WeakField name) e h = cc
same_taken (heap.Weak at) (text.Cell i) e h = cc
same_taken (heap.Weak at) (text.WeakCell i) e h = refl
same_taken (heap.Weak at) (text.Field name i) e h = cc
same_taken (heap.Weak at) (text.WeakField name) e h = refl

-- a replacement that was done
pub tries_done : (p q : Plain) (place : EventPlace) (old new : Option SlotId) → Tries p place old new true q → (0 < length p.seats) × Replaces p 0 place new q
tries_done p q place old new (exactly, (here, (opened, z, cases))) = (
  here.0,
  ⊎_elim (λ x. x.1) (λ x. absurd (x.0 (exactly.0 refl))) cases,
)

-- what a name is bound to, by its slot
abbrev pub KnownBy : Desk → List ℕ → SlotId → Type 0
KnownBy d name s = (h : Handle) × (bound d.names name ≡ Some h) × (s ≡ slot_of h) × HasHandle d.plain h

-- a desk after a replacement by what the name was bound to
module _ (p : Plain) (names : Names) (made : List Maker) (makes strong weak : ℕ) (k : Kept p names made strong weak) (d : Desk) (is : desk_of p names made makes ≡ d) where
  pub kept_given : (at : HeapPlace) (name : List ℕ) (s : SlotId) (q : Plain) (after : Names) (found : Option Handle)
      → IsBoundTo d.names name (taken at) → KnownBy d name s → 0 < length p.seats → Replaces p 0 (event_place at) (Some s) q
      → found ≡ bound names name → IfSome found (λ h. CountsMore (values_of after) h (values_of names)) → Kept q after made strong weak
  kept_given at name s q after found kind (h, e, f, has) there r was counts =
      let known : found ≡ Some h = was ∙ ap (λ (x : Desk). bound x.names name) is ∙ e in
      let counts' : CountsMore (values_of after) h (values_of names)
      = subst (λ (o : Option Handle). IfSome o (λ x. CountsMore (values_of after) x (values_of names))) known counts in
      kept_fewer p names made strong weak k q h after
      (put_fewer p q at h (kind_of (bound d.names name) (taken at) h kind e) there (subst (λ (x : SlotId). Replaces p 0 (event_place at) (Some x) q) f r)) counts'

  pub kept_put : (at : HeapPlace) (place : TextPlace) (name : List ℕ) (s : SlotId) (q : Plain) (after : Names) (found : Option Handle)
      → is_weak_one at ≡ is_weak_place place → IsBoundTo d.names name (taken_by place) → KnownBy d name s → Puts p (event_place at) (Some s) q
      → found ≡ bound names name → IfSome found (λ h. CountsMore (values_of after) h (values_of names)) → Kept q after made strong weak
  kept_put at place name s q after found same bound_to known puts was counts =
      kept_given at name s q after found
      (bound_so (bound d.names name) (taken_by place) (taken at) (λ h. sym (same_taken at place same h)) bound_to)
      known puts.0.0 puts.1.2 was counts

  pub kept_replaced : (at : PlainPlace) (expected slot : Option SlotId) (name : Option (List ℕ)) (q : Plain) (after : Names)
      → AreMet d.names (need_of name is_strong) → IsSlotOf d.names name slot → Tries p (strong_place at) expected slot true q
      → MatchOption name (after ≡ names) (λ n. Binds names n None after)
      → IfSome (option_and_then (bound names) name) (λ h. CountsMore (values_of after) h (values_of names)) → Kept q after made strong weak
  kept_replaced at expected slot None q after met none tries binds counts =
      let done = tries_done p q (strong_place at) expected slot tries in
      let r : Replaces p 0 (strong_place at) None q = subst (λ (o : Option SlotId). Replaces p 0 (strong_place at) o q) none done.1 in
      subst (λ (ns : Names). Kept q ns made strong weak) (sym binds)
      (kept_same p names made strong weak k q (replaces_same p q (strong_place at) done.0 r))
  kept_replaced at expected slot (Some name) q after met (h, e, f) tries binds counts =
      let done = tries_done p q (strong_place at) expected slot tries in
      kept_given (heap.Strong at) name (slot_of h) q after (bound names name) (first_met d.names name is_strong [] met)
      (h, e, refl, has_there p names made makes strong weak k d is name h e) done.0
      (subst (λ (o : Option SlotId). Replaces p 0 (strong_place at) o q) f done.1) refl counts
