-- Desks that are alike have the same faults.
use Rattle.std.proofs.Common.{◌≡◌, inl, inr, ⊎_elim, ℕ, Bool, false, List, [], ◌∷◌, ◌++◌, refl, ap, sym, ◌∙◌, subst, Option, Some, None}
use Rattle.std.specs.Prelude.{All, IsSome, IsSomeAnd}
use Rattle.std.specs.List.{Any}
use Rattle.std.proofs.lemmas.List.Elements.{All-append, All-cons, All-get_or, All-nil}
use Rattle.script_desk.specs.line_words.declared.reason.Reason.{Reason}
use Rattle.script_desk.specs.line_words.declared.reason.Reason.TheVariants as reason
use Rattle.script_desk.specs.plain_state.declared.slot.SlotId.{SlotId}
use Rattle.script_desk.specs.script_lines.declared.command.Command.{Command}
use Rattle.script_desk.specs.script_lines.declared.command.Command.TheVariants as command
use Rattle.script_desk.specs.script_lines.declared.command.TextPlace.{TextPlace}
use Rattle.script_desk.specs.script_lines.declared.command.TextPlace.TheVariants as text
use Rattle.script_desk.specs.declared.handle.Handle.{Handle}
use Rattle.script_desk.specs.declared.handle.Handle.TheVariants.{Strong, Weak, Snapshot}
use Rattle.script_desk.specs.declared.sizes.Sizes.{Sizes}
use Rattle.script_desk.specs.Desks.{Names, bound, scope}
use Rattle.script_desk.specs.Faults.{HasKindFault, HasNameFault, IsFault, IsFaultless, IsMissing, IsOther, Need, binds, need_of, needs, place_needs, taken_by}
use Rattle.script_desk.specs.Handles.{is_any, is_firm, is_snapshot, is_strong, is_weak}
use Rattle.script_law.specs.Desks.{renamed_bound, renamed_handle}

-- what holds of some element holds of it in other words
any_so : {X : Type 0} (P Q R : X → Type 0) (xs : List X) → All R xs → ((x : X) → R x → P x → Q x) → Any P xs → Any Q xs
any_so P Q R xs all so (k, x, lt, at, p) = (k, x, lt, at, so x (subst R at (All-get_or R xs k x lt all)) p)

-- a kind of handles that new names don't change
abbrev Stays : (SlotId → SlotId) → Need → Type 0
Stays to need = (h : Handle) → need.1 (renamed_handle to h) ≡ need.1 h

module _ (to : SlotId → SlotId) where
  strong_stays : (h : Handle) → is_strong (renamed_handle to h) ≡ is_strong h
  strong_stays (Strong s) = refl
  strong_stays (Weak s) = refl
  strong_stays (Snapshot s) = refl

  firm_stays : (h : Handle) → is_firm (renamed_handle to h) ≡ is_firm h
  firm_stays (Strong s) = refl
  firm_stays (Weak s) = refl
  firm_stays (Snapshot s) = refl

  one_stays : (need : Need) → Stays to need → All (Stays to) (need ∷ [])
  one_stays need stays = All-cons (Stays to) need [] stays (All-nil (Stays to))

  place_stays : (place : TextPlace) → All (Stays to) (place_needs place)
  place_stays (text.Cell i) = All-nil (Stays to)
  place_stays (text.WeakCell i) = All-nil (Stays to)
  place_stays (text.Field name i) = one_stays (name, is_firm) firm_stays
  place_stays (text.WeakField name) = one_stays (name, is_firm) firm_stays

  taken_stays : (place : TextPlace) (h : Handle) → taken_by place (renamed_handle to h) ≡ taken_by place h
  taken_stays (text.Cell i) (Strong s) = refl
  taken_stays (text.Cell i) (Weak s) = refl
  taken_stays (text.Cell i) (Snapshot s) = refl
  taken_stays (text.WeakCell i) (Strong s) = refl
  taken_stays (text.WeakCell i) (Weak s) = refl
  taken_stays (text.WeakCell i) (Snapshot s) = refl
  taken_stays (text.Field name i) (Strong s) = refl
  taken_stays (text.Field name i) (Weak s) = refl
  taken_stays (text.Field name i) (Snapshot s) = refl
  taken_stays (text.WeakField name) (Strong s) = refl
  taken_stays (text.WeakField name) (Weak s) = refl
  taken_stays (text.WeakField name) (Snapshot s) = refl

  need_stays : (name : Option (List ℕ)) (kind : Handle → Bool) → ((h : Handle) → kind (renamed_handle to h) ≡ kind h)
      → All (Stays to) (need_of name kind)
  need_stays None kind stays = All-nil (Stays to)
  need_stays (Some name) kind stays = one_stays (name, kind) stays

  weak_stays : (h : Handle) → is_weak (renamed_handle to h) ≡ is_weak h
  weak_stays (Strong s) = refl
  weak_stays (Weak s) = refl
  weak_stays (Snapshot s) = refl

  snapshot_stays : (h : Handle) → is_snapshot (renamed_handle to h) ≡ is_snapshot h
  snapshot_stays (Strong s) = refl
  snapshot_stays (Weak s) = refl
  snapshot_stays (Snapshot s) = refl

  all_stay : (c : Command) → All (Stays to) (needs c)
  all_stay (command.Make name weight) = All-nil (Stays to)
  all_stay (command.Copy name new) = one_stays (name, is_strong) strong_stays
  all_stay (command.Drop name) = one_stays (name, is_strong) strong_stays
  all_stay (command.Weaken name new) = one_stays (name, is_strong) strong_stays
  all_stay (command.CopyWeak name new) = one_stays (name, is_weak) weak_stays
  all_stay (command.DropWeak name) = one_stays (name, is_weak) weak_stays
  all_stay (command.Upgrade name new) = one_stays (name, is_weak) weak_stays
  all_stay (command.Put place name) =
      All-append (Stays to) (place_needs place) ((name, taken_by place) ∷ []) (place_stays place)
      (one_stays (name, taken_by place) (taken_stays place))
  all_stay (command.Clear place) = place_stays place
  all_stay (command.Load place new) = place_stays place
  all_stay (command.Replace place old new) =
      All-append (Stays to) (place_needs place) (need_of old is_firm ++ need_of new is_strong) (place_stays place)
      (All-append (Stays to) (need_of old is_firm) (need_of new is_strong)
      (need_stays old is_firm firm_stays) (need_stays new is_strong strong_stays))
  all_stay (command.Snap place new) = place_stays place
  all_stay (command.EndSnapshot name) = one_stays (name, is_snapshot) snapshot_stays
  all_stay (command.Keep name new) = one_stays (name, is_snapshot) snapshot_stays
  all_stay (command.Read name word) = one_stays (name, is_any) (λ h. refl)
  all_stay (command.Counts name) = one_stays (name, is_any) (λ h. refl)
  all_stay command.Audit = All-nil (Stays to)

  -- the names are bound to the same, by the new names of slots
  module _ (names names' : Names) (same : (name : List ℕ) → bound names' name ≡ renamed_bound to (bound names name)) where
    missing_so : (need : Need) → IsMissing names need → IsMissing names' need
    missing_so need none = same need.0 ∙ ap (renamed_bound to) none

    other_so : (need : Need) → Stays to need → IsOther names need → IsOther names' need
    other_so need stays other = of (bound names need.0) (same need.0) other
      where
        of : (o : Option Handle) → bound names' need.0 ≡ renamed_bound to o → IsSomeAnd o (λ h. need.1 h ≡ false) → IsOther names' need
        of None e is = absurd is
        of (Some h) e is = subst (λ (x : Option Handle). IsSomeAnd x (λ y. need.1 y ≡ false)) (sym e) (stays h ∙ is)

    some_so : (name : List ℕ) → IsSome (bound names name) → IsSome (bound names' name)
    some_so name some = of (bound names name) (same name) some
      where
        of : (o : Option Handle) → bound names' name ≡ renamed_bound to o → IsSome o → IsSome (bound names' name)
        of None e is = absurd cc
        of (Some h) e is = subst (λ (x : Option Handle). IsSome x) (sym e) refl

    binds_so : (o : Option (List ℕ)) → IsSomeAnd o (λ new. IsSome (bound names new)) → IsSomeAnd o (λ new. IsSome (bound names' new))
    binds_so None is = is
    binds_so (Some new) is = some_so new is

    name_fault_so : (c : Command) → HasNameFault names c → HasNameFault names' c
    name_fault_so c fault =
        ⊎_elim
        (λ a. inl (any_so (IsMissing names) (IsMissing names') (Stays to) (needs c) (all_stay c) (λ need stays. missing_so need) a))
        (λ b. inr (binds_so (binds c) b))
        fault

    kind_fault_so : (c : Command) → HasKindFault names c → HasKindFault names' c
    kind_fault_so c fault =
        ⊎_elim
        (λ a. inl (any_so (IsOther names) (IsOther names') (Stays to) (needs c) (all_stay c) other_so a))
        (λ w. inr w)
        fault

-- names that are bound to the same both ways, and as many cells
module _ (to from : SlotId → SlotId) (names names' : Names) (x : Sizes)
    (same : (name : List ℕ) → bound names' name ≡ renamed_bound to (bound names name))
    (same' : (name : List ℕ) → bound names name ≡ renamed_bound from (bound names' name)) where
  faultless_so : (c : Command) → IsFaultless (scope names x) c → IsFaultless (scope names' x) c
  faultless_so c f = record {
    range = f.range;
    names = λ n. f.names (name_fault_so from names' names same' c n);
    kinds = λ k. f.kinds (kind_fault_so from names' names same' c k);
  }

  pub fault_so : (c : Command) (o : Option Reason) → IsFault (scope names x) c o → IsFault (scope names' x) c o
  fault_so c None f = faultless_so c f
  fault_so c (Some reason.Syntax) f = f
  fault_so c (Some reason.Range) f = f
  fault_so c (Some reason.Name) f = (f.0, name_fault_so to names names' same c f.1)
  fault_so c (Some reason.Kind) f =
      (f.0, (λ n. f.1 (name_fault_so from names' names same' c n)), kind_fault_so to names names' same c f.2)
  fault_so c (Some reason.NotEnabled) f = f
