-- A reference that is kept, or given up.
use Rattle.std.proofs.Common.{◌≡◌, ℕ, ◌<◌, Bool, true, false, List, [], ◌∷◌, ◌++◌, refl, sym, ap, subst, ◌∙◌, arith}
use Rattle.std.specs.Prelude.{cond, Option, Some, None}
use Rattle.std.proofs.lemmas.List.{append-nil}
use Rattle.control_word.specs.plain_state.declared.slot.SlotId.{SlotId}
use Rattle.control_word.specs.plain_state.Lists.{times}
use Rattle.control_word.specs.core_events.Views.{without}
use Rattle.control_word.proofs.Below.core_law_Kit.{times_push, times_without}
use Rattle.control_word.specs.counted_handles.Handles.{Handle}
use Rattle.control_word.specs.acquire_retire.Seats.{SeatState}
use Rattle.words_protocol.specs.words_law.Views.{View}
use Rattle.lane_work.specs.declared.keeper.Keeper.{Keeper}
use Rattle.lane_work.specs.Keeping.{Admits}
use Rattle.lane_files.specs.Ready.{Owns}
use Rattle.lane_files.proofs.SeatsKept.{owns_as, owns_none}
use Rattle.lane_files.specs.Keeping.{KeepsOne, has, slots_of}

-- what comes back is the reference that was given, where one to its slot is kept
came_back : (x : Bool) (h k : Handle) → Some k ≡ cond x (Some h) None → (x ≡ true) × (k ≡ h)
came_back true h k e = (refl, cc)
came_back false h k e = cc

stays_kept : (x : Bool) (h : Handle) → None ≡ cond x (Some h) None → x ≡ false
stays_kept false h e = refl
stays_kept true h e = cc

module _ (h : Handle) (before after : Keeper) (a b : SeatState View) where
  -- what is kept more, and what the seat owns then
  kept_more : (x : Bool) → has before h.slot ≡ x → (back : Option Handle)
      → Admits h back before after
      → Owns (without h.slot a.view.core.owned ++ slots_of (cond x [] (h ∷ []))) a b
      → KeepsOne h before after a b
  kept_more x is back admits owns = record {
    more = cond x [] (h ∷ []);
    is = ap (λ (y : Bool). cond y [] (h ∷ [])) (sym is);
    kept = admits.kept ∙ ap (λ (y : Bool). before.kept.items ++ cond y [] (h ∷ [])) is;
    marks = admits.marks;
    owns = owns;
  }

  -- one to its slot was kept
  pub back_is : (k : Handle) → Admits h (Some k) before after → k ≡ h
  back_is k admits = (came_back (has before h.slot) h k admits.gives).1

  pub gives_one : (k : Handle) → Admits h (Some k) before after
      → Owns (without k.slot a.view.core.owned) a b → KeepsOne h before after a b
  gives_one k admits owns =
      kept_more true (came_back (has before h.slot) h k admits.gives).0 (Some k) admits
      (owns_as (without h.slot a.view.core.owned ++ []) a b owns
      (λ x. ap (times x)
      (ap (λ (g : Handle). without g.slot a.view.core.owned) (back_is k admits)
      ∙ sym (append-nil (without h.slot a.view.core.owned)))))

  -- none was kept
  pub keeps_one : Admits h None before after → 0 < times h.slot a.view.core.owned → b ≡ a
      → KeepsOne h before after a b
  keeps_one admits own same =
      kept_more false (stays_kept (has before h.slot) h admits.gives) None admits
      (subst (λ (c : SeatState View). Owns (without h.slot a.view.core.owned ++ h.slot ∷ []) a c)
      (sym same)
      (owns_as (without h.slot a.view.core.owned ++ h.slot ∷ []) a a (owns_none a)
      (λ x. let p = times_push x h.slot (without h.slot a.view.core.owned) in
      let q = times_without x h.slot a.view.core.owned own in omega arith)))
