-- A reference that is kept, or comes back.
use Rattle.std.proofs.Common.{◌≡◌, ℕ, Bool, true, false, List, [], ◌∷◌, ◌++◌, sym, ap, subst, ◌∙◌, arith}
use Rattle.std.specs.Prelude.{◌==◌, cond, Option, Some, None}
use Rattle.std.proofs.lemmas.Bool.Decides.{nat_tests}
use Rattle.std.proofs.lemmas.List.{append-nil}
use Rattle.plain_state.specs.declared.slot.SlotId.{SlotId}
use Rattle.counted_handles.specs.Handles.{Handle}
use Rattle.lane_work.specs.declared.keeper.Keeper.{Keeper}
use Rattle.lane_work.specs.Keeping.{Admits, has}

same_mark : (a b : ℕ) (x y : Bool) → (a ≡ b → x ≡ true) → (a ≡ b → y ≡ true) → (¬ (a ≡ b) → y ≡ x)
    → y ≡ cond (a == b) true x
same_mark a b x y old new other = grind (arith, nat_tests)

module _ (h : Handle) (before after : Keeper) where
  -- one to its slot is kept
  module _ (there : has before h.slot ≡ true) (same : after ≡ before) where
    had : (s : SlotId) → h.slot.0 ≡ s.0 → has before s ≡ true
    had s is = subst (λ (t : SlotId). has before t ≡ true) (λ i. record { 0 = is i }) there

    has_still : (s : SlotId) → has after s ≡ has before s
    has_still s = ap (λ (k : Keeper). has k s) same

    pub comes_back : Admits h (Some h) before after
    comes_back = record {
      gives = ap (λ (x : Bool). cond x (Some h) None) (sym there);
      kept = ap (λ (k : Keeper). k.kept.items) same ∙ sym (append-nil before.kept.items)
          ∙ ap (λ (x : Bool). before.kept.items ++ cond x [] (h ∷ [])) (sym there);
      marks = λ s. same_mark h.slot.0 s.0 (has before s) (has after s) (had s)
          (λ is. has_still s ∙ had s is) (λ not. has_still s);
    }

  -- none is
  pub is_kept : has before h.slot ≡ false → after.kept.items ≡ before.kept.items ++ h ∷ []
      → ((s : SlotId) → has after s ≡ cond (h.slot.0 == s.0) true (has before s))
      → Admits h None before after
  is_kept none kept marks = record {
    gives = ap (λ (x : Bool). cond x (Some h) None) (sym none);
    kept = kept ∙ ap (λ (x : Bool). before.kept.items ++ cond x [] (h ∷ [])) (sym none);
    marks = marks;
  }
