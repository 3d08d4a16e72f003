-- Where no seat owns anything or has deferred anything, and all strong cells are null, each object that lives is
-- unreached.
use Rattle.std.proofs.Common.{◌≡◌, ℕ, zero, suc, ◌+◌, ◌<◌, List, [], ◌∷◌, length, get_or, sum_by, inl, inr, refl, ap, sym, ◌∙◌, subst, arith}
use Rattle.std.specs.Prelude.{Option, None, Some, slice_index_or}
use Rattle.std.proofs.lemmas.List.Sums.{sum_by-cons}
use Rattle.plain_audit.specs.plain_state.declared.slot.Kind.TheVariants.{Strong}
use Rattle.plain_audit.specs.plain_state.declared.slot.PlainSlot.{PlainSlot}
use Rattle.plain_audit.specs.plain_state.declared.slot.SlotId.{SlotId}
use Rattle.plain_audit.specs.plain_state.declared.slot.Stage.{Stage}
use Rattle.plain_audit.specs.plain_state.declared.slot.Stage.TheVariants.{Free, Blank, Live, Ended, Husk}
use Rattle.plain_audit.specs.plain_state.Lists.{cell_times, entry_times, holds, times}
use Rattle.plain_audit.specs.plain_state.References.{over_slots}
use Rattle.plain_audit.specs.plain_state.State.{Plain, PlainSeat, new_slot, seat_at, slot_at, stage_at}
use Rattle.plain_audit.specs.heap_audit.declared.finding.Audit.{Audit}
use Rattle.plain_audit.specs.heap_audit.Heaps.{slot}
use Rattle.plain_audit.specs.heap_audit.Reached.{HowMany}
use Rattle.plain_audit.specs.Audits.{IsAudit, if_live, live_slots}
use Rattle.plain_audit.specs.Reached.{IsRoot, IsReached, IsUnreached}
use Rattle.plain_audit.proofs.Below.heap_audit_Alike.{many_once}
use Rattle.plain_audit.proofs.Below.plain_state_Kit.{entry_none, times_none}
use Rattle.slot_store.specs.Leftovers.{HasNullCells}
use Rattle.domain_audit.proofs.OneSeat.{HasNothing, IsLoneState, over_first}

-- what f gives of the first n numbers, added up
abbrev below : ℕ → (ℕ → ℕ) → ℕ
below zero f = 0
below (suc n) f = below n f + f n

below_front : (n : ℕ) (f : ℕ → ℕ) → below (suc n) f ≡ f 0 + below n (λ i. f (suc i))
below_front zero f = omega arith
below_front (suc n) f = let rest = below_front n f in omega arith

slots_below : (f : PlainSlot → ℕ) (xs : List PlainSlot)
    → over_slots f xs ≡ below (length xs) (λ i. f (get_or xs i new_slot))
unfolding over_slots
slots_below f [] = refl
slots_below f (x ∷ xs) =
    let rest = slots_below f xs in
    let front = below_front (length xs) (λ i. f (get_or (x ∷ xs) i new_slot)) in
    let first = sum_by-cons f x xs in omega arith

-- a list of cells that are null holds no slot
null_times : (s : SlotId) (cells : List (Option SlotId))
    → ((i : ℕ) → slice_index_or cells i None ≡ None) → cell_times s cells ≡ 0
unfolding cell_times
null_times s [] null = refl
null_times s (None ∷ cells) null = null_times s cells (λ i. null (suc i))
null_times s (Some x ∷ cells) null = absurd (cc (null 0))

module _ (fits : List ℕ → Type 0) (p : Plain) (lone : IsLoneState fits p)
    (owned : (seat_at p 0).owned ≡ []) (deferred : (seat_at p 0).deferred ≡ [])
    (cells : HasNullCells p) where
  no_root : (s : SlotId) → IsRoot p s → ⊥
  no_root s root =
      let own = over_first (λ (v : PlainSeat). times s v.owned) p.seats lone.there
      (λ n some h. ap (times s) (lone.others n some h).owned ∙ times_none s) in
      let own_none = ap (times s) owned ∙ times_none s in
      let waits = over_first (λ (v : PlainSeat). entry_times Strong s v.deferred) p.seats lone.there
      (λ n some h. ap (entry_times Strong s) (lone.others n some h).deferred ∙ entry_none Strong s) in
      let waits_none = ap (entry_times Strong s) deferred ∙ entry_none Strong s in
      let held = null_times s p.cells cells in omega arith

  none_reached : (s : SlotId) → IsReached p s → ⊥
  none_reached s reached = no_root reached.0 reached.1

  counted : (n : ℕ) → HowMany (λ i. IsUnreached p (slot i)) n
      (below n (λ i. if_live 1 (stage_at p (slot i))))
  counted zero = refl
  counted (suc n) = go (stage_at p (slot n)) refl (counted n)
    where
      fewer : ℕ
      fewer = below n (λ i. if_live 1 (stage_at p (slot i)))

      not_live : (x : Stage) → stage_at p (slot n) ≡ x → (x ≡ Live → ⊥)
          → IsUnreached p (slot n) → ⊥
      not_live x is other un = other (sym is ∙ un.0)

      skip : (x : Stage) → stage_at p (slot n) ≡ x → (x ≡ Live → ⊥) → if_live 1 x ≡ 0
          → HowMany (λ i. IsUnreached p (slot i)) n fewer
          → HowMany (λ i. IsUnreached p (slot i)) (suc n) (fewer + if_live 1 (stage_at p (slot n)))
      skip x is other none rest =
          let zero_more = ap (if_live 1) is in
          let same : fewer ≡ fewer + if_live 1 (stage_at p (slot n)) = omega arith in
          subst (λ (k : ℕ). HowMany (λ i. IsUnreached p (slot i)) (suc n) k) same
          (inr (not_live x is other, rest))

      go : (x : Stage) → stage_at p (slot n) ≡ x
          → HowMany (λ i. IsUnreached p (slot i)) n fewer
          → HowMany (λ i. IsUnreached p (slot i)) (suc n) (fewer + if_live 1 (stage_at p (slot n)))
      go Live is rest =
          let one = ap (if_live 1) is in
          inl (fewer, (is, none_reached (slot n)), rest, omega arith)
      go Free is rest = skip Free is (λ e. cc (e)) refl rest
      go Blank is rest = skip Blank is (λ e. cc (e)) refl rest
      go Ended is rest = skip Ended is (λ e. cc (e)) refl rest
      go Husk is rest = skip Husk is (λ e. cc (e)) refl rest

  pub all_cyclic : (weight : List ℕ → ℕ) (ranks : List ℕ) (found : Audit)
      → IsAudit weight ranks p found → found.cyclic ≡ found.live
  all_cyclic weight ranks found is =
      many_once (λ i. IsUnreached p (slot i)) (length p.slots) found.cyclic
      (below (length p.slots) (λ i. if_live 1 (stage_at p (slot i)))) is.cyclic
      (counted (length p.slots))
      ∙ (sym (slots_below (λ (x : PlainSlot). if_live 1 x.stage) p.slots) ∙ sym is.live)
