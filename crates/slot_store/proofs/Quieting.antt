-- A collect that ejects nothing and leaves nothing ripe.
use Rattle.std.proofs.Common.{◌≡◌, inl, ℕ, ◌<◌, ◌≤◌, Bool, true, false, List, [], ◌∷◌, length, refl, ap, ◌∙◌, subst, arith}
use Rattle.std.specs.Bool.{MatchBool}
use Rattle.std.specs.Prelude.{◌↔◌, is_some, nat_lt, IsNone, Option, None, Some}
use Rattle.std.proofs.lemmas.Bool.Decides.{nat_tests}
use Rattle.protocol_pairs.specs.plain_state.declared.slot.SlotId.{SlotId}
use Rattle.protocol_pairs.specs.plain_state.Lists.{times}
use Rattle.retiring_stores.specs.acquire_retire.declared.payment.Work.{Work}
use Rattle.retiring_stores.specs.acquire_retire.Domains.{DomainState}
use Rattle.retiring_stores.specs.acquire_retire.Seats.{SeatState}
use Rattle.retiring_stores.specs.control_word.Resting.{IsAtRest}
use Rattle.retiring_stores.specs.Scanning.{Collected}
use Rattle.slot_store.specs.Settling.{GoesOn, Quiets}
use Rattle.slot_store.proofs.Ripening.{dying_announced}
use Rattle.slot_store.proofs.Scans.{unpaid}

pub no_items : {A : Type 0} (xs : List A) → length xs ≡ 0 → xs ≡ []
no_items [] none = refl
no_items (x ∷ xs) none = absurd (omega arith)

-- what no next one is told of is empty
pub none_next : {A : Type 0} (xs : List A) (next : Option A) → (IsNone next ↔ (xs ≡ []))
    → (more : Bool) → more ≡ is_some next → more ≡ false → xs ≡ []
none_next xs None none more is off = none.0 refl
none_next xs (Some x) none more is off = absurd (cc (is, off))

module _ {P V : Type 0} {fits : List ℕ → Type 0} (d : DomainState P) where
  module _ (old new : SeatState V) (c : Collected fits d old new) where
    quiets : IsAtRest d old → length old.view.core.retired ≤ length new.view.core.retired
        → new.view.core.ripe ≡ [] → Quiets fits d old new
    quiets rest kept ripe =
        let fewer = c.collects.retired in
        let none : length c.collects.payments ≡ 0 = omega arith in
        let dying = (unpaid d old new rest c (no_items c.collects.payments none)).dying in
        record {
          collected = c;
          none_ejected = ap (λ (x : Work). x.ejected) c.collects.did ∙ none;
          none_ripe = ripe;
          announced = λ s some.
              dying_announced d old new rest c ripe s
              (subst (λ (ss : List SlotId). 0 < times s ss) dying some);
        }

    -- where nothing is ripe, there is more to do exactly where an entry was ejected
    pub tells_more : IsAtRest d old → new.view.core.ripe ≡ [] → (are were : ℕ)
        → are ≡ length new.view.core.retired → were ≡ length old.view.core.retired
        → MatchBool (nat_lt are were) (GoesOn fits d old new) (Quiets fits d old new)
    tells_more rest none are were now before = go (nat_lt are were) refl
      where
        go : (more : Bool) → nat_lt are were ≡ more
            → MatchBool more (GoesOn fits d old new) (Quiets fits d old new)
        go true is =
            let fewer : are < were = grind (arith, nat_tests) in
            record { collected = c; more = inl (omega arith) }
        go false is =
            let kept : were ≤ are = grind (arith, nat_tests) in quiets rest (omega arith) none
