-- The steps of the deeds keep the law.
use Rattle.std.proofs.Common.{◌≡◌, ⊎_elim, ℕ, suc, ◌<◌, List, [], ◌∷◌, ◌++◌, length, get_or, refl, sym, ap, subst, ◌∙◌, arith, Option, Some, None}
use Rattle.std.specs.Prelude.{Contains, slice_set}
use Rattle.std.proofs.lemmas.List.{get_or-set_same, set-get_or}
use Rattle.std.proofs.lemmas.List.Elements.{Contains-append_left, Contains-append_cases, Contains-push}
use Rattle.cdrc.specs.plain_state.declared.act.EventPlace.TheVariants.{WeakCell}
use Rattle.cdrc.specs.plain_state.declared.act.PlainAct.{PlainAct}
use Rattle.cdrc.specs.plain_state.declared.act.PlainAct.TheVariants as act
use Rattle.cdrc.specs.plain_state.declared.slot.SlotId.{SlotId}
use Rattle.cdrc.specs.plain_state.declared.slot.Stage.{Stage}
use Rattle.cdrc.specs.plain_state.declared.slot.Stage.TheVariants.{Live}
use Rattle.cdrc.specs.plain_state.State.{Plain, new_slot, seat_at, slot_at, stage_at}
use Rattle.cdrc.specs.plain_state.Steps.{Does, word_of}
use Rattle.cdrc.specs.plain_protocol.Acts.{IsCalm}
use Rattle.cdrc.specs.plain_protocol.Calm.{IsMade}
use Rattle.cdrc.specs.plain_protocol.Laws.{Meets, Keeps}
use Rattle.cdrc.specs.plain_protocol.Owns.{has_slot, object_of, own_part}
use Rattle.cdrc.specs.protocol_pairs.Values.{value_of}
use Rattle.cdrc.proofs.Below.protocol_pairs_Held.{held_has}
use Rattle.cdrc.proofs.Below.protocol_pairs_Notes.{noted_here}
use Rattle.cdrc.proofs.Below.protocol_pairs_Owning.{owned_live}
use Rattle.cdrc.proofs.Below.protocol_pairs_Values.{value_had, value_in}
use Rattle.example_cache.specs.Views.{View, WasRemembered, no_view, view_at}
use Rattle.example_cache.specs.Cache.{Cache, Holds}
use Rattle.example_cache.specs.Deeds.{OwnsIt, RecallReady, RecallTells, RememberReady, RememberTells, recall_next, remember_next, value_put}
use Rattle.example_cache.specs.Kept.{cache_calm, held_still, view_grows}

live_is_made : (g : Stage) → g ≡ Live → IsMade g
live_is_made g is = (λ e. let b = sym is ∙ e in absurd cc, λ e. let b = sym is ∙ e in absurd cc)

module _ (cell : ℕ) (p q : Plain) (views : List View) (n found : ℕ)
    (meets : Meets (Cache cell) p views) (low : n < length views) where
  abbrev v : View
  v = view_at views n

  -- REMEMBER
  module _ (new : Option SlotId) (owns : OwnsIt (own_part p n) new)
      (does : Does p n (act.Replace (WeakCell cell) new) found q) where
    abbrev w : View
    w = remember_next (own_part p n) (own_part q n) v (act.Replace (WeakCell cell) new) found

    slots : q.slots ≡ p.slots
    slots = ap (λ (z : Plain). z.slots) does.1.2.2

    now : get_or q.weak_cells cell None ≡ new
    now = ap (λ (z : Plain). get_or z.weak_cells cell None) does.1.2.2
        ∙ get_or-set_same p.weak_cells cell new None does.1.0

    -- what is put has the value that the seat knows, and lives
    put_is : (o : Option SlotId) → OwnsIt (own_part p n) o → (s : SlotId) → o ≡ Some s
        → (v.remembered ++ value_put (own_part p n) (act.Replace (WeakCell cell) o)
        ≡ v.remembered ++ (slot_at p s).payload ∷ []) × (stage_at p s ≡ Live)
    put_is None own s is = absurd cc
    put_is (Some x) own s is =
        let same : x ≡ s = cc in
        let c = meets.count in
        let live = owned_live p n x meets.lawful (omega arith) own in (
          ap (λ l. v.remembered ++ l) (value_had p n x (held_has p n x (omega arith)))
              ∙ ap (λ z. v.remembered ++ (slot_at p z).payload ∷ []) same,
          subst (λ z. stage_at p z ≡ Live) same live,
        )

    put : (s : SlotId) → Holds cell q s
        → (w.remembered ≡ v.remembered ++ (slot_at q s).payload ∷ []) × (stage_at q s ≡ Live)
    put s holds =
        let is = put_is new owns s (sym now ∙ holds) in (
          is.0 ∙ ap (λ l. v.remembered ++ (get_or l s.0 new_slot).payload ∷ []) (sym slots),
          ap (λ l. (get_or l s.0 new_slot).stage) slots ∙ is.1,
        )

    grown : Cache cell p (slice_set views n w)
    grown = view_grows cell p views n w low meets.law
        (λ value has. Contains-append_left v.remembered _ value has)
        (λ value has. meets.law.recalled value (n, has))

    pub remembers : Cache cell q (slice_set views n w) × RememberTells cell p q n v w
    remembers = (
      record {
        held = λ s holds. (
          live_is_made (stage_at q s) (put s holds).1,
          noted_here no_view (λ (z : View). z.remembered) views n w low (slot_at q s).payload
              (subst (λ l. Contains l (slot_at q s).payload) (sym (put s holds).0)
              (Contains-push v.remembered (slot_at q s).payload)),
        );
        recalled = grown.recalled;
      },
      λ s holds. (put s holds).0,
    )

  -- RECALL
  module _ (step : PlainAct) (is : IsCalm step) (does : Does p n step found q) where
    kept : Cache cell q views
    kept = cache_calm cell p q n step found views meets is does

    recalls_held : (s : SlotId) → Holds cell p s
        → let w : View = record v { recalled = v.recalled ++ value_of ((own_part q n).objects s) } in
        Cache cell q (slice_set views n w) × RecallTells cell p q n v w
    recalls_held s holds = (
      view_grows cell q views n _ low kept (λ value has. has)
          (λ value has. ⊎_elim
          (λ old. meets.law.recalled value (n, old))
          (λ new. subst (WasRemembered views)
          (sym (held_still cell p q views n step found meets.lawful does meets.law s holds).1
          ∙ value_in (has_slot (seat_at q n) s) (object_of (slot_at q s)) value new)
          (meets.law.held s holds).1)
          (Contains-append_cases v.recalled _ value has)),
      λ x now own. let is : s ≡ x = let e : Some s ≡ Some x = sym holds ∙ now in cc in
          ap (λ l. v.recalled ++ l)
          (ap (λ z. value_of ((own_part q n).objects z)) is ∙ value_had q n x own),
    )

    pub recalls : (place : Option SlotId) → get_or p.weak_cells cell None ≡ place → (word : ℕ)
        → word ≡ word_of place
        → let w = recall_next (own_part p n) (own_part q n) v step word in
        Cache cell q (slice_set views n w) × RecallTells cell p q n v w
    recalls None at word e =
        subst (λ z. let w = recall_next (own_part p n) (own_part q n) v step z in
        Cache cell q (slice_set views n w) × RecallTells cell p q n v w) (sym e) (
          subst (Cache cell q) (sym (set-get_or views n no_view)) kept,
          λ x now own. let none : None ≡ Some x = sym at ∙ now in absurd cc,
        )
    recalls (Some s) at word e =
        let next : word ≡ suc s.0 = omega arith in
        subst (λ z. let w = recall_next (own_part p n) (own_part q n) v step z in
        Cache cell q (slice_set views n w) × RecallTells cell p q n v w) (sym next)
        (recalls_held s at)

pub remember_keeps : (cell : ℕ)
    → Keeps (Cache cell) no_view (RememberReady cell) remember_next (RememberTells cell)
remember_keeps cell p q views n step found meets low is does =
    subst (λ a. let v = view_at views n in
    let w = remember_next (own_part p n) (own_part q n) v a found in
    Cache cell q (slice_set views n w) × RememberTells cell p q n v w) (sym is.1)
    (remembers cell p q views n found meets low is.0 is.2
    (subst (λ a. Does p n a found q) is.1 does))

pub recall_keeps : (cell : ℕ)
    → Keeps (Cache cell) no_view (RecallReady cell) recall_next (RecallTells cell)
recall_keeps cell p q views n step found meets low is does = ⊎_elim
    (λ look. let d = subst (λ a. Does p n a found q) look does in
    recalls cell p q views n found meets low step (subst IsCalm (sym look) tt) does
    (get_or p.weak_cells cell None) refl found d.1.1)
    (λ check. let d = subst (λ a. Does p n a found q) check.1 does in
    recalls cell p q views n found meets low step (subst IsCalm (sym check.1) tt) does
    (get_or p.weak_cells cell None) refl found d.1.1)
    is
