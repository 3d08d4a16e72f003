-- The rule holds of a table with the first words, and of its first seat.
use Rattle.std.proofs.Common.{◌≡◌, ⊎_elim, ℕ, zero, suc, ◌-◌, Bool, true, false, List, [], ◌∷◌, map, get_or, refl, ap, sym, ◌∙◌, subst, arith}
use Rattle.std.specs.Prelude.{◌==◌, if◌then◌else◌, Some, None}
use Rattle.std.specs.List.{range_with_len}
use Rattle.std.proofs.Math.ListN.{get_or-map}
use Rattle.std.proofs.lemmas.Bool.Decides.{nat_tests}
use mathlib.Core.Option.{some, some-injective, some-ne-none}
use lib.ListN.{get_elem?}
use Rattle.atomic_table.specs.Table.{opening}
use Rattle.plain_protocol.specs.plain_state.declared.slot.SlotId.{SlotId}
use Rattle.plain_protocol.specs.plain_state.declared.slot.PlainSlot.{PlainSlot}
use Rattle.plain_protocol.specs.plain_state.Fits.{AllFit}
use Rattle.plain_protocol.specs.plain_state.State.{Plain, slot_at, new_slot, empty}
use Rattle.plain_protocol.proofs.Below.plain_state_Start.{every_slot_new}
use Rattle.plain_protocol.specs.Laws.{Starts}
use Rattle.plain_protocol.specs.Owns.{object_of}
use Rattle.epoch_core.specs.declared.shape.EpochShape.{EpochShape}
use Rattle.core_law.specs.core_events.declared.shape.Quota.{Quota}
use Rattle.epoch_core.specs.Words.{first_words}
use Rattle.epoch_core.specs.Runs.{start, IsShape, AreQuotas}
use Rattle.epoch_core.proofs.Starts.{start_sound}
use Rattle.domain_rule.specs.declared.view.Known.{Known}
use Rattle.epoch_rule.specs.declared.view.EpochWhole.{EpochWhole}
use Rattle.epoch_rule.specs.declared.view.EpochSeatView.{EpochSeatView}
use Rattle.epoch_rule.specs.Opening.{first_of}
use Rattle.epoch_rule.specs.Past.{GoesOnFrom}
use Rattle.epoch_rule.specs.Rule.{IsHereOrGone, IsTrueOf, Tells, Kept, OthersLeft, clients}
use Rattle.domain_rule.specs.Views.{known_of, no_object, objects_of}
use Rattle.epoch_rule.specs.Views.{core_in, whole_of}
use Rattle.epoch_rule.proofs.Padding.{clients_more}
use Rattle.epoch_rule.proofs.StartShown.{first_seen, start_shown}

-- what is known of a slot's object, where all are known
pub known_at : (p : Plain) (s : SlotId)
    → get_or (objects_of p) s.0 no_object ≡ known_of (object_of (slot_at p s))
known_at p s = get_or-map (λ (x : PlainSlot). known_of (object_of x)) p.slots s.0 new_slot

-- a list of one has nothing else
only : {A : Type 0} (a b : A) (n : ℕ) → get_elem? (a ∷ []) n ≡ some b → (n ≡ 0) × (a ≡ b)
only a b zero e = (refl, some-injective a b e)
only a b (suc n) e = absurd (some-ne-none b (sym e))

empty_fits : (fits : List ℕ → Type 0) (seats slots cells weak_cells : ℕ)
    → AllFit fits (empty seats slots cells weak_cells)
empty_fits fits seats slots cells weak_cells s has =
    let free = ap (λ (x : PlainSlot). x.stage) (every_slot_new seats slots cells weak_cells s) in
    absurd (⊎_elim (λ live. cc (free, live)) (λ ended. cc (free, ended)) has)

module _ {V : Type 0} (law : Plain → List V → Type 0) (first : ℕ → V) (gone : V)
    (fits : List ℕ → Type 0) (z : EpochShape) (qs : List Quota) (shape : IsShape z) (quotas : AreQuotas z qs) where
  abbrev begun : EpochSeatView V
  begun = first_of first z qs

  -- what seat n knows of the whole core is so, and every other seat has left
  abbrev Knows : ℕ → EpochWhole → Type 0
  Knows n all = (core_in all ≡ start z qs) × (n ≡ 0) × OthersLeft (start z qs)

  -- a seat that knows the whole core from the start is the only one
  knows_alone : (all : EpochWhole) → begun.whole ≡ Some all → Knows 0 all
  knows_alone all = go (z.seats == 1) refl
    where
      go : (b : Bool) → (z.seats == 1) ≡ b
          → (if b then Some (whole_of (start z qs)) else None) ≡ Some all → Knows 0 all
      go false is e = absurd (cc (e))
      go true is e =
          let one : z.seats ≡ 1 = grind (arith, nat_tests) in
          let same : all ≡ whole_of (start z qs) = cc in
          let sv = (start_sound z qs shape quotas).views in
          (ap core_in same, refl, λ n pos h. absurd (omega arith))

  begun_true : IsTrueOf z (start z qs) 0 begun
  begun_true = record {
    core = let h = shape.0 in sym (first_seen z qs 0 quotas (omega arith));
    objects = λ s has.
        let p : Plain = empty z.seats z.slots z.cells 0 in
        ap (λ (o : Known). record { life = o.life; payload = o.payload }) (known_at p s)
        ∙ ap (λ (q : Plain). object_of (slot_at q s)) (sym (start_shown z qs quotas));
    cleared = λ p stands. absurd stands;
    whole = knows_alone;
  }

  first_clients : clients first z.seats (begun ∷ []) ≡ map first (range_with_len 0 z.seats)
  first_clients =
      let h = shape.0 in
      let e : z.seats - 0 ≡ z.seats = omega arith in
      clients_more first z.seats [] begun (omega arith) refl
      ∙ ap (λ (n : ℕ). map first (range_with_len 0 n)) e

  pub opens : Starts law first
      → Kept law first gone fits z qs (opening (first_words z) [] (first_of first z qs))
  opens starts = record {
    shape = shape;
    quotas = quotas;
    events = [];
    core = start z qs;
    history = refl;
    words = refl;
    few = let h = shape.0 in (omega arith, omega arith);
    tells = λ n v at.
        let o = only begun v n at in
        subst (λ (t : ℕ × EpochSeatView V). Tells z (start z qs) t.0 t.1) (λ i. (sym o.0 i, o.1 i))
        begun_true;
    pasts = λ n v at. subst (λ (u : EpochSeatView V). GoesOnFrom u.past []) (only begun v n at).1
        ([], refl);
    left = λ n v at. subst (λ (u : EpochSeatView V). IsHereOrGone gone u) (only begun v n at).1
        ((λ _. refl), (λ e. absurd (cc (e))));
    root = λ v at.
        let o = only begun v 0 at in (
          ap (λ (u : EpochSeatView V). u.gone) (sym o.1),
          ap (λ (u : EpochSeatView V). u.opened) (sym o.1),
        );
    unopened = λ n le h. first_seen z qs n quotas h;
    fit = subst (AllFit fits) (sym (start_shown z qs quotas))
        (empty_fits fits z.seats z.slots z.cells 0);
    client = subst (λ (t : Plain × List V). law t.0 t.1)
        (λ i. (sym (start_shown z qs quotas) i, sym first_clients i))
        (starts z.seats z.slots z.cells 0);
  }
