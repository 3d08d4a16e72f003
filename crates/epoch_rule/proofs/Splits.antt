-- Seat 0 keeps the rule where it opens one more seat.
use Rattle.std.proofs.Common.{◌≡◌, ⊎_elim, ℕ, ◌+◌, ◌<◌, ◌≤◌, false, List, [], ◌∷◌, ◌++◌, length, set, refl, ap, sym, ◌∙◌, subst, arith, length-append}
use Rattle.std.specs.Prelude.{◌==◌, if◌then◌else◌, Some, None}
use Rattle.std.proofs.lemmas.List.{length-set}
use Rattle.std.proofs.lemmas.Bool.Decides.{nat_tests}
use mathlib.Core.Option.{some, some-injective}
use lib.ListN.{get_elem?}
use Rattle.atomic_table.specs.Table.{State, Splits}
use Rattle.atomic_table.proofs.Lists.{at_longer, set_here}
use Rattle.plain_protocol.specs.plain_state.declared.slot.SlotId.{SlotId}
use Rattle.plain_protocol.specs.plain_state.Lists.{times, entry_times}
use Rattle.plain_protocol.specs.plain_state.References.{held_in}
use Rattle.plain_protocol.specs.plain_state.State.{Plain, new_seat}
use Rattle.plain_protocol.specs.Owns.{HasSlot}
use Rattle.epoch_core.specs.declared.shape.EpochShape.{EpochShape}
use Rattle.core_law.specs.core_events.declared.shape.Quota.{Quota}
use Rattle.epoch_core.specs.Runs.{Core, start}
use Rattle.epoch_core.specs.Shows.{shows}
use Rattle.epoch_rule.specs.declared.view.EpochWhole.{EpochWhole}
use Rattle.epoch_rule.specs.declared.view.EpochSeatView.{EpochSeatView}
use Rattle.epoch_rule.specs.Opening.{opened_view, opened_more}
use Rattle.epoch_rule.specs.Past.{GoesOnFrom}
use Rattle.epoch_rule.specs.Rule.{IsHereOrGone, IsTrueOf, Tells, Kept, clients}
use Rattle.epoch_rule.specs.Views.{whole_of}
use Rattle.domain_rule.proofs.Padding.{at_less, at_pushed}
use Rattle.epoch_rule.proofs.Padding.{clients_same, clients_more}
use Rattle.epoch_rule.proofs.Telling.{from_nothing, is_root, set_left, set_pasts, set_tells, tells_here, true_of}

-- a new seat has no slot
new_has_none : (s : SlotId) → HasSlot new_seat s → ⊥
unfolding times entry_times held_in
new_has_none s has = absurd (cc (has))

-- in a domain of several seats a new one doesn't know the whole core
knows_less : (z : EpochShape) (n : ℕ) (c : Core) (all : EpochWhole) → 1 ≤ n → n < z.seats
    → (if z.seats == 1 then Some (whole_of c) else None) ≡ Some all → ⊥
knows_less z n c all some_seat more e =
    let several : (z.seats == 1) ≡ false = grind (arith, nat_tests) in
    absurd (cc (several, e))

module _ {V : Type 0} (law : Plain → List V → Type 0) (first : ℕ → V) (gone : V)
    (fits : List ℕ → Type 0) (z : EpochShape) (qs : List Quota) (id : ℕ) (v : EpochSeatView V) (here : v.gone ≡ false)
    (root : v.core.seat ≡ 0) (more : v.opened < z.seats) where
  abbrev left : EpochSeatView V
  left = opened_more v

  abbrev new : EpochSeatView V
  new = opened_view first z qs v.opened

  module _ (s : State (Unit {0}) (EpochSeatView V)) (k : Kept law first gone fits z qs s)
      (at : get_elem? s.views id ≡ some v) where
    abbrev views : List (EpochSeatView V)
    views = set s.views id left ++ new ∷ []

    first_seat : id ≡ 0
    first_seat = is_root z qs s k id v at here root

    count : v.opened ≡ length s.views
    count = (k.root v (subst (λ (n : ℕ). get_elem? s.views n ≡ some v) first_seat at)).1

    left_length : length (set s.views id left) ≡ v.opened
    left_length = length-set s.views id left ∙ sym count

    all_length : length views ≡ v.opened + 1
    all_length =
        let l = length-append (set s.views id left) (new ∷ []) in
        let m = left_length in omega arith

    new_true : IsTrueOf z k.core v.opened new
    new_true =
        let f = k.few.0 in
        let c = count in record {
          core = sym (k.unopened v.opened (omega arith) more);
          objects = λ s has. absurd (new_has_none s has);
          cleared = λ p stands. absurd stands;
          whole = λ all e. absurd (knows_less z v.opened (start z qs) all (omega arith) more e);
        }

    left_true : IsTrueOf z k.core id left
    left_true =
        let t = true_of z qs s k id v at here in
        record { core = t.core; objects = t.objects; cleared = t.cleared; whole = t.whole }

    views_tell : (n : ℕ) (u : EpochSeatView V) → get_elem? views n ≡ some u → Tells z k.core n u
    views_tell n u e = ⊎_elim
        (λ old. set_tells z k.core s.views id left (tells_here z k.core id left here left_true)
        (λ m w ne. k.tells m w) n u old)
        (λ last. subst (λ (t : ℕ × EpochSeatView V). Tells z k.core t.0 t.1)
        (λ i. (sym (last.0 ∙ left_length) i, last.1 i)) new_true)
        (at_pushed (set s.views id left) new u n e)

    pasts : (n : ℕ) (u : EpochSeatView V) → get_elem? views n ≡ some u → GoesOnFrom u.past k.events
    pasts n u e = ⊎_elim
        (λ old. set_pasts s.views id left k.events k.events (k.pasts id v at) (λ past goes. goes)
        k.pasts n u old)
        (λ last. subst (λ (t : EpochSeatView V). GoesOnFrom t.past k.events) last.1
        (from_nothing k.events))
        (at_pushed (set s.views id left) new u n e)

    lefts : (n : ℕ) (u : EpochSeatView V) → get_elem? views n ≡ some u → IsHereOrGone gone u
    lefts n u e = ⊎_elim
        (λ old. set_left s.views id left gone (k.left id v at) k.left n u old)
        (λ last. subst (λ (t : EpochSeatView V). IsHereOrGone gone t) last.1
        ((λ _. refl), (λ f. absurd (cc (f)))))
        (at_pushed (set s.views id left) new u n e)

    root_stays : (u : EpochSeatView V) → get_elem? views 0 ≡ some u
        → (u.gone ≡ false) × (u.opened ≡ length views)
    root_stays u e =
        let there = at_longer (set s.views id left) (new ∷ []) id left
        (set_here s.views id left (at_less s.views id v at)) in
        let same : left ≡ u = some-injective left u
        (sym (subst (λ (n : ℕ). get_elem? views n ≡ some left) first_seat there) ∙ e) in (
          ap (λ (t : EpochSeatView V). t.gone) (sym same) ∙ here,
          ap (λ (t : EpochSeatView V). t.opened) (sym same) ∙ sym all_length,
        )

    same_clients : clients first z.seats views ≡ clients first z.seats s.views
    same_clients =
        let l = left_length in
        clients_more first z.seats (set s.views id left) new (omega arith) (ap first (sym l))
        ∙ clients_same first z.seats s.views id v left at refl

    -- the rule after the opening: the core stays as it is
    kept_then : Kept law first gone fits z qs (record { words = s.words; homes = s.homes; views = views })
    kept_then =
        let l = all_length in
        let c = count in record {
          shape = k.shape;
          quotas = k.quotas;
          events = k.events;
          core = k.core;
          history = k.history;
          words = k.words;
          few = (omega arith, omega arith);
          tells = views_tell;
          pasts = pasts;
          left = lefts;
          root = root_stays;
          unopened = λ n le h. k.unopened n (omega arith) h;
          fit = k.fit;
          client = subst (law (shows z k.core)) (sym same_clients) k.client;
        }

  pub splits : Splits (Kept law first gone fits z qs) id v (opened_more v)
      (opened_view first z qs v.opened)
  splits = kept_then
