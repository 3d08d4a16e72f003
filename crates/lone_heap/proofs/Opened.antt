-- A domain of one seat, as it is opened.
use Rattle.std.proofs.Common.{◌≡◌, ◌≤◌, ℕ, [], ◌∷◌, refl, ap, sym, ◌∙◌, subst, arith}
use Rattle.std.proofs.lemmas.List.Elements.{All-cons, All-get_or, All-nil}
use Rattle.std.specs.Prelude.{slice_index_or}
use Rattle.protected_loads.specs.plain_state.Limits.{most_cells, most_slots, most_weak_cells}
use Rattle.protected_loads.specs.plain_state.declared.slot.Kind.TheVariants.{Disposal}
use Rattle.protected_loads.specs.plain_state.State.{Plain, empty, seat_at}
use Rattle.protected_loads.proofs.Below.plain_state_Kit.{entry_none}
use Rattle.atomic_table.specs.Seated.{TableId}
use Rattle.protected_loads.specs.core_events.declared.shape.Quota.{Quota}
use Rattle.protected_loads.specs.core_events.declared.shape.Shape.{Shape}
use Rattle.protected_loads.specs.core_events.declared.shape.ShapeField.{ShapeField}
use Rattle.protected_loads.specs.core_events.declared.shape.ShapeField.TheVariants.{Seats, Slots, Cells, WeakCells, Batch, Quotas}
use Rattle.protected_loads.specs.core_events.Runs.{AreTerms, IsQuota, IsShape}
use Rattle.protected_loads.specs.core_functions.Fields.{IsFirstBad, IsInRange}
use Rattle.protected_loads.specs.core_events.Steps.{HasRoom}
use Rattle.protected_loads.specs.core_events.Views.{Terms}
use Rattle.slot_store.proofs.Below.domain_rule_StartShown.{start_shown}
use Rattle.protected_loads.specs.acquire_retire.Domains.{DomainState}
use Rattle.protected_loads.specs.acquire_retire.Openings.{begun_seat, opened_seats}
use Rattle.protected_loads.specs.acquire_retire.Seats.{SeatState}
use Rattle.protected_loads.specs.control_word.Resting.{IsAtRest}
use Rattle.protected_loads.proofs.Below.control_word_Beginning.{all_at_rest}
use Rattle.lone_heap.specs.Lone.{IsForOne, IsReady, known_plain, terms_of_one}

-- such a domain, whatever its sizes and its seat's quota
abbrev lone_domain : {P : Type 0} → TableId → P → ℕ → ℕ → ℕ → ℕ → Terms → DomainState P
lone_domain table protocol slots cells weak_cells batch ts = record {
  table = table;
  protocol = protocol;
  shape = record { seats = 1; slots = slots; cells = cells; weak_cells = weak_cells; batch = batch };
  terms = ts;
}

-- one with the batch and the quota that `open` gives it
pub opened_for_one : {P : Type 0} (d : DomainState P) (protocol : P) (slots cells weak_cells : ℕ)
    → d ≡ lone_domain d.table protocol slots cells weak_cells 4 terms_of_one
    → IsForOne slots cells weak_cells d
opened_for_one {P} d protocol slots cells weak_cells is = record {
  shape = ap (λ (x : DomainState P). x.shape) is;
  terms = ap (λ (x : DomainState P). x.terms) is;
}

module _ {P V : Type 0} (first : ℕ → V) (table : TableId) (protocol : P)
    (slots cells weak_cells batch : ℕ) (ts : Terms) where
  abbrev here : DomainState P
  here = lone_domain table protocol slots cells weak_cells batch ts

  module _ (ranges : IsShape here.shape × AreTerms here.shape ts) where
    shown_first : known_plain here (begun_seat first here 0) ≡ empty 1 slots cells weak_cells
    shown_first = start_shown here.shape ts ranges.1

    at_first : IsAtRest here (begun_seat first here 0) × HasRoom (begun_seat first here 0).view.core
    at_first =
        All-get_or (λ (s : SeatState V). IsAtRest here s × HasRoom s.view.core)
        (opened_seats first here) 0 (begun_seat first here 0) (omega arith)
        (all_at_rest first here ranges.0)

    ready_first : IsReady here (begun_seat first here 0)
    ready_first =
        record {
          rest = at_first.0;
          room = at_first.1;
          alone = (refl, refl);
          known = refl;
          mine = ap (λ (p : Plain). seat_at p 0) shown_first;
          disposals = λ x. entry_none Disposal x;
        }

module _ {P V : Type 0} (first : ℕ → V) (d : DomainState P) (protocol : P)
    (slots cells weak_cells batch : ℕ) (ts : Terms)
    (is : d ≡ lone_domain d.table protocol slots cells weak_cells batch ts)
    (ranges : IsShape (lone_domain d.table protocol slots cells weak_cells batch ts).shape
    × AreTerms (lone_domain d.table protocol slots cells weak_cells batch ts).shape ts) where
  pub opened_shown : known_plain d (begun_seat first d 0) ≡ empty 1 slots cells weak_cells
  opened_shown =
      ap (λ (x : DomainState P). known_plain x (begun_seat first x 0)) is
      ∙ shown_first first d.table protocol slots cells weak_cells batch ts ranges

  pub opened_ready : IsReady d (begun_seat first d 0)
  opened_ready =
      subst (λ (x : DomainState P). IsReady x (begun_seat first x 0)) (sym is)
      (ready_first first d.table protocol slots cells weak_cells batch ts ranges)

  -- the first of the seats that were opened
  pub opened_first : (s : SeatState V) → s ≡ slice_index_or (opened_seats first d) 0 s
      → s ≡ begun_seat first d 0
  opened_first s =
      subst (λ (x : DomainState P). s ≡ slice_index_or (opened_seats first x) 0 s
      → s ≡ begun_seat first x 0) (sym is) (λ got. got)

  pub seat_shown : (s : SeatState V) → s ≡ slice_index_or (opened_seats first d) 0 s
      → known_plain d s ≡ empty 1 slots cells weak_cells
  seat_shown s got = ap (known_plain d) (opened_first s got) ∙ opened_shown

  pub seat_ready : (s : SeatState V) → s ≡ slice_index_or (opened_seats first d) 0 s → IsReady d s
  seat_ready s got = subst (IsReady d) (sym (opened_first s got)) opened_ready

-- with sizes in their ranges no field of the shape is bad
module _ (slots cells weak_cells : ℕ) (some : (1 ≤ slots) × (slots ≤ most_slots)) (few : cells ≤ most_cells)
    (few_weak : weak_cells ≤ most_weak_cells) (q : Quota) (quota : IsQuota q) where
  abbrev lone_shape : Shape
  lone_shape =
      record { seats = 1; slots = slots; cells = cells; weak_cells = weak_cells; batch = 4 }

  abbrev lone_terms : Terms
  lone_terms = record { quotas = q ∷ []; grants = [] }

  in_range : (f : ShapeField) → IsInRange lone_shape lone_terms f
  in_range Seats = (omega arith, omega arith)
  in_range Slots = some
  in_range Cells = few
  in_range WeakCells = few_weak
  in_range Batch = (omega arith, omega arith)
  in_range Quotas = (refl, All-cons IsQuota q [] quota (All-nil IsQuota), omega arith)

  pub never_bad : (f : ShapeField) → IsFirstBad lone_shape lone_terms f → ⊥
  never_bad f bad = bad.1 (in_range f)
