-- What a seat that is alone knows of the whole state.
use Rattle.std.proofs.Common.{◌≡◌, ℕ, false, List, Result, Ok, Err, ap, sym, ◌∙◌, subst}
use Rattle.std.specs.Prelude.{Some, IsSome, IfOk}
use Rattle.std.specs.Option.{option_map}
use mathlib.Core.Option.{some}
use lib.ListN.{get_elem?}
use Rattle.atomic_table.specs.Table.{Seen, State}
use Rattle.atomic_table.specs.declared.shared.Seat.{Seat as TableSeat}
use Rattle.epoch_parts.specs.plain_state.declared.image.Heap.{Heap}
use Rattle.epoch_parts.specs.plain_state.Images.{IsImage}
use Rattle.epoch_rule.specs.plain_protocol.plain_state.Fits.{AllFit}
use Rattle.epoch_rule.specs.plain_protocol.plain_state.State.{Plain}
use Rattle.epoch_rule.specs.epoch_core.core_events.declared.shape.Quota.{Quota}
use Rattle.epoch_rule.specs.epoch_core.declared.shape.EpochShape.{EpochShape}
use Rattle.epoch_rule.specs.epoch_core.declared.view.EpochView.{EpochView}
use Rattle.epoch_rule.specs.epoch_core.Runs.{Core}
use Rattle.epoch_rule.specs.epoch_core.Shows.{shows}
use Rattle.epoch_rule.specs.epoch_core.Sound.{Sound}
use Rattle.epoch_core.proofs.Lawful.{shows_lawful}
use Rattle.epoch_rule.specs.declared.view.EpochSeatView.{EpochSeatView}
use Rattle.epoch_rule.specs.declared.view.EpochWhole.{EpochWhole}
use Rattle.epoch_rule.specs.Rule.{Kept}
use Rattle.epoch_rule.specs.Views.{IsAlone, core_in}
use Rattle.epoch_rule.proofs.Gone.{alone_clients}
use Rattle.epoch_rule.proofs.Reading.{known_is}
use Rattle.epoch_rule.proofs.Telling.{in_seats, kept_sound, true_of}
use Rattle.epoch_domain.specs.Domains.{DomainState}
use Rattle.epoch_domain.specs.Seats.{IsSeated, SeatState}
use Rattle.epoch_domain.specs.Wholes.{IsLast, IsWholeImage, KnowsCore, KnowsState, core_known, known_core, known_state}
use Rattle.epoch_domain.proofs.Calls.{value_of}

-- what a seat knows of a whole state that is sound
pub knows_state : {V : Type 0} (fits : List ℕ → Type 0) (z : EpochShape) (c : Core) (v : EpochSeatView V)
    (all : EpochWhole) → v.core.shape ≡ z → Sound z c → AllFit fits (shows z c) → v.whole ≡ Some all
    → core_in all ≡ c → KnowsState fits v (shows z c)
knows_state fits z c v all shape so fit knows same = record {
  whole = ap (option_map (λ (w : EpochWhole). shows v.core.shape (core_in w))) knows
      ∙ (λ i. Some (shows (shape i) (same i)));
  lawful = shows_lawful z c so;
  fit = fit;
}

module _ {V : Type 0} (law : Plain → List V → Type 0) (first : ℕ → V) (gone : V)
    (fits : List ℕ → Type 0) (z : EpochShape) (qs : List Quota) (s : State (Unit {0}) (EpochSeatView V))
    (k : Kept law first gone fits z qs s) (id : ℕ) (v : EpochSeatView V)
    (at : get_elem? s.views id ≡ some v) (here : v.gone ≡ false) (root : v.core.seat ≡ 0) where
  known_last : (all : EpochWhole) → v.whole ≡ Some all → IsLast fits law gone z.seats v
  known_last all knows =
      let says = true_of z qs s k id v at here in
      let so = kept_sound z qs s k in
      let shape = ap (λ (u : EpochView). u.shape) says.core
      ∙ (so.seats id (in_seats z qs s k id v at)).same_shape in
      let so_all = says.whole all knows in record {
        state = shows z k.core;
        knows = knows_state fits z k.core v all shape so k.fit knows so_all.0;
        client = subst (law (shows z k.core))
            (alone_clients law first gone fits z qs s k id v at here root so_all.2) k.client;
      }

  last : IsSome v.whole → IsLast fits law gone z.seats v
  last = known_is v.whole (IsLast fits law gone z.seats v) known_last

-- what a table that is closed with seat 0 tells of its last state
pub closed_last : {P V : Type 0} (law : P → Plain → List V → Type 0) (first : P → ℕ → V) (gone : V)
    (fits : List ℕ → Type 0) (d e : DomainState P) → e ≡ d
    → (seat : TableSeat (Unit {0}) (EpochSeatView V)) (room : ℕ) (r : SeatState V)
    → value_of seat room ≡ r
    → IsSeated seat.me → IsAlone r.view → (s : State (Unit {0}) (EpochSeatView V))
    → Seen (Kept (law e.protocol) (first e.protocol) gone fits e.shape e.quotas) seat.id seat.me.0 s
    → IsLast fits (law d.protocol) gone d.shape.seats r.view
closed_last {P = P} {V = V} law first gone fits d e same seat room r is seated alone s seen =
    let T : DomainState P × SeatState V → Type 0 = λ x.
    IsAlone x.1.view → IsLast fits (law x.0.protocol) gone x.0.shape.seats x.1.view in
    subst T (λ i. (same i, is i))
    (λ here. last (law e.protocol) (first e.protocol) gone fits e.shape e.quotas s seen.0 seat.id
    seat.me.0 seen.1 seated.here here.0 (seated.knows here)) alone

-- an image of the state that a seat knows is one of what clauses see of the seat
pub whole_image : {P V : Type 0} (d : DomainState P) (fits : List ℕ → Type 0)
    (seat : TableSeat (Unit {0}) (EpochSeatView V)) (room : ℕ) (r : SeatState V)
    → value_of seat room ≡ r
    → r.view.core.shape ≡ d.shape → KnowsCore d fits seat → (heap : Heap)
    → IsImage (known_state d seat) heap → IsWholeImage fits r.view heap
whole_image {V = V} d fits seat room r is shape k heap image =
    let T : SeatState V → Type 0 = λ x.
    x.view.core.shape ≡ d.shape → IsWholeImage fits x.view heap in
    subst T is
    (λ same. record {
      state = known_state d seat;
      knows = known_is seat.me.0.whole (KnowsState fits seat.me.0 (known_state d seat))
          (λ all e. knows_state fits d.shape (known_core seat.me.0) seat.me.0 all same k.sound k.fit
          e (sym (ap core_known e))) k.knows;
      image = image;
    }) shape

-- what follows for each value follows for that of a result
pub then_ok : {T E : Type 0} (P Q : T → Type 0) (r : Result T E) → ((x : T) → P x → Q x) → IfOk r P
    → IfOk r Q
then_ok P Q (Ok x) follows p = follows x p
then_ok P Q (Err e) follows p = tt
