-- What a seat that is alone knows of the whole state.
use Rattle.std.proofs.Common.{◌≡◌, ℕ, false, List, Result, Ok, Err, ap, sym, ◌∙◌, subst}
use Rattle.std.specs.Prelude.{Some, IsSome, IfOk}
use Rattle.std.specs.Option.{option_map}
use mathlib.Core.Option.{some}
use lib.ListN.{get_elem?}
use Rattle.atomic_table.specs.Table.{Seen, State}
use Rattle.atomic_table.specs.declared.shared.Seat.{Seat as TableSeat}
use Rattle.plain_state.specs.declared.image.Heap.{Heap}
use Rattle.plain_state.specs.declared.slot.SlotId.{SlotId}
use Rattle.plain_state.specs.Fits.{AllFit}
use Rattle.plain_state.specs.Images.{IsImage}
use Rattle.plain_state.specs.State.{Plain}
use Rattle.core_promises.specs.core_events.declared.shape.Shape.{Shape}
use Rattle.core_promises.specs.core_events.Views.{Terms}
use Rattle.core_promises.specs.core_events.declared.view.CoreView.{CoreView}
use Rattle.core_promises.specs.core_events.Runs.{Core}
use Rattle.core_promises.specs.core_events.Shows.{shows}
use Rattle.core_promises.specs.core_law.Sound.{Sound}
use Rattle.core_promises.proofs.Below.core_law_Lawful.{shows_lawful}
use Rattle.core_promises.specs.Finds.{DeferredFit}
use Rattle.core_promises.proofs.Deferred.{fits as fits_within}
use Rattle.domain_rule.specs.declared.view.SeatView.{SeatView}
use Rattle.domain_rule.specs.declared.view.Whole.{Whole}
use Rattle.domain_rule.specs.Rule.{Kept}
use Rattle.domain_rule.specs.Views.{IsAlone, core_in}
use Rattle.domain_rule.proofs.Gone.{alone_clients}
use Rattle.domain_rule.proofs.Reading.{known_is}
use Rattle.domain_rule.proofs.Telling.{in_seats, kept_sound, true_of}
use Rattle.acquire_retire.specs.Taken.{HasWords, IsTakenImage, taken_slots}
use Rattle.acquire_retire.specs.Wholes.{IsLast, IsWholeImage, KnowsCore, KnowsState, core_known, known_core, known_state}
use Rattle.acquire_retire.specs.Domains.{DomainState}
use Rattle.acquire_retire.specs.Seats.{IsSeated, SeatState}
use Rattle.acquire_retire.proofs.Calls.{value_of}

-- what a seat knows of a whole state that is sound
pub knows_state : {V : Type 0} (fits : List ℕ → Type 0) (z : Shape) (c : Core) (v : SeatView V)
    (all : Whole) → v.core.shape ≡ z → Sound z c → AllFit fits (shows z c) → v.whole ≡ Some all
    → core_in all ≡ c → KnowsState fits v (shows z c)
knows_state fits z c v all shape so fit knows same = record {
  whole = ap (option_map (λ (w : Whole). shows v.core.shape (core_in w))) knows
      ∙ (λ i. Some (shows (shape i) (same i)));
  lawful = shows_lawful z c so;
  fit = fit;
}

module _ {V : Type 0} (law : Plain → List V → Type 0) (first : ℕ → V) (gone : V)
    (fits : List ℕ → Type 0) (z : Shape) (ts : Terms) (s : State (Unit {0}) (SeatView V))
    (k : Kept law first gone fits z ts s) (id : ℕ) (v : SeatView V) (at : get_elem? s.views id ≡ some v)
    (here : v.gone ≡ false) (root : v.core.seat ≡ 0) where
  known_last : (all : Whole) → v.whole ≡ Some all → IsLast fits law gone z.seats v
  known_last all knows =
      let says = true_of z ts s k id v at here in
      let so = kept_sound z ts s k in
      let shape = ap (λ (u : CoreView). u.shape) says.core
      ∙ (so.seats id (in_seats z ts s k id v at)).same_shape in
      let so_all = says.whole all knows in record {
        state = shows z k.core;
        knows = knows_state fits z k.core v all shape so k.fit knows so_all.0;
        client = subst (law (shows z k.core))
            (alone_clients law first gone fits z ts s k id v at here root so_all.2) k.client;
      }

  last : IsSome v.whole → IsLast fits law gone z.seats v
  last = known_is v.whole (IsLast fits law gone z.seats v) known_last

-- what a table that is closed with seat 0 tells of its last state
pub closed_last : {P V : Type 0} (law : P → Plain → List V → Type 0) (first : P → ℕ → V) (gone : V)
    (fits : List ℕ → Type 0) (d e : DomainState P) → e ≡ d
    → (seat : TableSeat (Unit {0}) (SeatView V)) (r : SeatState V) → value_of seat ≡ r
    → IsSeated seat.me → IsAlone r.view → (s : State (Unit {0}) (SeatView V))
    → Seen (Kept (law e.protocol) (first e.protocol) gone fits e.shape e.terms) seat.id seat.me.0 s
    → IsLast fits (law d.protocol) gone d.shape.seats r.view
closed_last {P = P} {V = V} law first gone fits d e same seat r is seated alone s seen =
    let T : DomainState P × SeatState V → Type 0 = λ x.
    IsAlone x.1.view → IsLast fits (law x.0.protocol) gone x.0.shape.seats x.1.view in
    subst T (λ i. (same i, is i))
    (λ here. last (law e.protocol) (first e.protocol) gone fits e.shape e.terms s seen.0 seat.id
    seat.me.0 seen.1 seated.here here.0 (seated.knows here)) alone

-- what is deferred in that state is bounded
pub whole_deferred : {P V : Type 0} (d : DomainState P) (fits : List ℕ → Type 0)
    (seat : TableSeat (Unit {0}) (SeatView V)) (r : SeatState V) → value_of seat ≡ r
    → KnowsCore d fits seat → DeferredFit d.shape (known_core r.view)
whole_deferred {V = V} d fits seat r is k =
    subst (λ (x : SeatState V). DeferredFit d.shape (known_core x.view)) is
    (fits_within d.shape (known_core seat.me.0) k.sound)

-- an image of the state that a seat knows is one of what clauses see of the seat
pub whole_image : {P V : Type 0} (d : DomainState P) (fits : List ℕ → Type 0)
    (seat : TableSeat (Unit {0}) (SeatView V)) (r : SeatState V) → value_of seat ≡ r
    → r.view.core.shape ≡ d.shape → KnowsCore d fits seat → (heap : Heap)
    → IsImage (known_state d seat) heap → IsWholeImage fits r.view heap
whole_image {V = V} d fits seat r is shape k heap image =
    let T : SeatState V → Type 0 = λ x.
    x.view.core.shape ≡ d.shape → IsWholeImage fits x.view heap in
    subst T is
    (λ same. record {
      state = known_state d seat;
      knows = known_is seat.me.0.whole (KnowsState fits seat.me.0 (known_state d seat))
          (λ all e. knows_state fits d.shape (known_core seat.me.0) seat.me.0 all same k.sound k.fit
          e (sym (ap core_known e))) k.knows;
      image = image;
    }) shape

-- so are the words of what isn't free
pub whole_taken : {P V : Type 0} (d : DomainState P) (fits : List ℕ → Type 0)
    (seat : TableSeat (Unit {0}) (SeatView V)) (r : SeatState V) → value_of seat ≡ r
    → r.view.core.shape ≡ d.shape → KnowsCore d fits seat → (taken : List SlotId) (heap : Heap)
    → taken ≡ taken_slots (known_state d seat) → HasWords (known_state d seat) taken heap
    → IsTakenImage fits r.view taken heap
whole_taken {V = V} d fits seat r is shape k taken heap all words =
    let T : SeatState V → Type 0 = λ x.
    x.view.core.shape ≡ d.shape → IsTakenImage fits x.view taken heap in
    subst T is
    (λ same. record {
      state = known_state d seat;
      knows = known_is seat.me.0.whole (KnowsState fits seat.me.0 (known_state d seat))
          (λ all e. knows_state fits d.shape (known_core seat.me.0) seat.me.0 all same k.sound k.fit
          e (sym (ap core_known e))) k.knows;
      all = all;
      words = words;
    }) shape

-- what follows for each value follows for that of a result
pub then_ok : {T E : Type 0} (P Q : T → Type 0) (r : Result T E) → ((x : T) → P x → Q x) → IfOk r P
    → IfOk r Q
then_ok P Q (Ok x) follows p = follows x p
then_ok P Q (Err e) follows p = tt

pub both_ok : {T E : Type 0} (P Q R : T → Type 0) (r : Result T E)
    → ((x : T) → P x → Q x → R x) → IfOk r P → IfOk r Q → IfOk r R
both_ok P Q R (Ok x) follows p q = follows x p q
both_ok P Q R (Err e) follows p q = tt
