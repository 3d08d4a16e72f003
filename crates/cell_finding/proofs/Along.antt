-- What a seat has of the slots that it saw last.
use Rattle.std.proofs.Common.{◌≡◌, ◌≢◌, inl, inr, ℕ, List, [], ◌∷◌, ◌++◌, refl, sym, ap, subst, ◌∙◌}
use Rattle.cell_law.specs.declared.view.Sight.{Sight}
use Rattle.cell_law.specs.declared.view.View.{View}
use Rattle.cell_calls.specs.cell_law.Lessons.{first_of}
use Rattle.cell_calls.specs.cell_law.Walks.{HasAll, last_of, last_sight, payloads}
use Rattle.cell_calls.specs.cell_law.directory_law.Payloads.{Text}
use Rattle.cell_calls.specs.cell_law.directory_law.Steps.{payload_in, payload_of}
use Rattle.cell_calls.specs.cell_law.directory_law.Views.{Each, In}
use Rattle.directory_law.proofs.Notes.{each_in}
use Rattle.epoch_domain.specs.plain_protocol.plain_state.declared.slot.SlotId.{SlotId}
use Rattle.epoch_domain.specs.plain_protocol.Owns.{OwnPart}
use Rattle.epoch_domain.specs.epoch_core.Views.{Holds}
use Rattle.epoch_domain.specs.epoch_rule.declared.view.EpochSeatView.{EpochSeatView}
use Rattle.epoch_domain.specs.epoch_rule.Views.{object_in, own_of}
use Rattle.epoch_domain.specs.Seats.{SeatState}
use Rattle.cell_finding.specs.Comparing.{IsAlong, sighted, sighted_text}
use Rattle.cell_finding.specs.Looking.{HasSeen, OnlyLooks}
use Rattle.cell_finding.proofs.Looks.{seen_holds, seen_object}
use Rattle.cell_finding.proofs.Past.{payloads_still, seen_all, seen_still}
use Rattle.cell_finding.proofs.Sighted.{along_by}

-- FIRST AND LAST
pub last_in : (ss : List SlotId) → ss ≢ [] → In (last_of ss) ss
last_in [] some = absurd (some refl)
last_in (s ∷ []) some = inl refl
last_in (s ∷ t ∷ ss) some = inr (last_in (t ∷ ss) (λ e. cc))

pub first_in : (ss : List SlotId) → ss ≢ [] → In (first_of ss) ss
first_in [] some = absurd (some refl)
first_in (s ∷ ss) some = inl refl

pub last_added : (ss : List SlotId) (r : SlotId) → last_of (ss ++ r ∷ []) ≡ r
last_added [] r = refl
last_added (s ∷ []) r = refl
last_added (s ∷ t ∷ ss) r = last_added (t ∷ ss) r

pub first_added : (ss : List SlotId) (r : SlotId) → ss ≢ [] → first_of (ss ++ r ∷ []) ≡ first_of ss
first_added [] r some = absurd (some refl)
first_added (s ∷ ss) r some = refl

pub none_added : (ss : List SlotId) (r : SlotId) → ss ++ r ∷ [] ≢ []
none_added [] r e = cc
none_added (s ∷ ss) r e = cc

-- PAYLOADS
pub payloads_added : (own : OwnPart) (ss : List SlotId) (r : SlotId)
    → payloads own (ss ++ r ∷ []) ≡ payloads own ss ++ payload_in own r ∷ []
payloads_added own [] r = refl
payloads_added own (s ∷ ss) r = ap (λ (ts : Text). payload_in own s ∷ ts) (payloads_added own ss r)

pub seen_payload : {V : Type 0} (v : EpochSeatView V) (s : SlotId) → HasSeen v.core s
    → payload_in (own_of v) s ≡ (object_in v s).payload
seen_payload v s seen = ap payload_of (seen_object v s seen)

-- WHAT IS ALONG
module _ (head last : SlotId) (a : SeatState View) (along : IsAlong head last a) where
  pub sees_last : HasSeen a.view.core last
  sees_last =
      let ss = (sighted a).slots in
      subst (HasSeen a.view.core) along.last_is
      (each_in (HasSeen a.view.core) (last_of ss) ss (last_in ss along.some_slot) along.region)

  pub sees_first : HasSeen a.view.core head
  sees_first =
      let ss = (sighted a).slots in
      subst (HasSeen a.view.core) along.first_is
      (each_in (HasSeen a.view.core) (first_of ss) ss (first_in ss along.some_slot) along.region)

  pub holds_last : Holds a.view.core last
  holds_last = seen_holds a.view.core last sees_last

  pub holds_first : Holds a.view.core head
  holds_first = seen_holds a.view.core head sees_first

  pub has_along : HasAll (own_of a.view) (sighted a).slots
  has_along = seen_all a.view (sighted a).slots along.region

  pub in_seen : In (sighted a) a.view.client.seen
  in_seen = subst (λ (es : List Sight). In (sighted a) es) (sym along.seen) (inl refl)

  module _ (n : ℕ) (b : SeatState View) (looks : OnlyLooks n a b) where
    -- what it has of these slots it has still
    pub text_kept : payloads (own_of b.view) (sighted a).slots ≡ sighted_text a
    text_kept =
        payloads_still 0 0 a.view.core.owned a b looks.keeps (sighted a).slots along.region

    pub region_kept : Each (HasSeen b.view.core) (sighted a).slots
    region_kept =
        seen_still 0 0 a.view.core.owned a b looks.keeps (sighted a).slots along.region

    -- where the seat has only read nothing else was seen
    module _ (client : b.view.client ≡ a.view.client) where
      pub sighted_still : sighted b ≡ sighted a
      sighted_still = ap (λ (v : View). last_sight v.seen) client

      pub along_still : IsAlong head last b
      along_still =
          along_by head last b (sighted a) along.earlier
          (ap (λ (v : View). v.seen) client ∙ along.seen)
          (ap (λ (v : View). v.cleared) client ∙ along.is_open) along.some_slot along.first_is
          along.last_is region_kept

      pub text_still : sighted_text b ≡ sighted_text a
      text_still =
          ap (λ (e : Sight). payloads (own_of b.view) e.slots) sighted_still ∙ text_kept
