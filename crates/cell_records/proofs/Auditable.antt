-- A state that has settled, of which one seat has everything, can be audited by its image.
use Rattle.std.proofs.Common.{◌≡◌, ⊎_elim, ℕ, zero, suc, ◌^◌, ◌<◌, ◌≤◌, List, [], ◌∷◌, length, get_or, refl, ap, sym, ◌∙◌, subst, arith}
use Rattle.std.specs.Prelude.{IfOk, Ok, Result}
use Rattle.std.proofs.lemmas.List.{length-map}
use Rattle.std.proofs.lemmas.List.Sums.{sum_by-cons}
use Rattle.cell_intern.specs.cell_calls.cell_law.declared.view.View.{View}
use Rattle.cell_intern.specs.cell_calls.cell_protocol.declared.law.CellLaw.{CellLaw}
use Rattle.epoch_alone.proofs.Below.core_law_Each.{length_each}
use Rattle.cell_rest.specs.directory_law.Bytes.{IsPiece, piece_weight}
use Rattle.epoch_alone.proofs.Below.core_law_Kit.{entry_none, times_none}
use Rattle.domain_audit.specs.Lone.{CanBeAudited}
use Rattle.domain_audit.proofs.OneSeat.{IsLoneState, audit_same, can_be_audited, is_heap, is_image, is_settled, with_one_seat}
use Rattle.epoch_alone.specs.Lone as alone
use Rattle.epoch_alone.specs.Lone.{StaysAll}
use Rattle.epoch_alone.proofs.Settled.{imaged, settled}
use Rattle.epoch_alone.specs.Settled.{IsSettled}
use Rattle.epoch_alone.specs.epoch_core.Shows.{show_seat, show_slot, shows}
use Rattle.epoch_alone.proofs.Below.epoch_core_Bridge.{seats_sum}
use Rattle.epoch_alone.proofs.Below.epoch_core_Lawful.{shows_sound}
use Rattle.epoch_alone.proofs.Below.epoch_core_Put.{adds_fit}
use Rattle.epoch_alone.specs.epoch_core.Runs.{Core}
use Rattle.cell_intern.specs.epoch_refs.Walks.{IsFree}
use Rattle.cell_intern.specs.epoch_refs.epoch_core.declared.view.EpochView.{EpochView}
use Rattle.cell_intern.specs.epoch_refs.epoch_domain.Domains.{DomainState}
use Rattle.cell_intern.specs.epoch_refs.epoch_domain.Seats.{SeatState}
use Rattle.cell_intern.specs.epoch_refs.epoch_domain.Wholes.{IsWholeImage}
use Rattle.cell_intern.specs.epoch_refs.epoch_rule.Views.{core_in}
use Rattle.cell_intern.specs.epoch_refs.epoch_rule.declared.view.EpochSeatView.{EpochSeatView}
use Rattle.cell_rest.specs.plain_audit.Audits.{IsAudit}
use Rattle.cell_rest.specs.plain_audit.heap_audit.Heaps.{live_bytes, live_slots, slot}
use Rattle.cell_rest.specs.plain_audit.heap_audit.Reached.{HowMany, IsUnreached}
use Rattle.cell_rest.specs.plain_audit.heap_audit.Walks.{IsFound, IsWalk}
use Rattle.cell_rest.specs.plain_audit.heap_audit.declared.finding.Audit.{Audit}
use Rattle.cell_rest.specs.plain_audit.plain_state.Images.{IsImage}
use Rattle.cell_rest.specs.plain_audit.plain_state.Limits.{most_slots}
use Rattle.cell_rest.specs.plain_audit.plain_state.Lists.{entry_times, times}
use Rattle.cell_rest.specs.plain_audit.plain_state.References.{over_seats}
use Rattle.cell_rest.specs.plain_audit.plain_state.Sound.{Sound, all_adds}
use Rattle.cell_rest.specs.plain_audit.plain_state.State.{Plain, PlainSeat, new_seat, stage_at}
use Rattle.cell_rest.specs.plain_audit.plain_state.declared.image.Heap.{Heap}
use Rattle.cell_rest.specs.plain_audit.plain_state.declared.slot.Kind.TheVariants.{Disposal}
use Rattle.cell_rest.specs.plain_audit.plain_state.declared.slot.SlotId.{SlotId}
use Rattle.cell_rest.specs.plain_audit.plain_state.declared.slot.Stage.TheVariants.{Free, Live}
use Rattle.cell_rest.proofs.Below.plain_audit_Auditing.{audit_made}
use Rattle.cell_records.specs.Audits.{IsAudited, KnowsCells}
use Rattle.cell_records.specs.Clearing.{KnowsNull}
use Rattle.cell_records.proofs.Nulls.{null_same}

-- a number of which no seat has any
over_none : (f : PlainSeat → ℕ) (vs : List PlainSeat)
    → ((n : ℕ) → f (get_or vs n new_seat) ≡ 0) → over_seats f vs ≡ 0
unfolding over_seats
over_none f [] none = refl
over_none f (v ∷ vs) none =
    let first : f v ≡ 0 = none zero in
    let rest = over_none f vs (λ n. none (suc n)) in
    omega (arith, sum_by-cons f v vs, first, rest)

module _ {P V : Type 0} (fits : List ℕ → Type 0) (d : DomainState P) (v : EpochSeatView V) (p : Plain)
    (lone : alone.IsLoneState fits d v p) (owned : List SlotId) (at_rest : IsSettled p owned) where
  abbrev core : Core
  core = core_in lone.all

  shown_sound : Sound (shows d.shape core)
  shown_sound = shows_sound d.shape core lone.sound

  some_seat : 0 < length (shows d.shape core).seats
  some_seat =
      let views = lone.sound.views in
      let some = lone.sound.shape.0 in
      let many = length-map core.views show_seat in omega (arith, views, some, many)

  slots_are : length (shows d.shape core).slots ≡ d.shape.slots
  slots_are = length_each 0 d.shape.slots (λ x. show_slot d.shape core (record { 0 = x }))

  few_adds : all_adds (shows d.shape core) < 2 ^ 60
  few_adds =
      let same = seats_sum (λ (u : PlainSeat). u.adds) core.views in
      let few = adds_fit d.shape core lone.sound in omega (arith, same, few)

  state : IsLoneState fits p
  state = record {
    sound = subst Sound (sym lone.shown) shown_sound;
    there = subst (λ (q : Plain). 0 < length q.seats) (sym lone.shown) some_seat;
    others = λ n some low. record {
      owned = at_rest.others n some;
      weaks = (at_rest.seats n).weaks;
      deferred = (at_rest.seats n).deferred;
    };
    none_dying = λ s. over_none (λ (u : PlainSeat). times s u.dying) p.seats
        (λ n. ap (times s) (at_rest.seats n).dying ∙ times_none s);
    slots = let same = ap (λ (q : Plain). length q.slots) lone.shown in
        let count = slots_are in let most = lone.sound.shape.3 in omega (arith, same, count, most);
    adds = let same = ap all_adds lone.shown in let few = few_adds in omega (arith, same, few);
    payloads = lone.knows.fit;
    kinds = λ s. ap (entry_times Disposal s) (at_rest.seats 0).deferred ∙ entry_none Disposal s;
    ended = at_rest.live;
    given = λ s husk. ⊎_elim
        (λ (live : stage_at p s ≡ Live). absurd (cc (live, husk)))
        (λ (free : stage_at p s ≡ Free). absurd (cc (free, husk)))
        (at_rest.stages s);
  }

  module _ (image : Heap) (is : IsImage p image) where
    pub auditable : CanBeAudited fits image
    auditable = can_be_audited fits p state image is

    image_slots : length image.slots.items ≡ d.shape.slots
    image_slots = is.size ∙ ap (λ (q : Plain). length q.slots) lone.shown ∙ slots_are

    pub few : length image.slots.items ≤ most_slots
    few = let same = image_slots in let most = lone.sound.shape.3 in omega (arith, same, most)

    pub ranked : (ranks : List ℕ) → length ranks ≡ d.shape.slots
        → length ranks ≡ length image.slots.items
    ranked ranks count = count ∙ sym image_slots

    -- an audit that was made is one of the state
    pub audits : {E : Type 0} (weight : List ℕ → ℕ) (ranks : List ℕ) (r : Result Audit E)
        → IfOk r (λ found. found.live ≡ live_slots image)
        → IfOk r (λ found. found.deferred ≡ length image.deferred.items)
        → IfOk r (λ found. found.bytes ≡ live_bytes weight image)
        → IfOk r (λ found.
        HowMany (λ n. IsUnreached image (slot n)) (length image.slots.items) found.cyclic)
        → IfOk r (λ found. found.cyclic ≡ 0 → found.walk.items ≡ [])
        → IfOk r (λ found. 0 < found.cyclic → IsFound image ranks found.walk.items)
        → IfOk r (λ found. 0 < found.cyclic → IsWalk image found.walk.items)
        → IfOk r (IsAudit weight ranks (with_one_seat p))
    audits weight ranks r live deferred bytes cyclic none walk round =
        audit_made (with_one_seat p) image (is_image fits p state image is) fits
        (is_heap fits p state) (is_settled fits p state) weight ranks r live deferred bytes cyclic none
        walk round

  pub audit_of : (weight : List ℕ → ℕ) (ranks : List ℕ) (found : Audit)
      → IsAudit weight ranks (with_one_seat p) found → IsAudit weight ranks p found
  audit_of weight ranks found = audit_same fits p state weight ranks found

-- WHAT IS SETTLED AND LEARNT
module _ (d : DomainState CellLaw) (a b : SeatState View) (pending : a.view.core.pending ≡ [])
    (dying : a.view.core.dying ≡ []) (stays : StaysAll a b) (law : KnowsCells d b) (free : IsFree d b)
  where
    pub rest_settled : IsSettled law.state b.view.core.owned
    rest_settled =
        settled IsPiece d b.view law.state law.lone (free.rest.1, free.outside)
        (ap (λ (v : EpochView). v.pending) stays.core ∙ pending)
        (ap (λ (v : EpochView). v.dying) stays.core ∙ dying)

    module _ (image : Heap) (whole : IsWholeImage IsPiece b.view image) where
      pub image_of_it : IsImage law.state image
      image_of_it = imaged IsPiece d b.view law.state image law.lone whole

      pub is_auditable : CanBeAudited IsPiece image
      is_auditable = auditable IsPiece d b.view law.state law.lone b.view.core.owned rest_settled image image_of_it

      pub is_few : length image.slots.items ≤ most_slots
      is_few = few IsPiece d b.view law.state law.lone b.view.core.owned rest_settled image image_of_it

      pub is_ranked : (ranks : List ℕ) → length ranks ≡ d.shape.slots
          → length ranks ≡ length image.slots.items
      is_ranked = ranked IsPiece d b.view law.state law.lone b.view.core.owned rest_settled image image_of_it

      -- an audit that was made
      pub is_audited : (c : SeatState View) → c ≡ b → KnowsNull a → (ranks : List ℕ) (found : Audit)
          → found.live ≡ live_slots image → found.deferred ≡ length image.deferred.items
          → found.bytes ≡ live_bytes piece_weight image
          → HowMany (λ n. IsUnreached image (slot n)) (length image.slots.items) found.cyclic
          → (found.cyclic ≡ 0 → found.walk.items ≡ [])
          → (0 < found.cyclic → IsFound image ranks found.walk.items)
          → (0 < found.cyclic → IsWalk image found.walk.items)
          → IsAudited d ranks c image found
      is_audited c same null ranks found live deferred bytes cyclic none walk round =
          subst (λ (x : SeatState View). IsAudited d ranks x image found) (sym same) (record {
            law = law;
            settled = rest_settled;
            null = null_same a b stays.own null law.state law.lone.knows.whole;
            image_is = image_of_it;
            audit = audit_of IsPiece d b.view law.state law.lone b.view.core.owned rest_settled
                piece_weight ranks found
                (audits IsPiece d b.view law.state law.lone b.view.core.owned rest_settled image image_of_it
                {E = ℕ} piece_weight ranks (Ok found) live deferred bytes cyclic none walk round);
          })
