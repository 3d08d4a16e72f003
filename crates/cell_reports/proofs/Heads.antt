-- A seat that opens a region, looks at a place with the lesson's deed and closes the region has what it had but for its
-- trail, and the heads that it put into cells have different texts.
use Rattle.std.proofs.Common.{◌≡◌, inl, inr, ⊎_elim, ℕ, zero, suc, List, [], ◌∷◌, ◌++◌, refl, ap, sym, ◌∙◌, subst}
use Rattle.std.specs.Prelude.{None, Option, Some}
use Rattle.std.specs.List.{flat_map}
use Rattle.cell_records.specs.cell_calls.Cells.{area_of}
use Rattle.cell_records.specs.cell_calls.Keeping.{GoesUnclaimed}
use Rattle.cell_records.proofs.Below.cell_calls_Keeping.{unclaimed_then}
use Rattle.cell_records.specs.cell_law.Law.{CellLaw as Law}
use Rattle.cell_records.specs.cell_law.Views.{AreDistinct, all_bound, bound_in, gone, texts_of, view_at}
use Rattle.cell_records.specs.cell_law.declared.view.View.{View}
use Rattle.cell_records.specs.cell_law.directory_law.Payloads.{Text}
use Rattle.cell_records.specs.cell_law.directory_law.Views.{In}
use Rattle.cell_records.specs.cell_law.directory_law.declared.view.Rope.{Rope}
use Rattle.cell_records.proofs.Below.cell_law_Distinct.{texts_and_words}
use Rattle.cell_domain.specs.cell_lanes.Ready.{IsReady}
use Rattle.cell_domain.specs.cell_lanes.cell_calls.cell_protocol.declared.law.CellLaw.{CellLaw}
use Rattle.cell_records.specs.directory_law.Bytes.{IsPiece}
use Rattle.cell_records.proofs.Below.epoch_alone_Back.{back}
use Rattle.cell_records.proofs.Below.epoch_alone_Learns.{LearnsAllows, LearnsNext}
use Rattle.cell_records.specs.epoch_refs.Calls.{Enters}
use Rattle.cell_records.specs.epoch_refs.Walks.{IsAtRest, IsFree, move}
use Rattle.cell_records.specs.epoch_refs.epoch_core.declared.act.EpochAct.TheVariants as act
use Rattle.cell_records.specs.epoch_refs.epoch_core.declared.outcome.EpochOutcome.{EpochOutcome}
use Rattle.cell_records.specs.epoch_refs.epoch_core.declared.outcome.EpochOutcome.TheVariants as outcome
use Rattle.cell_records.specs.epoch_refs.epoch_core.core_events.Words.{slot_in}
use Rattle.cell_records.specs.epoch_refs.epoch_core.Steps.{saw}
use Rattle.cell_records.specs.epoch_refs.epoch_core.declared.view.EpochMove.{EpochMove}
use Rattle.cell_records.specs.epoch_refs.epoch_core.declared.view.EpochView.{EpochView}
use Rattle.cell_records.specs.epoch_refs.epoch_core.plain_state.declared.act.EventPlace.{EventPlace}
use Rattle.cell_records.specs.epoch_refs.epoch_core.plain_state.declared.slot.SlotId.{SlotId}
use Rattle.cell_records.specs.epoch_refs.epoch_domain.Calls.{IsSameView, Steps, same_view}
use Rattle.cell_records.specs.epoch_refs.epoch_domain.Domains.{DomainState}
use Rattle.cell_records.specs.epoch_refs.epoch_domain.Seats.{SeatState}
use Rattle.cell_reports.specs.Parting.{LearnsHeads}

-- TEXTS that differ in a list differ in its parts
left_in : (t : Text) (xs ys : List Rope) → In t (texts_of xs) → In t (texts_of (xs ++ ys))
left_in t [] ys i = absurd i
left_in t (x ∷ xs) ys i = ⊎_elim (λ e. inl e) (λ j. inr (left_in t xs ys j)) i

differ_left : (xs ys : List Rope) → AreDistinct (texts_of (xs ++ ys)) → AreDistinct (texts_of xs)
differ_left [] ys differ = tt
differ_left (x ∷ xs) ys differ =
    (λ i. differ.0 (left_in x.text xs ys i), differ_left xs ys differ.1)

differ_right : (xs ys : List Rope) → AreDistinct (texts_of (xs ++ ys))
    → AreDistinct (texts_of ys)
differ_right [] ys differ = differ
differ_right (x ∷ xs) ys differ = differ_right xs ys differ.1

own_differ : (views : List View) (n : ℕ) → AreDistinct (texts_of (all_bound views))
    → AreDistinct (texts_of (view_at views n).bound)
unfolding all_bound
own_differ [] n differ = tt
own_differ (v ∷ views) zero differ =
    differ_left v.bound v.joined (differ_left (bound_in v) (flat_map bound_in views) differ)
own_differ (v ∷ views) (suc n) differ =
    own_differ views n (differ_right (bound_in v) (flat_map bound_in views) differ)

saw_trail : (o : Option SlotId) (v : EpochView) → (saw o v).trail ≡ v.trail
saw_trail None v = refl
saw_trail (Some s) v = refl

module _ (d : DomainState CellLaw) (p : EventPlace) (old opened looked new : SeatState View)
    (o : EpochOutcome) (enters : Enters IsPiece d old opened)
    (looks : Steps IsPiece d LearnsNext (LearnsAllows (Law (area_of d.protocol)) gone) (act.Look p)
    opened looked o)
    (exits : Steps IsPiece d same_view IsSameView act.Exit looked new outcome.Plain)
    (free : IsFree d old) where
  abbrev mid : SeatState View
  mid = enters.walks.0

  abbrev inside : SeatState View
  inside = enters.walks.2.0

  none_seen : old.view.core.seen ≡ []
  none_seen =
      let told = enters.walks.1.told in
      sym (ap (λ (v : EpochView). v.seen) told.core)
      ∙ told.law.outside (ap (λ (v : EpochView). v.number) told.core ∙ free.outside)

  core : new.view.core ≡ record old.view.core { trail = new.view.core.trail }
  core = back d.shape p old.view.core opened.view.core looked.view.core new.view.core _ looks.word
      exits.word _ enters.core looks.told.core exits.told.core free.outside none_seen

  goes : GoesUnclaimed old.view.core new.view.core
  goes =
      let found : EpochMove = move (act.Look p) (outcome.Found (slot_in looks.word)) in
      unclaimed_then old.view.core opened.view.core new.view.core
      (_, (refl, (refl, tt)), ap (λ (v : EpochView). v.trail) enters.core)
      (unclaimed_then opened.view.core looked.view.core new.view.core (
        found ∷ [],
        (refl, tt),
        ap (λ (v : EpochView). v.trail) looks.told.core
            ∙ ap (λ (t : List EpochMove). t ++ found ∷ [])
            (saw_trail (slot_in looks.word) opened.view.core),
      )
      (_, (refl, tt), ap (λ (v : EpochView). v.trail) exits.told.core))

  client_inside : opened.view.client ≡ old.view.client
  client_inside =
      ap (λ (s : SeatState View). s.view.client) enters.walks.2.2
      ∙ (enters.walks.2.1.told.client ∙ enters.walks.1.told.client)

  client : new.view.client ≡ old.view.client
  client = exits.told.client ∙ looks.told.client ∙ client_inside

  heads : AreDistinct (texts_of new.view.client.bound)
  heads =
      let holds = looks.told.happened.fact.2.1 in
      subst (λ (v : View). AreDistinct (texts_of v.bound))
      (holds.own ∙ (client_inside ∙ sym client))
      (own_differ holds.views opened.view.core.seat
      (texts_and_words (area_of d.protocol) _ holds.views holds.meets.law).0)

  pub learns_heads : LearnsHeads old new
  learns_heads = record {
    table = exits.table ∙ (looks.table
        ∙ (ap (λ (s : SeatState View). s.table) enters.walks.2.2
        ∙ (enters.walks.2.1.table ∙ enters.walks.1.table)));
    core = core;
    goes = goes;
    client = client;
    heads = heads;
  }

  pub ready_still : IsReady d old → IsAtRest d new → IsReady d new
  ready_still ready rest = record {
    free = record {
      rest = rest;
      outside = ap (λ (v : EpochView). v.number) core ∙ free.outside;
    };
    over = ready.over;
    is_open = ap (λ (v : View). v.cleared) client ∙ ready.is_open;
  }
