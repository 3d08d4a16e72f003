-- What an audit of the whole state tells that has settled, with all cells null.
use Rattle.std.proofs.Common.{◌≡◌, inl, inr, ℕ, List, [], ap, subst, ◌∙◌, arith}
use Rattle.std.proofs.lemmas.Bool.{cases_lt}
use Rattle.cell_records.specs.cell_calls.Cells.{area_of}
use Rattle.cell_domain.specs.cell_lanes.cell_calls.cell_protocol.declared.law.CellLaw.{CellLaw}
use Rattle.cell_records.specs.cell_law.Law.{CellLaw as Law}
use Rattle.cell_records.specs.cell_law.Promises.{IsSettled, KnowsAll, owned_times}
use Rattle.cell_records.specs.cell_law.Views.{view_at}
use Rattle.cell_records.specs.cell_law.declared.view.View.{View}
use Rattle.cell_records.specs.cell_law.directory_law.Cells.{Area}
use Rattle.cell_records.specs.cell_law.plain_state.Places.{content}
use Rattle.cell_records.specs.cell_law.plain_state.State.{Plain, seat_at}
use Rattle.cell_records.specs.cell_law.plain_state.declared.act.EventPlace.TheVariants.{Cell}
use Rattle.cell_records.specs.cell_law.plain_state.declared.slot.SlotId.{SlotId}
use Rattle.cell_records.proofs.Below.cell_law_Distinct.{root_knows}
use Rattle.cell_records.proofs.Below.cell_law_Rest.{nothing_lives}
use Rattle.cell_records.specs.Audits.{IsAudited}
use Rattle.cell_records.specs.Clearing.{KnowsNull}
use Rattle.cell_records.specs.epoch_alone.Settled as alone
use Rattle.cell_records.specs.cell_rest.Rest.{HasNoneDeferred}
use Rattle.cell_records.proofs.Below.cell_rest_Left.{finds_nothing}
use Rattle.cell_records.proofs.Below.cell_rest_Settled.{owned_none, rests_settled}
use Rattle.cell_records.proofs.Below.epoch_alone_Known.{one_state}
use Rattle.cell_records.specs.directory_law.Bytes.{piece_weight}
use Rattle.cell_records.specs.epoch_refs.epoch_domain.Domains.{DomainState}
use Rattle.cell_records.specs.epoch_refs.epoch_domain.Seats.{SeatState}
use Rattle.cell_records.specs.cell_rest.plain_audit.heap_audit.declared.finding.Audit.{Audit}
use Rattle.cell_records.specs.cell_rest.plain_audit.plain_state.declared.image.Heap.{Heap}
use Rattle.cell_records.specs.cell_rest.record_counts.Records.{FindsRecords}
use Rattle.cell_reports.specs.Last.{KnowsNoneLive}

module _ (d : DomainState CellLaw) (ranks : List ℕ) (seat : SeatState View) (image : Heap)
    (found : Audit) (audited : IsAudited d ranks seat image found) where
  abbrev pub state : Plain
  state = audited.law.state

  abbrev pub views : List View
  views = audited.law.holds.views

  abbrev z : Area
  z = area_of d.protocol

  law : Law z state views
  law = audited.law.holds.meets.law

  pub root_is : view_at views 0 ≡ seat.view.client
  root_is = audited.law.holds.own

  pub waits_none : HasNoneDeferred state
  waits_none n = (audited.settled.seats n).deferred

  pub at_rest : IsSettled state
  at_rest = rests_settled state audited.law.lone.knows.lawful audited.law.lone.knows.fit (record {
    cells = audited.null;
    deferred = waits_none;
    dying = λ n. (audited.settled.seats n).dying;
    live = audited.settled.live;
  })

  pub knows_null : KnowsNull seat
  knows_null q knows i =
      ap (λ (r : Plain). content r (Cell i))
      (one_state seat.view q state knows audited.law.lone.knows.whole)
      ∙ audited.null i

  -- the seat's view lists all heads
  pub lists_all : KnowsAll views seat.view.client
  lists_all = subst (KnowsAll views) root_is (root_knows z state views law audited.settled.alone)

  module _ (nothing : seat.view.core.owned ≡ []) where
    none_owned : (n : ℕ) → (seat_at state n).owned ≡ []
    none_owned n = elim (cases_lt 0 n) [
      | inl some ↦ audited.settled.others n some
      | inr first ↦
          let zero : n ≡ 0 = omega (arith, first) in
          ap (λ (k : ℕ). (seat_at state k).owned) zero ∙ (audited.settled.root ∙ nothing)
    ]

    unowned : (s : SlotId) → owned_times state s ≡ 0
    unowned = owned_none state none_owned

    pub none_live : KnowsNoneLive seat
    none_live = record {
      state = state;
      knows = audited.law.lone.knows.whole;
      settled = subst (alone.IsSettled state) nothing audited.settled;
      none = nothing_lives z state views audited.law.lone.knows.lawful law at_rest unowned;
    }

    pub nothing_found : FindsRecords [] found
    nothing_found =
        finds_nothing z state views audited.law.lone.knows.lawful law at_rest waits_none unowned
        piece_weight ranks found audited.audit
