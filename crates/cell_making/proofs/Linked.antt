-- A part goes into field 1 of the slot that was made after it.
use Rattle.std.proofs.Common.{◌≡◌, inl, ℕ, ◌<◌, List, [], ◌∷◌, ◌++◌, refl, ap, sym, ◌∙◌, subst, arith}
use Rattle.std.specs.Prelude.{Some}
use Rattle.cell_calls.specs.cell_law.plain_state.declared.slot.SlotId.{SlotId}
use Rattle.cell_calls.specs.cell_law.plain_state.Lists.{times}
use Rattle.cell_calls.specs.cell_law.directory_law.declared.view.Rope.{Rope}
use Rattle.cell_calls.specs.cell_law.directory_law.Making.{alone, linked}
use Rattle.cell_calls.specs.cell_law.directory_law.Payloads.{IsPart}
use Rattle.cell_calls.specs.cell_law.directory_law.Steps.{life_in}
use Rattle.cell_calls.specs.cell_law.directory_law.Views.{rope}
use Rattle.cell_calls.specs.cell_law.directory_law.Views.{without as without_note}
use Rattle.cell_calls.specs.cell_law.Making.{LinkReady, link_next}
use Rattle.cell_calls.specs.cell_law.declared.view.View.{View}
use Rattle.cell_calls.specs.cell_protocol.declared.law.CellLaw.{CellLaw}
use Rattle.cell_calls.specs.Keeping.{Keeps}
use Rattle.epoch_refs.specs.plain_protocol.Owns.{Object}
use Rattle.epoch_refs.specs.plain_protocol.plain_state.State.{Plain}
use Rattle.epoch_refs.specs.plain_protocol.plain_state.declared.act.EventPlace.TheVariants.{Field}
use Rattle.epoch_refs.specs.plain_protocol.plain_state.declared.act.PlainAct.TheVariants as plain
use Rattle.epoch_refs.specs.epoch_core.core_events.Views.{without}
use Rattle.epoch_refs.specs.epoch_core.declared.act.EpochAct.TheVariants as act
use Rattle.epoch_refs.specs.epoch_core.declared.view.EpochPhase.TheVariants as phase
use Rattle.epoch_refs.specs.epoch_rule.declared.view.EpochSeatView.{EpochSeatView}
use Rattle.epoch_refs.specs.epoch_rule.Views.{object_in, own_of}
use Rattle.epoch_refs.specs.epoch_domain.Domains.{DomainState}
use Rattle.epoch_refs.specs.epoch_domain.Seats.{SeatState}
use Rattle.epoch_domain.proofs.Below.core_law_Kit.{times_push, times_without}
use Rattle.epoch_refs.specs.Exchanges.{IsStored}
use Rattle.cell_making.specs.Making.{candidate_in, HasTwo, Links}
use Rattle.cell_making.proofs.Exchanged.{dates_client, stored_keeps}
use Rattle.cell_making.proofs.Notes.{without_among}
use Rattle.cell_making.proofs.Slots.{own_life, own_payload, owned_has}

module _ (t s : SlotId) (seat : SeatState View) (two : HasTwo t s seat) where
  pub front_owned : 0 < times t seat.view.core.owned
  front_owned =
      let b = two.besides in
      let w = times_without t s seat.view.core.owned two.owned in
      omega (arith, b, w)

  -- THE DEED of a link is ready
  noted_by_own : seat.view.client.noted
      ≡ alone (own_of seat.view) t ∷ rope s (life_in (own_of seat.view) s) two.text ∷ two.others
  noted_by_own =
      let has = owned_has t seat front_owned in
      let life = own_life t seat has in
      let payload = own_payload t seat has in
      let part_life = own_life s seat (owned_has s seat two.owned) in
      two.noted
      ∙ (λ i. rope t (sym life i) (sym payload i ∷ []) ∷ rope s (sym part_life i) two.text
      ∷ two.others)

  pub link_ready : LinkReady (own_of seat.view) seat.view.client
      (plain.Replace (Field t 1) (Some s))
  link_ready = record {
    slot = t;
    part = s;
    links = inl refl;
    owned = front_owned;
    part_owned = two.owned;
    is_part = subst IsPart (sym (own_payload s seat (owned_has s seat two.owned))) two.part;
    text = two.text;
    others = two.others;
    noted = noted_by_own;
  }

module _ (fits : List ℕ → Type 0) (d : DomainState CellLaw)
    (allows : Plain → Plain → ℕ → View → View → Type 0) (t s : SlotId) (old new : SeatState View)
    (stored : IsStored fits d link_next allows (act.Swap (Field t 1) (Some s)) old new) where
  stored_client : new.view.client
      ≡ record old.view.client { noted = linked old.view.client.noted }
  stored_client =
      dates_client fits d stored.0 stored.1.between new stored.1.dates
      ∙ stored.1.exchange.told.client
      ∙ ap (λ (v : EpochSeatView View). record v.client { noted = linked v.client.noted })
      stored.1.reserved.1

  module _ (keeps : Keeps 0 0 (without s old.view.core.owned) old new) (two : HasTwo t s old) where
    known : object_in new.view t ≡ object_in old.view t
    known =
        let o = keeps.owns t in
        let p = two.besides in
        let q = front_owned t s old two in
        keeps.knows t (omega (arith, q)) (omega (arith, o, p))

    pub links : Links t s old new
    links text others noted = record {
      others = without_note s (object_in old.view s).life (candidate_in s text old ∷ others);
      noted = stored_client
          ∙ ap (λ (es : List Rope). record old.view.client { noted = linked es }) noted
          ∙ ap (λ (n : ℕ). record old.view.client {
            noted = rope t n ((object_in old.view t).payload ∷ text)
                ∷ without_note s (object_in old.view s).life (candidate_in s text old ∷ others);
          }) (ap (λ (o : Object). o.life) (sym known));
      are_among = without_among s (object_in old.view s).life text others;
    }

    -- the seat has t still, and has given s away
    pub link_keeps : Keeps 0 0 (without t (without s old.view.core.owned) ++ t ∷ []) old new
    link_keeps = record {
      owns = λ x.
          let o = keeps.owns x in
          let p = times_push x t (without t (without s old.view.core.owned)) in
          let w = times_without x t (without s old.view.core.owned) two.besides in
          omega (arith, o, p, w);
      makes_used = keeps.makes_used;
      adds_used = keeps.adds_used;
      sees = keeps.sees;
      same = keeps.same;
      goes = keeps.goes;
      knows = keeps.knows;
    }

-- What a store into field 1 of the slot that was made last does, and what it keeps.
pub link_done : (fits : List ℕ → Type 0) (d : DomainState CellLaw)
    (allows : Plain → Plain → ℕ → View → View → Type 0) (t s u : SlotId) (old new : SeatState View)
    → u ≡ t → old.view.core.phase ≡ phase.Idle → HasTwo t s old
    → IsStored fits d link_next allows (act.Swap (Field u 1) (Some s)) old new
    → Links t s old new × Keeps 0 0 (without t (without s old.view.core.owned) ++ t ∷ []) old new
link_done fits d allows t s u old new is idle two stored =
    let put = subst (λ (x : SlotId). IsStored fits d link_next allows
    (act.Swap (Field x 1) (Some s)) old new) is stored in
    let keeps = stored_keeps fits d link_next allows old new idle (Field t 1) s put in (
      links fits d allows t s old new put keeps two,
      link_keeps fits d allows t s old new put keeps two,
    )
