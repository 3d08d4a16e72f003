-- A part goes into field 1 of the slot that was made after it.
use Rattle.std.proofs.Common.{◌≡◌, ⊎_elim, ℕ, ◌+◌, ◌<◌, List, ◌∷◌, ap, sym, ◌∙◌, arith}
use Rattle.std.specs.Prelude.{Some}
use Rattle.std.proofs.lemmas.Bool.{cases_lt}
use Rattle.atomic_shared.specs.plain_state.declared.act.EventPlace.TheVariants.{Field}
use Rattle.atomic_shared.specs.plain_state.declared.act.PlainAct.{PlainAct}
use Rattle.atomic_shared.specs.plain_state.declared.slot.Kind.TheVariants.{Strong}
use Rattle.atomic_shared.specs.plain_state.declared.slot.SlotId.{SlotId}
use Rattle.atomic_shared.specs.plain_state.Lists.{times}
use Rattle.atomic_shared.specs.plain_protocol.Owns.{Object}
use Rattle.slot_store.specs.core_events.declared.act.Act.TheVariants as act
use Rattle.slot_store.specs.core_events.declared.outcome.Outcome.TheVariants as outcome
use Rattle.slot_store.specs.core_events.declared.view.CoreView.{CoreView}
use Rattle.slot_store.specs.core_events.Steps.{without_given}
use Rattle.slot_store.specs.core_events.Views.{without}
use Rattle.slot_store.proofs.Below.core_law_Kit.{one_other, one_same, times_without}
use Rattle.slot_store.specs.domain_rule.Views.{object_in, own_of}
use Rattle.slot_store.specs.acquire_retire.Calls.{IsSameView, same_view}
use Rattle.slot_store.specs.acquire_retire.Domains.{DomainState}
use Rattle.slot_store.specs.acquire_retire.Seats.{SeatState}
use Rattle.slot_store.specs.control_word.Calls.{without_strong}
use Rattle.slot_store.specs.control_word.Moves.{KnowsStill}
use Rattle.atomic_shared.proofs.Below.protected_loads_Telling.{holds_has}
use Rattle.atomic_shared.specs.retiring_stores.Exchanging.{Stores}
use Rattle.atomic_shared.specs.retiring_stores.Scanning.{ScansWhereDue}
use Rattle.directory_calls.specs.directory_law.declared.view.Rope.{Rope}
use Rattle.directory_calls.specs.directory_law.Making.{link_next, linked}
use Rattle.directory_calls.specs.directory_law.Views.{rope}
use Rattle.directory_calls.specs.directory_law.Views.{without as without_note}
use Rattle.directory_calls.specs.Steps.{GoesOn, Leaves, aside}
use Rattle.directory_calls.proofs.Going.{goes_none, goes_then, holds_by, step_goes, walks_go}
use Rattle.directory_calls.proofs.Parts.{Place, lifts, tells}
use Rattle.record_making.specs.Making.{AddsAsMakes, Links, candidate_in, with_notes}
use Rattle.record_making.specs.UnlessRipe.{TellsNothing, next_unless}

-- a slot that was made besides is owned still, once another one is given
pub left_then : (t s : SlotId) (xs ys : List SlotId) → times t ys ≡ times t xs + 1
    → 0 < times s xs → 0 < times s ys → 0 < times t (without s ys)
left_then t s xs ys more owns owns' =
    let w = times_without t s ys owns' in
    ⊎_elim
    (λ (lt : t.0 < s.0). let none = one_other t s (λ e. omega (arith, e, lt)) in
    omega (arith, w, none, more))
    (λ ge. ⊎_elim
    (λ (gt : s.0 < t.0). let none = one_other t s (λ e. omega (arith, e, gt)) in
    omega (arith, w, none, more))
    (λ le. let e : s.0 ≡ t.0 = omega (arith, ge, le) in
    let one = one_same t s e in
    let same : times s xs ≡ times t xs = ap (λ n. times (record { 0 = n }) xs) e in
    omega (arith, w, one, more, same, owns))
    (cases_lt s.0 t.0))
    (cases_lt t.0 s.0)

module _ {P V : Type 0} (fits : List ℕ → Type 0) (d : DomainState P) (l : Place V) (t s : SlotId)
    (old new : SeatState V)
    (stores : Stores fits d (lifts l (next_unless link_next)) (tells l TellsNothing) (Field t 1)
    (Some s) old new)
    (still : KnowsStill (without_given Strong (Some s) old.view.core) old new) where
  abbrev mid : SeatState V
  mid = stores.swaps.mid

  scans_go : ScansWhereDue fits d mid new → GoesOn mid.view.core new.view.core
  scans_go due = ⊎_elim
      (λ scans. walks_go fits d same_view IsSameView _ mid new scans.1.collects.goes.walks)
      (λ none. goes_none mid.view.core new.view.core
      (ap (λ (x : SeatState V). x.view.core.trail) none.1))
      due

  pub link_leaves : Leaves (without s old.view.core.owned) old.view.core.weaks old new
  link_leaves = record {
    owns = λ x. ap (λ (u : CoreView). times x u.owned) stores.swaps.same;
    weakly = λ x. ap (λ (u : CoreView). times x u.weaks) stores.swaps.same;
    same = beside;
    goes = goes_then old.view.core mid.view.core new.view.core
        (step_goes d (act.Swap (Field t 1) (Some s)) old mid (outcome.Found stores.held)
        stores.swaps.puts.step)
        (scans_go stores.swaps.scans);
    knows = λ x was is.
        let o = ap (λ (u : CoreView). times x u.owned) stores.swaps.same in
        let k = ap (λ (u : CoreView). times x u.weaks) stores.swaps.same in
        still x (holds_has (without_strong s old.view.core) x
        (holds_by x new.view.core (without_strong s old.view.core) beside (omega arith) is));
  }
    where
      beside : aside new.view.core ≡ aside old.view.core
      beside = ap aside stores.swaps.same

  pub link_makes : new.view.core.makes ≡ old.view.core.makes
  link_makes = ap (λ (u : CoreView). u.makes) stores.swaps.same

  pub link_used : AddsAsMakes old.view.core new.view.core
  link_used =
      let a = ap (λ (u : CoreView). u.adds) stores.swaps.same in
      let m = ap (λ (u : CoreView). u.makes) stores.swaps.same in
      omega (arith, a, m)

  loaded : new.view.client
      ≡ l.with_seen old.view.client
      (with_notes (linked (l.seen old.view.client).noted) (l.seen old.view.client))
  loaded =
      let step = stores.swaps.puts.step in
      stores.swaps.client ∙ step.told.client
      ∙ ap (λ (a : PlainAct). l.with_seen old.view.client (next_unless link_next (own_of old.view)
      (own_of mid.view) (l.seen old.view.client) a step.word))
      (stores.is_replace step.word)

  module _ (owned : 0 < times t old.view.core.owned)
      (left : 0 < times t (without s old.view.core.owned)) where
    known : object_in new.view t ≡ object_in old.view t
    known =
        let o = link_leaves.owns t in
        link_leaves.knows t (omega (arith, owned)) (omega (arith, o, left))

    pub links : Links l.seen l.with_seen t s old new
    links text others noted = (
      without_note s (object_in old.view s).life (candidate_in s text old ∷ others),
      loaded
          ∙ ap (λ (es : List Rope). l.with_seen old.view.client
          (with_notes (linked es) (l.seen old.view.client))) noted
          ∙ ap (λ (n : ℕ). l.with_seen old.view.client (with_notes
          (rope t n ((object_in old.view t).payload ∷ text)
          ∷ without_note s (object_in old.view s).life (candidate_in s text old ∷ others))
          (l.seen old.view.client)))
          (ap (λ (o : Object). o.life) (sym known)),
    )
