-- A text that is interned in an open region.
use Rattle.std.proofs.Common.{inl, ℕ, ◌+◌, ◌<◌, List, [], ◌∷◌, ◌++◌, refl, sym, subst, arith}
use Rattle.std.specs.Prelude.{Result}
use Rattle.cell_making.specs.counted_handles.Handles.{Handle}
use Rattle.cell_calls.specs.Keeping.{Keeps, Learns}
use Rattle.cell_calls.proofs.Keeping.{keeps_wider}
use Rattle.cell_calls.specs.cell_law.declared.view.View.{View}
use Rattle.cell_calls.specs.cell_law.directory_law.Payloads.{Text}
use Rattle.cell_calls.specs.cell_law.directory_law.Views.{In, rope}
use Rattle.cell_calls.specs.cell_law.plain_state.declared.slot.SlotId.{SlotId}
use Rattle.cell_calls.specs.cell_law.plain_state.Lists.{times}
use Rattle.cell_calls.specs.cell_protocol.declared.law.CellLaw.{CellLaw}
use Rattle.epoch_refs.specs.epoch_core.declared.act.EpochAct.TheVariants as act
use Rattle.epoch_refs.specs.epoch_core.declared.outcome.EpochOutcome.TheVariants as outcome
use Rattle.epoch_refs.specs.epoch_rule.Views.{object_in}
use Rattle.epoch_refs.specs.plain_protocol.Owns.{Object}
use Rattle.epoch_refs.specs.epoch_domain.Calls.{IsSameView, Steps, same_view}
use Rattle.epoch_refs.specs.epoch_domain.Domains.{DomainState}
use Rattle.epoch_refs.specs.epoch_domain.Seats.{SeatState}
use Rattle.epoch_domain.proofs.Below.core_law_Kit.{one_same, times_push}
use Rattle.cell_making.specs.Making.{owned_with}
use Rattle.cell_making.proofs.Owned.{same_with}
use Rattle.cell_finding.specs.Finding.{IsFound}
use Rattle.cell_intern.specs.Interning.{Grows, Has}
use Rattle.cell_intern.proofs.Kept.{add_keeps, keeps_on}
use Rattle.cell_intern.proofs.Quiet.{grows_quiet, quiet_learns, quiet_same, quiet_then}

-- calls that leave all references, and one that answers a handle after them
pub with_on : {E : Type 0} (r : Result Handle E) (m n : ℕ) (old mid new : SeatState View)
    → Keeps 0 0 old.view.core.owned old mid
    → Keeps m n (owned_with r mid.view.core.owned) mid new
    → Keeps m n (owned_with r old.view.core.owned) old new
with_on r m n old mid new first second =
    keeps_wider m m n n (owned_with r mid.view.core.owned) (owned_with r old.view.core.owned) old new
    (keeps_on m n (owned_with r mid.view.core.owned) old mid new first second)
    (omega arith) (omega arith)
    (same_with r mid.view.core.owned old.view.core.owned first.owns)

-- THE RECORD WAS FOUND, and is kept
module _ (d : DomainState CellLaw) (fits : List ℕ → Type 0) (text : Text) (s : SlotId)
    (old now new : SeatState View) (first : Keeps 0 0 old.view.core.owned old now)
    (learns : Learns old.view.client now.view.client)
    (found : IsFound d text s old now)
    (add : Steps fits d same_view IsSameView (act.Add s) now new outcome.Plain) where
  gained : Keeps 0 1 (now.view.core.owned ++ s ∷ []) now new
  gained = add_keeps fits d s now new add

  owned_then' : 0 < times s new.view.core.owned
  owned_then' =
      let k = gained.owns s in let p = times_push s s now.view.core.owned in
      let o = one_same s s refl in omega (arith, k, p, o)

  pub kept_has : Has text s new
  kept_has =
      let seen = found.seen in
      let owned = owned_then' in record {
        listed = inl (subst (λ (v : View). In (rope s (object_in new.view s).life text) v.found)
            (sym add.told.client)
            (subst (λ (o : Object). In (rope s o.life text) now.view.client.found)
            (sym (gained.knows s (omega (arith, seen)) (omega (arith, owned)))) found.noted));
        owned = owned;
      }

  pub kept_grows : Grows text old.view.client new.view.client
  kept_grows = grows_quiet text old.view.client new.view.client
      (quiet_then old.view.client now.view.client new.view.client
      (quiet_learns old.view.client now.view.client learns)
      (quiet_same now.view.client new.view.client add.told.client))

  pub kept_keeps : (n : ℕ) → Keeps n (n + 2) (old.view.core.owned ++ s ∷ []) old new
  kept_keeps n =
      keeps_wider 0 n 1 (n + 2) (now.view.core.owned ++ s ∷ []) (old.view.core.owned ++ s ∷ []) old new
      (keeps_on 0 1 (now.view.core.owned ++ s ∷ []) old now new first gained)
      (omega arith) (omega arith)
      (λ x.
      let a = times_push x s now.view.core.owned in
      let b = times_push x s old.view.core.owned in
      let o = first.owns x in omega (arith, a, b, o))
