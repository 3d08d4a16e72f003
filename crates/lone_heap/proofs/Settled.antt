-- What a settle of a seat that is alone leaves: nothing more may go.
use Rattle.std.proofs.Common.{◌≡◌, ⊎_elim, ℕ, ◌<◌, ◌≤◌, List, [], ◌++◌, ap, sym, ◌∙◌, subst, arith}
use Rattle.std.proofs.lemmas.Bool.{cases_lt}
use Rattle.protected_loads.specs.plain_state.declared.slot.Kind.TheVariants.{Disposal}
use Rattle.protected_loads.specs.plain_state.declared.slot.SlotId.{SlotId}
use Rattle.protected_loads.specs.plain_state.Lists.{Entry, entry_times, times}
use Rattle.protected_loads.specs.plain_state.State.{PlainSeat}
use Rattle.plain_settling.specs.plain_store.Settling.{IsSettled}
use Rattle.plain_settling.specs.Settling.{TidiesTo}
use Rattle.protected_loads.specs.core_events.declared.view.CoreView.{CoreView}
use Rattle.protected_loads.specs.core_events.declared.view.Note.{Note}
use Rattle.protected_loads.specs.core_events.Runs.{Core, view_at}
use Rattle.protected_loads.specs.core_events.Shows.{show_seat}
use Rattle.protected_loads.specs.core_events.Steps.{HasRoom, IsIdle}
use Rattle.protected_loads.specs.core_events.Views.{valid_of}
use Rattle.protected_loads.proofs.Below.core_law_Bridge.{shown_seat}
use Rattle.protected_loads.specs.acquire_retire.Collecting.{rest_of}
use Rattle.protected_loads.specs.acquire_retire.Domains.{DomainState}
use Rattle.protected_loads.specs.acquire_retire.Seats.{SeatState}
use Rattle.protected_loads.specs.acquire_retire.Wholes.{known_core}
use Rattle.protected_loads.specs.control_word.Resting.{IsAtRest}
use Rattle.slot_store.specs.Leftovers.{IsQuiet}
use Rattle.slot_store.specs.Settling.{Settles}
use Rattle.slot_store.proofs.Lasting.{Lasts, collect_lasts}
use Rattle.slot_store.proofs.Objects.{some_value}
use Rattle.slot_store.proofs.Turning.{nothing_in}
use Rattle.domain_audit.specs.Lone.{IsLone}
use Rattle.domain_audit.proofs.Showing.{lone_state}
use Rattle.lone_heap.specs.Lone.{IsReady, known_plain}
use Rattle.lone_heap.specs.Trails.{Shows}
use Rattle.lone_heap.proofs.Holding.{IsMine, kept_of, knows_ready, ready_still}
use Rattle.lone_heap.proofs.Tidying.{Knows}
use Rattle.lone_heap.proofs.Turns.{settle_all, settle_part}

pub settle_goes : {P V : Type 0} {fits : List ℕ → Type 0} (d : DomainState P)
    (weight : List ℕ → ℕ) (total : ℕ) (old new : SeatState V) → IsReady d old
    → Settles fits d weight total old new → Shows [] old.view.core new.view.core
settle_goes {fits = fits} d weight total old new ready s =
    (settle_all fits d weight total old new (knows_ready d old ready) ready.rest.idle.0 s).reaches.goes

module _ {P V : Type 0} {fits : List ℕ → Type 0} (d : DomainState P) (weight : List ℕ → ℕ)
    (total : ℕ) (old new : SeatState V) (ready : IsReady d old)
    (s : Settles fits d weight total old new) (rest : IsAtRest d new)
    (same : rest_of new.view.core ≡ rest_of old.view.core) where
  abbrev lasts : Lasts d s.reaped new
  lasts =
      collect_lasts d s.reaped new
      (settle_part fits d weight total old new (knows_ready d old ready) ready.rest.idle.0 s).reaches.knows.known
      s.quiets.collected

  pub settle_tidies : TidiesTo (known_plain d old) (known_plain d new)
  settle_tidies =
      (settle_all fits d weight total old new (knows_ready d old ready) ready.rest.idle.0 s).reaches.tidies

  knows_new : Knows new
  knows_new =
      (settle_all fits d weight total old new (knows_ready d old ready) ready.rest.idle.0 s).reaches.knows

  abbrev core : Core
  core = known_core new.view

  half : new.view.core ≡ view_at core 0
  half = lasts.says.core ∙ ap (λ (n : ℕ). view_at core n) knows_new.root

  mine_new : IsMine d new
  mine_new =
      let views = lasts.sound.views in
      let one = lasts.sound.shape.0 in
      shown_seat d.shape core 0 (omega arith) ∙ ap show_seat (sym half)

  kept_same : kept_of new.view.core ≡ kept_of old.view.core
  kept_same = ap kept_of same

  pub settle_ready : HasRoom new.view.core → IsReady d new
  settle_ready room = ready_still d old new ready knows_new mine_new kept_same rest room

  module _ (quiet : IsQuiet new.view.core) where
    no_disposal : (x : SlotId) → entry_times Disposal x (valid_of new.view.core.notes) ≡ 0
    no_disposal x =
        ap (λ (y : ℕ × ℕ × ℕ × List Note). entry_times Disposal x (valid_of y.3)) kept_same
        ∙ ready.disposals x

    none_dying : new.view.core.dying ≡ []
    none_dying = nothing_in new.view.core.dying (λ x. ⊎_elim
        (λ (some : 0 < times x new.view.core.dying).
        let held = quiet.dying x some in
        let none = no_disposal x in absurd (omega arith))
        (λ (none : times x new.view.core.dying ≤ 0). none)
        (cases_lt 0 (times x new.view.core.dying)))

    lone : IsLone core
    lone = record {
      others =
          let all = some_value new.view.whole knows_new.known in
          (lasts.says.whole all.0 all.1).2;
      idle = subst (λ (v : CoreView). IsIdle v) half rest.idle;
      none_dying = ap (λ (v : CoreView). v.dying) (sym half) ∙ none_dying;
    }

    pub settle_settled : IsSettled (known_plain d new)
    settle_settled =
        let state = lone_state d.shape core lasts.sound lone (λ words. Unit {0}) (λ x has. tt) in
        record {
          ejected = λ k x.
              let seat = mine_new in
              let waits = ap (λ (v : PlainSeat). entry_times k x v.deferred) seat in
              let under = ap (λ (v : PlainSeat). entry_times k x v.snapshots) seat in
              let none = ap (λ (es : List Entry). entry_times k x (es ++ new.view.core.retired))
              rest.owes_nothing in
              let few = quiet.entries k x in omega arith;
          destroyed = ap (λ (v : PlainSeat). v.dying) mine_new ∙ none_dying;
          ended = state.ended;
          given = state.given;
        }
