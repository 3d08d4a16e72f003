-- What a read found in the cell was put there.
use Rattle.std.proofs.Common.{◌≡◌, ℕ, List, [], ◌∷◌, ap, sym, subst, refl, ◌∙◌, Option, Some, None}
use Rattle.std.specs.Prelude.{Err, IfOk, IfSome, Ok, Result}
use Rattle.cdrc.specs.plain_state.declared.act.EventPlace.TheVariants.{Cell}
use Rattle.cdrc.specs.plain_state.declared.slot.SlotId.{SlotId}
use Rattle.cdrc.specs.plain_state.Places.{place_kind}
use Rattle.cdrc.specs.plain_state.State.{slot_at}
use Rattle.cdrc.specs.plain_protocol.Owns.{Object, object_of}
use Rattle.cdrc.specs.core_events.declared.act.Act.TheVariants as act
use Rattle.cdrc.specs.core_events.declared.view.CoreView.{CoreView}
use Rattle.cdrc.specs.core_events.Shows.{shows}
use Rattle.cdrc.specs.counted_handles.declared.refusal.LoadError.{LoadError}
use Rattle.cdrc.specs.acquire_retire.Calls.{IsSameView, same_view}
use Rattle.cdrc.specs.acquire_retire.Domains.{DomainState}
use Rattle.cdrc.specs.acquire_retire.Notes.{least_free}
use Rattle.cdrc.specs.acquire_retire.Seats.{SeatState}
use Rattle.cdrc.specs.control_word.Moves.{last_core}
use Rattle.cdrc.specs.domain_rule.Past.{GoesOnFrom}
use Rattle.cdrc.specs.domain_rule.Views.{object_in}
use Rattle.cdrc.specs.place_history.Puts.{WasPut}
use Rattle.cdrc.proofs.Below.place_history_Putting.{was_put}
use Rattle.cdrc.specs.protected_loads.Loads.{Protects, announced_by}
use Rattle.cdrc.specs.protected_loads.References.{kept_by}
use Rattle.cdrc.specs.snapshot_ptr.Handles.{Snap, slot_under}
use Rattle.cdrc.specs.snapshot_ptr.Taking.{Takes}
use Rattle.example_setting.specs.Views.{View}
use Rattle.example_setting.specs.Calls.{TakesFrom, WasPutThere}
use Rattle.example_setting.specs.Deeds.{ReadTells, read_next}
use Rattle.example_setting.proofs.Pasts.{past_then, walk_past}

module _ {P : Type 0} (kind : List ℕ → Type 0) (d : DomainState P) (cell : ℕ)
    (old new : SeatState View) where
  -- what was protected, and is known still
  protected_put : (j : ℕ) (s : SlotId) (mid : SeatState View)
      → (p : Protects kind d j (Cell cell) read_next (ReadTells cell) s old mid)
      → GoesOnFrom mid.view.past new.view.past
      → object_in new.view s ≡ object_of (slot_at (shows d.shape (last_core p.checks)) s)
      → WasPutThere d cell s old new
  protected_put j s mid p more object =
      let told = p.checks.walks.1.told in
      let h = told.happened in
      let seat : p.mid.view.core.seat ≡ old.view.core.seat =
      ap (λ (v : CoreView). v.seat) p.announces.becomes.core in
      record {
        word = j;
        events = h.events;
        core = h.before;
        history = h.history;
        since = past_then old.view.past p.mid.view.past h.events
            (walk_past kind d same_view IsSameView (announced_by j (Cell cell) s) old p.mid
            p.announces.becomes.walks) told.since;
        checked = past_then
            (record { seat = old.view.core.seat; act = act.Check j (Cell cell) } ∷ h.events)
            mid.view.past new.view.past (
              [],
              ap (λ (z : SeatState View). z.view.past) p.checks.walks.2 ∙ told.past
                  ∙ ap (λ (n : ℕ). record { seat = n; act = act.Check j (Cell cell) } ∷ h.events) seat,
            )
            more;
        put = subst (λ (words : List ℕ). WasPut d.shape d.terms h.events h.before cell s words)
            (sym (ap (λ (o : Object). o.payload) object))
            (was_put d.shape d.terms cell s h.shape h.terms h.events h.before h.history p.there);
      }

  abbrev IsPut : Option SlotId → Type 0
  IsPut None = Unit {0}
  IsPut (Some s) = WasPutThere d cell s old new

  takes_put : (word : Option ℕ) (found : Option SlotId)
      → Takes kind d (Cell cell) read_next (ReadTells cell) word found old new → IsPut found
  takes_put None None t = tt
  takes_put None (Some s) r =
      protected_put 0 s r.mid r.protects
      (walk_past kind d same_view IsSameView (kept_by (place_kind (Cell cell)) s) r.mid new
      r.keeps.walks) r.object
  takes_put (Some j) None t = tt
  takes_put (Some j) (Some s) p = protected_put j s new p ([], refl) p.object

  snap_put : (found : Option Snap) → TakesFrom kind d cell (slot_under found) old new
      → IfSome found (λ snap. WasPutThere d cell snap.slot old new)
  snap_put None t = tt
  snap_put (Some snap) t = takes_put (least_free old.view.core) (Some snap.slot) t

  pub all_put : (r : Result (Option Snap) LoadError)
      → IfOk r (λ found. TakesFrom kind d cell (slot_under found) old new)
      → IfOk r (λ found. IfSome found (λ snap. WasPutThere d cell snap.slot old new))
  all_put (Ok found) taken = snap_put found taken
  all_put (Err e) taken = tt
