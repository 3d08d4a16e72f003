-- What a strong cell holds was put there, by an event of the history.
use Rattle.std.proofs.Common.{◌≡◌, ⊎_elim, ℕ, ◌+◌, ◌<◌, List, [], ◌∷◌, refl, ap, sym, subst, ◌∙◌, arith, Option, Some, None}
use Rattle.std.specs.Prelude.{slice_index}
use Rattle.std.proofs.lemmas.Bool.{cases_lt}
use Rattle.std.proofs.lemmas.List.{get_or_past}
use Rattle.core_promises.specs.plain_state.declared.act.EventPlace.TheVariants.{Cell}
use Rattle.core_promises.specs.plain_state.declared.slot.SlotId.{SlotId}
use Rattle.core_promises.specs.plain_state.Places.{content}
use Rattle.core_promises.specs.plain_state.State.{slot_at}
use Rattle.core_promises.specs.core_events.declared.act.Act.{Act}
use Rattle.core_promises.specs.core_events.declared.act.Event.{Event}
use Rattle.core_promises.specs.core_events.declared.shape.Shape.{Shape}
use Rattle.core_promises.specs.core_events.Runs.{AreTerms, Core, Enabled, History, IsShape, after, found, start, view_at}
use Rattle.core_promises.specs.core_events.Shows.{shows}
use Rattle.core_promises.specs.core_events.ShownSteps.{shown_act, shown_number}
use Rattle.core_promises.specs.core_events.Views.{Terms}
use Rattle.core_promises.specs.core_events.Words.{cell_at, each_from, first_words, slot_in}
use Rattle.core_promises.proofs.Below.core_law_Always.{history_sound}
use Rattle.core_promises.proofs.Below.core_law_Each.{get_each, length_each}
use Rattle.core_promises.proofs.Below.core_law_Events.{event_shows}
use Rattle.core_promises.proofs.Below.core_law_FirstWords.{low_at}
use Rattle.core_promises.proofs.Below.core_law_Lawful.{shows_lawful}
use Rattle.place_history.specs.Puts.{HoldsAs, Puts, WasPut}
use Rattle.place_history.proofs.Cells.{put_or_held}

-- where nothing has happened each cell is null
start_null : (z : Shape) (ts : Terms) (cell : ℕ)
    → content (shows z (start z ts)) (Cell cell) ≡ None
start_null z ts cell =
    let f : ℕ → Option SlotId = λ i. slot_in (slice_index (first_words z) (cell_at z i)) in
    ⊎_elim
    (λ (low : cell < z.cells).
    get_each 0 z.cells cell f None low
    ∙ ap slot_in (low_at z (cell_at z (0 + cell)) (omega arith)))
    (λ past. let l = length_each 0 z.cells f in
    get_or_past (each_from 0 z.cells f) cell None (omega arith))
    (cases_lt cell z.cells)

module _ (z : Shape) (ts : Terms) (cell : ℕ) (s : SlotId) where
  -- the event that puts it is the last one
  put_last : (es : List Event) (b : Core) (n : ℕ) (a : Act) (payload : List ℕ)
      → History z ts es b → Enabled z b n a
      → Puts cell s (shows z b) (shown_act z a (found z b n a) (view_at b n))
      → (slot_at (shows z b) s).payload ≡ payload
      → HoldsAs cell s payload (shows z (after z b n a))
      → WasPut z ts (record { seat = n; act = a } ∷ es) (after z b n a) cell s payload
  put_last es b n a payload history on puts had holds = record {
    seat = n;
    act = a;
    event = record {
      since = [];
      before = es;
      core = b;
      are = refl;
      history = history;
      enabled = on;
    };
    puts = puts;
    had = had;
    stays = (refl, holds);
  }

  -- it was put before, and an event leaves it
  put_before : (es : List Event) (b : Core) (e : Event) (payload : List ℕ)
      → WasPut z ts es b cell s payload → Enabled z b e.seat e.act
      → HoldsAs cell s payload (shows z (after z b e.seat e.act))
      → WasPut z ts (e ∷ es) (after z b e.seat e.act) cell s payload
  put_before es b e payload was on holds = record {
    seat = was.seat;
    act = was.act;
    event = record {
      since = e ∷ was.event.since;
      before = was.event.before;
      core = was.event.core;
      are = ap (λ (fs : List Event). e ∷ fs) was.event.are;
      history = was.event.history;
      enabled = was.event.enabled;
    };
    puts = was.puts;
    had = was.had;
    stays = (b, was.stays, (on, refl), holds);
  }

  module _ (shape : IsShape z) (terms : AreTerms z ts) where
    pub was_put : (es : List Event) (c : Core) → History z ts es c
        → content (shows z c) (Cell cell) ≡ Some s
        → WasPut z ts es c cell s (slot_at (shows z c) s).payload
    was_put [] c history holds =
        let null : None ≡ Some s =
        sym (start_null z ts cell)
        ∙ (ap (λ d. content (shows z d) (Cell cell)) (sym history) ∙ holds) in absurd cc
    was_put (e ∷ es) c history holds =
        let b = history.0 in
        let on = history.2.0 in
        let so = history_sound z ts es b shape terms history.1 in
        let now : content (shows z (after z b e.seat e.act)) (Cell cell) ≡ Some s =
        ap (λ d. content (shows z d) (Cell cell)) (sym history.2.1) ∙ holds in
        let payload = (slot_at (shows z (after z b e.seat e.act)) s).payload in
        subst (λ d. WasPut z ts (e ∷ es) d cell s (slot_at (shows z d) s).payload)
        (sym history.2.1)
        (⊎_elim
        (λ put. put_last es b e.seat e.act payload history.1 on put.0 put.1 (now, refl))
        (λ held. put_before es b e payload
        (subst (λ words. WasPut z ts es b cell s words) held.1
        (was_put es b history.1 held.0)) on (now, refl))
        (put_or_held cell s (shows z b) (shows z (after z b e.seat e.act)) e.seat
        (shown_number e.act (found z b e.seat e.act)) (shows_lawful z b so) now
        (shown_act z e.act (found z b e.seat e.act) (view_at b e.seat))
        (event_shows z b e.seat e.act so on)))
