-- What an exchange, a field that is cleared, and a look show.
use Rattle.std.proofs.Common.{◌≡◌, ◌≢◌, false, inl, inr, ℕ, ◌<◌, List, [], ◌∷◌, ◌++◌, map, refl, ap, sym, subst, ◌∙◌, arith, Option, None, Some, set}
use Rattle.std.specs.Prelude.{slice_index, ◌==◌}
use Rattle.std.proofs.lemmas.Bool.Decides.{nat_tests}
use Rattle.std.proofs.lemmas.List.{append-nil, map-append, set-get_or}
use Rattle.core_law.specs.plain_state.declared.act.EventPlace.{EventPlace}
use Rattle.core_law.specs.plain_state.declared.act.EventPlace.TheVariants.{Field}
use Rattle.core_law.specs.plain_state.declared.act.PlainAct.TheVariants as plain
use Rattle.core_law.specs.plain_state.declared.slot.Kind.TheVariants.{Strong}
use Rattle.core_law.specs.plain_state.declared.slot.SlotId.{SlotId}
use Rattle.core_law.specs.plain_state.Lists.{Entry, times}
use Rattle.core_law.specs.plain_state.Places.{content, place_kind, with_content}
use Rattle.core_law.specs.plain_state.State.{Plain, PlainSeat, seat_at, with_seat}
use Rattle.core_law.specs.plain_state.Steps.{Does, GivesUp, Replaces, Row, joined, word_of}
use Rattle.core_law.specs.core_events.Words.{slot_in}
use Rattle.core_law.specs.core_events.Views.{without}
use Rattle.core_law.proofs.Does as does
use Rattle.core_law.proofs.Kit.{by_test}
use Rattle.core_law.proofs.Losing.{loses_without}
use Rattle.core_law.proofs.ShownPlaces.{slot_word}
use Rattle.epoch_core.specs.declared.act.Dated.{Dated}
use Rattle.epoch_core.specs.declared.act.EpochAct.TheVariants as act
use Rattle.epoch_core.specs.declared.shape.EpochShape.{EpochShape}
use Rattle.epoch_core.specs.declared.view.EpochMove.{EpochMove}
use Rattle.epoch_core.specs.declared.view.EpochView.{EpochView}
use Rattle.epoch_core.specs.Words.{field_at, place_at}
use Rattle.epoch_core.specs.Views.{IsIdle, IsOpen}
use Rattle.epoch_core.specs.Steps.{CanGive, gave, saw, took}
use Rattle.epoch_core.specs.Runs.{Core, Enabled, after, view_at}
use Rattle.epoch_core.specs.Shows.{shows, show_seat, undated_entry}
use Rattle.epoch_core.specs.ShownSteps.{Chain, on_place, seen_in}
use Rattle.epoch_core.specs.Sound.{Sound}
use Rattle.epoch_core.proofs.Bridge.{other_snapshots}
use Rattle.epoch_core.proofs.Counting.{with_having}
use Rattle.epoch_core.proofs.Exchanges.{exchanged, open_there, owned_after, takes_one, took_is}
use Rattle.epoch_core.proofs.Held.{named_in_range}
use Rattle.epoch_core.proofs.Phases.{in_idle}
use Rattle.epoch_core.proofs.Put.{stepped}
use Rattle.epoch_core.proofs.ShownFrames.{SameSlot, same_view, seat_alone, words_same}
use Rattle.epoch_core.proofs.ShownKit.{is_seat, is_shown}
use Rattle.epoch_core.proofs.ShownPlaces.{shown_content, shown_open, shown_readable, shown_word, shows_place, strong_place}
use Rattle.epoch_core.proofs.ShownQuiet.{still_shown, strong_of}
use Rattle.epoch_core.proofs.ShownRegions.{ShowsBare, bare_idle}
use Rattle.epoch_core.proofs.Writes.{IsPlace}

-- what was taken out of a place is deferred, with no date yet
exchanged_seat : (v : EpochView) (o new : Option SlotId) (t : List EpochMove) → ShowsBare v.phase
    → show_seat (with_having v (exchanged o new t v))
    ≡ record (show_seat v) {
      owned = owned_after new v;
      deferred = joined Strong o (show_seat v).deferred;
    }
exchanged_seat v None new t bare = refl
exchanged_seat v (Some s) new t bare =
    let listed : List Entry = map (λ (d : Dated). strong_of d.slot) v.pending in
    let front : listed ++ undated_entry v.phase ≡ listed =
    ap (λ (es : List Entry). listed ++ es) bare.undated ∙ append-nil listed in
    ap (λ (es : List Entry). record (show_seat v) {
      owned = owned_after new v;
      filling = None;
      deferred = es ++ strong_of s ∷ [];
    }) (sym front)
    ∙ ap (λ (f : Option SlotId). record (show_seat v) {
      owned = owned_after new v;
      filling = f;
      deferred = (listed ++ undated_entry v.phase) ++ strong_of s ∷ [];
    }) (sym bare.filled)

gives_up : (v : EpochView) (new : Option SlotId) → CanGive new v
    → GivesUp Strong new (show_seat v) (record (show_seat v) { owned = owned_after new v })
gives_up v None can = refl
gives_up v (Some s) can = (without s v.owned, loses_without s v.owned can, refl)

-- a place gets a new content, and what it held is deferred
replaces : (p q : Plain) (n : ℕ) (y w : PlainSeat) (place : EventPlace) (new : Option SlotId)
    → seat_at p n ≡ y → place_kind place ≡ Strong → GivesUp Strong new y w
    → q ≡ with_content (with_seat p n (record w { deferred = joined Strong (content p place) w.deferred })) place new
    → Replaces p n place new q
replaces p q n y w place new is strong gives e =
    (w, rw (strong, is) gives, rw strong e)

module _ (z : EpochShape) (c : Core) (n : ℕ) (so : Sound z c) (hn : n < z.seats) where
  abbrev v : EpochView
  v = view_at c n

  exchange_alike : (o new : Option SlotId) (t : List EpochMove) → IsIdle v → (x : SlotId)
      → SameSlot x v (with_having v (exchanged o new t v))
  exchange_alike o new t idle x =
      let p = (takes_one x o v idle.0).fills in
      let i = in_idle v.phase x idle.0 in
      record { fill = omega arith; dying = refl; made = refl }

  -- the state after an exchange
  exchange_shown : (q : EventPlace) (new : Option SlotId) (t : List EpochMove) → IsIdle v → IsPlace z q
      → shows z (stepped c n
      (with_having v (exchanged (slot_in (slice_index c.words (place_at z q))) new t v))
      (set c.words (place_at z q) (word_of new)) c.opened)
      ≡ with_content (with_seat (shows z c) n (record (show_seat v) {
        owned = owned_after new v;
        deferred = joined Strong (content (shows z c) q) (show_seat v).deferred;
      })) q new
  exchange_shown q new t idle there =
      let o : Option SlotId = slot_in (slice_index c.words (place_at z q)) in
      shows_place z c n so hn (with_having v (exchanged o new t v)) (exchange_alike o new t idle) q new there
      ∙ ap (λ (y : PlainSeat). with_content (with_seat (shows z c) n y) q new)
      (exchanged_seat v o new t (bare_idle v.phase idle.0)
      ∙ ap (λ (x : Option SlotId). record (show_seat v) {
        owned = owned_after new v;
        deferred = joined Strong x (show_seat v).deferred;
      }) (sym (shown_content z c q there)))

  exchanges : (q : EventPlace) (new : Option SlotId) (t : List EpochMove) → IsIdle v → IsPlace z q
      → CanGive new v
      → Replaces (shows z c) n q new (shows z (stepped c n
      (with_having v (exchanged (slot_in (slice_index c.words (place_at z q))) new t v))
      (set c.words (place_at z q) (word_of new)) c.opened))
  exchanges q new t idle there can =
      replaces (shows z c) _ n (show_seat v) (record (show_seat v) { owned = owned_after new v }) q new
      (is_shown z c n so hn) (strong_place z q there) (gives_up v new can) (exchange_shown q new t idle there)

  swapped : (q : EventPlace) (new : Option SlotId) (t : List EpochMove) → IsIdle v → IsOpen z v q → CanGive new v
      → Row (shows z c) n (plain.Replace q new) (slice_index c.words (place_at z q))
      (shows z (stepped c n
      (record (took (slot_in (slice_index c.words (place_at z q))) (gave new v)) { trail = t })
      (set c.words (place_at z q) (word_of new)) c.opened))
  swapped q new t idle opens can =
      let there = open_there z c n so hn q opens in
      rw (took_is (slot_in (slice_index c.words (place_at z q))) new t v)
      (shown_open z c n so hn q opens, shown_word z c q there, exchanges q new t idle there can)

  pub swap_shows : (q : EventPlace) (new : Option SlotId) → Enabled z c n (act.Swap q new)
      → Does (shows z c) n (plain.Replace q new) (slice_index c.words (place_at z q))
      (shows z (after z c n (act.Swap q new)))
  swap_shows q new on =
      let may = on.1 in (is_seat z c n so hn may.0.1, swapped q new _ may.0 may.1 may.2)

  -- a compare and exchange that finds what it expects
  won : (q : EventPlace) (old new : Option SlotId) (t : List EpochMove) → IsIdle v → IsOpen z v q → CanGive new v
      → slice_index c.words (place_at z q) ≡ word_of old
      → Row (shows z c) n (plain.TryReplace q old new) (slice_index c.words (place_at z q))
      (shows z (stepped c n
      (record (took (slot_in (slice_index c.words (place_at z q))) (gave new v)) { trail = t })
      (set c.words (place_at z q) (word_of new)) c.opened))
  won q old new t idle opens can e =
      let there = open_there z c n so hn q opens in
      rw (took_is (slot_in (slice_index c.words (place_at z q))) new t v) (
        shown_open z c n so hn q opens,
        shown_word z c q there,
        inl (shown_content z c q there ∙ ap slot_in e ∙ slot_word old, exchanges q new t idle there can),
      )

  lost : (q : EventPlace) (old new : Option SlotId) (t : List EpochMove) → IsOpen z v q
      → slice_index c.words (place_at z q) ≢ word_of old
      → Row (shows z c) n (plain.TryReplace q old new) (slice_index c.words (place_at z q))
      (shows z (stepped c n (record v { trail = t })
      (set c.words (place_at z q) (slice_index c.words (place_at z q))) c.opened))
  lost q old new t opens ne =
      let there = open_there z c n so hn q opens in
      let found = shown_word z c q there in (
        shown_open z c n so hn q opens,
        found,
        inr (
          (λ e. ne (found ∙ ap word_of e)),
          still_shown z c n (record v { trail = t }) c.opened so hn (λ x. same_view x v _ refl refl refl) refl (place_at z q),
        ),
      )

  pub cas_shows : (q : EventPlace) (old new : Option SlotId) → Enabled z c n (act.Cas q old new)
      → Does (shows z c) n (plain.TryReplace q old new) (slice_index c.words (place_at z q))
      (shows z (after z c n (act.Cas q old new)))
  cas_shows q old new on =
      let may = on.1 in (
        is_seat z c n so hn may.0.1,
        by_test (slice_index c.words (place_at z q) == word_of old)
            (λ is. rw is (won q old new _ may.0 may.1 may.2 (grind (arith, nat_tests))))
            (λ not. rw not (lost q old new _ may.1 (grind (arith, nat_tests)))),
      )

  cleared : (s : SlotId) (i : ℕ) (t : List EpochMove) → IsIdle v → i < 2 → 0 < times s v.dying
      → Row (shows z c) n (plain.Clear (Field s i)) (slice_index c.words (field_at z s i))
      (shows z (stepped c n
      (record (took (slot_in (slice_index c.words (field_at z s i))) (gave None v)) { trail = t })
      (set c.words (field_at z s i) 0) c.opened))
  cleared s i t idle hi mine =
      let hs = named_in_range z n v s (so.seats n hn) (omega arith) in
      let is = is_shown z c n so hn in
      let there : IsPlace z (Field s i) = (hs, hi) in
      rw (took_is (slot_in (slice_index c.words (field_at z s i))) None t v) (
        (hi, (subst (λ (y : PlainSeat). 0 < times s y.dying) (sym is) mine, (other_snapshots z c s).1)),
        shown_word z c (Field s i) there,
        exchange_shown (Field s i) None t idle there
            ∙ ap (λ (y : PlainSeat). with_content (with_seat (shows z c) n (record y {
              deferred = joined Strong (content (shows z c) (Field s i)) y.deferred;
            })) (Field s i) None) (sym is),
      )

  pub clear_shows : (s : SlotId) (i : ℕ) → Enabled z c n (act.Clear s i)
      → Does (shows z c) n (plain.Clear (Field s i)) (slice_index c.words (field_at z s i))
      (shows z (after z c n (act.Clear s i)))
  clear_shows s i on =
      let may = on.1 in (is_seat z c n so hn may.0.1, cleared s i _ may.0 may.1 may.2)

  -- A LOOK
  -- the step that reads the place
  reads : (q : EventPlace) → IsOpen z v q → IsPlace z q
      → Row (shows z c) n (plain.Look q) (slice_index c.words (place_at z q)) (shows z c)
  reads q opens there = (shown_readable z c n so hn q opens, shown_word z c q there, refl)

  looked : (q : EventPlace) (t : List EpochMove) → v.left ≡ false → IsOpen z v q → IsPlace z q
      → (o : Option SlotId) → slot_in (slice_index c.words (place_at z q)) ≡ o
      → Chain n (shows z c)
      (on_place (plain.Look q) (slice_index c.words (place_at z q))
      ∷ seen_in q (slice_index c.words (place_at z q)) o)
      (shows z (stepped c n (record (saw o v) { trail = t })
      (set c.words (place_at z q) (slice_index c.words (place_at z q))) c.opened))
  looked q t here opens there None is = (
    shows z c,
    (is_seat z c n so hn here, reads q opens there),
    still_shown z c n (record v { trail = t }) c.opened so hn (λ x. same_view x v _ refl refl refl) refl
        (place_at z q),
  )
  looked q t here opens there (Some s) is = (
    shows z c,
    (is_seat z c n so hn here, reads q opens there),
    (
      shows z (stepped c n (record v { seen = v.seen ++ s ∷ []; trail = t })
          (set c.words (place_at z q) (slice_index c.words (place_at z q))) c.opened),
      (
        is_seat z c n so hn here,
        does.does_check (shows z c) _ n (show_seat v) (is_shown z c n so hn) 0
            (slice_index c.words (place_at z q)) q s
            ((show_seat v).snapshots ++ strong_of s ∷ [])
            (shown_readable z c n so hn q opens) (shown_word z c q there) (shown_content z c q there ∙ is)
            (rw (strong_place z q there) ((show_seat v).snapshots, [], refl, sym (append-nil (show_seat v).snapshots)))
            (rw (set-get_or c.words (place_at z q) 0)
            (seat_alone z c n (record v { seen = v.seen ++ s ∷ []; trail = t }) c.words c.opened so hn
            (λ i h. refl) (λ x h. words_same z c.words x) (λ x h. same_view x v _ refl refl refl)
            ∙ ap (λ (es : List Entry). with_seat (shows z c) n (record (show_seat v) { snapshots = es }))
            (map-append (λ (x : SlotId). strong_of x) v.seen (s ∷ [])))),
      ),
      refl,
    ),
  )

  pub look_shows : (q : EventPlace) → Enabled z c n (act.Look q)
      → Chain n (shows z c)
      (on_place (plain.Look q) (slice_index c.words (place_at z q))
      ∷ seen_in q (slice_index c.words (place_at z q)) (slot_in (slice_index c.words (place_at z q))))
      (shows z (after z c n (act.Look q)))
  look_shows q on =
      let may = on.1 in
      looked q _ may.0.1 may.2 (open_there z c n so hn q may.2) (slot_in (slice_index c.words (place_at z q))) refl
