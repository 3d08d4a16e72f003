-- The rows of the plain steps, where the seat and the slot are known.
use Rattle.std.proofs.Common.{◌≡◌, ◌⊎◌, inl, inr, ℕ, ◌+◌, ◌<◌, true, false, List, [], ◌∷◌, ◌++◌, length, refl, ap, ◌∙◌}
use Rattle.std.specs.Prelude.{slice_set, Some, None}
use Rattle.core_events.specs.plain_state.declared.act.EventPlace.{EventPlace}
use Rattle.core_events.specs.plain_state.declared.act.PlainAct.TheVariants as plain
use Rattle.core_events.specs.plain_state.declared.slot.Kind.{Kind}
use Rattle.core_events.specs.plain_state.declared.slot.Kind.TheVariants.{Disposal}
use Rattle.core_events.specs.plain_state.declared.slot.SlotId.{SlotId}
use Rattle.core_events.specs.plain_state.declared.slot.PlainSlot.{PlainSlot}
use Rattle.core_events.specs.plain_state.declared.slot.Stage.TheVariants.{Free, Blank, Live, Ended, Husk}
use Rattle.core_events.specs.plain_state.Lists.{Entry, times, Loses, Gains}
use Rattle.core_events.specs.plain_state.State.{Plain, PlainSeat, seat_at, slot_at, stage_at, with_seat, with_slot}
use Rattle.core_events.specs.plain_state.Places.{Holds, held_times, IsReadable, place_kind, content}
use Rattle.core_events.specs.plain_state.References.{strong_refs, weak_refs, snapshot_times}
use Rattle.core_events.specs.plain_state.Lawful.{IsCovered, HasNullFields}
use Rattle.core_events.specs.plain_state.Steps.{Row, word_of, IsReordering}
use Rattle.core_events.specs.declared.act.Act.{Act}
use Rattle.core_events.specs.declared.shape.Shape.{Shape}
use Rattle.core_events.specs.Runs.{Core, view_at, found, after}
use Rattle.core_events.specs.Shows.{shows}
use Rattle.core_events.specs.ShownSteps.{shown_act, shown_number}

-- seat n's act shows exactly the row of its plain step
abbrev pub ShowsRow : Shape → Core → ℕ → Act → Type 0
ShowsRow z c n a =
    Row (shows z c) n (shown_act z a (found z c n a) (view_at c n))
    (shown_number a (found z c n a))
    (shows z (after z c n a))

module _ (p q : Plain) (n : ℕ) (y : PlainSeat) (is : seat_at p n ≡ y) where
  -- a seat with its own view written back is the seat
  pub does_add_up : (s : SlotId) → Holds y s → (slot_at p s).marked ≡ false
      → q ≡ with_seat p n (record y { owned = y.owned ++ s ∷ []; adds = y.adds + 1 })
      → Row p n (plain.Add s) 0 q
  does_add_up s held mark e = (rw is held, inl (refl, mark, rw is e))

  pub does_add_dead : (s : SlotId) → Holds y s → (slot_at p s).marked ≡ true
      → q ≡ with_seat p n (record y { adds = y.adds + 1 }) → Row p n (plain.Add s) 1 q
  does_add_dead s held mark e = (rw is held, inr (refl, mark, rw is e))

  pub does_drop : (s : SlotId) (xs : List SlotId) → Loses y.owned s xs
      → q ≡ with_seat p n (record y { owned = xs }) → Row p n (plain.Drop s) 0 q
  does_drop s xs loses e = (xs, rw is loses, refl, rw is e)

  pub does_weak_gain : (s : SlotId) → Holds y s
      → q ≡ with_seat p n (record y { weaks = y.weaks ++ s ∷ []; adds = y.adds + 1 })
      → Row p n (plain.WeakGain s) 0 q
  does_weak_gain s held e = (rw is held, refl, rw is e)

  pub does_weak_drop : (s : SlotId) (xs : List SlotId) → Loses y.weaks s xs
      → q ≡ with_seat p n (record y { weaks = xs }) → Row p n (plain.WeakDrop s) 0 q
  does_weak_drop s xs loses e = (xs, rw is loses, refl, rw is e)

  -- a check that finds what is announced
  pub does_check : (j m : ℕ) (place : EventPlace) (s : SlotId) (es : List Entry)
      → IsReadable p n place → m ≡ word_of (content p place) → content p place ≡ Some s
      → Gains y.snapshots (place_kind place, s) es
      → q ≡ with_seat p n (record y { snapshots = es }) → Row p n (plain.Check j place) m q
  does_check j m place s es open' found' holds gains e =
      (open', found', inr (s, holds, (es, rw is gains, rw is e)))

  -- what is announced has no strong references, or has some and lives
  pub does_alive_none : (j : ℕ) (s : SlotId) (m : ℕ) → Holds y s → m ≡ strong_refs p s → m ≡ 0 → q ≡ p
      → Row p n (plain.Alive j) m q
  does_alive_none j s m held e none same = (s, rw is held, e, inl (none, same))

  pub does_alive : (j : ℕ) (s : SlotId) (m : ℕ) (es : List Entry) → Holds y s → m ≡ strong_refs p s
      → 0 < m → stage_at p s ≡ Live → Gains y.snapshots (Disposal, s) es
      → q ≡ with_seat p n (record y { snapshots = es }) → Row p n (plain.Alive j) m q
  does_alive j s m es held e pos live gains f =
      (s, rw is held, e, inr (pos, live, (es, rw is gains, rw is f)))

  pub does_ticket : (m : ℕ) → m ≡ p.tickets
      → q ≡ record (with_seat p n (record y { adds = y.adds + 1 })) { tickets = p.tickets + 1 }
      → Row p n plain.Ticket m q
  does_ticket m e f = (e, rw is f)

  pub does_end_snapshot : (k : Kind) (s : SlotId) (es : List Entry) → Loses y.snapshots (k, s) es
      → q ≡ with_seat p n (record y { snapshots = es }) → Row p n (plain.EndSnapshot k s) 0 q
  does_end_snapshot k s es loses e = (es, rw is loses, refl, rw is e)

  pub does_eject : (k : Kind) (s : SlotId) (es : List Entry) → Loses y.deferred (k, s) es
      → q ≡ with_seat p n (record y { deferred = es }) → IsCovered q
      → Row p n (plain.Eject k s) 0 q
  does_eject k s es loses e covered = (es, rw is loses, refl, rw is e, covered)

  pub does_split : (es : List Entry) → IsReordering y.deferred es
      → q ≡ with_seat p n (record y { deferred = es }) → Row p n plain.Split 0 q
  does_split es order e = (refl, (es, rw is order, rw is e))

  pub does_count : (s : SlotId) (m : ℕ) → Holds y s → m ≡ strong_refs p s → q ≡ p
      → Row p n (plain.Count s) m q
  does_count s m held e same = (rw is held, e, same)

  pub does_weak_count : (s : SlotId) → Holds y s → q ≡ p → Row p n (plain.WeakCount s) 0 q
  does_weak_count s held same = (rw is held, refl, same)

  pub does_see : (s : SlotId) (i : ℕ) → 0 < held_times s y + times s y.dying → i < 16 → q ≡ p
      → Row p n (plain.See s i) 0 q
  does_see s i held small same = (rw is held, small, refl, same)

  -- slot s is x
  module _ (s : SlotId) (x : PlainSlot) (there : slot_at p s ≡ x) where
    pub does_claim : s.0 < length p.slots → x.stage ≡ Free → y.filling ≡ None
        → q ≡ with_slot (with_seat p n (record y { filling = Some s })) s
        (record x { stage = Blank })
        → Row p n (plain.Claim s) 0 q
    does_claim hs st none e = (hs, rw there st, rw is none, refl, rw (is, there) e)

    pub does_fill : (i w : ℕ) → x.stage ≡ Blank → y.filling ≡ Some s → i < 16
        → q ≡ with_slot p s (record x { payload = slice_set x.payload i w })
        → Row p n (plain.Fill s i w) 0 q
    does_fill i w st fills small e = (rw there st, rw is fills, small, refl, rw there e)

    pub does_make : x.stage ≡ Blank → y.filling ≡ Some s
        → q ≡ with_slot (with_seat p n (record y {
          owned = y.owned ++ s
              ∷ [];
          filling = None;
          adds = y.adds + 1;
        })) s
        (record x { stage = Live; marked = false; life = x.life + 1 })
        → Row p n (plain.Make s) 0 q
    does_make st fills e = (rw there st, rw is fills, refl, rw (is, there) e)

    pub does_end : x.stage ≡ Live → (x.marked ≡ true) ⊎ (strong_refs p s ≡ 0)
        → q ≡ with_slot (with_seat p n (record y { dying = y.dying ++ s ∷ [] })) s
        (record x { stage = Ended; marked = true })
        → Row p n (plain.End s) 0 q
    does_end st over e = (rw there st, rw there over, refl, rw (is, there) e)

    pub does_mark : (m : ℕ) → m ≡ strong_refs p s → x.stage ≡ Live → strong_refs p s ≡ 0
        → q ≡ with_slot p s (record x { marked = true }) → Row p n (plain.Mark s) m q
    does_mark m e st none f = (
      e,
      inr (
        ap (λ (u : PlainSlot). u.stage) there
            ∙ st,
        none,
        rw there f,
      ),
    )

    pub does_destroy : (xs : List SlotId) → HasNullFields x → snapshot_times Disposal p s ≡ 0
        → Loses y.dying s xs
        → q ≡ with_slot (with_seat p n (record y { dying = xs })) s (record x { stage = Husk })
        → Row p n (plain.Destroy s) 0 q
    does_destroy xs nulls none loses e =
        (rw there nulls, none, refl, (xs, rw is loses, rw (is, there) e))

    pub does_give : x.stage ≡ Husk → weak_refs p s ≡ 0 → q
        ≡ with_slot p s (record x { stage = Free })
        → Row p n (plain.Give s) 0 q
    does_give st none e = (ap (λ (u : PlainSlot). u.stage) there ∙ st, none, refl, rw there e)
