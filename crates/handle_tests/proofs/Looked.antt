-- What a player has after a snapshot that ended, or that it keeps as a reference.
use Rattle.std.proofs.Common.{◌≡◌, ◌≤◌, ◌^◌, ℕ, List, [], ◌∷◌, ◌++◌, Option, Some, None, ap, refl, subst, sym, ◌∙◌}
use Rattle.std.specs.Prelude.{slice_index, slice_set}
use Rattle.std.proofs.lemmas.List.{set-get_or, set-set}
use Rattle.control_word.specs.plain_protocol.Owns.{OwnPart}
use Rattle.control_word.specs.plain_state.declared.act.PlainAct.{PlainAct}
use Rattle.control_word.specs.plain_state.declared.slot.SlotId.{SlotId}
use Rattle.control_word.specs.plain_state.State.{Plain}
use Rattle.control_word.specs.core_events.declared.view.CoreView.{CoreView}
use Rattle.control_word.specs.core_events.declared.view.Move.{Move}
use Rattle.control_word.specs.core_events.declared.view.Note.{Note}
use Rattle.control_word.specs.core_events.declared.view.Note.TheVariants as note
use Rattle.control_word.specs.core_events.Steps.{HasRoom}
use Rattle.control_word.specs.acquire_retire.Domains.{DomainState}
use Rattle.control_word.specs.acquire_retire.Notes.{least_free}
use Rattle.control_word.specs.acquire_retire.Seats.{SeatState}
use Rattle.control_word.specs.counted_handles.declared.place.Place.{Place}
use Rattle.control_word.specs.Resting.{IsAtRest, noted}
use Rattle.atomic_shared.specs.Places.{strong_place}
use Rattle.atomic_shared.specs.protected_loads.Retries.{AtLast}
use Rattle.atomic_weak.specs.Ending as weakly
use Rattle.atomic_weak.specs.Questions.{with_guarded}
use Rattle.snapshot_ptr.specs.Ending.{GivesUp}
use Rattle.snapshot_ptr.specs.Taking.{Takes}
use Rattle.snapshot_ptr.proofs.Under.{least_is_free}
use Rattle.handle_tests.specs.Plays.{Plays}
use Rattle.handle_tests.proofs.Called.{HasLists, by_core, by_drop, by_load, by_moves, gained, given, kept}

-- a word that stood for nothing, then for something, and for nothing again
pub noted_back : (word : Option ℕ) (n : Note) (v : CoreView) → word ≡ least_free v
    → noted word note.Idle (noted word n v.notes) ≡ v.notes
noted_back None n v is = refl
noted_back (Some j) n v is =
    let free = least_is_free v j (sym is) in
    set-set v.notes j n note.Idle
    ∙ ap (λ (m : Note). slice_set v.notes j m) (sym free.2)
    ∙ set-get_or v.notes j note.Idle

-- the same, where something was done under it that kept the words
pub noted_back_after : (word : Option ℕ) (n : Note) (v : CoreView) (mid late new : List Note)
    → word ≡ least_free v → mid ≡ noted word n v.notes → late ≡ mid
    → new ≡ noted word note.Idle late → new ≡ v.notes
noted_back_after word n v mid late new is began kept ended =
    ended ∙ ap (noted word note.Idle) (kept ∙ began) ∙ noted_back word n v is

-- what a seat with w has of the lists of one with v once it is under a snapshot of s by this word: one without a word is
-- a reference more
abbrev pub ListsBy : Option ℕ → SlotId → CoreView → CoreView → Type 0
ListsBy None s v w = HasLists w (v.owned ++ s ∷ []) v.weaks
ListsBy (Some j) s v w = HasLists w v.owned v.weaks

-- of payloads that weigh their first word, and of the deed that tells nothing
abbrev pub fits_word : List ℕ → Type 0
fits_word words = slice_index words 0 ≤ 2 ^ 32

abbrev pub any_next : OwnPart → OwnPart → Unit {0} → PlainAct → ℕ → Unit {0}
any_next own after v act n = v

abbrev pub any_allows : Plain → Plain → ℕ → Unit {0} → Unit {0} → Type 0
any_allows p q n v w = w ≡ v

module _ {P : Type 0} (d : DomainState P) (old new : SeatState (Unit {0})) (p : Place) (s : SlotId)
  where
    pub took : (word : Option ℕ)
        → Takes fits_word d (strong_place p) any_next any_allows word (Some s) old new
        → ListsBy word s old.view.core new.view.core
    took None takes = by_load p takes
    took (Some j) takes = by_core takes.core

    -- after tries that were lost
    pub took_last : (word : Option ℕ) (j : ℕ)
        → AtLast fits_word d (strong_place p) any_next any_allows j
        (Takes fits_word d (strong_place p) any_next any_allows word (Some s)) old new
        → ListsBy word s old.view.core new.view.core
    took_last None j last =
        let mid = by_core last.core in
        let more = by_load p last.goes in (
          more.0 ∙ ap (λ (ys : List SlotId). ys ++ s ∷ []) mid.0,
          more.1 ∙ mid.1,
        )
    took_last (Some i) j last =
        let mid = by_core last.core in
        let same = by_core last.goes.core in (same.0 ∙ mid.0, same.1 ∙ mid.1)

-- the same of a weak snapshot
pub guarded : (word : Option ℕ) (s : SlotId) (v w : CoreView) (t : List Move)
    → w ≡ record (with_guarded word s v) { trail = t } → ListsBy word s v w
guarded None s v w t is = by_core is
guarded (Some j) s v w t is = by_core is

-- the word of a snapshot is the one that was free
pub by_word : (word other : Option ℕ) (s : SlotId) (v w : CoreView) → word ≡ other
    → ListsBy other s v w → ListsBy word s v w
by_word word other s v w is lists =
    subst (λ (x : Option ℕ). ListsBy x s v w) (sym is) lists

module _ {P : Type 0} (d : DomainState P) (old mid new : SeatState (Unit {0}))
    (xs ws : List SlotId) (s : SlotId) (rest : IsAtRest d mid) (room : HasRoom mid.view.core)
    (late : IsAtRest d new) (space : HasRoom new.view.core) where
  -- a snapshot that ended
  pub let_go : (word : Option ℕ) → ListsBy word s old.view.core mid.view.core
      → GivesUp fits_word d word s mid new → Plays d old xs ws → Plays d new xs ws
  let_go None lists gives plays =
      given late space s (by_drop gives) (gained rest room refl lists plays)
  let_go (Some j) lists gives plays =
      kept late space (by_moves gives) (kept rest room lists plays)

  pub let_go_weakly : (word : Option ℕ) → ListsBy word s old.view.core mid.view.core
      → weakly.GivesUp fits_word d word s mid new → Plays d old xs ws → Plays d new xs ws
  let_go_weakly None lists gives plays =
      given late space s (by_drop gives) (gained rest room refl lists plays)
  let_go_weakly (Some j) lists gives plays =
      kept late space (by_moves gives) (kept rest room lists plays)

  -- one by a word, after whatever was done under it
  pub let_go_word : (word : Option ℕ) → (word ≡ None → ⊥) → GivesUp fits_word d word s mid new
      → Plays d mid xs ws → Plays d new xs ws
  let_go_word None not gives plays = absurd (not refl)
  let_go_word (Some j) not gives plays = kept late space (by_moves gives) plays

  pub let_go_word_weakly : (word : Option ℕ) → (word ≡ None → ⊥)
      → weakly.GivesUp fits_word d word s mid new → Plays d mid xs ws → Plays d new xs ws
  let_go_word_weakly None not gives plays = absurd (not refl)
  let_go_word_weakly (Some j) not gives plays = kept late space (by_moves gives) plays

module _ {P : Type 0} (d : DomainState P) (old mid : SeatState (Unit {0})) (xs ws : List SlotId)
    (s : SlotId) (rest : IsAtRest d mid) (room : HasRoom mid.view.core) where
  -- one that stands: by a word, or counted
  pub under_word : (word : Option ℕ) → (word ≡ None → ⊥)
      → ListsBy word s old.view.core mid.view.core → Plays d old xs ws → Plays d mid xs ws
  under_word None not lists plays = absurd (not refl)
  under_word (Some j) not lists plays = kept rest room lists plays

  pub under_none : (word : Option ℕ) → word ≡ None
      → ListsBy word s old.view.core mid.view.core → Plays d old xs ws
      → Plays d mid (xs ++ s ∷ []) ws
  under_none None is lists plays = gained rest room refl lists plays
  under_none (Some j) is lists plays = absurd cc
