-- A question by a word: that the seat may make its steps, and what they come to.
use Rattle.std.proofs.Common.{◌≡◌, ◌≢◌, ℕ, ◌<◌, List, [], ◌∷◌, ◌++◌, length, refl, ap, sym, ◌∙◌, subst, arith}
use Rattle.std.specs.Prelude.{slice_index, Some}
use Rattle.std.proofs.lemmas.List.{length-set, set_comm}
use Rattle.protected_loads.specs.plain_state.declared.act.PlainAct.{PlainAct}
use Rattle.protected_loads.specs.plain_state.declared.slot.Kind.TheVariants.{Weak, Disposal}
use Rattle.protected_loads.specs.plain_state.declared.slot.SlotId.{SlotId}
use Rattle.protected_loads.specs.plain_state.References.{strong_refs}
use Rattle.protected_loads.specs.plain_state.State.{Plain}
use Rattle.protected_loads.specs.plain_protocol.Owns.{HasSlot, OwnPart}
use Rattle.protected_loads.specs.counter_word.Words.{value}
use Rattle.protected_loads.specs.core_events.declared.act.Act.TheVariants as act
use Rattle.protected_loads.specs.core_events.declared.outcome.Outcome.{Outcome}
use Rattle.protected_loads.specs.core_events.declared.outcome.Outcome.TheVariants as outcome
use Rattle.protected_loads.specs.core_events.declared.view.CoreView.{CoreView}
use Rattle.protected_loads.specs.core_events.declared.view.Note.{Note}
use Rattle.protected_loads.specs.core_events.declared.view.Note.TheVariants as note
use Rattle.protected_loads.specs.core_events.Shows.{show_seat, shows}
use Rattle.protected_loads.specs.core_events.Steps.{IsIdle, validated, with_note}
use Rattle.protected_loads.specs.core_events.Views.{Holds, note_of, of_slot, slot_noted}
use Rattle.protected_loads.specs.core_events.Words.{strong_at}
use Rattle.protected_loads.specs.acquire_retire.Calls.{IsSameView, Steps, same_view}
use Rattle.protected_loads.specs.acquire_retire.Collecting.{move}
use Rattle.protected_loads.specs.acquire_retire.Domains.{DomainState}
use Rattle.protected_loads.specs.acquire_retire.Seats.{SeatState}
use Rattle.protected_loads.specs.control_word.Moves.{Becomes, KnowsStill}
use Rattle.protected_loads.proofs.Below.control_word_Becoming.{Comes, bare, comes_more, comes_one, knows_after, one_step}
use Rattle.protected_loads.proofs.Below.control_word_Finding.{strong_word}
use Rattle.protected_loads.proofs.Noting.{beside, second_stays, written, written_back}
use Rattle.protected_loads.proofs.Telling.{four_notes}
use Rattle.atomic_weak.specs.Questions.{CanAsk, FindsAlive, FindsNone, Prepares, closed_by, prepared_by, without_first}
use Rattle.atomic_weak.proofs.Telling.{alive_some, zeroed_none}
use Rattle.atomic_weak.proofs.Noted.{has_announced, has_protected, has_released, holds_weak, noted_there}
use Rattle.atomic_weak.proofs.Releasing.{releases}

module _ {P V : Type 0} {fits : List ℕ → Type 0} (d : DomainState P) (j : ℕ) (s : SlotId)
    (old ann : SeatState V) (may : CanAsk d.shape (Some j) s old.view.core) (o : Outcome)
    (announce : Steps fits d same_view IsSameView (act.Announce j Disposal s) old ann o) where
  -- what the seat has as it begins, and once it waits for the answer
  abbrev mine : CoreView
  mine = old.view.core

  abbrev waiting : CoreView
  waiting = with_note j (note.Announced Disposal s) mine

  there : j < length mine.notes
  there = let four = four_notes announce.told in let small = may.means.1 in omega arith

  apart : 0 ≢ j
  apart e = let less = may.means.0 in absurd (omega arith)

  -- the announcement
  announced : (kept : CoreView)
      → ((x : SlotId) → HasSlot (show_seat kept) x → HasSlot (show_seat mine) x)
      → Comes fits d (prepared_by (Some j) s) waiting kept old ann
  announced kept has =
      comes_one d (act.Announce j Disposal s) old ann outcome.Plain 0 waiting kept
      (subst (λ (x : Outcome).
      Steps fits d same_view IsSameView (act.Announce j Disposal s) old ann x)
      announce.answers announce)
      refl refl refl has (λ w x it. refl)

  is : ann.view.core ≡ record waiting { trail = mine.trail ++ prepared_by (Some j) s }
  is = (announced mine (λ x has. has)).by.core

  has_waiting : (x : SlotId) → HasSlot (show_seat mine) x → HasSlot (show_seat ann.view.core) x
  has_waiting x has =
      subst (λ (v : CoreView). HasSlot (show_seat v) x) (sym is)
      (has_announced mine j there may.means.2 Disposal s x has)

  noted : note_of ann.view.core j ≡ note.Announced Disposal s
  noted =
      ap (λ (v : CoreView). note_of v j) is
      ∙ written mine j there (note.Announced Disposal s)

  holds : Holds ann.view.core s
  holds =
      holds_weak ann.view.core 0 s
      (ap (λ (v : CoreView). note_of v 0) is
      ∙ beside mine j there (note.Announced Disposal s) 0 apart ∙ may.first)

  pub prepares : Prepares fits d (Some j) s old ann
  prepares =
      let comes = announced mine (λ x has. has) in record {
        becomes = comes.by;
        client = comes.client;
      }

  pub may_ask : IsIdle ann.view.core × (j < 4)
      × ((x : SlotId) × (note_of ann.view.core j ≡ note.Announced Disposal x)
      × Holds ann.view.core x)
  may_ask = (
    (ap (λ (v : CoreView). v.phase) is ∙ may.idle.0, ap (λ (v : CoreView). v.left) is ∙ may.idle.1),
    may.means.1,
    (s, noted, holds),
  )

  module _ {next : OwnPart → OwnPart → V → PlainAct → ℕ → V}
      {allows : Plain → Plain → ℕ → V → V → Type 0} where
    -- the word that it reads is the strong word of s
    counts : {a : Outcome} (late : SeatState V)
        (ask : Steps fits d next allows (act.Alive j) ann late a)
        → value ask.word ≡ strong_refs (shows d.shape ask.told.happened.before) s
    counts late ask =
        strong_word ask.told s holds
        (ask.told.happened.found
        ∙ ap (λ (n : Note). slice_index ask.told.happened.before.words
        (of_slot (strong_at d.shape) (slot_noted n)))
        (ap (λ (v : CoreView). note_of v j) (sym ask.told.happened.view) ∙ noted))

    -- the object lives
    module _ (late : SeatState V)
        (ask : Steps fits d next allows (act.Alive j) ann late outcome.Alive) where
      abbrev guarded : CoreView
      guarded = with_note j (note.Valid Disposal s) mine

      asks_alive : Becomes fits d next allows (move (act.Alive j) outcome.Alive ∷ []) guarded ann
          late
      asks_alive =
          one_step d (act.Alive j) ann late outcome.Alive 1 guarded ask refl
          (ap (λ (n : Note). bare (with_note j (validated n) ann.view.core)) noted
          ∙ ap (λ (v : CoreView). bare (with_note j (note.Valid Disposal s) v)) is
          ∙ ap bare
          (second_stays mine j (note.Announced Disposal s) (note.Valid Disposal s)))
          refl

      knows_alive : KnowsStill mine ann late
      knows_alive =
          knows_after d (act.Alive j) ann late outcome.Alive mine ask has_waiting (λ w x it. refl)

      pub finds_alive : (new : SeatState V) (p : Outcome)
          → Steps fits d same_view IsSameView (act.Release 0) late new p
          → FindsAlive fits d (Some j) s next allows old new
      finds_alive new p release = record {
        asks = record {
          mid = ann;
          prepares = prepares;
          late = late;
          asks = asks_alive;
          closes = closes.by;
          client = closes.client;
        };
        lives =
            let same = counts asks_alive.walks.0 asks_alive.walks.1 in
            let some = alive_some asks_alive.walks.1.word asks_alive.walks.1.answers in
            omega arith;
        knows = λ x has. closes.knows x has ∙ knows_alive x has
            ∙ (announced mine (λ y it. it)).knows x has;
      }
        where
          closes : Comes fits d (move (act.Release 0) outcome.Plain ∷ []) (without_first guarded)
              mine late new
          closes =
              releases d 0 guarded (without_first guarded) mine late new
              (ann.view.core.trail ++ move (act.Alive j) outcome.Alive ∷ []) asks_alive.core refl
              (λ x has. has_protected mine j there may.means.2 Disposal s x has) p release

    -- no strong reference is left
    module _ (late : SeatState V)
        (ask : Steps fits d next allows (act.Alive j) ann late outcome.Zeroed) where
      -- what it has in the end, and before it takes the announcement by the word back
      abbrev left : CoreView
      left = without_first mine

      abbrev leaving : CoreView
      leaving = with_note j (note.Announced Disposal s) left

      has_left : (x : SlotId) → HasSlot (show_seat left) x → HasSlot (show_seat mine) x
      has_left x has = has_released mine 0 Weak s x may.first has

      there_left : j < length left.notes
      there_left =
          let same = length-set mine.notes 0 note.Idle in let less = there in omega arith

      free_left : note_of left j ≡ note.Idle
      free_left =
          beside mine 0 (noted_there mine.notes 0 Weak s may.first) note.Idle j
          (λ (e : j ≡ 0). apart (sym e))
          ∙ may.means.2

      asks_zeroed : Becomes fits d next allows (move (act.Alive j) outcome.Zeroed ∷ []) waiting ann
          late
      asks_zeroed =
          one_step d (act.Alive j) ann late outcome.Zeroed 0 waiting ask refl (ap bare is) refl

      knows_zeroed : KnowsStill left ann late
      knows_zeroed =
          knows_after d (act.Alive j) ann late outcome.Zeroed left ask
          (λ x has. has_waiting x (has_left x has)) (λ w x it. refl)

      pub finds_none : (free new : SeatState V) (p q : Outcome)
          → Steps fits d same_view IsSameView (act.Release 0) late free p
          → Steps fits d same_view IsSameView (act.Release j) free new q
          → FindsNone fits d (Some j) s next allows old new
      finds_none free new p q release release_word = record {
        asks = record {
          mid = ann;
          prepares = prepares;
          late = late;
          asks = asks_zeroed;
          closes = closes.by;
          client = closes.client;
        };
        none =
            let same = counts asks_zeroed.walks.0 asks_zeroed.walks.1 in
            let zero = zeroed_none asks_zeroed.walks.1.word asks_zeroed.walks.1.answers in
            omega arith;
        knows = λ x has. closes.knows x has ∙ knows_zeroed x has
            ∙ (announced left has_left).knows x has;
      }
        where
          first : Comes fits d (move (act.Release 0) outcome.Plain ∷ []) leaving left late free
          first =
              releases d 0 waiting leaving left late free
              (ann.view.core.trail ++ move (act.Alive j) outcome.Zeroed ∷ []) asks_zeroed.core
              (ap (λ (ns : List Note). bare (record mine { notes = ns }))
              (set_comm mine.notes j 0 (note.Announced Disposal s) note.Idle
              (λ (e : j ≡ 0). apart (sym e))))
              (λ x has. has_announced mine j there may.means.2 Disposal s x (has_left x has)) p
              release

          second : Comes fits d (move (act.Release j) outcome.Plain ∷ []) left left free new
          second =
              releases d j leaving left left free new
              (late.view.core.trail ++ move (act.Release 0) outcome.Plain ∷ []) first.by.core
              (ap bare
              (second_stays left j (note.Announced Disposal s) note.Idle
              ∙ written_back left j note.Idle free_left))
              (λ x has. has_announced left j there_left free_left Disposal s x has) q release_word

          closes : Comes fits d (closed_by (Some j)) left left late new
          closes =
              comes_more d (move (act.Release 0) outcome.Plain ∷ [])
              (move (act.Release j) outcome.Plain ∷ []) leaving left left late free new first
              second
