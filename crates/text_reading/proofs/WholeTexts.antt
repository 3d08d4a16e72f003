-- A text that was read whole, once its last slot is let go.
use Rattle.std.proofs.Common.{◌≡◌, ℕ, ◌+◌, ◌*◌, ◌<◌, ◌≤◌, List, ◌++◌, length, length-append, refl, ap, sym, ◌∙◌, subst, arith}
use Rattle.std.specs.Prelude.{Option}
use Rattle.snapshot_ptr.specs.plain_state.declared.slot.SlotId.{SlotId}
use Rattle.snapshot_ptr.specs.plain_state.Lists.{times}
use Rattle.snapshot_ptr.specs.plain_protocol.Owns.{HasSlot, Object}
use Rattle.slot_store.specs.core_events.declared.view.CoreView.{CoreView}
use Rattle.slot_store.specs.core_events.Shows.{show_seat}
use Rattle.slot_store.specs.core_events.Steps.{HasRoom}
use Rattle.slot_store.specs.acquire_retire.Domains.{DomainState}
use Rattle.slot_store.specs.acquire_retire.Seats.{SeatState}
use Rattle.slot_store.specs.control_word.Moves.{KnowsStill}
use Rattle.snapshot_ptr.proofs.Below.protected_loads_Telling.{holds_has}
use Rattle.directory_calls.specs.directory_law.Payloads.{Text}
use Rattle.directory_calls.specs.Steps.{Leaves}
use Rattle.directory_calls.proofs.Going.{leaves_core}
use Rattle.directory_calls.proofs.Parts.{LearnsBy, Place}
use Rattle.text_reading.specs.Going.{ComesTo, freed, one_if}
use Rattle.text_reading.specs.Reading.{AreBytesOf, HasRead}
use Rattle.text_reading.proofs.Cuts.{HasLeft, left_none}
use Rattle.text_reading.proofs.LetGo.{rest_is, with_hold}
use Rattle.text_reading.proofs.Steps.{comes_then}
use Rattle.text_reading.proofs.Running.{IsUpTo, ran_to}

module _ {P V : Type 0} (fits : List ℕ → Type 0) (d : DomainState P) (l : Place V) (s : SlotId)
    (old : SeatState V) (owns : 0 < times s old.view.core.owned) (n left : ℕ) (bytes : List ℕ)
    (w : Option ℕ) (slot : SlotId) (now : SeatState V)
    (up : IsUpTo fits d l s n left bytes w slot old now) where
  module _ (new : SeatState V)
      (moves : ComesTo (one_if w) (freed w now.view.core) now.view.core new.view.core)
      (client : new.view.client ≡ now.view.client)
      (knows : KnowsStill (freed w now.view.core) now new) where
    core_new : ComesTo (up.steps + one_if w) old.view.core old.view.core new.view.core
    core_new =
        comes_then up.steps (one_if w) old.view.core (with_hold w slot old.view.core)
        old.view.core now.view.core new.view.core up.core (
          moves.0,
          moves.1 ∙ ap (λ (v : CoreView). record v { trail = now.view.core.trail ++ moves.0 })
              (rest_is old now w slot up.core up.free),
          moves.2,
        )

    knows_new : KnowsStill old.view.core old new
    knows_new x has =
        knows x (subst (λ (v : CoreView). HasSlot (show_seat v) x)
        (sym (rest_is old now w slot up.core up.free)) has)
        ∙ up.knows x has

    pub text_leaves : Leaves old.view.core.owned old.view.core.weaks old new
    text_leaves = leaves_core old new old.view.core core_new.0 core_new.1 refl knows_new

    pub text_room : HasRoom old.view.core → HasRoom new.view.core
    text_room room = subst HasRoom (sym core_new.1) room

    pub text_makes : new.view.core.makes ≡ old.view.core.makes
    text_makes = ap (λ (v : CoreView). v.makes) core_new.1

    pub text_adds : new.view.core.adds ≡ old.view.core.adds
    text_adds = ap (λ (v : CoreView). v.adds) core_new.1

    pub text_few : length new.view.core.trail ≤ length old.view.core.trail + (16 + 20 * n)
    text_few =
        let most = up.few in
        let all : length new.view.core.trail
        ≡ length old.view.core.trail + (up.steps + one_if w) =
        ap (λ (v : CoreView). length v.trail) core_new.1
        ∙ (length-append old.view.core.trail core_new.0
        ∙ ap (λ (k : ℕ). length old.view.core.trail + k) core_new.2) in
        omega (arith, most, all)

    pub text_learns : LearnsBy l 0 old.view.client new.view.client
    text_learns = subst (λ v. LearnsBy l 0 old.view.client v) (sym client) up.learns

    pub text_read : left ≡ 0 → (text : Text) × AreBytesOf fits bytes text
        × HasRead l.seen s text new
    text_read none = (
      up.before,
      record { same = up.read; fit = up.fit },
      record {
        ran = ran_to s old up.before slot now;
        earlier = up.earlier;
        last = ap (λ v. (l.seen v).ran) client ∙ up.ran;
        slot = refl;
        life = ap (λ (o : Object). o.life)
            (sym (knows_new s (holds_has old.view.core s (omega (arith, owns)))));
        whole = refl;
        is = left_none up.before
            (subst (λ (k : ℕ). HasLeft k up.before) none up.some_left);
      },
    )
