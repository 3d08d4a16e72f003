-- A slot that waits in a seat's dying list stays there until the seat destroys it.
use Rattle.std.proofs.Common.{◌≡◌, ◌≢◌, ℕ, ◌<◌, ◌≤◌, Bool, true, false, List, [], ◌∷◌, refl, sym, arith}
use Rattle.std.specs.Prelude.{◌==◌, nat_lt, if◌then◌else◌, Option, Some, None}
use Rattle.plain_protocol.specs.plain_state.declared.slot.Kind.{Kind}
use Rattle.plain_protocol.specs.plain_state.declared.slot.Kind.TheVariants.{Strong, Weak, Disposal}
use Rattle.plain_protocol.specs.plain_state.declared.slot.SlotId.{SlotId}
use Rattle.plain_protocol.specs.plain_state.Lists.{Entry, times}
use Rattle.plain_protocol.specs.plain_state.Places.{place_kind}
use Rattle.plain_protocol.specs.plain_state.Steps.{word_of}
use Rattle.plain_protocol.proofs.Below.plain_state_Kit.{times_push}
use Rattle.core_law.specs.core_events.declared.act.Act.{Act}
use Rattle.core_law.specs.core_events.declared.act.Act.TheVariants as act
use Rattle.core_law.specs.core_events.declared.shape.Shape.{Shape}
use Rattle.core_law.specs.core_events.declared.view.CoreView.{CoreView}
use Rattle.core_law.specs.core_events.declared.view.Phase.{Phase}
use Rattle.core_law.specs.core_events.Words.{bit_in}
use Rattle.core_law.specs.counter_word.Words.{ZERO, has_help, value}
use Rattle.core_law.specs.core_events.Views.{note_of, slot_of}
use Rattle.core_law.specs.core_events.Steps.{changed, ended, exchanged, given_up, is_last, is_valid, paid}
use Rattle.core_law.proofs.Kit.{times_append, one_other, times_without}

module _ (s : SlotId) (v : CoreView) where
  -- the slot stands in the dying list of u as often as in that of v
  abbrev Waits : CoreView → Type 0
  Waits u = times s v.dying ≤ times s u.dying

  pick : (b : Bool) (x y : CoreView) → Waits x → Waits y → Waits (if b then x else y)
  pick true x y left right = left
  pick false x y left right = right

  gives : (k : Kind) (x : SlotId) (w : ℕ) (u : CoreView) → Waits u → Waits (given_up k x w u)
  gives Strong x w u waits = waits
  gives Weak x w u waits = waits
  gives Disposal x w u waits = waits

  pays : (w : ℕ) (es : List Entry) → Waits (paid w es v)
  pays w [] = omega arith
  pays w (e ∷ es) = gives e.0 e.1 w (record v { owed = es }) (omega arith)

  ends : (b : Bool) (x : Option SlotId) (next : Phase) → Waits (ended b x next v)
  ends true None next = let p = times_append s v.dying [] in omega arith
  ends true (Some x) next = let p = times_push s x v.dying in omega arith
  ends false x next = omega arith

  puts : (k : Kind) (new : Option SlotId) (w : ℕ) → Waits (exchanged k new w v)
  puts Strong None w = omega arith
  puts Weak None w = omega arith
  puts Disposal None w = omega arith
  puts Strong (Some x) w = omega arith
  puts Weak (Some x) w = omega arith
  puts Disposal (Some x) w = omega arith

  pub dying_stays : (z : Shape) (a : Act) (w : ℕ)
      → ((x : SlotId) → a ≡ act.Destroy x → (s.0 ≢ x.0) × (0 < times x v.dying))
      → Waits (changed z a w v)
  dying_stays z (act.Add x) w other = pick (nat_lt w ZERO) _ _ (omega arith) (omega arith)
  dying_stays z (act.Drop x) w other = omega arith
  dying_stays z act.Pay w other = pays w v.owed
  dying_stays z act.Finish w other = ends (w == 0) (slot_of v.phase) _
  dying_stays z act.Take w other = ends (has_help w) (slot_of v.phase) _
  dying_stays z (act.Count x) w other = pick (w == 0) _ _ (omega arith) (omega arith)
  dying_stays z act.Mark w other = omega arith
  dying_stays z (act.Announce j k x) w other = omega arith
  dying_stays z (act.Release j) w other = omega arith
  dying_stays z (act.Look p) w other = omega arith
  dying_stays z (act.Check j p) w other =
      pick (is_valid w (note_of v j)) _ _ (omega arith) (omega arith)
  dying_stays z (act.Alive j) w other = pick (nat_lt 0 (value w)) _ _ (omega arith) (omega arith)
  dying_stays z act.Scan w other = pick (is_last z v) _ _ (omega arith) (omega arith)
  dying_stays z (act.Swap p new) w other = puts (place_kind p) new w
  dying_stays z (act.Cas p old new) w other =
      pick (w == word_of old) _ _ (puts (place_kind p) new w) (omega arith)
  dying_stays z (act.Claim x) w other = pick (bit_in x w == 1) _ _ (omega arith) (omega arith)
  dying_stays z act.Arm w other = omega arith
  dying_stays z (act.Fill i x) w other = omega arith
  dying_stays z act.Start w other = omega arith
  dying_stays z (act.See x i) w other = omega arith
  dying_stays z act.Free w other = omega arith
  dying_stays z act.Ticket w other = omega arith
  dying_stays z (act.Wadd x) w other = omega arith
  dying_stays z (act.Wdrop x) w other = omega arith
  dying_stays z (act.Destroy x) w other =
      let o = other x refl in
      let n = one_other s x (λ e. o.0 (sym e)) in
      let t = times_without s x v.dying o.1 in omega arith
  dying_stays z (act.Wcount x) w other = omega arith
  dying_stays z (act.Leave j) w other = omega arith
