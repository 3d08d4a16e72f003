-- What an event that is enabled finds in its word, what its answer tells, and how much may be deferred.
use Rattle.std.specs.Prelude.{ℕ, ◌≡◌, ◌+◌, ◌*◌, ◌<◌, ◌≤◌, length}
use Rattle.core_law.specs.plain_state.declared.slot.Kind.TheVariants.{Strong, Disposal}
use Rattle.core_law.specs.plain_state.declared.slot.SlotId.{SlotId}
use Rattle.core_law.specs.core_events.declared.act.Act.{Act}
use Rattle.core_law.specs.core_events.declared.act.Act.TheVariants as act
use Rattle.core_law.specs.core_events.declared.outcome.Outcome.{Outcome}
use Rattle.core_law.specs.core_events.declared.outcome.Outcome.TheVariants as outcome
use Rattle.core_law.specs.core_events.declared.shape.Shape.{Shape}
use Rattle.core_law.specs.core_events.declared.view.CoreView.{CoreView}
use Rattle.core_law.specs.counter_word.Words.{ZERO, HELP, low}
use Rattle.core_law.specs.core_events.declared.view.Note.TheVariants as note
use Rattle.core_law.specs.core_events.declared.view.Phase.TheVariants as phase
use Rattle.core_law.specs.core_events.Views.{note_of, room_of}
use Rattle.core_law.specs.core_events.Counts.{refs, total}
use Rattle.core_law.specs.core_events.Runs.{Core, found, view_at}

-- A counter word never wraps: what adds finds the count below the flags, with room for one more, and what
-- takes away finds a count. A drop finds it without the zero flag.
abbrev pub NeverWraps : Shape → Core → ℕ → Act → Type 0
NeverWraps z c n (act.Add s) = low (found z c n (act.Add s)) + 1 < HELP
NeverWraps z c n (act.Drop s) = (0 < found z c n (act.Drop s)) × (found z c n (act.Drop s) < ZERO)
NeverWraps z c n act.Pay = 0 < found z c n act.Pay
NeverWraps z c n act.Ticket = found z c n act.Ticket + 1 < ZERO
NeverWraps z c n (act.Wadd s) = found z c n (act.Wadd s) + 1 < ZERO
NeverWraps z c n (act.Wdrop s) = 0 < found z c n (act.Wdrop s)
NeverWraps z c n (act.Destroy s) = 0 < found z c n (act.Destroy s)
NeverWraps z c n a = Unit {0}

-- Where a seat is told that an object is dead, or that it has ended one, nothing refers to it strongly.
-- Where it is told that an object is alive, something does.
abbrev pub TellsTruly : Shape → Core → ℕ → Act → Outcome → Type 0
TellsTruly z c n (act.Add s) o = o ≡ outcome.Dead → refs Strong z c s ≡ 0
TellsTruly z c n act.Finish o =
    o ≡ outcome.Ended → (s : SlotId) → (view_at c n).phase ≡ phase.Finish s → refs Strong z c s ≡ 0
TellsTruly z c n act.Take o =
    o ≡ outcome.Ended → (s : SlotId) → (view_at c n).phase ≡ phase.Help s → refs Strong z c s ≡ 0
TellsTruly z c n (act.Alive j) o =
    o ≡ outcome.Alive → (s : SlotId) → note_of (view_at c n) j ≡ note.Announced Disposal s
    → 0 < refs Strong z c s
TellsTruly z c n a o = Unit {0}

-- the decrements that a seat has deferred
abbrev pub deferred : CoreView → ℕ
deferred v = length v.retired + length v.owed

-- all seats together have deferred at most a share each, and a seat other than 0 at most its own share
pub record DeferredFit (z : Shape) (c : Core) : Type 0 where
  pub together : total deferred c.views ≤ z.seats * room_of z
  pub alone : (n : ℕ) → 0 < n → n < z.seats → deferred (view_at c n) ≤ room_of z
