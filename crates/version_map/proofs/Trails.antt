-- What an event of a part of a call is of the whole call.
use Rattle.std.proofs.Common.{ℕ, List, ◌∷◌, ◌++◌, ap, sym, ◌∙◌, append_assoc}
use Rattle.version_making.specs.protected_loads.plain_state.State.{Plain}
use Rattle.version_making.specs.protected_loads.core_events.declared.view.CoreView.{CoreView}
use Rattle.version_making.specs.protected_loads.core_events.declared.view.Move.{Move}
use Rattle.version_making.specs.protected_loads.acquire_retire.Domains.{DomainState}
use Rattle.version_making.specs.protected_loads.acquire_retire.Seats.{SeatState}
use Rattle.version_making.specs.protected_loads.core_events.Shows.{shows}
use Rattle.version_reading.specs.map_law.declared.view.View.{View}
use Rattle.version_reading.specs.map_protocol.declared.law.MapLaw.{MapLaw}
use Rattle.version_reading.specs.Reading.{AtALook, GoesOn, Saw}

pub goes_then : (u v w : CoreView) → GoesOn u v → GoesOn v w → GoesOn u w
goes_then u v w first second = (
  first.0 ++ second.0,
  second.1
      ∙ (ap (λ (t : List Move). t ++ second.0) first.1 ∙ append_assoc u.trail first.0 second.0),
)

pub saw_within : (c word : ℕ) (u v w x : CoreView) → GoesOn u v → Saw c word v.trail w.trail
    → GoesOn w x → Saw c word u.trail x.trail
saw_within c word u v w x first saw last = record {
  before = first.0 ++ saw.before;
  event = saw.event;
  after = saw.after ++ last.0;
  trail = last.1
      ∙ (ap (λ (t : List Move). t ++ last.0)
      (saw.trail ∙ ap (λ (t : List Move). t ++ (saw.before ++ saw.event ∷ saw.after)) first.1)
      ∙ (append_assoc (u.trail ++ first.0) (saw.before ++ saw.event ∷ saw.after) last.0
      ∙ (append_assoc u.trail first.0 ((saw.before ++ saw.event ∷ saw.after) ++ last.0)
      ∙ ap (λ (t : List Move). u.trail ++ t)
      (ap (λ (t : List Move). first.0 ++ t) (append_assoc saw.before (saw.event ∷ saw.after) last.0)
      ∙ sym (append_assoc first.0 saw.before (saw.event ∷ saw.after ++ last.0))))));
  showed = saw.showed;
}

module _ (d : DomainState MapLaw) (c : ℕ) where
  pub look_within : (fact : Plain → Type 0) (s t u v : SeatState View)
      → GoesOn s.view.core t.view.core → AtALook d c fact t u → GoesOn u.view.core v.view.core
      → AtALook d c fact s v
  look_within fact s t u v first look last = record {
    before = look.before;
    after = look.after;
    found = look.found;
    looks = look.looks;
    since = goes_then s.view.core t.view.core look.before.view.core first look.since;
    till = goes_then look.after.view.core u.view.core v.view.core look.till last;
    holds = look.holds;
  }

  pub look_also : (fact more : Plain → Type 0) (s t : SeatState View)
      → ((p : Plain) → fact p → more p) → AtALook d c fact s t → AtALook d c more s t
  look_also fact more s t follows look = record {
    before = look.before;
    after = look.after;
    found = look.found;
    looks = look.looks;
    since = look.since;
    till = look.till;
    holds = follows (shows d.shape look.looks.told.happened.before) look.holds;
  }
