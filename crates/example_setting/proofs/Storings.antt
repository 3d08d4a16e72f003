-- A seat that makes an object and gives its reference away has what it had.
use Rattle.std.proofs.Common.{◌≡◌, ◌<◌, ℕ, List, [], ◌∷◌, ◌++◌, refl, sym, subst, ◌∙◌, arith, Some}
use Rattle.std.specs.Prelude.{◌↔◌, Err, Result}
use Rattle.std.proofs.lemmas.Bool.Decides.{nat_tests}
use Rattle.cdrc.specs.plain_state.declared.slot.SlotId.{SlotId}
use Rattle.cdrc.specs.plain_state.declared.slot.Kind.TheVariants.{Strong}
use Rattle.cdrc.specs.plain_state.Lists.{times}
use Rattle.cdrc.specs.plain_protocol.Owns.{HasSlot}
use Rattle.cdrc.specs.core_events.declared.view.CoreView.{CoreView}
use Rattle.cdrc.specs.core_events.declared.view.Move.{Move}
use Rattle.cdrc.specs.core_events.Shows.{show_seat}
use Rattle.cdrc.specs.core_events.Steps.{without_given}
use Rattle.cdrc.proofs.Below.core_law_Kit.{one_same, times_push, times_without}
use Rattle.cdrc.specs.control_word.Moves.{KnowsStill}
use Rattle.cdrc.specs.acquire_retire.Seats.{SeatState}
use Rattle.cdrc.specs.acquire_retire.Domains.{DomainState}
use Rattle.cdrc.specs.claim_law.Claims.{makes_given}
use Rattle.cdrc.specs.control_word.Resting.{IsSpent}
use Rattle.cdrc.specs.slot_store.Calls.{HasNoMake, with_made}
use Rattle.cdrc.specs.slot_store.Searching.{Misses}
use Rattle.cdrc.specs.slot_store.declared.making.MakeError.{MakeError}
use Rattle.cdrc.specs.slot_store.declared.making.MakeError.TheVariants as unmade
use Rattle.example_setting.specs.Calls.{IsWhyUnmade}
use Rattle.example_setting.specs.Views.{View}

-- it owns each slot as often as before
pub gives_made : (s x : SlotId) (v : CoreView)
    → times x (without_given Strong (Some s) (with_made s v)).owned ≡ times x v.owned
gives_made s x v =
    let here = times_push s s v.owned in
    let one = one_same s s refl in
    let more = times_push x s v.owned in
    let fewer = times_without x s (v.owned ++ s ∷ []) (omega arith) in omega arith

-- the seat that made s is still to know what it knew, once it has given s
pub knows_given : {V : Type 0} (s : SlotId) (t : List Move) (old mid new : SeatState V)
    → mid.view.core ≡ record (with_made s old.view.core) { trail = t }
    → KnowsStill old.view.core old mid
    → KnowsStill (without_given Strong (Some s) mid.view.core) mid new
    → KnowsStill old.view.core old new
knows_given s t old mid new core made stored x has =
    let same = gives_made s x old.view.core in
    let now : HasSlot (show_seat (without_given Strong (Some s) (record (with_made s old.view.core) { trail = t }))) x =
    grind (arith, nat_tests) in
    stored x (subst (λ v. HasSlot (show_seat (without_given Strong (Some s) v)) x) (sym core) now)
    ∙ made x has

-- why no object was made, by what the make tells
pub why_unmade : {P A : Type 0} (kind : List ℕ → Type 0) (d : DomainState P)
    (old new : SeatState View) (r : Result A MakeError) (e : MakeError) → r ≡ Err e
    → (r ≡ Err unmade.MakesSpent ↔ HasNoMake old.view.core)
    → (r ≡ Err unmade.AddsSpent ↔ ((HasNoMake old.view.core → ⊥) × IsSpent old.view.core))
    → (r ≡ Err unmade.MakesSpent → new ≡ old) → (r ≡ Err unmade.AddsSpent → new ≡ old)
    → (r ≡ Err unmade.Full → Misses kind d old new)
    → (r ≡ Err unmade.Full → d.shape.slots < makes_given d.terms) → IsWhyUnmade kind d e old new
why_unmade kind d old new r unmade.MakesSpent is makes adds no_make no_add full only =
    (makes.0 is, no_make is)
why_unmade kind d old new r unmade.AddsSpent is makes adds no_make no_add full only =
    ((adds.0 is).0, (adds.0 is).1, no_add is)
why_unmade kind d old new r unmade.Full is makes adds no_make no_add full only =
    (full is, only is)
