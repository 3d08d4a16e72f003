-- What the law of observers gives a caller: to whom deliveries are, and that these observers live.
use Rattle.std.proofs.Common.{◌≡◌, ⊎_elim, ℕ, ◌<◌, false, List, length, ap, sym, ◌∙◌, arith, Some}
use Rattle.std.proofs.lemmas.Bool.{cases_lt, false≢true}
use Rattle.std.proofs.lemmas.List.{get_or_past}
use Rattle.plain_protocol.specs.plain_state.declared.act.PlainAct.TheVariants as act
use Rattle.plain_protocol.specs.plain_state.declared.slot.PlainSlot.{PlainSlot}
use Rattle.plain_protocol.specs.plain_state.declared.slot.SlotId.{SlotId}
use Rattle.plain_protocol.specs.plain_state.declared.slot.Stage.TheVariants.{Live}
use Rattle.plain_protocol.specs.plain_state.Lawful.{Lawful}
use Rattle.plain_protocol.specs.plain_state.References.{strong_refs, held_in, strong_fields}
use Rattle.plain_protocol.specs.plain_state.State.{Plain, slot_at, stage_at, new_slot}
use Rattle.plain_protocol.specs.plain_state.Steps.{Does}
use Rattle.plain_protocol.proofs.Below.plain_state_Kit.{slots_at, held_self}
use Rattle.watch_law.specs.Payloads.{IsDelivery}
use Rattle.watch_law.specs.Views.{Address, View, IsAddressed, WasRead}
use Rattle.watch_law.specs.Law.{Area, IsTo, WatchLaw}
use Rattle.watch_law.specs.Promises.{IsGiven, LivesOn, SameObserver}

-- TO WHOM
pub address_holds : (z : Area) (p : Plain) (views : List View) → WatchLaw z p views → (a : Address)
    → IsAddressed views a → LivesOn p a → IsTo p a
address_holds z p views law a noted lives = (law.addressed a noted).holds lives.0 lives.1

pub one_address : (z : Area) (p : Plain) (views : List View) → WatchLaw z p views
    → (a b : Address) → IsAddressed views a → IsAddressed views b → a.slot ≡ b.slot
    → a.life ≡ b.life → a ≡ b
one_address z p views law = law.once

pub field_given : (z : Area) (p : Plain) (views : List View) → WatchLaw z p views
    → (d o : SlotId) → stage_at p d ≡ Live → IsDelivery (slot_at p d).payload
    → (slot_at p d).first ≡ Some o → IsGiven p views d o
field_given z p views law d o live is first =
    let noted = law.fields d o live is first in
    record {
      address = noted.address;
      noted = noted.noted;
      slot = noted.slot;
      life = noted.life;
      observer = noted.observer;
      is = address_holds z p views law noted.address noted.noted (
        ap (λ r. stage_at p r) noted.slot ∙ live,
        ap (λ r. (slot_at p r).life) noted.slot ∙ sym noted.life,
      );
    }

pub same_observer : (z : Area) (p q : Plain) (views after : List View) (a : Address)
    → WatchLaw z p views → WatchLaw z q after → IsAddressed views a → IsAddressed after a
    → LivesOn p a → LivesOn q a → SameObserver p q a
same_observer z p q views after a law later noted still lives lives_on =
    let before = address_holds z p views law a noted lives in
    let now = address_holds z q after later a still lives_on in
    record { first = now.first ∙ sym before.first; is = now.first; life = now.life ∙ sym before.life }

pub read_holds : (z : Area) (p : Plain) (views : List View) (a : Address) → WatchLaw z p views
    → WasRead views a → LivesOn p a → IsTo p a
read_holds z p views a law was = address_holds z p views law a (law.read a was)

-- WHO LIVES
-- what stands in a field has a strong reference
first_refs : (p : Plain) (x s : SlotId) → (slot_at p x).first ≡ Some s → 0 < strong_refs p s
first_refs p x s is = ⊎_elim
    (λ low. let fields = slots_at (strong_fields s) p.slots x.0 low in
    let held : held_in s (slot_at p x).first ≡ 1 = ap (held_in s) is ∙ held_self s in omega arith)
    (λ past.
    let none = ap (λ (y : PlainSlot). y.first) (get_or_past p.slots x.0 new_slot past) in
    let both = sym none ∙ is in absurd cc)
    (cases_lt x.0 (length p.slots))

pub observer_lives : (p : Plain) (a : Address) → Lawful p → IsTo p a
    → (stage_at p a.observer ≡ Live) × ((slot_at p a.observer).marked ≡ false)
observer_lives p a lawful to = lawful.strong a.observer (first_refs p a.slot a.observer to.first)

pub add_succeeds : (p q : Plain) (n found : ℕ) (s : SlotId) → Lawful p → 0 < strong_refs p s
    → Does p n (act.Add s) found q → found ≡ 0
add_succeeds p q n found s lawful refs does = ⊎_elim (λ up. up.0)
    (λ dead. absurd (false≢true (sym (lawful.strong s refs).1 ∙ dead.1))) does.1.1

pub dead_has_none : (p q : Plain) (n : ℕ) (s : SlotId) → Lawful p → Does p n (act.Add s) 1 q
    → strong_refs p s ≡ 0
dead_has_none p q n s lawful does = ⊎_elim
    (λ some. let up = add_succeeds p q n 1 s lawful some does in absurd (omega arith))
    (λ none. omega arith)
    (cases_lt 0 (strong_refs p s))
