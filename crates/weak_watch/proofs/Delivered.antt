-- What the seat notes of a delivery that it made.
use Rattle.std.proofs.Common.{◌≡◌, ℕ, ◌+◌, ◌<◌, true, List, ap, sym, ◌∙◌, arith}
use Rattle.std.proofs.lemmas.Bool.Decides.{nat_tests}
use Rattle.std.specs.Prelude.{Err, IfOk, Ok, Result, if◌then◌else◌}
use Rattle.control_word.specs.plain_state.declared.act.PlainAct.{PlainAct}
use Rattle.control_word.specs.plain_state.declared.act.PlainAct.TheVariants as plain
use Rattle.control_word.specs.plain_state.declared.slot.SlotId.{SlotId}
use Rattle.control_word.specs.plain_state.Lists.{is_slot, times}
use Rattle.control_word.specs.counted_handles.Handles.{Handle}
use Rattle.control_word.proofs.Below.acquire_retire_Wholes.{then_ok}
use Rattle.control_word.specs.plain_protocol.Owns.{Object}
use Rattle.control_word.specs.domain_rule.Told.{changed_object}
use Rattle.control_word.specs.domain_rule.Views.{object_in, own_of}
use Rattle.control_word.specs.acquire_retire.Domains.{DomainState}
use Rattle.control_word.specs.acquire_retire.Seats.{SeatState}
use Rattle.part_calls.specs.slot_store.Calls.{Makes}
use Rattle.watch_protocol.specs.watch_law.declared.view.View.{View}
use Rattle.watch_protocol.specs.watch_law.Making.{DeliveryTells, delivery_next}
use Rattle.watch_protocol.specs.watch_law.News.{NewsView}
use Rattle.weak_watch.specs.Subjects.{seen, words}
use Rattle.weak_watch.proofs.Made.{fills_it, makes_it, own_life}
use Rattle.weak_watch.specs.Sending.{HasDelivery, made_in}

is_itself : (s : SlotId) → is_slot s s ≡ true
is_itself s = grind (arith, nat_tests)

pub then_both : {T E : Type 0} {A B C : T → Type 0} (r : Result T E) → IfOk r A → IfOk r B
    → ((x : T) → A x → B x → C x) → IfOk r C
then_both (Ok x) a b both = both x a b
then_both (Err e) a b both = tt

module _ {P : Type 0} (fits : List ℕ → Type 0) (d : DomainState P) (payload : List ℕ) (s : SlotId)
    (old new : SeatState View)
    (makes : Makes fits d delivery_next DeliveryTells payload s old new) where
  abbrev mid : SeatState View
  mid = makes.mid

  abbrev late : SeatState View
  late = makes.starts.walks.0

  born : (object_in new.view s).life ≡ (object_in mid.view s).life + 1
  born =
      ap (λ (x : SeatState View). (object_in x.view s).life) makes.starts.walks.2
      ∙ ap (λ (o : Object). o.life)
      (makes.starts.walks.1.told.objects s (fills_it fits d payload s old mid makes.begins))
      ∙ ap (λ (a : PlainAct). (changed_object a s (object_in mid.view s)).life)
      (makes_it fits d payload s old mid makes.begins)
      ∙ ap (λ b. (if b then record (object_in mid.view s) {
        life = (object_in mid.view s).life + 1;
      } else object_in mid.view s).life) (is_itself s)

  pub delivery_begun : 0 < (object_in new.view s).life
  delivery_begun = let e = born in omega (arith, e)

  pub delivery_noted : new.view.client ≡ made_in s new old.view.client
  delivery_noted =
      let step = makes.starts.walks.1 in
      ap (λ (x : SeatState View). x.view.client) makes.starts.walks.2
      ∙ step.told.client
      ∙ ap (λ (a : PlainAct). delivery_next (own_of mid.view) (own_of late.view) mid.view.client a
      step.word) (makes_it fits d payload s old mid makes.begins)
      ∙ ap (λ (v : View). delivery_next (own_of mid.view) (own_of late.view) v (plain.Make s)
      step.word) makes.begins.goes.client
      ∙ ap (λ n. record old.view.client { made = record { slot = s; life = n } })
      (ap (λ n. n + 1) (own_life s mid (fills_it fits d payload s old mid makes.begins))
      ∙ sym born)

-- whatever a make answers
module _ {P E : Type 0} (fits : List ℕ → Type 0) (d : DomainState P) (event : ℕ)
    (old new : SeatState NewsView) (r : Result Handle E)
    (makes : IfOk r (λ h. Makes fits d delivery_next DeliveryTells (words 2 event) h.slot (seen old)
    (seen new))) where
  pub delivered_noted : new.view.client.0 ≡ old.view.client.0
      → IfOk r (λ h. new.view.client
      ≡ (old.view.client.0, made_in h.slot new old.view.client.1))
  delivered_noted same = then_ok _ _ r (λ h m i. (
    same i,
    delivery_noted fits d (words 2 event) h.slot (seen old) (seen new) m i,
  )) makes

  pub delivered_has : IfOk r (λ h. 0 < times h.slot new.view.core.owned)
      → IfOk r (λ h. HasDelivery event h.slot new new.view.client.1)
  delivered_has owned = then_both r makes owned (λ h m own. record {
    owned = own;
    payload = ap (λ (o : Object). o.payload) m.object;
    begun = delivery_begun fits d (words 2 event) h.slot (seen old) (seen new) m;
    made = ap (λ (v : View). v.made)
        (delivery_noted fits d (words 2 event) h.slot (seen old) (seen new) m);
  })
