-- What the joint law gives a caller: to whom pushed deliveries are, and what seat 0 knows in the end.
use Rattle.std.proofs.Common.{◌≡◌, ◌≢◌, ⊎_elim, true, List, sym, ap, subst, ◌∙◌, Some}
use Rattle.std.specs.Prelude.{Contains, if◌then◌else◌, None}
use Rattle.std.proofs.lemmas.Bool.{cases_eq}
use Rattle.plain_protocol.specs.plain_state.declared.slot.Stage.TheVariants.{Live}
use Rattle.plain_protocol.specs.plain_state.State.{Plain, slot_at, stage_at}
use Rattle.plain_protocol.specs.Owns.{is_alone, own_part}
use Rattle.protocol_pairs.proofs.Notes.{none_in}
use Rattle.queue_law.specs.declared.view.Item.{Item}
use Rattle.queue_law.specs.Chain.{Ends}
use Rattle.queue_law.specs.Words.{id}
use Rattle.queue_law.proofs.Alone.{alone_at}
use Rattle.watch_law.specs.Payloads.{IsDelivery}
use Rattle.watch_law.specs.Views.{Address, View, view_at, IsAddressed, WasRead}
use Rattle.watch_law.specs.Law.{Area, IsTo}
use Rattle.watch_law.specs.News.{IsOf, NewsLaw, NewsView, WasPushed, queues, watches}

pub pushed_has : (u : Ends) (z : Area) (p : Plain) (views : List NewsView) (x : Item)
    → NewsLaw u z p views → WasPushed (queues views) x → IsDelivery x.payload
    → (a : Address) × IsAddressed (watches views) a × IsOf a x
pushed_has u z p views x law was is = law.sent x was is

pub one_observer : (u : Ends) (z : Area) (p : Plain) (views : List NewsView) (x : Item)
    (a b : Address) → NewsLaw u z p views → IsAddressed (watches views) a
    → IsAddressed (watches views) b → IsOf a x → IsOf b x → a ≡ b
one_observer u z p views x a b law noted other is also =
    law.both.1.once a b noted other (is.slot ∙ sym also.slot) (is.life ∙ sym also.life)

pub pushed_is_to : (u : Ends) (z : Area) (p : Plain) (views : List NewsView) (x : Item)
    (a : Address) → NewsLaw u z p views → IsAddressed (watches views) a → IsOf a x
    → stage_at p (id x.slot) ≡ Live → (slot_at p (id x.slot)).life ≡ x.life → IsTo p a
pushed_is_to u z p views x a law noted is live life =
    (law.both.1.addressed a noted).holds (ap (λ r. stage_at p r) is.slot ∙ live)
    (ap (λ r. (slot_at p r).life) is.slot ∙ (life ∙ sym is.life))

-- ONCE SEAT 0 IS ALONE
module _ (u : Ends) (z : Area) (p : Plain) (views : List NewsView) (law : NewsLaw u z p views)
    (alone : is_alone p 0 ≡ true) where
  whole : (own_part p 0).whole ≡ Some p
  whole = ap (λ b. if b then Some p else None) alone

  in_root : (a : Address) → IsAddressed (watches views) a
      → Contains (view_at (watches views) 0).addressed a
  in_root a noted = ⊎_elim
      (λ (is : noted.0 ≡ 0).
      subst (λ m. Contains (view_at (watches views) m).addressed a) is noted.1)
      (λ (ne : noted.0 ≢ 0).
      absurd (none_in a (subst (λ (v : View). Contains v.addressed a)
      (law.left noted.0 ((alone_at p 0 p whole).2 noted.0 ne)) noted.1)))
      (cases_eq noted.0 0)

pub root_addressed : (u : Ends) (z : Area) (p : Plain) (views : List NewsView) (a : Address)
    → NewsLaw u z p views → is_alone p 0 ≡ true → IsAddressed (watches views) a
    → Contains (view_at (watches views) 0).addressed a
root_addressed u z p views a law alone = in_root u z p views law alone a

pub root_read : (u : Ends) (z : Area) (p : Plain) (views : List NewsView) (a : Address)
    → NewsLaw u z p views → is_alone p 0 ≡ true → WasRead (watches views) a
    → Contains (view_at (watches views) 0).addressed a
root_read u z p views a law alone was =
    in_root u z p views law alone a (law.both.1.read a was)

pub root_pushed : (u : Ends) (z : Area) (p : Plain) (views : List NewsView) (x : Item)
    → NewsLaw u z p views → is_alone p 0 ≡ true → WasPushed (queues views) x
    → IsDelivery x.payload
    → (a : Address) × Contains (view_at (watches views) 0).addressed a × IsOf a x
root_pushed u z p views x law alone was is =
    let sent = law.sent x was is in
    (sent.0, in_root u z p views law alone sent.0 sent.1, sent.2)
