-- Where nothing is linked and no push is in flight, all was popped.
use Rattle.std.proofs.Common.{◌≡◌, ⊎_elim, ℕ, List, [], ◌∷◌, refl, ap, sym, ◌∙◌, arith}
use Rattle.plain_protocol.specs.plain_state.State.{Plain}
use Rattle.queue_law.specs.Words.{slot_at}
use Rattle.queue_law.specs.Views.{Item, View, no_item}
use Rattle.queue_law.specs.Chain.{Ends}
use Rattle.queue_law.specs.Lists.{item_times, pushed_times, popped_times}
use Rattle.queue_law.specs.Law.{QueueLaw}
use Rattle.queue_law.specs.Lessons.{NothingLinked}
use Rattle.queue_law.specs.Promises.{Follows, NoFlights}
use Rattle.queue_law.proofs.Gives.{conserved}

items_of_none : (x : Item) → item_times x [] ≡ 0
unfolding item_times
items_of_none x = refl

-- where field 0 is null, no item follows
none_follow : (p : Plain) (s : ℕ) (xs : List Item) → (slot_at p s).first ≡ 0 → Follows p s xs → xs ≡ []
none_follow p s [] null follows = refl
none_follow p s (x ∷ xs) null follows = let e = follows.1 in absurd (omega arith)

pub all_popped : (u : Ends) (p : Plain) (views : List View) → QueueLaw u p views → NothingLinked u p
    → NoFlights u views → (x : Item) → pushed_times x views ≡ popped_times x views
all_popped u p views law nothing grounded x =
    let is = nothing.1 in
    let c = conserved u p views law (λ z. omega arith) in
    let w = c.waits in
    let h = w.head in
    let same : nothing.0 ≡ w.first = omega arith in
    let null : (slot_at p w.first).first ≡ 0 = ap (λ z. (slot_at p z).first) (sym same) ∙ nothing.2 in
    let linked = none_follow p w.first w.linked null w.follows in
    let none : c.waiting ≡ [] =
    ⊎_elim (λ all. all.same ∙ linked) (λ one. absurd (grounded one.double one.flies.0
    (record { node = one.last; life = (slot_at p one.last).life; item = no_item; sender = 0 }) one.flies.1)) w.which in
    let e = c.even x in
    let z = ap (item_times x) none ∙ items_of_none x in omega arith
