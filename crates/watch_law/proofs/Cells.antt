-- What the cell of an id holds is what its seat put there last.
use Rattle.std.proofs.Common.{◌≡◌, ⊎_elim, ℕ, ◌<◌, true, List, [], ◌∷◌, refl, ap, sym, ◌∙◌, Option, Some, None}
use Rattle.std.specs.Prelude.{if◌then◌else◌, ◌↔◌}
use Rattle.std.proofs.lemmas.Bool.Decides.{eqb_tells}
use Rattle.plain_protocol.specs.plain_state.declared.slot.SlotId.{SlotId}
use Rattle.plain_protocol.specs.plain_state.State.{Plain, slot_at, stage_at}
use Rattle.plain_protocol.specs.Calm.{IsMade}
use Rattle.watch_law.specs.Payloads.{IsObserverOf}
use Rattle.watch_law.specs.Views.{Subscribed, View, view_at, last}
use Rattle.watch_law.specs.Law.{Area, WatchLaw, KnowsCell, cell, owner}
use Rattle.watch_law.specs.Promises.{SubscribedLast}
use Rattle.watch_law.proofs.Quiet.{none_some}

pub cell_observer : (z : Area) (p : Plain) (views : List View) → WatchLaw z p views → (c : ℕ)
    (s : SlotId) → c < z.cells → cell z p c ≡ Some s
    → IsMade (stage_at p s) × IsObserverOf c (slot_at p s).payload
cell_observer z p views law = law.cells

-- what is found for an id has this id
last_id : (c : ℕ) (es : List Subscribed) (e : Subscribed) → last c es ≡ Some e → e.id ≡ c
last_id c [] e is = absurd cc
last_id c (x ∷ es) e is = ⊎_elim
    (λ t. let same : Some x ≡ Some e = sym (ap (λ b. if b then Some x else last c es) t.0) ∙ is in
    let one : x ≡ e = cc in ap (λ (y : Subscribed). y.id) (sym one) ∙ t.1)
    (λ f. last_id c es e (sym (ap (λ b. if b then Some x else last c es) f.0) ∙ is))
    (eqb_tells x.id c)

module _ (z : Area) (p : Plain) (c : ℕ) (s : SlotId) where
  known : (found : Option Subscribed) → KnowsCell z p c found → cell z p c ≡ Some s
      → ((e : Subscribed) → found ≡ Some e → e.id ≡ c)
      → found ≡ Some (record { id = c; slot = s; life = (slot_at p s).life })
  known None know at id_is = absurd (none_some s (cell z p c) know at)
  known (Some e) know at id_is =
      let same : Some e.slot ≡ Some s = sym know.0 ∙ at in
      let slot : e.slot ≡ s = cc in
      let life : e.life ≡ (slot_at p s).life = sym know.1 ∙ ap (λ r. (slot_at p r).life) slot in
      λ i. Some (record { id = id_is e refl i; slot = slot i; life = life i })

pub cell_last : (z : Area) (p : Plain) (views : List View) (n c : ℕ) → WatchLaw z p views
    → (view_at views n).here ≡ true → c < z.cells → owner z c ≡ n
    → (s : SlotId) → cell z p c ≡ Some s → SubscribedLast p (view_at views n) c s
cell_last z p views n c law here inside own s at =
    known z p c s (last c (view_at views n).subscribed) (law.own_cells n c here inside own) at
    (last_id c (view_at views n).subscribed)

null_known : (z : Area) (p : Plain) (c : ℕ) (found : Option Subscribed) → KnowsCell z p c found
    → (cell z p c ≡ None) ↔ (found ≡ None)
null_known z p c None know = ((λ at. refl), (λ none. know))
null_known z p c (Some e) know =
    ((λ at. absurd (none_some e.slot (cell z p c) at know.0)), (λ none. absurd cc))

pub cell_null : (z : Area) (p : Plain) (views : List View) (n c : ℕ) → WatchLaw z p views
    → (view_at views n).here ≡ true → c < z.cells → owner z c ≡ n
    → (cell z p c ≡ None) ↔ (last c (view_at views n).subscribed ≡ None)
cell_null z p views n c law here inside own =
    null_known z p c (last c (view_at views n).subscribed) (law.own_cells n c here inside own)
