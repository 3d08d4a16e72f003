-- How the deeds of a call follow one another, and that none of them loses an address.
use Rattle.std.proofs.Common.{◌≡◌, ⊎_elim, inl, inr, ℕ, suc, ◌+◌, [], ◌∷◌, ◌++◌, refl, ap, sym, ◌∙◌, subst, arith, Some}
use Rattle.std.specs.Prelude.{Contains, if◌then◌else◌, slice_index}
use Rattle.std.proofs.lemmas.Bool.{eq-eqb}
use Rattle.std.proofs.lemmas.List.Elements.{Contains-append_left, Contains-append_right, Contains-push}
use Rattle.plain_protocol.specs.plain_state.declared.act.EventPlace.TheVariants.{Field}
use Rattle.plain_protocol.specs.plain_state.declared.act.PlainAct.{PlainAct}
use Rattle.plain_protocol.specs.plain_state.declared.act.PlainAct.TheVariants as act
use Rattle.plain_protocol.specs.plain_state.declared.slot.SlotId.{SlotId}
use Rattle.plain_protocol.specs.Owns.{Object, OwnPart}
use Rattle.plain_protocol.specs.plain_state.Places.{HoldsStrongly}
use Rattle.plain_protocol.specs.Acts.{Owned}
use Rattle.protocol_pairs.specs.Parts.{Accepts}
use Rattle.protocol_pairs.specs.Spared.{IsSpared}
use Rattle.queue_law.specs.Chain.{Ends}
use Rattle.queue_law.specs.Owned.{owns}
use Rattle.queue_law.specs.declared.view.Item.{Item}
use Rattle.queue_law.specs.declared.view.View.{View as QueueView}
use Rattle.queue_law.specs.Words.{id}
use Rattle.watch_law.specs.Payloads.{IsDelivery, IsObserver, told}
use Rattle.watch_law.specs.Views.{Address, View}
use Rattle.watch_law.specs.Steps.{LooksAt, address_by, life_in, payload_in}
use Rattle.watch_law.specs.Making.{delivery_next}
use Rattle.watch_law.specs.Writes.{AddressReady, address_next}
use Rattle.watch_law.specs.Lessons.{ReadReady, read_next, reads, reads_word}
use Rattle.watch_law.specs.News.{NewsView, joined}
use Rattle.watch_law.specs.Pushes.{KeepsAll, MayPush}
use Rattle.watch_law.proofs.Lessons.{read_slot_is, reads_keep}

-- WHAT MAY BE PUSHED
pub addressed_may : (own after : OwnPart) (v : NewsView) (d o : SlotId) (step : PlainAct)
    (found : ℕ) (x : Item) → d ≡ id x.slot → life_in own d ≡ x.life
    → told (payload_in own d) ≡ told x.payload
    → MayPush (v.0, address_next d o own after v.1 step found) x
addressed_may own after v d o step found x slot life event =
    let a = address_by own d (own.objects o) o in
    inr (a, Contains-push v.1.addressed a, record { slot = slot; life = life; event = event })

pub kept_may : (v : NewsView) (w : QueueView) (x : Item) → MayPush v x → MayPush (w, v.1) x
kept_may v w x may = may

pub stays_may : (v : NewsView) (w : View) (x : Item) → KeepsAll v w → MayPush v x
    → MayPush (v.0, w) x
stays_may v w x keeps may =
    ⊎_elim (λ not. inl not) (λ a. inr (a.0, keeps a.0 a.1, a.2)) may

-- WHICH DEEDS KEEP ADDRESSES
pub address_keeps_all : (v : NewsView) (own after : OwnPart) (step : PlainAct) (found : ℕ)
    (d o : SlotId) → KeepsAll v (address_next d o own after v.1 step found)
address_keeps_all v own after step found d o a has =
    Contains-append_left v.1.addressed (address_by own d (own.objects o) o ∷ []) a has

pub read_keeps_all : (v : NewsView) (own after : OwnPart) (step : PlainAct) (found : ℕ)
    → KeepsAll v (read_next own after v.1 step found)
read_keeps_all v own after step found a has =
    subst (λ l. Contains l a) (sym (reads_keep own after v.1 step found)) has

pub joined_keeps_root : (v w : NewsView) → KeepsAll v (joined v w).1
joined_keeps_root v w a has = Contains-append_left v.1.addressed w.1.addressed a has

pub joined_keeps_leaver : (v w : NewsView) (a : Address) → Contains w.1.addressed a
    → Contains (joined v w).1.addressed a
joined_keeps_leaver v w a has = Contains-append_right v.1.addressed w.1.addressed a has

-- DELIVERIES
pub made_is_addressed : (own after later : OwnPart) (v : View) (d o : SlotId) (step : PlainAct)
    (found : ℕ) → life_in later d ≡ life_in own d + 1 → IsObserver (payload_in later o)
    → step ≡ act.Replace (Field d 0) (Some o)
    → AddressReady d o later (delivery_next own after v (act.Make d) found) step
made_is_addressed own after later v d o step found life observer is = record {
  act_is = is;
  made = refl;
  some = omega arith;
  life = life;
  observer = observer;
}

pub found_is_noted : (own after : OwnPart) (v : View) (d : SlotId) (step : PlainAct) (o : ℕ)
    (x : Object) → LooksAt (Field d 0) step → IsDelivery (payload_in own d)
    → after.objects (id o) ≡ Some x
    → (read_next own after v step (suc o)).read ≡ v.read ++ address_by own d (Some x) (id o) ∷ []
found_is_noted own after v d step o x looks is has =
    ap (λ s. (reads_word s own after v (suc o)).read) (read_slot_is d step looks)
    ∙ (ap (λ y. (reads own d y (id o) v).read) has
    ∙ ap (λ b. (if b then record v { read = v.read ++ address_by own d (Some x) (id o) ∷ [] }
    else v).read) (eq-eqb (slice_index (payload_in own d) 0) 2 is))

looks_spared : (owned : Owned) (own : OwnPart) (d : SlotId) (step : PlainAct)
    → LooksAt (Field d 0) step → IsSpared owned own step
looks_spared owned own d step looks = ⊎_elim
    (λ look. subst (IsSpared owned own) (sym look) tt)
    (λ check. subst (IsSpared owned own) (sym check.1) tt)
    looks

pub pop_reads : (u : Ends) (own : OwnPart) (v : NewsView) (d : SlotId) (step : PlainAct)
    → LooksAt (Field d 0) step → HoldsStrongly own.seat d
    → ReadReady own v.1 step × IsSpared (owns u) own step
    × Accepts KeepsAll read_next (λ (w : NewsView). w.1) own v step
pop_reads u own v d step looks held = (
  record { slot = d; looks = looks; held = held },
  looks_spared (owns u) own d step looks,
  λ after found. read_keeps_all v own after step found,
)
