-- What a look at the item of the node after the head's notes, and what a look at the head cell tells where there was
-- none.
use Rattle.std.proofs.Common.{◌≡◌, ◌≢◌, ⊎_elim, ℕ, zero, suc, ◌+◌, ◌<◌, ◌≤◌, length, ap, sym, ◌∙◌, subst, arith}
use Rattle.std.proofs.lemmas.List.{get_or_past}
use Rattle.queue_protocol.specs.plain_state.declared.act.EventPlace.TheVariants.{Cell}
use Rattle.queue_protocol.specs.plain_state.declared.act.PlainAct.{PlainAct}
use Rattle.queue_protocol.specs.plain_state.declared.slot.PlainSlot.{PlainSlot}
use Rattle.queue_protocol.specs.plain_state.State.{Plain, new_slot}
use Rattle.queue_protocol.specs.plain_protocol.Laws as laws
use Rattle.queue_protocol.specs.plain_protocol.Owns.{OwnPart}
use Rattle.slot_store.specs.acquire_retire.Calls.{same_view}
use Rattle.queue_protocol.specs.queue_law.declared.view.View.{View}
use Rattle.queue_protocol.specs.queue_law.Chain.{Ends, sent}
use Rattle.queue_protocol.specs.queue_law.Law.{QueueLaw, WholeLaw}
use Rattle.queue_protocol.specs.queue_law.Lessons.{ItemReady, Reads, TellsNothing}
use Rattle.queue_protocol.specs.queue_law.Notes.{Sees}
use Rattle.queue_protocol.specs.queue_law.Owned.{Keeps}
use Rattle.queue_protocol.specs.queue_law.Views.{first_view}
use Rattle.queue_protocol.specs.queue_law.Words.{cell_at, code, held_times, life_in, second_of, slot_at}
use Rattle.queue_protocol.proofs.Below.queue_law_Calm.{calm_queue, quiet_on}
use Rattle.queue_protocol.proofs.Below.queue_law_Chain.{the_head}
use Rattle.queue_protocol.proofs.Below.queue_law_Effects.{calm_quiet}
use Rattle.queue_protocol.proofs.Below.queue_law_Kit.{referred, refs_second}
use Rattle.queue_protocol.proofs.Below.queue_law_Lessons as lessons
use Rattle.queue_protocol.proofs.Below.queue_law_Lessons.{reads_calm, reads_found}
use Rattle.queue_protocol.proofs.Below.queue_law_Notes.{sees_at_on, unchanged}
use Rattle.queue_protocol.proofs.Below.queue_law_Seen.{reseen, seen_here}
use Rattle.queue_protocol.proofs.Below.queue_law_Whole.{Tells, whole_deed, whole_told}

-- the item's word; where there is none, the word of a slot that isn't there, if there are so many slots
abbrev pub item_or_gone : ℕ → ℕ → ℕ
item_or_gone slots zero = slots + 1
item_or_gone slots (suc s) = suc s

abbrev pub see_item_next : ℕ → OwnPart → OwnPart → View → PlainAct → ℕ → View
see_item_next slots own after v step found =
    record v { eyes = record v.eyes { found = item_or_gone slots found } }

-- a look at the head cell by a seat that found no item behind a node that it holds
pub record GoneReady (u : Ends) (slots : ℕ) (own : OwnPart) (v : View) (step : PlainAct) : Type 0
  where
    pub node : ℕ
    pub next : ℕ
    pub reads : Reads (Cell u.head) step
    pub held : 0 < held_times node own.seat
    pub seen : v.eyes.node ≡ node + 1
    pub seen_life : life_in own node ≡ v.eyes.life
    pub following : v.eyes.following ≡ next + 1
    pub gone : v.eyes.found ≡ slots + 1

-- if there are no more slots than so many, the head cell holds another node than the one that was seen
abbrev pub GoneTells : Ends → ℕ → Plain → Plain → ℕ → View → View → Type 0
GoneTells u slots p q n v w = length p.slots ≤ slots → cell_at p u.head ≢ v.eyes.node

-- THE ITEM is noted lawfully: where there is none, the head has passed the node, and then any note is
is_noted : (slots x f : ℕ) → x + 1 ≡ f → x + 1 ≡ item_or_gone slots f
is_noted slots x zero is = absurd (omega arith)
is_noted slots x (suc s) is = is

item_deed : (u : Ends) (slots : ℕ) → Keeps (QueueLaw u) ItemReady (see_item_next slots)
item_deed u slots p q views n v step found lawful law is stays_on r d =
    let f = reads_found p q n found (second_of r.node) step r.reads d in
    let h = law.0 in let ts = law.1 in let t = law.2 in let c = law.3.chain in
    let w = calm_quiet p q n step found lawful (reads_calm (second_of r.node) step r.reads) d in
    let after = calm_queue u p q views h ts t w law.3 in
    let at_head = the_head u p h (length ts) t c
    (law.3.known.attached n (ap (λ (y : View). y.attached) is.1 ∙ r.attached)) in
    let s = subst (λ (z : View). Sees p h (length ts) t z.eyes) is.1 (law.3.known.sees n)
    (λ z. let e = r.seen in omega arith) in
    let i = s.0 in
    let on = quiet_on u p q h (length ts) t c w in
    let a = sees_at_on p q h h (length ts) (length ts) t t v.eyes i (unchanged h) (omega arith)
    (omega arith) on s.1 in (
      h,
      ts,
      t,
      reseen u q views n v (record v.eyes { found = item_or_gone slots found }) h ts t after is.0
          is.1
          (λ z. (
            i,
            record {
              inside = a.inside;
              node = a.node;
              life = a.life;
              was_head = a.was_head;
              was_tail = a.was_tail;
              next = a.next;
              leads = a.leads;
              item = λ follows is_some below.
                  let u = a.next follows in
                  let node : (sent h (i + 1)).node ≡ r.node =
                  let y = r.following in let x = u.1 in omega arith in
                  is_noted slots (sent h (i + 1)).item.slot found
                  (sym (at_head.items (i + 1) (omega arith) u.0).0
                  ∙ (ap (λ z. (slot_at p z).second) node ∙ sym f.0));
              before = a.before;
              helped = a.helped;
              passed = a.passed;
            },
          )),
    )

pub see_item_keeps : (u : Ends) (slots : ℕ)
    → laws.Keeps (WholeLaw u) first_view ItemReady (see_item_next slots) TellsNothing
see_item_keeps u slots = whole_deed u ItemReady (see_item_next slots)
    (λ own v step r j e. ⊎_elim (λ l. let z = sym l ∙ e in absurd cc)
    (λ l. let z = sym l.1 ∙ e in absurd cc) r.reads)
    (item_deed u slots)

-- THE HEAD has gone on: else the next node's item would be a slot that isn't there
gone_deed : (u : Ends) (slots : ℕ) → Keeps (QueueLaw u) (GoneReady u slots) same_view
gone_deed u slots p q views n v step found lawful law is stays_on r d =
    let w = calm_quiet p q n step found lawful (reads_calm (Cell u.head) step r.reads) d in
    lessons.same_view u q views n v is.1
    (law.0, law.1, law.2, calm_queue u p q views law.0 law.1 law.2 w law.3)

gone_tells : (u : Ends) (slots : ℕ) → Tells u (GoneReady u slots) same_view (GoneTells u slots)
gone_tells u slots p q views n v step found lawful law at r d few still =
    let h = law.0 in let ts = law.1 in let t = law.2 in let c = law.3.chain in
    let seen = r.seen in
    let a = the_head u p h (length ts) t c (λ z. omega arith) in
    let s = seen_here u p views n v r.node h ts t lawful law.3 at r.held r.seen r.seen_life in
    let i = s.0.0 in
    let here : (sent h (length ts)).node ≡ (sent h i).node =
    let z = a.holds in let y = s.1 in omega arith in
    let first : i ≡ length ts = c.apart i (length ts) s.0.1.inside a.inside (sym here)
    (sym s.2.1 ∙ (ap (λ z. (slot_at p z).life) (sym here) ∙ a.is.1)) in
    let following = r.following in
    let gone = r.gone in
    let next = s.0.1.next (λ z. omega arith) in
    let item = s.0.1.item (λ z. omega arith) (λ z. omega arith) (omega arith) in
    let has = a.items (i + 1) (omega arith) next.0 in
    let held = has.0 in
    let refs = refs_second p (sent h (i + 1)).node slots (omega arith) in
    let live = (referred p lawful slots refs).0 in
    let none = ap (λ (x : PlainSlot). code x.stage) (get_or_past p.slots slots new_slot few) in
    absurd (omega arith)

pub gone_keeps : (u : Ends) (slots : ℕ)
    → laws.Keeps (WholeLaw u) first_view (GoneReady u slots) same_view (GoneTells u slots)
gone_keeps u slots = whole_told u (GoneReady u slots) same_view (GoneTells u slots)
    (λ own v step r j e. ⊎_elim (λ l. let z = sym l ∙ e in absurd cc)
    (λ l. let z = sym l.1 ∙ e in absurd cc) r.reads)
    (gone_deed u slots) (gone_tells u slots)
