-- The deciding link of a push, in a linked queue.
use Rattle.std.proofs.Common.{◌≡◌, ⊎_elim, ℕ, ◌+◌, ◌<◌, ◌≤◌, true, List, [], ◌∷◌, ◌++◌, length, set, refl, ap, sym, ◌∙◌, subst, arith}
use Rattle.std.proofs.lemmas.Bool.{false≢true}
use Rattle.plain_protocol.specs.plain_state.State.{Plain, seat_at}
use Rattle.plain_protocol.specs.plain_state.Lawful.{Lawful}
use Rattle.plain_protocol.specs.plain_state.Steps.{Does}
use Rattle.plain_protocol.specs.Owns.{own_part}
use Rattle.queue_law.specs.Words.{slot_at, times, held_times}
use Rattle.queue_law.specs.Views.{Linked, Taken, View, view_at}
use Rattle.queue_law.specs.Chain.{Ends, Sent, sent, Present, HasItem, WasLinked}
use Rattle.queue_law.specs.Notes.{Sees, SeesAt, Flies}
use Rattle.queue_law.specs.Law.{Queue, QueueLaw}
use Rattle.queue_law.specs.Writes.{FirstSet}
use Rattle.queue_law.specs.Owned.{Keeps}
use Rattle.queue_law.specs.Pushes.{PushReady, carried_item, LinkReady, linked_view, link_next}
use Rattle.queue_law.proofs.Kit.{held_live, own_life}
use Rattle.queue_law.proofs.Effects.{tried_first}
use Rattle.queue_law.proofs.Chain.{one_form, present_in, old_node, new_node, longer}
use Rattle.queue_law.proofs.ChainGrows.{link_last, lead_link, lead_new, link_chain}
use Rattle.queue_law.proofs.Notes.{grows, LeadsOn, flies_on}
use Rattle.queue_law.proofs.Calm.{same_law, to_true, to_false}
use Rattle.queue_law.proofs.Pushing.{push_sees, push_new, push_unlinked, push_has, push_keeps}

-- field 0 of the node that was seen, which the tail cell held, was null and gets the seat's own node
module _ (u : Ends) (p q : Plain) (views : List View) (n : ℕ) (v : View) (last node : ℕ)
    (lawful : Lawful p) (h : List Sent) (ts : List Taken) (t : ℕ) (law : Queue u p views h ts t)
    (low : n < length views) (at : view_at views n ≡ v) (owned : 0 < times node (seat_at p n).owned)
    (r : PushReady (own_part p n) v node) (linked : u.form ≡ Linked)
    (held : 0 < held_times last (seat_at p n)) (seen : v.eyes.node ≡ last + 1)
    (seen_life : (slot_at p last).life ≡ v.eyes.life) (tailed : v.eyes.was_tail ≡ true)
    (null : (slot_at p last).first ≡ 0) (w : FirstSet p q last (node + 1)) where
  abbrev e : Sent
  e = record { node = node; life = v.load.life; item = carried_item v; sender = v.number }

  sees : (i : ℕ) × SeesAt p h (length ts) t v.eyes i
  sees =
      push_sees u p q views n v node lawful h ts t law low at owned r w.objects w.second
      (λ z. omega arith)

  at_last : (sent h sees.0).node ≡ last
  at_last = let a = sees.1.node in omega arith

  here : Present p (sent h sees.0)
  here =
      present_in u p h (length ts) t law.chain sees.0 last sees.1.inside at_last
      (held_live p n last lawful held) (seen_life ∙ sym sees.1.life)

  is_null : (slot_at p (sent h sees.0).node).first ≡ 0
  is_null = ap (λ z. (slot_at p z).first) at_last ∙ null

  write : FirstSet p q (sent h sees.0).node (node + 1)
  write = subst (λ z. FirstSet p q z (node + 1)) (sym at_last) w

  new : Present p e
  new = push_new u p q views n v node lawful h ts t law low at owned r w.objects w.second

  unlinked : ¬ (WasLinked h e.node e.life)
  unlinked = push_unlinked u p q views n v node lawful h ts t law low at owned r w.objects w.second

  has : HasItem p e
  has = push_has u p q views n v node lawful h ts t law low at owned r w.objects w.second

  near : sees.0 ≤ t
  near = sees.1.was_tail tailed

  ends : sees.0 + 1 ≡ length h
  ends =
      link_last u p q h (length ts) t sees.0 e law.chain linked sees.1.inside here is_null near new unlinked
      has write

  on : LeadsOn p q h (h ++ e ∷ [])
  on =
      lead_link u p q h (length ts) t sees.0 e law.chain linked sees.1.inside here is_null near new unlinked
      has write

  sees_now : Sees q (h ++ e ∷ []) (length ts) t (linked_view v).eyes
  sees_now is_some =
      let s = sees.1 in
      let i = sees.0 in
      let z = longer h e in
      let l = ends in
      let a = old_node h e i s.inside in (
        i,
        record {
          inside = omega arith;
          node = ap (λ (z : Sent). z.node + 1) a ∙ s.node;
          life = ap (λ (z : Sent). z.life) a ∙ s.life;
          was_head = λ f. absurd (false≢true f);
          was_tail = λ f. near;
          next = λ f. (
            omega arith,
            ap (λ (z : Sent). z.node + 1) (new_node h e (i + 1) (omega arith))
                ∙ sym r.fresh,
          );
          leads = λ f x. lead_new u p q h
              (length ts) t i e law.chain linked s.inside here is_null near new
              unlinked has write i l;
          item = λ f found. absurd (found refl);
          before = λ f. absurd (f refl);
          helped = λ f. absurd (false≢true f);
          passed = λ f. absurd (false≢true f);
        },
      )

  pub link_keeps : Queue u q (set views n (linked_view v)) (h ++ e ∷ []) ts t
  link_keeps =
      push_keeps u p q views n v node lawful h ts t law low at owned r w.objects w.second t
      (linked_view v).eyes v.flight (omega arith) (let x = sees.1.inside in omega arith) w.back
      (w.cells u.head)
      (link_chain u p q h (length ts) t sees.0 e law.chain linked sees.1.inside here is_null near new
      unlinked has write)
      on sees_now
      (flies_on h (h ++ e ∷ []) v.flight (grows h e)
      (subst (λ (z : View). Flies h z.flight) at (law.known.flies n)))
      (λ d. absurd (one_form u.form linked d))

pub link_deed : (u : Ends) → Keeps (QueueLaw u) (LinkReady u) link_next
link_deed u p q views n v step found lawful law is stays_on r d =
    let st = tried_first p q n r.last r.node found lawful (subst (λ a. Does p n a found q) r.act_is d) in
    ⊎_elim
    (λ hit.
    let held = st.1 in
    let life = sym (own_life p n r.last held) ∙ r.seen_life in
    let null : (slot_at p r.last).first ≡ 0 = sym st.0 ∙ hit.0 in
    let k = link_keeps u p q views n v r.last r.node lawful law.0 law.1 law.2 law.3 is.0 is.1 hit.1 r.push
    r.form held r.seen life r.was_tail null hit.2 in
    subst (λ z. QueueLaw u q (set views n z)) (to_true found 0 v (linked_view v) hit.0) (_, _, _, k))
    (λ miss.
    subst (λ z. QueueLaw u q (set views n z)) (to_false found 0 v (linked_view v) miss.0)
    (same_law u p q views n v is.0 is.1 miss.1 law))
    st.2
