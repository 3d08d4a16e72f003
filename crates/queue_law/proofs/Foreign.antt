-- Foreign steps keep the law.
use Rattle.std.proofs.Common.{◌≡◌, ◌≢◌, inl, inr, ⊎_elim, ℕ, ◌+◌, Bool, true, false, List, length, get_or, refl, ap, sym, ◌∙◌, subst, arith, Option, None}
use Rattle.std.specs.Prelude.{cond, ◌==◌, ◌&&◌, nat_lt, if◌then◌else◌}
use Rattle.plain_protocol.specs.plain_state.State.{Plain, PlainSeat, seat_at, new_seat, new_slot, no_payload}
use Rattle.plain_protocol.specs.plain_state.Lawful.{Lawful}
use Rattle.plain_protocol.specs.plain_state.Steps.{Does, Replaces, word_of}
use Rattle.plain_protocol.specs.plain_state.Places.{content, IsOpen, IsReadable}
use Rattle.plain_protocol.specs.plain_state.declared.slot.SlotId.{SlotId}
use Rattle.plain_protocol.specs.plain_state.declared.slot.PlainSlot.{PlainSlot}
use Rattle.plain_protocol.specs.plain_state.declared.act.EventPlace.{EventPlace}
use Rattle.plain_protocol.specs.plain_state.declared.act.EventPlace.TheVariants.{Cell, Field, WeakCell, WeakField}
use Rattle.plain_protocol.specs.plain_state.declared.act.PlainAct.{PlainAct}
use Rattle.plain_protocol.specs.plain_state.declared.act.PlainAct.TheVariants as act
use Rattle.plain_protocol.specs.Acts.{IsCalm, IsForeign}
use Rattle.queue_law.specs.Words.{slot_at, code, id}
use Rattle.queue_law.specs.Views.{Taken, View, view_at}
use Rattle.queue_law.specs.Chain.{Ends, Sent, sent, Present, Leads, WasLinked, Chain}
use Rattle.queue_law.specs.Law.{Queue, QueueLaw}
use Rattle.queue_law.specs.Writes.{CellSet, Quiet, Aside}
use Rattle.queue_law.specs.Owned.{owns}
use Rattle.plain_protocol.specs.plain_state.State as state
use Rattle.plain_protocol.specs.plain_state.Places.{with_field}
use Rattle.queue_law.proofs.Kit.{held_live}
use Rattle.queue_law.proofs.Effects.{calm_quiet, live_range, Wrote, wrote, wrote_objects, slots_of, cells_of, replaced_cell, makes}
use Rattle.queue_law.proofs.Chain.{chain_present, same_solid, same_has, same_known, same_is_node, same_tail}
use Rattle.queue_law.proofs.Notes.{unchanged, LeadsOn, sees_on, carries_on}
use Rattle.queue_law.proofs.Counts.{phase_same}
use Rattle.queue_law.proofs.Calm.{calm_queue}
use Rattle.queue_law.proofs.Make.{make_queue}

-- a write that the queue doesn't read
module _ (u : Ends) (p q : Plain) (views : List View) (h : List Sent) (ts : List Taken) (t : ℕ)
    (law : Queue u p views h ts t) (w : Aside u p q) where
  was_at : (e : Sent) → Present q e → Present p e
  was_at e at = let o = w.objects in
      (sym (o.stage e.node) ∙ at.0, sym (o.life e.node) ∙ at.1, sym (o.payload e.node) ∙ at.2)

  is_at : (e : Sent) → Present p e → Present q e
  is_at e at = let o = w.objects in (o.stage e.node ∙ at.0, o.life e.node ∙ at.1, o.payload e.node ∙ at.2)

  lead' : (i : ℕ) → Present p (sent h i) → Leads p h i → Leads q h i
  lead' i at l = (w.first (sent h i).node at.2 ∙ l.0, is_at (sent h (i + 1)) l.1)

  aside_chain : Chain u q h (length ts) t
  aside_chain =
      let c = law.chain in
      let ob = w.objects in
      record {
        head = ⊎_elim
            (λ z. inl (w.head ∙ z))
            (λ a. inr (record {
              inside = a.inside;
              holds = w.head ∙ a.holds;
              is = is_at (sent h (length ts)) a.is;
              items = λ i after low.
                  let e = sent h i in
                  let at = chain_present u p h (length ts) t c a i (omega arith) low in
                  same_has p q ob e.node e.item (w.second e.node at.2) (a.items i after low);
            }))
            c.head;
        tail = same_tail p q ob u h t w.tail w.head c.tail;
        lag = c.lag;
        links = λ i low at.
            let was = was_at (sent h i) at in
            ⊎_elim
            (λ l. inl (lead' i was l))
            (λ m. inr (record {
              double = m.double;
              last = m.last;
              ahead = m.ahead;
              null = w.first (sent h i).node was.2 ∙ m.null;
            }))
            (c.links i low was);
        ends = λ i low at. let was = was_at (sent h i) at in w.first (sent h i).node was.2
            ∙ c.ends i low was;
        backs = λ double i low at.
            let was = was_at (sent h (i + 1)) at in
            let b = c.backs double i low was in
            (w.back (sent h (i + 1)).node was.2 ∙ b.0, same_solid p q ob _ _ b.1);
        first_back = λ double low at.
            let was = was_at (sent h 0) at in w.back (sent h 0).node was.2 ∙ c.first_back double low was;
        strays = λ s live node not.
            let nd = sym (ob.payload s) ∙ node in
            w.first s nd
            ∙ c.strays s (sym (ob.stage s) ∙ live) nd
            (λ l. not (subst (WasLinked h s) (sym (ob.life s)) l));
        apart = c.apart;
        known = λ i low. same_known p q ob (sent h i) (c.known i low);
        nodes = λ i low. same_is_node p q ob (sent h i) (c.nodes i low);
      }

  on : LeadsOn p q h h
  on i low l at = let was = was_at (sent h i) at in lead' i was (l was)

  pub aside_queue : Queue u q views h ts t
  aside_queue = let o = law.known in let ob = w.objects in record {
    chain = aside_chain;
    known = record {
      sees = λ m. sees_on p q h h (length ts) (length ts) t t (view_at views m).eyes (unchanged h)
          (omega arith) (omega arith) on (o.sees m);
      emptied = o.emptied;
      carries = λ m. let k = o.carries m in carries_on p q h h (view_at views m).load (record {
        unlinked = λ j e l. l;
        life = λ j e. let a = ob.life j in omega arith;
        payload = λ j e live life. ob.payload j;
        was = λ j e live life. let lv = sym (ob.stage j) ∙ live in let lf = sym (ob.life j) ∙ life in
            (lv, lf, λ x ex at. (w.second j (k.node j e lv lf) ∙ at, ob.life x, ob.payload x));
        backed = λ j e live life. w.back j
            (k.node j e (sym (ob.stage j) ∙ live) (sym (ob.life j) ∙ life));
      }) k;
      flies = o.flies;
      apart = o.apart;
      number = o.number;
      attached = λ m e z. o.attached m e (sym w.head ∙ z);
    };
    flights = λ double i e at null. let was = was_at (sent h i) at in
        law.flights double i e was (sym (w.first (sent h i).node was.2) ∙ null);
    counted = law.counted;
    ordered = law.ordered;
    phase = phase_same u p q h ts (view_at views 0) (view_at views 0) w.head (inr w.tail) refl law.phase;
  }

cell_aside : (u : Ends) (p q : Plain) (c new : ℕ) → CellSet p q c new → c ≢ u.head → c ≢ u.tail
    → Aside u p q
cell_aside u p q c new w a b =
    record {
      objects = w.objects;
      first = λ j e. w.first j;
      second = λ j e. w.second j;
      back = λ j e. w.back j;
      head = w.other u.head (λ e. a (sym e));
      tail = w.other u.tail (λ e. b (sym e));
    }

pub none_aside : (u : Ends) (p q : Plain) → q.slots ≡ p.slots → q.cells ≡ p.cells → Aside u p q
none_aside u p q slots cells =
    let at : (j : ℕ) → state.slot_at q (id j) ≡ state.slot_at p (id j) =
    λ j. ap (λ l. get_or l j state.new_slot) slots in
    record {
      objects = record {
        stage = λ j. ap (λ (z : PlainSlot). code z.stage) (at j);
        life = λ j. ap (λ (z : PlainSlot). z.life) (at j);
        payload = λ j. ap (λ (z : PlainSlot). z.payload)
            (at j);
      };
      first = λ j e. ap (λ (z : PlainSlot). word_of z.first) (at j);
      second = λ j e. ap (λ (z : PlainSlot). word_of z.second) (at j);
      back = λ j e. ap (λ (z : PlainSlot). word_of z.weak_field) (at j);
      head = ap (λ l. word_of (get_or l u.head None)) cells;
      tail = ap (λ l. word_of (get_or l u.tail None)) cells;
    }

-- another part's object
slot_aside : (u : Ends) (p q : Plain) (t : ℕ) (x : PlainSlot) → Wrote p q t x
    → x.stage ≡ (state.slot_at p (id t)).stage → x.life ≡ (state.slot_at p (id t)).life
    → x.payload ≡ (state.slot_at p (id t)).payload → (slot_at p t).payload ≢ no_payload → Aside u p q
slot_aside u p q t x w a b c not =
    let else_at : (j : ℕ) → (slot_at p j).payload ≡ no_payload → state.slot_at q (id j) ≡ state.slot_at p
    (id j) = λ j e. w.other j (λ is. not (ap (λ z. (slot_at p z).payload) (sym is) ∙ e)) in
    record {
      objects = wrote_objects p q t x w a b c;
      first = λ j e. ap (λ (z : PlainSlot). word_of z.first) (else_at j e);
      second = λ j e. ap (λ (z : PlainSlot). word_of z.second) (else_at j e);
      back = λ j e. ap (λ (z : PlainSlot). word_of z.weak_field) (else_at j e);
      head = w.cells u.head;
      tail = w.cells u.tail;
    }

with_field_same : {A : Type 0} (f : PlainSlot → A) (i : ℕ) (new : Option SlotId) (x : PlainSlot)
    → ((y : Option SlotId) → f (record x { first = y }) ≡ f x)
    → ((y : Option SlotId) → f (record x { second = y }) ≡ f x) → f (with_field i new x) ≡ f x
with_field_same {A} f i new x a b = go (i == 0)
  where
    go : (z : Bool) → f (Rattle.std.specs.Prelude.if◌then◌else◌ z (record x { first = new })
        (record x { second = new })) ≡ f x
    go true = a new
    go false = b new

foreign_write : (u : Ends) (p q : Plain) (n : ℕ) (at : EventPlace) (new : Option SlotId) → Lawful p
    → IsForeign (owns u) p (act.Replace at new) → Rattle.plain_protocol.specs.plain_state.Places.IsOpen p n at
    → Replaces p n at new q → Aside u p q
foreign_write u p q n (Cell c) new lawful f o r = cell_aside u p q c (word_of new)
    (replaced_cell p q n c new o r) (λ e. f (inl e)) (λ e. f (inr e))
foreign_write u p q n (Field s i) new lawful f o r = slot_aside u p q s.0
    (with_field i new (state.slot_at p s))
    (wrote p q s.0 _ (live_range p s.0 (held_live p n s.0 lawful o.1)) (slots_of _ q r.2)
    (cells_of _ q r.2))
    (with_field_same (λ z. z.stage) i new (state.slot_at p s) (λ y. refl) (λ y. refl))
    (with_field_same (λ z. z.life) i new (state.slot_at p s) (λ y. refl) (λ y. refl))
    (with_field_same (λ z. z.payload) i new (state.slot_at p s) (λ y. refl) (λ y. refl)) f
foreign_write u p q n (WeakCell c) new lawful f o r = none_aside u p q (slots_of _ q r.2)
    (cells_of _ q r.2)
foreign_write u p q n (WeakField s) new lawful f o r = slot_aside u p q s.0 _
    (wrote p q s.0 _ (live_range p s.0 (held_live p n s.0 lawful o)) (slots_of _ q r.2)
    (cells_of _ q r.2)) refl refl refl f

pub aside_law : (u : Ends) (p q : Plain) (views : List View) → QueueLaw u p views → Aside u p q
    → QueueLaw u q views
aside_law u p q views law w = (law.0, law.1, law.2, aside_queue u p q views law.0 law.1 law.2 law.3 w)

quiet_law : (u : Ends) (p q : Plain) (views : List View) → QueueLaw u p views → Quiet p q
    → QueueLaw u q views
quiet_law u p q views law w = (law.0, law.1, law.2, calm_queue u p q views law.0 law.1 law.2 w law.3)

module _ (u : Ends) (p q : Plain) (n : ℕ) (found : ℕ) (views : List View) (lawful : Lawful p)
    (law : QueueLaw u p views) where
  pub calm : (step : PlainAct) → IsCalm step → Does p n step found q → QueueLaw u q views
  calm step is d = quiet_law u p q views law (calm_quiet p q n step found lawful is d)

  pub foreign : (step : PlainAct) → IsForeign (owns u) p step → Does p n step found q → QueueLaw u q views
  foreign (act.Make s) f d = (
    law.0,
    law.1,
    law.2,
    make_queue u p q s.0 views law.0 law.1 law.2 lawful law.3
        (makes p q n s found lawful d),
  )
  foreign (act.Replace at new) f d = aside_law u p q views law
      (foreign_write u p q n at new lawful f d.1.0 d.1.2)
  foreign (act.TryReplace at a b) f d = ⊎_elim
      (λ hit. aside_law u p q views law (foreign_write u p q n at b lawful f d.1.0 hit.1))
      (λ miss. subst (λ z. QueueLaw u z views) (sym miss.1) law) d.1.2
  foreign (act.Claim s) f d = calm (act.Claim s) tt d
  foreign (act.Fill s i word) f d = calm (act.Fill s i word) tt d
  foreign (act.Add s) f d = calm (act.Add s) tt d
  foreign (act.Drop s) f d = calm (act.Drop s) tt d
  foreign (act.WeakGain s) f d = calm (act.WeakGain s) tt d
  foreign (act.WeakDrop s) f d = calm (act.WeakDrop s) tt d
  foreign (act.Look at) f d = calm (act.Look at) tt d
  foreign (act.Check j at) f d = calm (act.Check j at) tt d
  foreign (act.Alive j) f d = calm (act.Alive j) tt d
  foreign (act.EndSnapshot k s) f d = calm (act.EndSnapshot k s) tt d
  foreign (act.Count s) f d = calm (act.Count s) tt d
  foreign (act.Mark s) f d = calm (act.Mark s) tt d
  foreign (act.WeakCount s) f d = calm (act.WeakCount s) tt d
  foreign (act.See s i) f d = calm (act.See s i) tt d
  foreign (act.Eject k s) f d = calm (act.Eject k s) tt d
  foreign (act.End s) f d = calm (act.End s) tt d
  foreign (act.Clear at) f d = calm (act.Clear at) tt d
  foreign (act.Destroy s) f d = calm (act.Destroy s) tt d
  foreign (act.Give s) f d = calm (act.Give s) tt d
  foreign (act.Leave j) f d = absurd f
  foreign act.Split f d = calm act.Split tt d
  foreign act.Ticket f d = aside_law u p q views law
      (none_aside u p q (slots_of _ q d.1.1) (cells_of _ q d.1.1))
  foreign act.Still f d = calm act.Still tt d
