-- The cell of an id gets an observer.
use Rattle.std.proofs.Common.{◌≡◌, ◌≢◌, ⊎_elim, ℕ, ◌+◌, ◌<◌, true, List, ◌∷◌, length, set, refl, ap, sym, ◌∙◌, subst, arith, Option, Some, None}
use Rattle.std.specs.Prelude.{if◌then◌else◌}
use Rattle.std.proofs.lemmas.Bool.{cases_eq, eq-eqb}
use Rattle.std.proofs.lemmas.Bool.Decides.{eqb_tells}
use Rattle.std.proofs.lemmas.List.{get_or-set_same, get_or-set_other}
use Rattle.plain_protocol.specs.plain_state.declared.act.PlainAct.{PlainAct}
use Rattle.plain_protocol.specs.plain_state.declared.slot.SlotId.{SlotId}
use Rattle.plain_protocol.specs.plain_state.State.{Plain, PlainSeat, slot_at, stage_at}
use Rattle.plain_protocol.specs.plain_state.Steps.{Does}
use Rattle.plain_protocol.specs.Calm.{IsMade}
use Rattle.plain_protocol.specs.Laws.{Keeps}
use Rattle.plain_protocol.specs.Owns.{own_part}
use Rattle.protocol_pairs.proofs.Owning.{owned_live}
use Rattle.watch_law.specs.Payloads.{IsObserverOf}
use Rattle.protocol_pairs.proofs.Notes.{noted_cases}
use Rattle.watch_law.specs.Views.{Made, Subscribed, View, view_at, no_view, last}
use Rattle.watch_law.specs.Law.{Area, cell, owner, KnowsCell, Fresh, WatchLaw}
use Rattle.watch_law.specs.Steps.{life_in}
use Rattle.watch_law.specs.Writes.{SubscribeReady, subscribe_next, SubscribeTells}
use Rattle.watch_law.proofs.Own.{live_is_made, known_life, known_payload, owns_has}
use Rattle.watch_law.proofs.Changed.{at_view, SameNotes, same_notes, fresh_after, noted_after}

last_here : (c : ℕ) (e : Subscribed) (es : List Subscribed) → e.id ≡ c → last c (e ∷ es) ≡ Some e
last_here c e es is = ap (λ b. if b then Some e else last c es) (eq-eqb e.id c is)

last_else : (c : ℕ) (e : Subscribed) (es : List Subscribed) → e.id ≢ c → last c (e ∷ es) ≡ last c es
last_else c e es ne = ⊎_elim (λ t. absurd (ne t.1))
    (λ f. ap (λ b. if b then Some e else last c es) f.0) (eqb_tells e.id c)

module _ (z : Area) (p : Plain) (seats_after : List PlainSeat) (views : List View) (n c : ℕ) (s : SlotId)
    (l : ℕ) (low : n < length views) (inside : c < z.cells) (there : z.first + c < length p.weak_cells)
    (here : (view_at views n).here ≡ true) (seat : owner z c ≡ (view_at views n).number)
    (made : IsMade (stage_at p s)) (is : IsObserverOf c (slot_at p s).payload)
    (life : (slot_at p s).life ≡ l) (law : WatchLaw z p views) where
  abbrev q : Plain
  q = record p { seats = seats_after; weak_cells = set p.weak_cells (z.first + c) (Some s) }

  abbrev new : Subscribed
  new = record { id = c; slot = s; life = l }

  abbrev w : View
  w = record (view_at views n) { subscribed = new ∷ (view_at views n).subscribed }

  cell_here : cell z q c ≡ Some s
  cell_here = get_or-set_same p.weak_cells (z.first + c) (Some s) None there

  cell_else : (k : ℕ) → k ≢ c → cell z q k ≡ cell z p k
  cell_else k ne =
      get_or-set_other p.weak_cells (z.first + c) (z.first + k) (Some s) None (λ e. ne (omega arith))

  mine : owner z c ≡ n
  mine = seat ∙ law.number n here

  knows_else : (k : ℕ) (e : Option Subscribed) → k ≢ c → KnowsCell z p k e → KnowsCell z q k e
  knows_else k None ne know = cell_else k ne ∙ know
  knows_else k (Some e) ne know = (cell_else k ne ∙ know.0, know.1)

  same : SameNotes views (set views n w)
  same = same_notes views n w low refl

  some_slot : (r : SlotId) → Some s ≡ Some r → s ≡ r
  some_slot r e = cc

  pub law_subscribes : WatchLaw z q (set views n w)
  law_subscribes = record {
    cells = λ k r h at. ⊎_elim
        (λ (e : k ≡ c).
        let slot = some_slot r (sym cell_here ∙ (ap (λ i. cell z q i) (sym e) ∙ at)) in
        subst (λ x. IsMade (stage_at p x) × IsObserverOf k (slot_at p x).payload) slot
        (made, subst (λ i. IsObserverOf i (slot_at p s).payload) (sym e) is))
        (λ (ne : k ≢ c). law.cells k r h (sym (cell_else k ne) ∙ at))
        (cases_eq k c);
    own_cells = λ m k. at_view views n w
        (λ i v. v.here ≡ true → k < z.cells → owner z k ≡ i → KnowsCell z q k (last k v.subscribed))
        low
        (λ a h own. ⊎_elim
        (λ (e : k ≡ c). subst (KnowsCell z q k) (sym (last_here k new _ (sym e)))
        ((ap (λ i. cell z q i) e ∙ cell_here, life)))
        (λ (ne : k ≢ c). subst (KnowsCell z q k) (sym (last_else k new _ (λ e. ne (sym e))))
        (knows_else k _ ne (law.own_cells n k a h own)))
        (cases_eq k c))
        (λ i other a h own. ⊎_elim
        (λ (e : k ≡ c). absurd (other (sym own ∙ (ap (owner z) e ∙ mine))))
        (λ (ne : k ≢ c). knows_else k _ ne (law.own_cells i k a h own))
        (cases_eq k c))
        m;
    number = at_view views n w (λ k v. v.here ≡ true → v.number ≡ k) low (law.number n)
        (λ k ne. law.number k);
    fresh = at_view views n w (λ k v. 0 < v.made.life → Fresh q (set views n w) v.made) low
        (λ some. fresh_q (fresh_after p views (set views n w) _ same (law.fresh n some)))
        (λ k ne some. fresh_q (fresh_after p views (set views n w) _ same (law.fresh k some)));
    apart = λ i j. at_view views n w (λ k v. 0 < v.made.life
        → v.made.slot ≡ (view_at (set views n w) j).made.slot
        → v.made.life ≡ (view_at (set views n w) j).made.life → k ≡ j) low (apart_from n j)
        (λ k ne. apart_from k j) i;
    addressed = λ a now.
        let h = law.addressed a (same.was a now) in
        record {
          begun = h.begun;
          holds = λ live same_life.
              let t = h.holds live same_life in
              record {
                delivery = t.delivery;
                event = t.event;
                first = t.first;
                life = t.life;
                observer = t.observer;
              };
        };
    once = λ a b x y. law.once a b (same.was a x) (same.was b y);
    fields = λ d o live deliv first.
        noted_after views (set views n w) d _ o same (law.fields d o live deliv first);
    bare = λ r live own.
        let b = law.bare r live own in
        record { second = b.second; weak_field = b.weak_field; first = b.first };
    read = λ a now. same.still a (⊎_elim (λ has. law.read a (n, has)) (λ old. law.read a old)
        (noted_cases no_view (λ (v : View). v.read) views n w low a
        now));
  }
    where
      fresh_q : {e : Made} → Fresh p (set views n w) e
          → Fresh q (set views n w) e
      fresh_q f = record { begun = f.begun; null = f.null; loose = f.loose }

      apart_from : (k j : ℕ) → 0 < (view_at views k).made.life
          → (view_at views k).made.slot ≡ (view_at (set views n w) j).made.slot
          → (view_at views k).made.life ≡ (view_at (set views n w) j).made.life → k ≡ j
      apart_from k j = at_view views n w (λ m u. 0 < (view_at views k).made.life
          → (view_at views k).made.slot ≡ u.made.slot
          → (view_at views k).made.life ≡ u.made.life → k ≡ m) low (law.apart k n)
          (λ m ne. law.apart k m) j

pub subscribe_keeps : (z : Area) (c : ℕ) (s : SlotId)
    → Keeps (WatchLaw z) no_view (SubscribeReady z c s) (subscribe_next c s)
    (SubscribeTells z c s)
subscribe_keeps z c s p q views n step found meets low ready does =
    let d = subst (λ (a : PlainAct). Does p n a found q) ready.act_is does in
    let count = meets.count in
    let has = owns_has p n s ready.owned in
    let live = owned_live p n s meets.lawful (omega arith) ready.owned in
    let is = subst (IsObserverOf c) (known_payload p n s has) ready.is in
    let made = live_is_made (stage_at p s) live in
    let life = sym (known_life p n s has) in (
      subst (λ (r : Plain). WatchLaw z r (set views n (record (view_at views n) {
        subscribed = record { id = c; slot = s; life = life_in (own_part p n) s }
            ∷ (view_at views n).subscribed;
      }))) (sym d.1.2.2)
          (law_subscribes z p _ views n c s (life_in (own_part p n) s) low ready.inside d.1.0 ready.here
          ready.seat made is life meets.law),
      subst (λ (r : Plain). cell z r c ≡ Some s) (sym d.1.2.2)
          (get_or-set_same p.weak_cells (z.first + c) (Some s) None d.1.0),
    )
