-- Field 0 of a delivery gets an observer.
use Rattle.std.proofs.Common.{◌≡◌, ◌≢◌, ◌⊎◌, inl, inr, ⊎_elim, ℕ, ◌<◌, true, List, [], ◌∷◌, ◌++◌, length, set, refl, ap, sym, ◌∙◌, subst, arith, Option, Some, None}
use Rattle.std.specs.Prelude.{slice_index}
use Rattle.std.proofs.lemmas.List.{get_or-set_same, get_or-set_other}
use Rattle.std.proofs.lemmas.List.Elements.{Contains-append_left, Contains-push, Contains-push_cases}
use Rattle.plain_protocol.specs.plain_state.declared.slot.PlainSlot.{PlainSlot}
use Rattle.plain_protocol.specs.plain_state.declared.slot.SlotId.{SlotId}
use Rattle.plain_protocol.specs.plain_state.declared.slot.Stage.TheVariants.{Free, Live}
use Rattle.plain_protocol.specs.plain_state.State.{Plain, PlainSeat, new_slot, slot_at, stage_at}
use Rattle.plain_protocol.proofs.Below.plain_state_Kit.{cases_slot}
use Rattle.plain_protocol.specs.Calm.{IsMade}
use Rattle.protocol_pairs.proofs.Notes.{noted_cases, noted_here, noted_still}
use Rattle.watch_law.specs.Payloads.{IsObserver, IsDelivery, IsOwn, IsObserverOf, told}
use Rattle.watch_law.specs.Views.{Subscribed, Address, View, view_at, no_made, no_view, IsAddressed, last}
use Rattle.watch_law.specs.Law.{Area, owner, KnowsCell, IsTo, Holds, Fresh, IsNotedAs, WatchLaw}
use Rattle.watch_law.proofs.Own.{in_range}
use Rattle.watch_law.proofs.Changed.{at_view, addresses}

module _ (z : Area) (p : Plain) (seats_after : List PlainSeat) (views : List View) (n : ℕ) (d o : SlotId)
    (new : Address) (low : n < length views) (live : stage_at p d ≡ Live)
    (some : 0 < (view_at views n).made.life) (made : (view_at views n).made.slot ≡ d)
    (life : (slot_at p d).life ≡ (view_at views n).made.life) (is : IsObserver (slot_at p o).payload)
    (new_is : new ≡ record {
      slot = d;
      life = (slot_at p d).life;
      event = told (slot_at p d).payload;
      observer = o;
      observer_life = (slot_at p o).life;
      id = told (slot_at p o).payload;
    })
    (law : WatchLaw z p views) where
  abbrev written : PlainSlot
  written = record (slot_at p d) { first = Some o }

  abbrev q : Plain
  q = record p { seats = seats_after; slots = set p.slots d.0 written }

  abbrev v : View
  v = view_at views n

  abbrev w : View
  w = record v { made = no_made; addressed = v.addressed ++ new ∷ [] }

  here : slot_at q d ≡ written
  here = get_or-set_same p.slots d.0 written new_slot
      (in_range p d (λ free. let e : Live ≡ Free = sym live ∙ free in cc))

  other : (r : SlotId) → r.0 ≢ d.0 → slot_at q r ≡ slot_at p r
  other r ne = get_or-set_other p.slots d.0 r.0 written new_slot ne

  -- what is read off each slot that the write leaves
  read_same : {A : Type 0} (f : PlainSlot → A) → f written ≡ f (slot_at p d) → (r : SlotId)
      → f (slot_at q r) ≡ f (slot_at p r)
  read_same f e r = ⊎_elim
      (λ (same : r ≡ d). ap (λ x. f (slot_at q x)) same
      ∙ (ap f here ∙ (e ∙ ap (λ x. f (slot_at p x)) (sym same))))
      (λ ne. ap f (other r ne)) (cases_slot r d)

  stages : (r : SlotId) → stage_at q r ≡ stage_at p r
  stages = read_same (λ x. x.stage) refl

  lives : (r : SlotId) → (slot_at q r).life ≡ (slot_at p r).life
  lives = read_same (λ x. x.life) refl

  payloads : (r : SlotId) → (slot_at q r).payload ≡ (slot_at p r).payload
  payloads = read_same (λ x. x.payload) refl

  firsts : (r : SlotId) → (r ≡ d → ⊥) → (slot_at q r).first ≡ (slot_at p r).first
  firsts r ne = ⊎_elim (λ (e : r ≡ d). absurd (ne e)) (λ o. ap (λ x. x.first) (other r o))
      (cases_slot r d)

  -- the delivery was nobody's
  mine : Fresh p views v.made
  mine = law.fresh n some

  loose : (a : Address) → IsAddressed views a → a.slot ≡ d → a.life ≡ (slot_at p d).life → ⊥
  loose a noted slot same = mine.loose a noted (slot ∙ sym made) (same ∙ life)

  delivery : IsDelivery (slot_at p d).payload
  delivery =
      let at = ap (λ r. stage_at p r) made in
      let e : (slot_at p v.made.slot).life ≡ v.made.life = ap (λ r. (slot_at p r).life) made ∙ life in
      subst (λ r. IsDelivery (slot_at p r).payload) made (mine.null (at ∙ live) e).0

  still : (a : Address) → IsAddressed views a → IsAddressed (set views n w) a
  still = noted_still no_view addresses views n w low
      (λ a has. Contains-append_left v.addressed (new ∷ []) a has)

  now_new : IsAddressed (set views n w) new
  now_new = noted_here no_view addresses views n w low new (Contains-push v.addressed new)

  was : (a : Address) → IsAddressed (set views n w) a
      → IsAddressed views a ⊎ (new ≡ a)
  was a now = ⊎_elim
      (λ has. ⊎_elim (λ old. inl (n, old))
      (λ e. inr e) (Contains-push_cases v.addressed new a has))
      (λ old. inl old)
      (noted_cases no_view addresses views n w low a now)

  knows : (c : ℕ) (e : Option Subscribed) → KnowsCell z p c e → KnowsCell z q c e
  knows c None k = k
  knows c (Some e) k = (k.0, lives e.slot ∙ k.1)

  pub to_new : IsTo q new
  to_new =
      let at = ap (λ (a : Address). a.slot) new_is in
      let to = ap (λ (a : Address). a.observer) new_is in
      let same_delivery = payloads d in
      let same_observer = payloads o in
      record {
        delivery = subst (λ r. IsDelivery (slot_at q r).payload) (sym at)
            (subst IsDelivery (sym same_delivery) delivery);
        event = ap (λ r. told (slot_at q r).payload) at ∙ (ap told same_delivery
            ∙ sym (ap (λ (a : Address). a.event) new_is));
        first = ap (λ r. (slot_at q r).first) at
            ∙ (ap (λ x. x.first) here ∙ ap (λ r. Some r) (sym to));
        life = ap (λ r. (slot_at q r).life) to ∙ (lives o
            ∙ sym (ap (λ (a : Address). a.observer_life) new_is));
        observer = subst (λ r. IsObserverOf new.id (slot_at q r).payload) (sym to) (
          subst IsObserver (sym same_observer) is,
          ap told same_observer ∙ sym (ap (λ (a : Address). a.id) new_is),
        );
      }

  holds_old : (a : Address) → IsAddressed views a → Holds q a
  holds_old a noted =
      let h = law.addressed a noted in
      let l = lives a.slot in
      record {
        begun = let b = h.begun in omega arith;
        holds = λ lives_q same.
            let t = h.holds (sym (stages a.slot) ∙ lives_q) (sym l ∙ same) in
            let apart : a.slot ≡ d → ⊥ = λ e.
            loose a noted e (sym (sym l ∙ same) ∙ ap (λ r. (slot_at p r).life) e) in
            record {
              delivery = subst IsDelivery (sym (payloads a.slot)) t.delivery;
              event = ap told (payloads a.slot) ∙ t.event;
              first = firsts a.slot apart ∙ t.first;
              life = lives a.observer ∙ t.life;
              observer = subst (IsObserverOf a.id) (sym (payloads a.observer)) t.observer;
            };
      }

  -- another seat's own delivery is another
  fresh_else : (k : ℕ) → k ≢ n → 0 < (view_at views k).made.life
      → Fresh q (set views n w) (view_at views k).made
  fresh_else k ne has =
      let f = law.fresh k has in
      let e = (view_at views k).made in
      let l = lives e.slot in
      let apart : e.slot ≡ d → e.life ≡ (slot_at p d).life → ⊥ = λ slot same.
      ne (law.apart k n has (slot ∙ sym made) (same ∙ life)) in
      record {
        begun = let b = f.begun in omega arith;
        null = λ lives_q same.
            let t = f.null (sym (stages e.slot) ∙ lives_q) (sym l ∙ same) in (
              subst IsDelivery (sym (payloads e.slot)) t.0,
              firsts e.slot (λ is_d.
                  let then = sym (sym l ∙ same) ∙ ap (λ r. (slot_at p r).life) is_d in
                  apart is_d then) ∙ t.1,
            );
        loose = λ a now slot same. ⊎_elim
            (λ noted. f.loose a noted slot same)
            (λ is_new.
            let at : a.slot ≡ d = ap (λ (x : Address). x.slot) (sym is_new ∙ new_is) in
            let in_life : a.life ≡ (slot_at p d).life = ap (λ (x : Address). x.life) (sym is_new ∙ new_is) in
            apart (sym slot ∙ at) (sym same ∙ in_life))
            (was a now);
      }

  apart_from : (k j : ℕ) → 0 < (view_at views k).made.life
      → (view_at views k).made.slot ≡ (view_at (set views n w) j).made.slot
      → (view_at views k).made.life ≡ (view_at (set views n w) j).made.life → k ≡ j
  apart_from k j = at_view views n w (λ m u. 0 < (view_at views k).made.life
      → (view_at views k).made.slot ≡ u.made.slot
      → (view_at views k).made.life ≡ u.made.life → k ≡ m) low
      (λ has slot same. absurd (omega arith)) (λ m ne. law.apart k m) j

  one_new : (b : Address) → IsAddressed views b → new.slot ≡ b.slot → new.life ≡ b.life → ⊥
  one_new b noted slot same =
      loose b noted (sym slot ∙ ap (λ (x : Address). x.slot) new_is)
      (sym same ∙ ap (λ (x : Address). x.life) new_is)

  noted_now : (r x : SlotId) (l : ℕ) → IsNotedAs views r l x → IsNotedAs (set views n w) r l x
  noted_now r x l i = record {
    address = i.address;
    noted = still i.address i.noted;
    slot = i.slot;
    life = i.life;
    observer = i.observer;
  }

  pub law_addresses : WatchLaw z q (set views n w)
  law_addresses = record {
    cells = λ c s h at.
        let k = law.cells c s h at in (
          subst IsMade (sym (stages s)) k.0,
          subst (IsObserverOf c) (sym (payloads s)) k.1,
        );
    own_cells = λ m c. at_view views n w
        (λ i u. u.here ≡ true → c < z.cells → owner z c ≡ i → KnowsCell z q c (last c u.subscribed))
        low (λ a h own. knows c _ (law.own_cells n c a h own))
        (λ i ne a h own. knows c _ (law.own_cells i c a h own)) m;
    number = at_view views n w (λ k u. u.here ≡ true → u.number ≡ k) low (law.number n)
        (λ k ne. law.number k);
    fresh = at_view views n w (λ k u. 0 < u.made.life → Fresh q (set views n w) u.made) low
        (λ none. absurd (omega arith)) fresh_else;
    apart = λ i j. at_view views n w (λ k u. 0 < u.made.life
        → u.made.slot ≡ (view_at (set views n w) j).made.slot
        → u.made.life ≡ (view_at (set views n w) j).made.life → k ≡ j) low
        (λ none. absurd (omega arith)) (λ k ne. apart_from k j) i;
    addressed = λ a now. ⊎_elim (λ noted. holds_old a noted)
        (λ is_new. subst (Holds q) is_new (record {
          begun =
              let at = ap (λ (x : Address). x.slot) new_is in
              let in_life = ap (λ (x : Address). x.life) new_is in
              let e = ap (λ r. (slot_at q r).life) at in
              let l = lives d in omega arith;
          holds = λ lives_q same. to_new;
        }))
        (was a now);
    once = λ a b x y slot same. ⊎_elim
        (λ old. ⊎_elim (λ too. law.once a b old too slot same)
        (λ is_new. absurd (one_new a old (ap (λ (k : Address). k.slot) is_new ∙ sym slot)
        (ap (λ (k : Address). k.life) is_new ∙ sym same))) (was b y))
        (λ is_new. ⊎_elim
        (λ old. absurd (one_new b old (ap (λ (k : Address). k.slot) is_new ∙ slot)
        (ap (λ (k : Address). k.life) is_new ∙ same)))
        (λ too. sym is_new ∙ too) (was b y))
        (was a x);
    fields = λ r x lives_q delivery_is first. ⊎_elim
        (λ (e : r ≡ d).
        let holds : Some o ≡ Some x =
        sym (ap (λ k. k.first) here) ∙ (ap (λ k. (slot_at q k).first) (sym e) ∙ first) in
        record {
          address = new;
          noted = now_new;
          slot = ap (λ (k : Address). k.slot) new_is ∙ sym e;
          life = ap (λ (k : Address). k.life) new_is
              ∙ (ap (λ k. (slot_at p k).life) (sym e) ∙ sym (lives r));
          observer = ap (λ (k : Address). k.observer) new_is ∙ cc;
        })
        (λ ne. noted_now r x (slot_at q r).life
        (subst (λ l. IsNotedAs views r l x) (sym (lives r))
        (law.fields r x (sym (stages r) ∙ lives_q) (subst IsDelivery (payloads r) delivery_is)
        (sym (ap (λ k. k.first) (other r ne)) ∙ first))))
        (cases_slot r d);
    bare = λ r lives_q own.
        let b = law.bare r (sym (stages r) ∙ lives_q) (subst IsOwn (payloads r) own) in
        record {
          second = read_same (λ x. x.second) refl r ∙ b.second;
          weak_field = read_same (λ x. x.weak_field) refl r ∙ b.weak_field;
          first = λ observer.
              let one : slice_index (slot_at p r).payload 0 ≡ 1 =
              subst IsObserver (payloads r) observer in
              firsts r (λ e.
              let two : slice_index (slot_at p r).payload 0 ≡ 2 =
              subst (λ k. IsDelivery (slot_at p k).payload) (sym e) delivery in
              absurd (omega arith))
              ∙ b.first one;
        };
    read = λ a now. still a (⊎_elim (λ has. law.read a (n, has)) (λ old. law.read a old)
        (noted_cases no_view (λ (u : View). u.read) views n w low a now));
  }
