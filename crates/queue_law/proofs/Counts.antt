-- What was pushed and popped, how far seat 0 is, and which pushes are in flight.
use Rattle.std.proofs.Common.{◌≡◌, ◌≢◌, ◌⊎◌, ⊎_elim, ℕ, ◌+◌, ◌<◌, ◌≤◌, List, [], ◌∷◌, ◌++◌, length, set, drop, map, refl, ap, sym, ◌∙◌, subst, arith}
use Rattle.std.specs.Prelude.{cond}
use Rattle.std.proofs.lemmas.Bool.{cases_eq, cases_lt}
use Rattle.plain_protocol.specs.plain_state.State.{Plain}
use Rattle.queue_law.specs.Words.{slot_at, cell_at}
use Rattle.queue_law.specs.Views.{Item, Taken, View, Stand, no_taken, first_view, view_at}
use Rattle.queue_law.specs.Chain.{Ends, Sent, sent, Present}
use Rattle.queue_law.specs.Notes.{HasFlight, Flights}
use Rattle.queue_law.specs.Lists.{same_item, item_times, views_total, sent_items, taken_items, Counted}
use Rattle.queue_law.specs.Law.{Phase}
use Rattle.std.proofs.lemmas.List.{get_or_push, get_or_append_left, length_push, drop-append-le}
use Rattle.std.proofs.lemmas.List.Sums.{sum_by-set, sum_by_push}
use Rattle.queue_law.proofs.Chain.{old_node, longer}
use Rattle.queue_law.proofs.Notes.{view_here, view_else}

-- COUNTED
one_item : Item → Item → ℕ
one_item x y = cond (same_item x y) 1 0

pub items_push : (x : Item) (ys : List Item) (y : Item)
    → item_times x (ys ++ y ∷ []) ≡ item_times x ys + cond (same_item x y) 1 0
unfolding item_times
items_push x ys y = sum_by_push (λ (z : Item). cond (same_item x z) 1 0) ys y

pub map_push : {A B : Type 0} (f : A → B) (xs : List A) (y : A)
    → map f (xs ++ y ∷ []) ≡ map f xs ++ f y ∷ []
map_push f [] y = refl
map_push f (x ∷ xs) y = ap (λ l. f x ∷ l) (map_push f xs y)

pub views_set : (f : View → ℕ) (views : List View) (n : ℕ) (w : View) → n < length views
    → views_total f (set views n w) + f (view_at views n) ≡ views_total f views + f w
unfolding views_total
views_set f views n w low = sum_by-set f views n w first_view low

pub taken_push : (x : Item) (ts : List Taken) (t : Taken)
    → item_times x (taken_items (ts ++ t ∷ [])) ≡ item_times x (taken_items ts) + cond
    (same_item x t.item) 1 0
taken_push x ts t = ap (item_times x) (map_push (λ (z : Taken). z.item) ts t)
    ∙ items_push x (taken_items ts) t.item

pub sent_push : (x : Item) (h : List Sent) (e : Sent) → 1 ≤ length h
    → item_times x (sent_items (drop 1 (h ++ e ∷ []))) ≡ item_times x (sent_items (drop 1 h)) + cond
    (same_item x e.item) 1 0
sent_push x h e le = ap (λ l. item_times x (sent_items l)) (drop-append-le 1 h (e ∷ []) le)
    ∙ (ap (item_times x) (map_push (λ (z : Sent). z.item) (drop 1 h) e)
    ∙ items_push x (sent_items (drop 1 h)) e.item)

-- a push counts its item
pub counted_push : (h : List Sent) (ts : List Taken) (views : List View) (n : ℕ) (w : View) (e : Sent)
    (m : ℕ) → Counted h ts views → n < length views → 1 ≤ length h
    → w.pushed ≡ (view_at views n).pushed ++ record { item = e.item; taker = m } ∷ []
    → w.popped ≡ (view_at views n).popped → Counted (h ++ e ∷ []) ts (set views n w)
counted_push h ts views n w e m c low le ups pops = record {
  pushed = λ x.
      let s = views_set (λ v. item_times x (taken_items v.pushed)) views n w low in
      let g = sent_push x h e le in
      let d = ap (λ l. item_times x (taken_items l)) ups ∙ taken_push x (view_at views n).pushed
      (record { item = e.item; taker = m }) in
      let b = c.pushed x in omega arith;
  popped = λ x.
      let s = views_set (λ v. item_times x (taken_items v.popped)) views n w low in
      let d = ap (λ l. item_times x (taken_items l)) pops in
      let b = c.popped x in omega arith;
  many = let s = views_set (λ v. length v.pushed) views n w low in
      let d = ap (λ (l : List Taken). length l) ups ∙ length_push (view_at views n).pushed
      (record { item = e.item; taker = m }) in let b = c.many in let g = longer h e in omega arith;
  order = λ i l. let t = c.order i l in let z = longer h e in
      (omega (arith, t.0), t.1 ∙ ap (λ (z : Sent). z.item) (sym (old_node h e (i + 1) t.0)));
}

-- a pop counts its item
pub counted_pop : (h : List Sent) (ts : List Taken) (views : List View) (n : ℕ) (w : View) (t : Taken)
    → Counted h ts views → n < length views
    → w.popped ≡ (view_at views n).popped ++ t ∷ [] → w.pushed ≡ (view_at views n).pushed
    → length ts + 1 < length h → t.item ≡ (sent h (length ts + 1)).item
    → Counted h (ts ++ t ∷ []) (set views n w)
counted_pop h ts views n w t c low pops ups more is = record {
  pushed = λ x.
      let s = views_set (λ v. item_times x (taken_items v.pushed)) views n w low in
      let d = ap (λ l. item_times x (taken_items l)) ups in
      let b = c.pushed x in omega arith;
  popped = λ x.
      let s = views_set (λ v. item_times x (taken_items v.popped)) views n w low in
      let g = taken_push x ts t in
      let d = ap (λ l. item_times x (taken_items l)) pops ∙ taken_push x (view_at views n).popped t in
      let b = c.popped x in omega arith;
  many = let s = views_set (λ v. length v.pushed) views n w low in
      let d = ap (λ (l : List Taken). length l) ups in let b = c.many in omega arith;
  order = λ i l. let z = length_push ts t in ⊎_elim
      (λ inner. let u = c.order i inner in
      (u.0, ap (λ (z : Taken). z.item) (get_or_append_left ts (t ∷ []) no_taken i inner) ∙ u.1))
      (λ past. let e : length ts ≡ i = omega arith in (
        omega arith,
        ap (λ (z : Taken). z.item) (get_or_push ts t no_taken i e)
            ∙ (is ∙ ap (λ z. (sent h (z + 1)).item) e),
      ))
      (cases_lt i (length ts));
}

-- a step that pushes and pops nothing
pub counted_same : (h : List Sent) (ts : List Taken) (views : List View) (n : ℕ) (w : View)
    → Counted h ts views → n < length views → w.popped ≡ (view_at views n).popped
    → w.pushed ≡ (view_at views n).pushed → Counted h ts (set views n w)
counted_same h ts views n w c low pops ups = record {
  pushed = λ x. let s = views_set (λ v. item_times x (taken_items v.pushed)) views n w low in
      let d = ap (λ l. item_times x (taken_items l)) ups in let b = c.pushed x in omega arith;
  popped = λ x. let s = views_set (λ v. item_times x (taken_items v.popped)) views n w low in
      let d = ap (λ l. item_times x (taken_items l)) pops in let b = c.popped x in omega arith;
  many = let s = views_set (λ v. length v.pushed) views n w low in
      let d = ap (λ (l : List Taken). length l) ups in let b = c.many in omega arith;
  order = c.order;
}

-- PHASE
pub laid_set : (views : List View) (n : ℕ) (w : View) → n < length views
    → w.stand ≡ (view_at views n).stand → (view_at (set views n w) 0).stand ≡ (view_at views 0).stand
laid_set views n w low same = ⊎_elim
    (λ e. ap (λ z. (view_at (set views n w) z).stand) e
    ∙ (ap (λ (z : View). z.stand) (view_here views n w low)
    ∙ (same ∙ ap (λ z. (view_at views z).stand) (sym e))))
    (λ ne. ap (λ (z : View). z.stand) (view_else views n 0 w ne)) (cases_eq 0 n)

pub phase_same : (u : Ends) (p q : Plain) (h : List Sent) (ts : List Taken) (v w : View)
    → cell_at q u.head ≡ cell_at p u.head
    → ((0 < length h × (cell_at q u.tail ≢ 0)) ⊎ (cell_at q u.tail ≡ cell_at p u.tail))
    → w.stand ≡ v.stand → Phase u p h ts v → Phase u q h ts w
phase_same u p q h ts v w head tail same f = record {
  unlaid = λ e. let a = f.unlaid (ap (λ (z : Stand). z.laid) (sym same) ∙ e) in (
    a.0,
    a.1,
    head ∙ a.2,
    ⊎_elim (λ some_node. let z = a.0 in let y = some_node.0 in
        absurd (omega arith)) (λ t. t ∙ a.3) tail,
  );
  shut = λ le. let a = f.shut (subst (λ (z : Stand). 3 ≤ z.laid) same le) in
      (head ∙ a.0, a.1, ap (λ (z : Stand). z.left) same ∙ a.2);
  laying = λ e. let a = f.laying (ap (λ (z : Stand). z.laid) (sym same) ∙ e) in
      (a.0, a.1, head ∙ a.2, ⊎_elim (λ some_node. some_node.1) (λ t z. a.3 (sym t ∙ z)) tail);
}

-- once the head cell holds a node, laying is over
pub phase_over : (u : Ends) (p q : Plain) (h h' : List Sent) (ts ts' : List Taken) (v w : View)
    → cell_at p u.head ≢ 0 → w.stand ≡ v.stand → Phase u p h ts v → Phase u q h' ts' w
phase_over u p q h h' ts ts' v w head same f = record {
  unlaid = λ e. let a = f.unlaid (ap (λ (z : Stand). z.laid) (sym same) ∙ e) in absurd (head a.2);
  shut = λ le. absurd (head (f.shut (subst (λ (z : Stand). 3 ≤ z.laid) same le)).0);
  laying = λ e. let a = f.laying (ap (λ (z : Stand). z.laid) (sym same) ∙ e) in absurd (head a.2);
}

-- FLIGHTS: where a missing link is still missing and no flight changes
pub flights_set : (u : Ends) (p q : Plain) (h : List Sent) (views : List View) (n : ℕ) (w : View)
    → n < length views
    → ((i : ℕ) → i + 2 ≡ length h → Present q (sent h i) → (slot_at q (sent h i).node).first ≡ 0
    → Present p (sent h i) × ((slot_at p (sent h i).node).first ≡ 0))
    → ((i : ℕ) → i + 2 ≡ length h → Present q (sent h i) → (slot_at q (sent h i).node).first ≡ 0
    → HasFlight (sent h (i + 1)) (view_at views n) → HasFlight (sent h (i + 1)) w)
    → Flights u p h views → Flights u q h (set views n w)
flights_set u p q h views n w low was keeps f double i e at null =
    let b = was i e at null in
    let g = f double i e b.0 b.1 in (
      g.0,
      ⊎_elim
          (λ is. subst (HasFlight (sent h (i + 1)))
          (sym (ap (view_at (set views n w)) is ∙ view_here views n w low))
          (keeps i e at null (subst (λ z. HasFlight (sent h (i + 1)) (view_at views z)) is g.1)))
          (λ ne. subst (HasFlight (sent h (i + 1))) (sym (view_else views n g.0 w ne)) g.1)
          (cases_eq g.0 n),
    )

-- a view that has the same flights
pub flight_as : (e : Sent) (v w : View) → w.flight ≡ v.flight → w.flown ≡ v.flown → HasFlight e v
    → HasFlight e w
flight_as e v w a b g = subst (λ z. HasFlight e (record w { flown = z })) (sym b)
    (subst (λ z. HasFlight e (record w { flight = z; flown = v.flown })) (sym a) g)
