-- A seat leaves, and its view joins that of seat 0.
use Rattle.std.proofs.Common.{◌≡◌, ◌≢◌, inl, ⊎_elim, ℕ, ◌+◌, ◌<◌, true, List, length, get_or, set, refl, ap, sym, ◌∙◌, subst, arith}
use Rattle.std.specs.Prelude.{None}
use Rattle.std.proofs.lemmas.List.{length-set, get_or-set_same, get_or-set_other}
use Rattle.std.proofs.lemmas.Bool.{cases_eq, false≢true}
use Rattle.plain_protocol.specs.plain_state.declared.slot.PlainSlot.{PlainSlot}
use Rattle.plain_protocol.specs.plain_state.declared.slot.SlotId.{SlotId}
use Rattle.plain_protocol.specs.plain_state.State.{Plain, new_slot}
use Rattle.plain_protocol.specs.Calm.{IsMade}
use Rattle.plain_protocol.specs.Laws.{KeptByLeave}
use Rattle.protocol_pairs.proofs.Notes as notes
use Rattle.watch_law.specs.Views.{View, view_at, no_view, joined, last}
use Rattle.watch_law.specs.Law.{Area, owner, KnowsCell, Fresh, WatchLaw}
use Rattle.watch_law.proofs.Quiet.{Quiet, law_quiet}
use Rattle.watch_law.proofs.Changed.{addresses, SameNotes, fresh_after, noted_after}

same_quiet : (z : Area) (p q : Plain) → q.slots ≡ p.slots → q.weak_cells ≡ p.weak_cells
    → Quiet z p q
same_quiet z p q slots weak_cells =
    let at : (s : SlotId) → get_or q.slots s.0 new_slot ≡ get_or p.slots s.0 new_slot =
    λ s. ap (λ l. get_or l s.0 new_slot) slots in
    record {
      life = λ s. let e = ap (λ (x : PlainSlot). x.life) (at s) in omega arith;
      kept = λ s live. (ap (λ (x : PlainSlot). x.life) (at s), ap (λ (x : PlainSlot). x.payload) (at s));
      back = λ s live same. ap (λ (x : PlainSlot). x.stage) (sym (at s)) ∙ live;
      fields = λ s live own. record {
        first = ap (λ (x : PlainSlot). x.first) (at s);
        second = ap (λ (x : PlainSlot). x.second) (at s);
        weak_field = ap (λ (x : PlainSlot). x.weak_field) (at s);
      };
      born = λ s live own. inl (ap (λ (x : PlainSlot). x.stage) (sym (at s)) ∙ live);
      held = λ c s h is made. (
        subst (λ (x : PlainSlot). IsMade x.stage) (sym (at s)) made,
        ap (λ (x : PlainSlot). x.payload) (at s),
        ap (λ (x : PlainSlot). x.life) (at s),
      );
      cells = λ c h. ap (λ l. get_or l (z.first + c) None) weak_cells;
    }

module _ (z : Area) (p : Plain) (views : List View) (j : ℕ) (there : j < length views)
    (other : j ≢ 0) (law : WatchLaw z p views) where
  abbrev root : View
  root = joined (view_at views 0) (view_at views j)

  abbrev after : List View
  after = set (set views 0 root) j no_view

  same : SameNotes views after
  same = record {
    still = notes.noted_after no_view addresses joined refl (λ a b. refl) views j there other;
    was = notes.noted_before no_view addresses joined refl (λ a b. refl) views j there other;
  }

  at_seat : (P : ℕ → View → Type 0) → P 0 root → P j no_view
      → ((m : ℕ) → m ≢ 0 → m ≢ j → P m (view_at views m)) → (m : ℕ) → P m (view_at after m)
  at_seat P a b old m =
      ⊎_elim
      (λ (e : m ≡ j). subst (λ k. P k (view_at after k)) (sym e)
      (subst (P j) (sym (get_or-set_same (set views 0 root) j no_view no_view
      (let l = length-set views 0 root in omega arith))) b))
      (λ (not_j : m ≢ j).
      ⊎_elim
      (λ (e : m ≡ 0). subst (λ k. P k (view_at after k)) (sym e)
      (subst (P 0) (sym (get_or-set_other (set views 0 root) j 0 no_view no_view (λ is. other (sym is))
      ∙ get_or-set_same views 0 root no_view (omega arith))) a))
      (λ (not_0 : m ≢ 0). subst (P m) (sym (get_or-set_other (set views 0 root) j m no_view no_view not_j
      ∙ get_or-set_other views 0 m root no_view not_0)) (old m not_0 not_j))
      (cases_eq m 0))
      (cases_eq m j)

  pub law_left : WatchLaw z p after
  law_left = record {
    cells = law.cells;
    own_cells = λ m c here h own.
        at_seat (λ k v. v.here ≡ true → owner z c ≡ k → KnowsCell z p c (last c v.subscribed))
        (λ is own. law.own_cells 0 c is h own) (λ is. absurd (false≢true is))
        (λ k a b is own. law.own_cells k c is h own) m here own;
    number = at_seat (λ k v. v.here ≡ true → v.number ≡ k) (law.number 0)
        (λ is. absurd (false≢true is)) (λ k a b. law.number k);
    fresh = at_seat (λ k v. 0 < v.made.life → Fresh p after v.made)
        (λ some. fresh_after p views after _ same (law.fresh 0 some)) (λ some. absurd (omega arith))
        (λ k a b some. fresh_after p views after _ same (law.fresh k some));
    apart = λ n m.
        at_seat (λ k v. 0 < v.made.life → v.made.slot ≡ (view_at after m).made.slot
        → v.made.life ≡ (view_at after m).made.life → k ≡ m)
        (one 0 m) (λ some. absurd (omega arith)) (λ k a b. one k m) n;
    addressed = λ a is. law.addressed a (same.was a is);
    once = λ a b x y. law.once a b (same.was a x) (same.was b y);
    fields = λ d o live is first.
        noted_after views after d _ o same (law.fields d o live is first);
    bare = law.bare;
    read = λ a now. same.still a (law.read a
        (notes.noted_before no_view (λ (v : View). v.read) joined refl (λ a b. refl) views j there other a
        now));
  }
    where
      one : (k m : ℕ) → 0 < (view_at views k).made.life
          → (view_at views k).made.slot ≡ (view_at after m).made.slot
          → (view_at views k).made.life ≡ (view_at after m).made.life → k ≡ m
      one k m = at_seat (λ i v. 0 < (view_at views k).made.life
          → (view_at views k).made.slot ≡ v.made.slot
          → (view_at views k).made.life ≡ v.made.life → k ≡ i)
          (law.apart k 0) (λ some slot life. absurd (omega arith)) (λ i a b. law.apart k i) m

pub watch_leave : (z : Area) → KeptByLeave (WatchLaw z) joined no_view
watch_leave z p q j found views meets does =
    let count = meets.count in
    let inside = does.1.2 in
    let after = set (set views 0 (joined (view_at views 0) (view_at views j))) j no_view in
    law_quiet z p q
    (same_quiet z p q (ap (λ (x : Plain). x.slots) does.1.8) (ap (λ (x : Plain). x.weak_cells) does.1.8))
    meets.lawful after (law_left z p views j (omega arith) does.1.1 meets.law)
