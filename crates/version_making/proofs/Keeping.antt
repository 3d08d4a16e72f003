-- What one call leaves, and several in turn.
use Rattle.std.proofs.Common.{◌≡◌, ℕ, ◌+◌, ◌<◌, ◌≤◌, List, [], ◌++◌, refl, ap, sym, ◌∙◌, subst, arith, append_assoc}
use Rattle.std.proofs.lemmas.List.{append-nil}
use Rattle.map_law.specs.plain_state.declared.slot.SlotId.{SlotId}
use Rattle.map_law.specs.plain_state.Lists.{times}
use Rattle.map_law.specs.declared.view.View.{View}
use Rattle.slot_store.specs.core_events.declared.view.CoreView.{CoreView}
use Rattle.slot_store.specs.core_events.declared.view.Move.{Move}
use Rattle.slot_store.specs.control_word.Moves.{KnowsStill}
use Rattle.slot_store.specs.acquire_retire.Seats.{SeatState}
use Rattle.protected_loads.proofs.Telling.{holds_has}
use Rattle.version_making.specs.Keeping.{GoesOn, Grows, Keeps, aside, none}

-- TRAILS
pub goes_none : (v w : CoreView) → w.trail ≡ v.trail → GoesOn v w
goes_none v w is = ([], is ∙ sym (append-nil v.trail))

pub goes_then : (u v w : CoreView) → GoesOn u v → GoesOn v w → GoesOn u w
goes_then u v w first second = (
  first.0 ++ second.0,
  second.1
      ∙ (ap (λ (t : List Move). t ++ second.0) first.1
      ∙ append_assoc u.trail first.0 second.0),
)

-- VIEWS
pub grows_same : (v w : View) → w ≡ v → Grows v w
grows_same v w is = record {
  number = ap (λ (x : View). x.number) is;
  here = ap (λ (x : View). x.here) is;
  entries = ap (λ (x : View). x.entries) is;
  cleared = ap (λ (x : View). x.cleared) is;
  solid = λ e in'. subst (λ (x : View). Rattle.map_law.specs.Views.In e x.solid) (sym is) in';
  led = λ e in'. subst (λ (x : View). Rattle.map_law.specs.Views.In e x.led) (sym is) in';
}

pub grows_then : (u v w : View) → Grows u v → Grows v w → Grows u w
grows_then u v w first second = record {
  number = second.number ∙ first.number;
  here = second.here ∙ first.here;
  entries = second.entries ∙ first.entries;
  cleared = second.cleared ∙ first.cleared;
  solid = λ e in'. second.solid e (first.solid e in');
  led = λ e in'. second.led e (first.led e in');
}

-- CALLS
-- the seat has come to have v, but for its trail
pub keeps_by : (makes adds : ℕ) (given gained : SlotId → ℕ) (a b : SeatState View) (v kept : CoreView)
    → GoesOn a.view.core b.view.core → aside b.view.core ≡ aside a.view.core
    → ((x : SlotId) → times x b.view.core.owned ≡ times x v.owned)
    → (b.view.core.makes ≡ v.makes) × (b.view.core.adds ≡ v.adds)
    → ((x : SlotId) → times x v.owned + given x ≡ times x a.view.core.owned + gained x)
    → (a.view.core.makes ≤ v.makes) × (v.makes ≤ a.view.core.makes + makes)
    → (a.view.core.adds ≤ v.adds) × (v.adds ≤ a.view.core.adds + adds)
    → KnowsStill kept a b
    → ((x : SlotId) → given x < times x a.view.core.owned → 0 < times x kept.owned)
    → Grows a.view.client b.view.client → Keeps makes adds given gained a b
keeps_by makes adds given gained a b v kept goes same owned used owns m n knows holds grows = record {
  owns = λ x. let o = owned x in let p = owns x in omega (arith, o, p);
  makes_used = (
    let u = used.0 in omega (arith, u, m.0),
    let u = used.0 in omega (arith, u, m.1),
  );
  adds_used = (
    let u = used.1 in omega (arith, u, n.0),
    let u = used.1 in omega (arith, u, n.1),
  );
  same = same;
  goes = goes;
  knows = λ x less. let h = holds x less in knows x (holds_has kept x (omega (arith, h)));
  grows = grows;
}

pub keeps_core : (makes adds : ℕ) (given gained : SlotId → ℕ) (a b : SeatState View) (v kept : CoreView)
    (ms : List Move) → b.view.core ≡ record v { trail = a.view.core.trail ++ ms }
    → aside v ≡ aside a.view.core
    → ((x : SlotId) → times x v.owned + given x ≡ times x a.view.core.owned + gained x)
    → (a.view.core.makes ≤ v.makes) × (v.makes ≤ a.view.core.makes + makes)
    → (a.view.core.adds ≤ v.adds) × (v.adds ≤ a.view.core.adds + adds)
    → KnowsStill kept a b
    → ((x : SlotId) → given x < times x a.view.core.owned → 0 < times x kept.owned)
    → Grows a.view.client b.view.client → Keeps makes adds given gained a b
keeps_core makes adds given gained a b v kept ms core same =
    keeps_by makes adds given gained a b v kept (ms, ap (λ (u : CoreView). u.trail) core)
    (ap aside core ∙ same) (λ x. ap (λ (u : CoreView). times x u.owned) core)
    (ap (λ (u : CoreView). u.makes) core, ap (λ (u : CoreView). u.adds) core)

pub keeps_none : (a : SeatState View) → Keeps 0 0 none none a a
keeps_none a = record {
  owns = λ x. refl;
  makes_used = (omega arith, omega arith);
  adds_used = (omega arith, omega arith);
  same = refl;
  goes = goes_none a.view.core a.view.core refl;
  knows = λ x less. refl;
  grows = grows_same a.view.client a.view.client refl;
}

-- more makes and adds may have been used than were
pub keeps_most : (m n m' n' : ℕ) (given gained : SlotId → ℕ) (a b : SeatState View) → m ≤ m' → n ≤ n'
    → Keeps m n given gained a b → Keeps m' n' given gained a b
keeps_most m n m' n' given gained a b le le' k = record {
  owns = k.owns;
  makes_used = (k.makes_used.0, let u = k.makes_used.1 in omega (arith, u, le));
  adds_used = (k.adds_used.0, let u = k.adds_used.1 in omega (arith, u, le'));
  same = k.same;
  goes = k.goes;
  knows = k.knows;
  grows = k.grows;
}

-- one call after another: together they give at least what the first one gives, and gain what the second one gains
pub keeps_then : (m n m' n' : ℕ) (g h g' h' given gained : SlotId → ℕ) (a b c : SeatState View)
    → Keeps m n g h a b → Keeps m' n' g' h' b c
    → ((x : SlotId) → (g x ≤ given x) × (h' x ≤ gained x)
    × (g x + g' x + gained x ≡ given x + h x + h' x))
    → Keeps (m + m') (n + n') given gained a c
keeps_then m n m' n' g h g' h' given gained a b c first second sums = record {
  owns = λ x. let o = first.owns x in let p = second.owns x in let s = (sums x).2 in
      omega (arith, o, p, s);
  makes_used = (
    let o = first.makes_used.0 in let p = second.makes_used.0 in omega (arith, o, p),
    let o = first.makes_used.1 in let p = second.makes_used.1 in omega (arith, o, p),
  );
  adds_used = (
    let o = first.adds_used.0 in let p = second.adds_used.0 in omega (arith, o, p),
    let o = first.adds_used.1 in let p = second.adds_used.1 in omega (arith, o, p),
  );
  same = second.same ∙ first.same;
  goes = goes_then a.view.core b.view.core c.view.core first.goes second.goes;
  knows = λ x less.
      let o = first.owns x in let s = sums x in
      second.knows x (omega (arith, o, s.0, s.1, s.2, less))
      ∙ first.knows x (omega (arith, s.0, less));
  grows = grows_then a.view.client b.view.client c.view.client first.grows second.grows;
}
