-- How far a search has come down from the root.
use Rattle.std.proofs.Common.{◌≡◌, ⊎_elim, ℕ, ◌+◌, ◌<◌, refl, sym, subst, arith}
use Rattle.std.specs.Prelude.{Option, Some, None}
use Rattle.map_trees.specs.Trees.{Pair, pair}
use Rattle.map_law.specs.declared.view.Kid.{Kid}
use Rattle.map_law.specs.declared.view.View.{View}
use Rattle.map_law.specs.Nodes.{words}
use Rattle.map_law.specs.Patterns.{Notes}
use Rattle.map_law.proofs.Growing.{More, notes_more}
use Rattle.version_reading.specs.Ways.{Way, stops, left, right, Seeks, Tells, levels}
use Rattle.version_reading.specs.Walks.{Turns}

-- what a way from the root is that goes on by this one
pub record Whole (v : View) (root : Option Kid) (n : ℕ) (key : ℕ) (best : Option Pair) (way : Way)
    : Type 0 where
  pub whole : Way
  pub tells : Tells v root whole
  pub long : levels whole ≡ n + levels way
  pub seeks : (x : Option Pair) → Seeks key best way x → Seeks key None whole x

-- a way from this node on goes on one from the root, which has n levels more, and by which the search for the key comes
-- here with the least pair so far
abbrev pub Leads : View → Option Kid → ℕ → Option Kid → ℕ → Option Pair → Type 0
Leads v root n kid key best =
    (w : View) → More v w → (way : Way) → Tells w kid way → Whole w root n key best way

pub leads_none : (v : View) (root : Option Kid) (key : ℕ) → Leads v root 0 root key None
leads_none v root key w more way tells =
    record { whole = way; tells = tells; long = omega arith; seeks = λ x h. h }

pub leads_more : (v w : View) (root : Option Kid) (n : ℕ) (kid : Option Kid) (key : ℕ)
    (best : Option Pair) → More v w → Leads v root n kid key best → Leads w root n kid key best
leads_more v w root n kid key best more leads u further way tells =
    leads u (λ e i. further e (more e i)) way tells

module _ (v w : View) (root : Option Kid) (n : ℕ) (x : Kid) (key : ℕ) (best : Option Pair)
    (a d h : ℕ) (payload : x.payload ≡ words a d h) (more : More v w)
    (leads : Leads v root n (Some x) key best) where
  go_left : (k : Option Kid) → Notes w x.slot x.life 0 k → key < a
      → Leads w root (n + 1) k key (Some (pair a d))
  go_left k notes less u further way tells =
      let one = leads u (λ e i. further e (more e i)) (left a d h way)
      (x, refl, payload, (k, notes_more w u further x.slot x.life 0 k notes, tells)) in
      let long = one.long in record {
        whole = one.whole;
        tells = one.tells;
        long = omega (arith, long);
        seeks = λ y s. one.seeks y (omega (arith, less), s);
      }

  go_right : (k : Option Kid) → Notes w x.slot x.life 1 k → a < key
      → Leads w root (n + 1) k key best
  go_right k notes less u further way tells =
      let one = leads u (λ e i. further e (more e i)) (right a d h way)
      (x, refl, payload, (k, notes_more w u further x.slot x.life 1 k notes, tells)) in
      let long = one.long in record {
        whole = one.whole;
        tells = one.tells;
        long = omega (arith, long);
        seeks = λ y s. one.seeks y (less, s);
      }

  -- from a node on to what its field holds
  pub goes_down : (side : ℕ) (least : Option Pair) → Turns key a d best side least
      → (k : Option Kid) → Notes w x.slot x.life side k → Leads w root (n + 1) k key least
  goes_down side least turns k notes =
      ⊎_elim
      (λ l. subst (λ (y : Option Pair). Leads w root (n + 1) k key y) (sym l.2)
      (go_left k (subst (λ (i : ℕ). Notes w x.slot x.life i k) l.0 notes) l.1))
      (λ r. subst (λ (y : Option Pair). Leads w root (n + 1) k key y) (sym r.2)
      (go_right k (subst (λ (i : ℕ). Notes w x.slot x.life i k) r.0 notes) r.1))
      turns

  -- the node itself ends a way
  pub stops_here : Whole w root n key best (stops a d h)
  stops_here = leads w more (stops a d h) (x, refl, payload)
