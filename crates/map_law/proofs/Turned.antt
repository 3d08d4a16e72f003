-- The law where the root cell holds another root, and where what is to be the new root is frozen.
use Rattle.std.proofs.Common.{◌≡◌, ◌≢◌, inl, inr, ⊎_elim, ℕ, ◌<◌, ◌≤◌, true, List, length, set, refl, ap, sym, ◌∙◌, subst, arith}
use Rattle.std.specs.Prelude.{Option, Some, None}
use Rattle.plain_protocol.specs.plain_state.declared.slot.PlainSlot.{PlainSlot}
use Rattle.plain_protocol.specs.plain_state.declared.slot.SlotId.{SlotId}
use Rattle.plain_protocol.specs.plain_state.declared.slot.Stage.TheVariants.{Live}
use Rattle.plain_protocol.specs.plain_state.State.{Plain, slot_at}
use Rattle.plain_protocol.specs.plain_state.Lawful.{Lawful}
use Rattle.plain_protocol.specs.plain_state.Steps.{word_of}
use Rattle.plain_protocol.specs.Owns.{Object, OwnPart, own_part}
use Rattle.map_trees.specs.Trees.{Tree, pairs, Shaped}
use Rattle.map_law.specs.Views.{Kid, View, gone, view_at, Each, raw_times, fresh}
use Rattle.map_law.specs.Nodes.{root, TreeAt}
use Rattle.map_law.specs.Learnt.{Solid, IsLed, IsShown, Built, Learnt}
use Rattle.map_law.specs.Orders.{Orders}
use Rattle.map_law.specs.Law.{MapLaw}
use Rattle.map_law.specs.Patterns.{kid_of, IsKid}
use Rattle.map_law.specs.Making.{Known, frozen}
use Rattle.map_law.specs.Publishing.{frozen_object, frozen_in}
use Rattle.map_law.proofs.Kit.{none_some, some_same, number_same, at_view, fresh_set}
use Rattle.map_law.proofs.Left.{LeftSame}
use Rattle.map_law.proofs.Steps.{Nowhere, frame_same, same_slot}
use Rattle.map_law.proofs.Making.{object_is}
use Rattle.map_law.proofs.Views.{frozen_law, known_none}
use Rattle.map_law.proofs.Whole.{trees_on, loose_on, learnt_on, tree_at_from}
use Rattle.map_law.proofs.Lessons.{same_view}

-- the root cell holds another root from now on, and a view has one entry more
module _ (c : ℕ) (p q : Plain) (views : List View) (n : ℕ) (w : View) (lawful : Lawful p) (law : MapLaw c p views)
    (low : n < length views)
    (slots : q.slots ≡ p.slots) (left : LeftSame p q)
    (raw : w.raw ≡ (view_at views n).raw) (solid : w.solid ≡ (view_at views n).solid)
    (led : w.led ≡ (view_at views n).led) (shown : w.shown ≡ (view_at views n).shown) where
  counted : (s : SlotId) (l : ℕ) → fresh (set views n w) s l ≡ fresh views s l
  counted s l = let a = fresh_set views n w s l low in let b = ap (raw_times s l) raw in omega arith

  still : (s : SlotId) (l : ℕ) → l ≤ (slot_at p s).life → fresh views s l ≡ 0 → fresh (set views n w) s l ≡ 0
  still s l le h = counted s l ∙ h

  nothing : (s : SlotId) → Nowhere s → (slot_at q s).life ≤ (slot_at p s).life → fresh views s (slot_at q s).life ≡ 0
      → ⊥
  nothing s x le h = x

  learnt : (v : View) → Learnt p views v → Learnt q (set views n w) v
  learnt v h = learnt_on c Nowhere p q views (set views n w) (frame_same p q slots) lawful law nothing still v
      (λ e i life x. x) h

  life_same : (s : SlotId) → (slot_at q s).life ≡ (slot_at p s).life
  life_same s = ap (λ (z : PlainSlot). z.life) (same_slot p q slots s)

  pub turned_law : (tree : Tree) → TreeAt q (root q c) tree → Shaped tree
      → ((s : SlotId) → root q c ≡ Some s → fresh views s (slot_at p s).life ≡ 0)
      → ((m : ℕ) → (view_at (set views n w) m).here ≡ true → (view_at (set views n w) m).number ≡ m)
      → Orders (set views n w) (pairs tree) (view_at (set views n w) 0).cleared
      → ((m : ℕ) → view_at views m ≡ gone → view_at (set views n w) m ≡ gone)
      → ((view_at (set views n w) 0).cleared ≡ true → (m : ℕ) → m ≢ 0 → view_at (set views n w) m ≡ gone)
      → MapLaw c q (set views n w)
  turned_law tree is shaped stands number orders none closed =
      let fr = frame_same p q slots in
      record {
        tree = tree;
        is = is;
        shaped = shaped;
        trees = λ s nd. trees_on c Nowhere p q views (set views n w) fr lawful law nothing still s (λ x. x) nd;
        loose = λ t s nd l. loose_on c Nowhere p q views (set views n w) fr lawful law nothing still t s
            (λ x. x) nd l;
        stands = λ s e. counted s (slot_at q s).life ∙ (ap (fresh views s) (life_same s) ∙ stands s e);
        once = λ s l. let a = counted s l in let b = law.once s l in omega arith;
        lives = λ s l h. let a = counted s l in let b = law.lives s l (omega arith) in let d = life_same s in
            omega arith;
        learnt = at_view views n w (Learnt q (set views n w)) low
            (let o = learnt (view_at views n) (law.learnt n) in record {
              raw = subst (Each (Built q)) (sym raw) o.raw;
              solid = subst (Each (Solid q (set views n w))) (sym solid) o.solid;
              led = subst (Each (IsLed q (set views n w))) (sym led) o.led;
              shown = subst (Each (IsShown q (set views n w))) (sym shown) o.shown;
            })
            (λ m ne. learnt (view_at views m) (law.learnt m));
        number = number;
        orders = orders;
        left = λ m e. none m (law.left m (⊎_elim (λ past. let z = left.seats in inl (omega arith))
            (λ h. inr (sym (left.left m) ∙ h)) e));
        closed = closed;
      }

  pub tree_at_same : (x : Option SlotId) → ((s : SlotId) → x ≡ Some s → (slot_at p s).stage ≡ Live) → (t : Tree)
      → TreeAt p x t → TreeAt q x t
  tree_at_same x live t h = tree_at_from c Nowhere p q views (set views n w)
      (frame_same p q slots) lawful law nothing still x (λ s e. (live s e, λ z. z)) t h

pub frozen_reads : {A : Type 0} (f : View → A) → ((r : SlotId) (l : ℕ) (v : View) → f (frozen r l v) ≡ f v)
    → (own : OwnPart) (new : Option SlotId) (v : View) → f (frozen_in own new v) ≡ f v
frozen_reads {A} f same own None v = refl
frozen_reads {A} f same own (Some r) v = go (own.objects r)
  where
    go : (o : Option Object) → f (frozen_object r o v) ≡ f v
    go None = refl
    go (Some o) = same r o.life v

pub frozen_in_law : (c : ℕ) (p : Plain) (views : List View) (n : ℕ) (new : Option SlotId) (k : Option Kid) → Lawful p
    → MapLaw c p views → n < length views
    → (view_at views n).here ≡ true → IsKid (own_part p n) new k
    → ((x : Kid) → k ≡ Some x → Known (view_at views n) x.slot x.life)
    → MapLaw c p (set views n (frozen_in (own_part p n) new (view_at views n)))
frozen_in_law c p views n None k lawful law low here is known = same_view c p views n law
frozen_in_law c p views n (Some r) k lawful law low here is known =
    let o = is.0 in
    subst (λ (x : Option Object). MapLaw c p (set views n (frozen_object r x (view_at views n)))) (sym is.1)
    (frozen_law c p views n r o.life lawful law low here (known (kid_of r o) is.2))

-- what the new root is to be is nobody's to change
pub frozen_none : (c : ℕ) (p : Plain) (views : List View) (n : ℕ) (new : Option SlotId) (k : Option Kid)
    → MapLaw c p views → n < length views
    → IsKid (own_part p n) new k → ((x : Kid) → k ≡ Some x → Known (view_at views n) x.slot x.life)
    → (s : SlotId) → new ≡ Some s → fresh (set views n (frozen_in (own_part p n) new (view_at views n))) s
    (slot_at p s).life ≡ 0
frozen_none c p views n None k law low is known s e = absurd (none_some s e)
frozen_none c p views n (Some r) k law low is known s e =
    let o = is.0 in
    let life : o.life ≡ (slot_at p r).life = ap (λ (x : Object). x.life) (object_is p n r o is.1) in
    subst (λ (z : SlotId). fresh (set views n (frozen_in (own_part p n) (Some r) (view_at views n))) z
    (slot_at p z).life ≡ 0) (some_same r s e)
    (subst (λ (x : Option Object). fresh (set views n (frozen_object r x (view_at views n))) r (slot_at p r).life
    ≡ 0) (sym is.1)
    (subst (λ (l : ℕ). fresh (set views n (frozen r o.life (view_at views n))) r l ≡ 0) life
    (known_none c p views n law low r o.life (known (kid_of r o) is.2))))

pub word_same : (a b : Option SlotId) → word_of a ≡ word_of b → a ≡ b
word_same None None e = refl
word_same None (Some b) e = absurd (omega arith)
word_same (Some a) None e = absurd (omega arith)
word_same (Some a) (Some b) e = ap (λ (z : SlotId). Some z) (number_same a b (omega arith))
