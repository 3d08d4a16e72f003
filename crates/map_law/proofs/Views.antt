-- The law where one view changes alone, and where a node is the seat's to change no more.
use Rattle.std.proofs.Common.{◌≡◌, inr, ⊎_elim, ℕ, ◌<◌, ◌≤◌, Bool, true, false, List, [], ◌∷◌, length, set, refl, sym, ◌∙◌, subst, arith}
use Rattle.std.specs.Prelude.{if◌then◌else◌}
use Rattle.plain_protocol.specs.plain_state.declared.slot.SlotId.{SlotId}
use Rattle.plain_protocol.specs.plain_state.declared.slot.Stage.TheVariants.{Live}
use Rattle.plain_protocol.specs.plain_state.State.{Plain, slot_at}
use Rattle.plain_protocol.specs.plain_state.Lawful.{Lawful}
use Rattle.map_law.specs.Views.{Raw, View, view_at, In, Each, note, is_raw, raw_times, fresh}
use Rattle.map_law.specs.Nodes.{IsNode, Holds}
use Rattle.map_law.specs.Learnt.{Built, Solid, IsLed, Learnt}
use Rattle.map_law.specs.Law.{MapLaw}
use Rattle.map_law.specs.Making.{Known, led_notes, frozen}
use Rattle.map_law.proofs.Kit.{each_append, each_without, each_in, gone_fewer, gone_same, raw_at, at_view, fresh_set, fresh_at}
use Rattle.map_law.proofs.Left.{LeftSame}
use Rattle.map_law.proofs.Steps.{Nowhere, frame_same}
use Rattle.map_law.proofs.Whole.{set_heads, learnt_on, law_on}

pub same_left : (p : Plain) → LeftSame p p
same_left p = record { seats = refl; left = λ m. refl }

module _ (c : ℕ) (p : Plain) (views : List View) (n : ℕ) (w : View) (lawful : Lawful p) (law : MapLaw c p views)
    (low : n < length views)
    (fewer : (s : SlotId) (l : ℕ) → raw_times s l w.raw ≤ raw_times s l (view_at views n).raw) where
  pub fresh_fewer : (s : SlotId) (l : ℕ) → fresh (set views n w) s l ≤ fresh views s l
  fresh_fewer s l = let a = fresh_set views n w s l low in let b = fewer s l in omega arith

  pub still_none : (s : SlotId) (l : ℕ) → l ≤ (slot_at p s).life → fresh views s l ≡ 0 → fresh (set views n w) s l ≡ 0
  still_none s l le e = let a = fresh_fewer s l in omega arith

  pub view_law : (view_at views n).here ≡ true
      → w.here ≡ (view_at views n).here → w.number ≡ (view_at views n).number → w.entries ≡ (view_at views n).entries
      → w.cleared ≡ (view_at views n).cleared
      → Learnt p (set views n w) w → MapLaw c p (set views n w)
  view_law here a b d e learnt =
      let fr = frame_same p p refl in
      law_on c Nowhere p p views (set views n w) fr lawful law (λ s x le e. x) still_none
      (λ s. inr (λ x. x)) refl (λ s x is. absurd x) (λ t s x is l. absurd x)
      (λ s l. let f = fresh_fewer s l in let o = law.once s l in omega arith)
      (λ s l h. let f = fresh_fewer s l in law.lives s l (omega arith))
      (at_view views n w (Learnt p (set views n w)) low learnt
      (λ m ne. learnt_on c Nowhere p p views (set views n w) fr lawful law (λ s x le e. x) still_none
      (view_at views m) (λ e i life x. x) (law.learnt m)))
      (set_heads views n w low here a b d e) (same_left p)

  pub old_learnt : Learnt p (set views n w) (view_at views n)
  old_learnt = learnt_on c Nowhere p p views (set views n w) (frame_same p p refl) lawful law
      (λ s x le e. x) still_none (view_at views n) (λ e i life x. x) (law.learnt n)

-- the fields of a node that the seat made, as they are noted from now on
led_notes_are : (p : Plain) (views : List View) (r : SlotId) (l : ℕ) → l ≤ (slot_at p r).life → fresh views r l ≡ 0
    → (es : List Raw) → Each (Built p) es → Each (IsLed p views) (led_notes es r l)
led_notes_are p views r l le none [] h = tt
led_notes_are p views r l le none (e ∷ es) h = go (is_raw r l e) refl (led_notes_are p views r l le none es h.1)
  where
    built : is_raw r l e ≡ true → (slot_at p r).life ≡ l → (slot_at p r).stage ≡ Live
        → IsNode (slot_at p r).payload × Holds p e.first (slot_at p r).first × Holds p e.second (slot_at p r).second
    built is life live =
        let a = raw_at r l e is in
        let b : (slot_at p r).life ≡ e.life → (slot_at p r).stage ≡ Live
        → ((slot_at p r).payload ≡ e.payload) × IsNode e.payload × Holds p e.first (slot_at p r).first
        × Holds p e.second (slot_at p r).second =
        subst (λ (z : SlotId). (slot_at p z).life ≡ e.life → (slot_at p z).stage ≡ Live
        → ((slot_at p z).payload ≡ e.payload) × IsNode e.payload × Holds p e.first (slot_at p z).first
        × Holds p e.second (slot_at p z).second) a.0 h.0.1 in
        let d = b (life ∙ sym a.1) live in (subst IsNode (sym d.0) d.1, d.2, d.3)

    go : (b : Bool) → is_raw r l e ≡ b → Each (IsLed p views) (led_notes es r l)
        → Each (IsLed p views) (if b then record { slot = r; life = l; side = 0; kid = e.first } ∷ record {
          slot = r;
          life = l;
          side = 1;
          kid = e.second;
        } ∷ led_notes es r l else led_notes es r l)
    go false is k = k
    go true is k = (
      (le, none, λ life live. let d = built is life live in (d.0, d.1)),
      ((le, none, λ life live. let d = built is life live in (d.0, d.2)), k),
    )

pub frozen_fewer : (r : SlotId) (l : ℕ) (v : View) (s : SlotId) (k : ℕ)
    → raw_times s k (frozen r l v).raw ≤ raw_times s k v.raw
frozen_fewer r l v s k = gone_fewer r l s k v.raw

-- what is known of such a node
pub known_life : (c : ℕ) (p : Plain) (views : List View) (n : ℕ) → MapLaw c p views → n < length views
    → (r : SlotId) (l : ℕ) → Known (view_at views n) r l → l ≤ (slot_at p r).life
known_life c p views n law low r l known = ⊎_elim
    (λ (i : In (note r l) (view_at views n).solid). (each_in (Solid p views) (note r l) (view_at views n).solid i
    (law.learnt n).solid).0)
    (λ (h : 0 < raw_times r l (view_at views n).raw). let a = fresh_at views n r l low in
    law.lives r l (omega arith)) known

pub known_none : (c : ℕ) (p : Plain) (views : List View) (n : ℕ) → MapLaw c p views → n < length views
    → (r : SlotId) (l : ℕ) → Known (view_at views n) r l → fresh (set views n (frozen r l (view_at views n))) r l ≡ 0
known_none c p views n law low r l known =
    let a = fresh_set views n (frozen r l (view_at views n)) r l low in
    let b = gone_same r l (view_at views n).raw in
    ⊎_elim
    (λ (i : In (note r l) (view_at views n).solid).
    let e = (each_in (Solid p views) (note r l) (view_at views n).solid i (law.learnt n).solid).1 in omega arith)
    (λ (h : 0 < raw_times r l (view_at views n).raw). let o = law.once r l in omega arith) known

pub frozen_law : (c : ℕ) (p : Plain) (views : List View) (n : ℕ) (r : SlotId) (l : ℕ) → Lawful p → MapLaw c p views
    → n < length views
    → (view_at views n).here ≡ true → Known (view_at views n) r l
    → MapLaw c p (set views n (frozen r l (view_at views n)))
frozen_law c p views n r l lawful law low here known =
    let v = view_at views n in
    let w = frozen r l v in
    let le = known_life c p views n law low r l known in
    let none = known_none c p views n law low r l known in
    let old = old_learnt c p views n w lawful law low (frozen_fewer r l v) in
    view_law c p views n w lawful law low (frozen_fewer r l v) here refl refl refl refl
    (record {
      raw = each_without (Built p) r l v.raw old.raw;
      solid = ((le, none), old.solid);
      led = each_append (IsLed p (set views n w)) (led_notes v.raw r l) v.led
          (led_notes_are p (set views n w) r l le none v.raw old.raw) old.led;
      shown = old.shown;
    })
