-- A step of a seat keeps what all views tell.
use Rattle.std.proofs.Common.{◌≡◌, ◌≢◌, ℕ, ◌<◌, true, false, List, length, refl, ap, sym, ◌∙◌, subst, arith}
use Rattle.std.specs.Prelude.{IsSome, Option, Some, None}
use Rattle.std.specs.Option.{option_map}
use Rattle.plain_protocol.specs.plain_state.declared.act.EventPlace.TheVariants.{Field}
use Rattle.plain_protocol.specs.Owns.{HasSlot}
use Rattle.epoch_core.specs.declared.act.EpochAct.{EpochAct}
use Rattle.epoch_core.specs.declared.act.EpochAct.TheVariants as act
use Rattle.epoch_core.specs.declared.act.EpochEvent.{EpochEvent}
use Rattle.epoch_core.specs.declared.shape.EpochShape.{EpochShape}
use Rattle.epoch_core.specs.declared.view.EpochView.{EpochView}
use Rattle.epoch_core.specs.Runs.{Core, Enabled, RestMay, after, found, view_at}
use Rattle.epoch_core.specs.Shows.{show_seat, shows}
use Rattle.epoch_core.specs.Steps.{moved}
use Rattle.epoch_core.specs.Sound.{Sound}
use Rattle.epoch_core.proofs.Keeps.{step_keeps}
use Rattle.epoch_rule.specs.declared.view.EpochSeatView.{EpochSeatView}
use Rattle.epoch_rule.specs.declared.view.EpochWhole.{EpochWhole}
use Rattle.epoch_rule.specs.Rule.{IsTrueOf, OthersLeft, Tells}
use Rattle.epoch_rule.specs.Told.{IsOwn, cleared_after, whole_after}
use Rattle.domain_rule.specs.Views.{objects_of}
use Rattle.epoch_rule.specs.Views.{KnowsAll, core_in, whole_of}
use Rattle.epoch_rule.proofs.Cleared.{cleared_stays, own_cleared}
use Rattle.epoch_rule.proofs.Others.{others_keep}
use Rattle.epoch_rule.proofs.Owns.{told_object}
use Rattle.epoch_rule.proofs.Telling.{tells_again}
use Rattle.epoch_rule.proofs.Views.{changed_left, may_stays, other_after, view_after, views_stay}

-- the view of a seat that made an act, found w and led to d, the last of these events
abbrev pub stepped_view : {V : Type 0} → EpochShape → Core → EpochAct → ℕ → List EpochEvent → V → EpochSeatView V
    → EpochSeatView V
stepped_view z d a w past client v =
    record v {
      core = moved z a w v.core;
      objects = objects_of (shows z d);
      cleared = cleared_after a v.cleared;
      whole = whole_after z a v;
      past = past;
      gone = false;
      client = client;
    }

-- what a seat's own view tells is all that its act asks
pub rest_may : {V : Type 0} (z : EpochShape) (c : Core) (n : ℕ) (v : EpochSeatView V) (a : EpochAct)
    → IsTrueOf z c n v → IsOwn a v → RestMay z c a
rest_may z c n v (act.Free s) told own =
    ((told.cleared (Field s 0) own.0).2, (told.cleared (Field s 1) own.1).2)
rest_may z c n v (act.Leave j) told own = absurd own
rest_may z c n v a told own = tt

module _ (z : EpochShape) (c : Core) (so : Sound z c) (n : ℕ) (a : EpochAct) (on : Enabled z c n a)
    (single : (j : ℕ) → a ≡ act.Leave j → ⊥) where
  own_after : view_at (after z c n a) n ≡ moved z a (found z c n a) (view_at c n)
  own_after = view_after z c n a on.0 single

  other : (m : ℕ) → m ≢ n → view_at (after z c n a) m ≡ view_at c m
  other = other_after z c n a on.0 single

  all_stay : length (after z c n a).views ≡ length c.views
  all_stay = views_stay z c n a on.0 single

  -- the seat that made it hadn't left
  stays : (view_at c n).left ≡ true → ⊥
  stays gone =
      let e = so.views in
      let h = on.0 in
      absurd (cc (may_stays z n (view_at c n) (so.seats n (omega arith)) a on.1, gone))

  module _ {V : Type 0} where
    -- another seat's view tells what it told
    pub other_tells : (m : ℕ) (u : EpochSeatView V) → m < length c.views → m ≢ n → Tells z c m u
        → Tells z (after z c n a) m u
    other_tells m u hm ne = tells_again z c (after z c n a) m u
        (λ left. ap (λ (v : EpochView). v.left) (other m ne) ∙ left)
        (λ here told. record {
          core = told.core ∙ sym (other m ne);
          objects = λ s has. told.objects s has ∙ sym (others_keep z c so n m a s on single hm ne
              (subst (λ (v : EpochView). HasSlot (show_seat v) s) told.core has));
          cleared = λ p stands.
              let e = so.views in
              cleared_stays z c so n a on m u.core u.core (omega arith) told.core p
              (λ s of. omega arith) (told.cleared p stands);
          whole = λ all known.
              let t = told.whole all known in
              let root = t.1 in absurd (stays (t.2 n (omega (arith, ne)) on.0));
        })

    -- the seat's new view tells what is so
    module _ (v : EpochSeatView V) (told : IsTrueOf z c n v) where
      seat_is : v.core.seat ≡ n
      seat_is =
          let e = so.views in
          let h = on.0 in
          ap (λ (u : EpochView). u.seat) told.core ∙ (so.seats n (omega arith)).number

      pub core_after : (w : ℕ) → w ≡ found z c n a
          → moved z a w v.core ≡ view_at (after z c n a) n
      core_after w is = (λ i. moved z a (is i) (told.core i)) ∙ sym own_after

      whole_told : (all : EpochWhole) → whole_after z a v ≡ Some all
          → (core_in all ≡ after z c n a) × (n ≡ 0) × OthersLeft (after z c n a)
      whole_told all = go v.whole refl
        where
          go : (o : Option EpochWhole) → v.whole ≡ o
              → option_map (λ b. whole_of (after z (core_in b) v.core.seat a)) o ≡ Some all
              → (core_in all ≡ after z c n a) × (n ≡ 0) × OthersLeft (after z c n a)
          go None none e = absurd (cc (e))
          go (Some b) known e =
              let t = told.whole b known in
              let root = t.1 in
              let same : all ≡ whole_of (after z (core_in b) v.core.seat a) = cc (e) in (
                ap core_in same ∙ (λ i. after z (t.0 i) (seat_is i) a),
                root,
                λ m pos hm.
                    let l = all_stay in
                    ap (λ (u : EpochView). u.left) (other m (λ e. omega arith))
                    ∙ t.2 m pos (omega arith),
              )

      pub own_tells : (w : ℕ) (past : List EpochEvent) (client : V) → w ≡ found z c n a
          → IsTrueOf z (after z c n a) n (stepped_view z (after z c n a) a w past client v)
      own_tells w past client is = record {
        core = core_after w is;
        objects = λ s has. told_object (shows z (after z c n a))
            (stepped_view z (after z c n a) a w past client v) s refl;
        cleared = λ p stands.
            let e = so.views in
            let h = on.0 in
            own_cleared z c so n v.core v.cleared (omega arith) told.core a w on p told.cleared
            stands;
        whole = whole_told;
      }

      -- a seat that is alone then was alone, and knows the whole core still
      pub knows_after : (w : ℕ) (past : List EpochEvent) (client : V) → w ≡ found z c n a
          → KnowsAll v → KnowsAll (stepped_view z (after z c n a) a w past client v)
      knows_after w past client is knows alone =
          let at = core_after w is in
          let e = so.views in
          let h = on.0 in
          let law_then = (step_keeps z c n a so on).seats n (omega arith) in
          let law_now = so.seats n (omega arith) in
          let number = ap (λ (u : EpochView). u.seat) at ∙ law_then.number in
          let was = seat_is in
          let shape = ap (λ (u : EpochView). u.shape.seats) at
          ∙ ap (λ (y : EpochShape). y.seats) law_then.same_shape in
          let shape_was = ap (λ (u : EpochView). u.shape.seats) told.core
          ∙ ap (λ (y : EpochShape). y.seats) law_now.same_shape in
          let left = ap length (changed_left z a w v.core).left_seats in
          let first = alone.0 in
          let all = alone.1 in still_known v.whole (knows (omega arith, omega arith))
        where
          still_known : (o : Option EpochWhole) → IsSome o
              → IsSome (option_map (λ all. whole_of (after z (core_in all) v.core.seat a)) o)
          still_known None is = absurd (cc (is))
          still_known (Some all) is = refl
