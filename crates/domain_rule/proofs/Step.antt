-- A step of a seat keeps what all views tell.
use Rattle.std.proofs.Common.{◌≡◌, ◌≢◌, ℕ, ◌<◌, true, false, List, length, get_or, set, refl, ap, sym, ◌∙◌, subst, arith}
use Rattle.std.specs.Prelude.{Option, Some, None}
use Rattle.std.specs.Option.{option_map}
use Rattle.std.proofs.lemmas.List.{length-set, get_or-set_same, get_or-set_other}
use Rattle.plain_protocol.specs.plain_state.declared.act.EventPlace.TheVariants.{Field, WeakField}
use Rattle.plain_protocol.specs.plain_state.State.{PlainSeat}
use Rattle.plain_protocol.specs.Owns.{HasSlot}
use Rattle.core_law.specs.core_events.declared.act.Act.{Act}
use Rattle.core_law.specs.core_events.declared.act.Act.TheVariants as act
use Rattle.core_law.specs.core_events.declared.act.Event.{Event}
use Rattle.core_law.specs.core_events.declared.shape.Shape.{Shape}
use Rattle.core_law.specs.core_events.declared.view.CoreView.{CoreView}
use Rattle.core_law.specs.core_events.Runs.{Core, Enabled, RestMay, after, found, view_at}
use Rattle.core_law.specs.core_events.Shows.{show_seat, shows}
use Rattle.core_law.specs.core_events.Steps.{moved}
use Rattle.core_law.specs.core_events.Views.{no_view}
use Rattle.core_law.specs.Sound.{Sound}
use Rattle.core_law.proofs.Always.{step_keeps}
use Rattle.core_law.proofs.Trails.{views_plain}
use Rattle.core_law.proofs.Bridge.{shown_seat}
use Rattle.core_law.proofs.Seats.{enabled_seat}
use Rattle.domain_rule.specs.declared.view.SeatView.{SeatView}
use Rattle.domain_rule.specs.declared.view.Whole.{Whole}
use Rattle.domain_rule.specs.Rule.{IsTrueOf, OthersLeft, Tells}
use Rattle.domain_rule.specs.Told.{IsOwn, cleared_after, whole_after}
use Rattle.domain_rule.specs.Views.{core_in, objects_of, whole_of}
use Rattle.domain_rule.proofs.ClearedWords.{cleared_stays}
use Rattle.domain_rule.proofs.Others.{others_keep}
use Rattle.domain_rule.proofs.OwnCleared.{own_cleared}
use Rattle.domain_rule.proofs.Owns.{told_object}
use Rattle.domain_rule.proofs.Telling.{tells_again}

-- the view of a seat that made an act, found w and led to d, the last of these events
abbrev pub stepped_view : {V : Type 0} → Shape → Core → Act → ℕ → List Event → V → SeatView V
    → SeatView V
stepped_view z d a w past client v =
    record v {
      core = moved z a w v.core;
      objects = objects_of (shows z d);
      cleared = cleared_after a v.core v.cleared;
      whole = whole_after z a v;
      past = past;
      gone = false;
      client = client;
    }

-- what a seat's own view tells is all that its act asks
pub rest_may : {V : Type 0} (z : Shape) (c : Core) (n : ℕ) (v : SeatView V) (a : Act)
    → IsTrueOf z c n v → IsOwn a v → RestMay z c a
rest_may z c n v (act.Add s) told own = tt
rest_may z c n v (act.Drop s) told own = tt
rest_may z c n v act.Pay told own = tt
rest_may z c n v act.Finish told own = tt
rest_may z c n v act.Take told own = tt
rest_may z c n v (act.Count s) told own = tt
rest_may z c n v act.Mark told own = tt
rest_may z c n v (act.Announce j k s) told own = tt
rest_may z c n v (act.Release j) told own = tt
rest_may z c n v (act.Look p) told own = tt
rest_may z c n v (act.Check j p) told own = tt
rest_may z c n v (act.Alive j) told own = tt
rest_may z c n v act.Scan told own = tt
rest_may z c n v (act.Swap p new) told own = tt
rest_may z c n v (act.Cas p old new) told own = tt
rest_may z c n v (act.Claim s) told own = tt
rest_may z c n v act.Arm told own = tt
rest_may z c n v (act.Fill i x) told own = tt
rest_may z c n v act.Start told own = tt
rest_may z c n v (act.See s i) told own = tt
rest_may z c n v act.Free told own = tt
rest_may z c n v act.Ticket told own = tt
rest_may z c n v (act.Wadd s) told own = tt
rest_may z c n v (act.Wdrop s) told own = tt
rest_may z c n v (act.Destroy s) told own = (
  (told.cleared (Field s 0) own.0).2,
  (told.cleared (Field s 1) own.1).2,
  (told.cleared (WeakField s) own.2).1,
)
rest_may z c n v (act.Wcount s) told own = tt
rest_may z c n v (act.Leave j) told own = absurd own

module _ (z : Shape) (c : Core) (so : Sound z c) (n : ℕ) (a : Act) (on : Enabled z c n a)
    (single : (j : ℕ) → a ≡ act.Leave j → ⊥) where
  views_own : (after z c n a).views ≡ set c.views n (moved z a (found z c n a) (view_at c n))
  views_own = views_plain z c n a single

  -- the view of the seat that made the step, and those of the others
  pub view_after : view_at (after z c n a) n ≡ moved z a (found z c n a) (view_at c n)
  view_after = ap (λ (vs : List CoreView). get_or vs n no_view) views_own
      ∙ get_or-set_same c.views n (moved z a (found z c n a) (view_at c n)) no_view on.0

  pub other_after : (m : ℕ) → m ≢ n → view_at (after z c n a) m ≡ view_at c m
  other_after m ne = ap (λ (vs : List CoreView). get_or vs m no_view) views_own
      ∙ get_or-set_other c.views n m (moved z a (found z c n a) (view_at c n)) no_view ne

  pub views_stay : length (after z c n a).views ≡ length c.views
  views_stay = ap length views_own
      ∙ length-set c.views n (moved z a (found z c n a) (view_at c n))

  still : Sound z (after z c n a)
  still = step_keeps z c n a so on

  -- the seat that made it hadn't left
  stays : (view_at c n).left ≡ true → ⊥
  stays gone =
      let seat = (enabled_seat z c n a so on).1 in
      let shown = ap (λ (u : PlainSeat). u.left) (shown_seat z c n on.0) in
      absurd (cc (seat, shown, gone))

  module _ {V : Type 0} where
    -- another seat's view tells what it told
    pub other_tells : (m : ℕ) (u : SeatView V) → m < length c.views → m ≢ n → Tells z c m u
        → Tells z (after z c n a) m u
    other_tells m u hm ne = tells_again z c (after z c n a) m u
        (λ left. ap (λ (v : CoreView). v.left) (other_after m ne) ∙ left)
        (λ here told. record {
          core = told.core ∙ sym (other_after m ne);
          objects = λ s has. told.objects s has ∙ sym (others_keep z c so n m a s on hm ne
              (subst (λ (v : CoreView). HasSlot (show_seat v) s) told.core has));
          cleared = λ p stands. cleared_stays z c so n a on still m u.core u.core hm
              (let l = views_stay in omega arith) told.core (told.core ∙ sym (other_after m ne)) p
              (λ s of. omega arith) (told.cleared p stands);
          whole = λ all known.
              let t = told.whole all known in
              let root = t.1 in absurd (stays (t.2 n (omega (arith, ne)) on.0));
        })

    -- the seat's new view tells what is so
    module _ (v : SeatView V) (told : IsTrueOf z c n v) where
      seat_is : v.core.seat ≡ n
      seat_is =
          let e = so.views in
          let h = on.0 in
          ap (λ (u : CoreView). u.seat) told.core ∙ (so.seats n (omega arith)).number

      pub core_after : (w : ℕ) → w ≡ found z c n a
          → moved z a w v.core ≡ view_at (after z c n a) n
      core_after w is = (λ i. moved z a (is i) (told.core i)) ∙ sym view_after

      whole_told : (all : Whole) → whole_after z a v ≡ Some all
          → (core_in all ≡ after z c n a) × (n ≡ 0) × OthersLeft (after z c n a)
      whole_told all = go v.whole refl
        where
          go : (o : Option Whole) → v.whole ≡ o
              → option_map (λ b. whole_of (after z (core_in b) v.core.seat a)) o ≡ Some all
              → (core_in all ≡ after z c n a) × (n ≡ 0) × OthersLeft (after z c n a)
          go None none e = absurd (cc (e))
          go (Some b) known e =
              let t = told.whole b known in
              let root = t.1 in
              let same : all ≡ whole_of (after z (core_in b) v.core.seat a) = cc (e) in (
                ap core_in same ∙ (λ i. after z (t.0 i) (seat_is i) a),
                root,
                λ m pos hm.
                    let l = views_stay in
                    ap (λ (u : CoreView). u.left) (other_after m (λ e. omega arith))
                    ∙ t.2 m pos (omega arith),
              )

      pub own_tells : (w : ℕ) (past : List Event) (client : V) → w ≡ found z c n a
          → IsTrueOf z (after z c n a) n (stepped_view z (after z c n a) a w past client v)
      own_tells w past client is = record {
        core = core_after w is;
        objects = λ s has. told_object (shows z (after z c n a))
            (stepped_view z (after z c n a) a w past client v) s refl;
        cleared = λ p stands.
            let e = so.views in
            let h = on.0 in
            own_cleared z c so n v.core v.cleared (omega arith) told.core a w on (core_after w is)
            still p told.cleared stands;
        whole = whole_told;
      }
