-- What is deferred stays within the rooms of the seats that are there.
use Rattle.std.proofs.Common.{◌≡◌, ℕ, zero, suc, ◌<◌, ◌≤◌, Bool, true, false, List, [], ◌∷◌, length, get_or, refl, ap, arith}
use Rattle.std.specs.Prelude.{if◌then◌else◌}
use Rattle.std.proofs.lemmas.List.Sums.{sum_by-cons}
use Rattle.core_law.specs.core_events.declared.act.Event.{Event}
use Rattle.core_law.specs.core_events.declared.shape.Shape.{Shape}
use Rattle.core_law.specs.core_events.declared.view.CoreView.{CoreView}
use Rattle.core_law.specs.core_events.Counts.{total}
use Rattle.core_law.specs.core_events.Good.{staying_room}
use Rattle.core_law.specs.core_events.Runs.{AreTerms, Core, History, IsShape, view_at}
use Rattle.core_law.specs.core_events.Views.{Terms, no_view}
use Rattle.core_law.specs.Sound.{Sound}
use Rattle.core_law.proofs.Always.{history_sound}
use Rattle.core_promises.specs.Finds.{DeferredFit, deferred}

-- seat by seat at most as much is at most as much together
total_at_most : (f g : CoreView → ℕ) (vs : List CoreView)
    → ((n : ℕ) → n < length vs → f (get_or vs n no_view) ≤ g (get_or vs n no_view))
    → total f vs ≤ total g vs
unfolding total
total_at_most f g [] each = omega arith
total_at_most f g (v ∷ vs) each =
    let a = sum_by-cons f v vs in
    let b = sum_by-cons g v vs in
    let h = each zero (omega arith) in
    let r = total_at_most f g vs (λ n l. each (suc n) (omega arith)) in omega arith

module _ (z : Shape) (c : Core) (so : Sound z c) where
  within : (n : ℕ) → n < length c.views → deferred (view_at c n) ≤ (view_at c n).room
  within n hn = so.room.each n no_view hn

  staying : (n : ℕ) → n < length c.views → deferred (view_at c n) ≤ staying_room (view_at c n)
  staying n hn = go (view_at c n).left refl
    where
      go : (b : Bool) → (view_at c n).left ≡ b
          → deferred (view_at c n) ≤ (if b then 0 else (view_at c n).room)
      go true left =
          let e = so.views in
          let gone = (so.seats n (omega arith)).gone left in
          let r = ap length gone.3 in
          let o = ap length gone.4 in omega arith
      go false here = within n hn

  pub fits : DeferredFit z c
  fits = record {
    together =
        let t = total_at_most deferred staying_room c.views staying in
        let s = so.room.sum in omega arith;
    alone = λ n pos hn.
        let e = so.views in
        let w = within n (omega arith) in
        let o = so.room.others n pos (omega arith) in omega arith;
  }

-- every state that has a history is sound
pub history_fits : (z : Shape) (ts : Terms) (es : List Event) (c : Core) → IsShape z → AreTerms z ts
    → History z ts es c → DeferredFit z c
history_fits z ts es c shape terms h = fits z c (history_sound z ts es c shape terms h)
