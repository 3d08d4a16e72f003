-- A seat that hasn't left has room for an entry of each announcement word, and a batch.
use Rattle.std.proofs.Common.{◌≡◌, ⊎_elim, ℕ, zero, suc, ◌+◌, ◌*◌, ◌<◌, ◌≤◌, Bool, true, false, List, [], ◌∷◌, length, get_or, refl, ap, sym, ◌∙◌, arith}
use Rattle.std.specs.Prelude.{if◌then◌else◌}
use Rattle.std.proofs.lemmas.Bool.{cases_lt}
use Rattle.std.proofs.lemmas.List.Sums.{sum_by-cons}
use Rattle.core_promises.specs.core_events.declared.act.Event.{Event}
use Rattle.core_promises.specs.core_events.declared.shape.Shape.{Shape}
use Rattle.core_promises.specs.core_events.declared.view.CoreView.{CoreView}
use Rattle.core_promises.specs.core_events.Counts.{total}
use Rattle.core_promises.specs.core_events.Good.{staying_room}
use Rattle.core_promises.specs.core_events.Runs.{AreTerms, Core, History, IsShape, view_at}
use Rattle.core_promises.specs.core_events.Views.{Terms, no_view, room_of}
use Rattle.core_promises.specs.core_law.Sound.{Sound}
use Rattle.core_promises.proofs.Below.core_law_Always.{history_sound}
use Rattle.acquire_retire.specs.Seats.{HasBatch}

staying_least : (v : CoreView) (r : ℕ) → v.room ≡ r → staying_room v ≤ r
staying_least v r is = go v.left
  where
    go : (b : Bool) → (if b then 0 else v.room) ≤ r
    go true = omega arith
    go false = omega arith

total_most : (f : CoreView → ℕ) (r : ℕ) (vs : List CoreView)
    → ((k : ℕ) → k < length vs → f (get_or vs k no_view) ≤ r) → total f vs ≤ length vs * r
unfolding total
total_most f r [] each = omega arith
total_most f r (v ∷ vs) each =
    let a = sum_by-cons f v vs in
    let h : f v ≤ r = each zero (omega arith) in
    let rest = total_most f r vs (λ k below. each (suc k) (omega arith)) in
    let more : suc (length vs) * r ≡ r + length vs * r = omega arith in omega arith

total_but_first : (f : CoreView → ℕ) (r : ℕ) (vs : List CoreView)
    → ((k : ℕ) → 0 < k → k < length vs → f (get_or vs k no_view) ≤ r)
    → 0 < length vs → total f vs + r ≤ f (get_or vs 0 no_view) + length vs * r
unfolding total
total_but_first f r [] each some = absurd (omega arith)
total_but_first f r (v ∷ vs) each some =
    let a = sum_by-cons f v vs in
    let rest = total_most f r vs (λ k below. each (suc k) (omega arith) (omega arith)) in
    let more : suc (length vs) * r ≡ r + length vs * r = omega arith in omega arith

room_least : (z : Shape) (c : Core) (n : ℕ) → Sound z c → n < length c.views
    → (view_at c n).left ≡ false → room_of z ≤ (view_at c n).room
room_least z c n so there here = ⊎_elim
    (λ (later : 0 < n). let is = so.room.others n later there in omega arith)
    (λ (first : n ≤ 0).
    let sum = so.room.sum in
    let views = so.views in
    let most = total_but_first staying_room (room_of z) c.views
    (λ k pos below. staying_least (view_at c k) (room_of z) (so.room.others k pos below)) (omega arith) in
    let root : n ≡ 0 = omega arith in
    let mine : (view_at c 0).left ≡ false =
    ap (λ (k : ℕ). (view_at c k).left) (sym root) ∙ here in
    let stays : staying_room (view_at c 0) ≡ (view_at c 0).room = rw mine refl in
    let same = ap (λ (k : ℕ). (view_at c k).room) root in
    let whole = ap (λ (k : ℕ). k * room_of z) views in omega arith)
    (cases_lt 0 n)

-- so it is in every history
pub rooms_least : (z : Shape) (ts : Terms) (es : List Event) (c : Core) → IsShape z → AreTerms z ts
    → History z ts es c → (n : ℕ) → n < z.seats → (v : CoreView) → v ≡ view_at c n → v.shape ≡ z
    → HasBatch v
rooms_least z ts es c shape terms history n there v is same here =
    let so = history_sound z ts es c shape terms history in
    let views = so.views in
    let least = room_least z c n so (omega arith) (ap (λ (u : CoreView). u.left) (sym is) ∙ here) in
    let room = ap (λ (u : CoreView). u.room) is in
    let of_shape = ap (λ (y : Shape). room_of y) same in omega arith
