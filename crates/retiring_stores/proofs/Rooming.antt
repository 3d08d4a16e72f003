-- A seat that hasn't left has room for an entry of each announcement word, and a batch.
use Rattle.std.proofs.Common.{◌≡◌, ⊎_elim, ℕ, zero, suc, ◌+◌, ◌*◌, ◌<◌, ◌≤◌, Bool, true, false, List, [], ◌∷◌, length, get_or, refl, ap, sym, ◌∙◌, arith}
use Rattle.std.specs.Prelude.{if◌then◌else◌}
use Rattle.std.proofs.lemmas.Bool.{cases_lt}
use Rattle.std.proofs.lemmas.List.Sums.{sum_by-cons}
use Rattle.control_word.specs.plain_state.declared.act.PlainAct.{PlainAct}
use Rattle.control_word.specs.plain_state.State.{Plain}
use Rattle.control_word.specs.plain_protocol.Owns.{OwnPart}
use Rattle.control_word.specs.core_events.declared.act.Act.{Act}
use Rattle.control_word.specs.core_events.declared.shape.Shape.{Shape}
use Rattle.control_word.specs.core_events.declared.view.CoreView.{CoreView}
use Rattle.control_word.specs.core_events.Counts.{total}
use Rattle.control_word.specs.core_events.Good.{staying_room}
use Rattle.control_word.specs.core_events.Runs.{Core, view_at}
use Rattle.control_word.specs.core_events.Views.{Terms, no_view, room_of}
use Rattle.control_word.specs.core_law.Sound.{Sound}
use Rattle.control_word.proofs.Below.core_law_Always.{history_sound}
use Rattle.control_word.specs.domain_rule.declared.view.SeatView.{SeatView}
use Rattle.control_word.specs.domain_rule.Told.{Told}

staying_least : (v : CoreView) (r : ℕ) → v.room ≡ r → staying_room v ≤ r
staying_least v r is = go v.left
  where
    go : (b : Bool) → (if b then 0 else v.room) ≤ r
    go true = omega arith
    go false = omega arith

total_most : (f : CoreView → ℕ) (r : ℕ) (vs : List CoreView)
    → ((k : ℕ) → k < length vs → f (get_or vs k no_view) ≤ r) → total f vs ≤ length vs * r
unfolding total
total_most f r [] each = omega arith
total_most f r (v ∷ vs) each =
    let a = sum_by-cons f v vs in
    let h : f v ≤ r = each zero (omega arith) in
    let rest = total_most f r vs (λ k below. each (suc k) (omega arith)) in
    let more : suc (length vs) * r ≡ r + length vs * r = omega arith in omega arith

total_but_first : (f : CoreView → ℕ) (r : ℕ) (vs : List CoreView)
    → ((k : ℕ) → 0 < k → k < length vs → f (get_or vs k no_view) ≤ r)
    → 0 < length vs → total f vs + r ≤ f (get_or vs 0 no_view) + length vs * r
unfolding total
total_but_first f r [] each some = absurd (omega arith)
total_but_first f r (v ∷ vs) each some =
    let a = sum_by-cons f v vs in
    let rest = total_most f r vs (λ k below. each (suc k) (omega arith) (omega arith)) in
    let more : suc (length vs) * r ≡ r + length vs * r = omega arith in omega arith

room_least : (z : Shape) (c : Core) (n : ℕ) → Sound z c → n < length c.views
    → (view_at c n).left ≡ false → room_of z ≤ (view_at c n).room
room_least z c n so there here = ⊎_elim
    (λ (later : 0 < n). let is = so.room.others n later there in omega arith)
    (λ (first : n ≤ 0).
    let sum = so.room.sum in
    let views = so.views in
    let most = total_but_first staying_room (room_of z) c.views
    (λ k pos below. staying_least (view_at c k) (room_of z) (so.room.others k pos below))
    (omega arith) in
    let root : n ≡ 0 = omega arith in
    let mine : (view_at c 0).left ≡ false =
    ap (λ (k : ℕ). (view_at c k).left) (sym root) ∙ here in
    let stays : staying_room (view_at c 0) ≡ (view_at c 0).room = rw mine refl in
    let same = ap (λ (k : ℕ). (view_at c k).room) root in
    let whole = ap (λ (k : ℕ). k * room_of z) views in omega arith)
    (cases_lt 0 n)

module _ {V : Type 0} {fits : List ℕ → Type 0} {z : Shape} {ts : Terms}
    {next : OwnPart → OwnPart → V → PlainAct → ℕ → V}
    {allows : Plain → Plain → ℕ → V → V → Type 0} {a : Act} {v v' : SeatView V} {w : ℕ}
    (told : Told fits z ts next allows a v w v') where
  pub sound_before : Sound z told.happened.before
  sound_before =
      history_sound z ts told.happened.events told.happened.before told.happened.shape
      told.happened.terms told.happened.history

  -- so a step tells its seat
  pub told_room : v.core.left ≡ false → room_of z ≤ v.core.room
  told_room here =
      let h = told.happened in
      let least = room_least z h.before v.core.seat sound_before h.enabled.0
      (ap (λ (u : CoreView). u.left) (sym h.view) ∙ here) in
      let same = ap (λ (u : CoreView). u.room) h.view in omega arith
