-- What tickets grant stays as it was at the start.
use Rattle.std.proofs.Common.{◌≡◌, ◌≢◌, ◌∙◌, ⊎_elim, ℕ, zero, suc, ◌+◌, ◌^◌, ◌<◌, ◌≤◌, Bool, true, false, List, [], ◌∷◌, length, get_or, set, sum, refl, ap, sym, arith}
use Rattle.std.specs.Prelude.{◌==◌, if◌then◌else◌, nat_lt, Option, Some, None}
use Rattle.std.proofs.lemmas.Bool.{cases_eq, cases_lt}
use Rattle.std.proofs.lemmas.List.{get_or-set_same, get_or-set_other, set_past}
use Rattle.core_events.specs.plain_state.declared.slot.Kind.{Kind}
use Rattle.core_events.specs.plain_state.declared.slot.Kind.TheVariants.{Strong, Weak, Disposal}
use Rattle.core_events.specs.plain_state.declared.slot.SlotId.{SlotId}
use Rattle.core_events.specs.plain_state.Lists.{Entry}
use Rattle.core_events.specs.plain_state.Places.{place_kind}
use Rattle.core_events.specs.plain_state.Steps.{word_of}
use Rattle.core_events.specs.declared.act.Act.{Act}
use Rattle.core_events.specs.declared.act.Act.TheVariants as act
use Rattle.core_events.specs.declared.act.Event.{Event}
use Rattle.core_events.specs.declared.shape.Shape.{Shape}
use Rattle.core_events.specs.declared.shape.Quota.{Quota}
use Rattle.core_events.specs.declared.view.CoreView.{CoreView}
use Rattle.core_events.specs.declared.view.Phase.{Phase}
use Rattle.core_events.specs.Words.{bit_in}
use Rattle.core_events.specs.counter_word.Words.{ZERO, has_help, value}
use Rattle.core_events.specs.Views.{Terms, first_views, no_view, note_of, slot_of}
use Rattle.core_events.specs.Steps.{changed, ended, exchanged, given_up, is_last, is_valid, paid, moved, noted}
use Rattle.core_events.specs.Runs.{Core, History, found, left_behind, taken_over, view_at, views_after}
use Rattle.core_events.specs.declared.outcome.Outcome.TheVariants as outcome
use Rattle.core_law.proofs.Starts.{first_at}

either_way : (b : Bool) (x y : CoreView) (gs : List ℕ) → x.grants ≡ gs → y.grants ≡ gs
    → (if b then x else y).grants ≡ gs
either_way true x y gs first second = first
either_way false x y gs first second = second

given_up_grants : (k : Kind) (s : SlotId) (w : ℕ) (v : CoreView)
    → (given_up k s w v).grants ≡ v.grants
given_up_grants Strong s w v = refl
given_up_grants Weak s w v = refl
given_up_grants Disposal s w v = refl

paid_grants : (es : List Entry) (w : ℕ) (v : CoreView) → (paid w es v).grants ≡ v.grants
paid_grants [] w v = refl
paid_grants (e ∷ es) w v = given_up_grants e.0 e.1 w (record v { owed = es })

ended_grants : (b : Bool) (s : Option SlotId) (next : Phase) (v : CoreView)
    → (ended b s next v).grants ≡ v.grants
ended_grants true s next v = refl
ended_grants false s next v = refl

exchanged_grants : (k : Kind) (new : Option SlotId) (w : ℕ) (v : CoreView)
    → (exchanged k new w v).grants ≡ v.grants
exchanged_grants k None w v = refl
exchanged_grants Strong (Some s) w v = refl
exchanged_grants Weak (Some s) w v = refl
exchanged_grants Disposal (Some s) w v = refl

changed_grants : (z : Shape) (a : Act) (w : ℕ) (v : CoreView) → (changed z a w v).grants ≡ v.grants
changed_grants z (act.Add s) w v = either_way (nat_lt w ZERO) _ _ v.grants refl refl
changed_grants z (act.Drop s) w v = refl
changed_grants z act.Pay w v = paid_grants v.owed w v
changed_grants z act.Finish w v = ended_grants (w == 0) (slot_of v.phase) _ v
changed_grants z act.Take w v = ended_grants (has_help w) (slot_of v.phase) _ v
changed_grants z (act.Count s) w v = either_way (w == 0) _ _ v.grants refl refl
changed_grants z act.Mark w v = refl
changed_grants z (act.Announce j k s) w v = refl
changed_grants z (act.Release j) w v = refl
changed_grants z (act.Look p) w v = refl
changed_grants z (act.Check j p) w v =
    either_way (is_valid w (note_of v j)) _ _ v.grants refl refl
changed_grants z (act.Alive j) w v = either_way (nat_lt 0 (value w)) _ _ v.grants refl refl
changed_grants z act.Scan w v = either_way (is_last z v) _ _ v.grants refl refl
changed_grants z (act.Swap p new) w v = exchanged_grants (place_kind p) new w v
changed_grants z (act.Cas p old new) w v =
    either_way (w == word_of old) _ _ v.grants (exchanged_grants (place_kind p) new w v) refl
changed_grants z (act.Claim s) w v = either_way (bit_in s w == 1) _ _ v.grants refl refl
changed_grants z act.Arm w v = refl
changed_grants z (act.Fill i x) w v = refl
changed_grants z act.Start w v = refl
changed_grants z (act.See s i) w v = refl
changed_grants z act.Free w v = refl
changed_grants z act.Ticket w v = refl
changed_grants z (act.Wadd s) w v = refl
changed_grants z (act.Wdrop s) w v = refl
changed_grants z (act.Destroy s) w v = refl
changed_grants z (act.Wcount s) w v = refl
changed_grants z (act.Leave j) w v = refl

-- another view of one seat with the same grants
set_grants : (vs : List CoreView) (n : ℕ) (v : CoreView) → v.grants ≡ (get_or vs n no_view).grants
    → (m : ℕ) → (get_or (set vs n v) m no_view).grants ≡ (get_or vs m no_view).grants
set_grants vs n v same m = ⊎_elim
    (λ (here : m ≡ n). ⊎_elim
    (λ (there : n < length vs).
    let at = ap (λ (x : CoreView). x.grants) (get_or-set_same vs n v no_view there) in
    rw here (at ∙ same))
    (λ (past : length vs ≤ n).
    ap (λ (xs : List CoreView). (get_or xs m no_view).grants) (set_past vs n v past))
    (cases_lt n (length vs)))
    (λ (other : m ≢ n).
    ap (λ (x : CoreView). x.grants) (get_or-set_other vs n m v no_view other))
    (cases_eq m n)

module _ (z : Shape) (c : Core) (n m : ℕ) where
  one_view : (a : Act)
      → (get_or (set c.views n (moved z a (found z c n a) (view_at c n))) m no_view).grants
      ≡ (view_at c m).grants
  one_view a =
      set_grants c.views n (moved z a (found z c n a) (view_at c n))
      (changed_grants z a (found z c n a) (view_at c n)) m

  leave_views : (j : ℕ) → (get_or (views_after z c n (act.Leave j)) m no_view).grants
      ≡ (view_at c m).grants
  leave_views j =
      let root = noted (act.Leave j) outcome.Plain (taken_over (view_at c 0) (view_at c j)) in
      let vs = set c.views 0 root in
      set_grants vs j (left_behind (view_at c j)) (sym (set_grants c.views 0 root refl j)) m
      ∙ set_grants c.views 0 root refl m

  pub grants_after : (a : Act)
      → (get_or (views_after z c n a) m no_view).grants ≡ (view_at c m).grants
  grants_after (act.Add s) = one_view (act.Add s)
  grants_after (act.Drop s) = one_view (act.Drop s)
  grants_after act.Pay = one_view act.Pay
  grants_after act.Finish = one_view act.Finish
  grants_after act.Take = one_view act.Take
  grants_after (act.Count s) = one_view (act.Count s)
  grants_after act.Mark = one_view act.Mark
  grants_after (act.Announce j k s) = one_view (act.Announce j k s)
  grants_after (act.Release j) = one_view (act.Release j)
  grants_after (act.Look p) = one_view (act.Look p)
  grants_after (act.Check j p) = one_view (act.Check j p)
  grants_after (act.Alive j) = one_view (act.Alive j)
  grants_after act.Scan = one_view act.Scan
  grants_after (act.Swap p x) = one_view (act.Swap p x)
  grants_after (act.Cas p x y) = one_view (act.Cas p x y)
  grants_after (act.Claim s) = one_view (act.Claim s)
  grants_after act.Arm = one_view act.Arm
  grants_after (act.Fill i x) = one_view (act.Fill i x)
  grants_after act.Start = one_view act.Start
  grants_after (act.See s i) = one_view (act.See s i)
  grants_after act.Free = one_view act.Free
  grants_after act.Ticket = one_view act.Ticket
  grants_after (act.Wadd s) = one_view (act.Wadd s)
  grants_after (act.Wdrop s) = one_view (act.Wdrop s)
  grants_after (act.Destroy s) = one_view (act.Destroy s)
  grants_after (act.Wcount s) = one_view (act.Wcount s)
  grants_after (act.Leave j) = leave_views j

-- at the start each seat has the grants of the domain
pub first_few : (z : Shape) (n : ℕ) (qs : List Quota) (gs : List ℕ) (m : ℕ) → sum gs ≤ 2 ^ 40
    → sum (get_or (first_views z n qs gs) m no_view).grants ≤ 2 ^ 40
first_few z n [] gs m h = omega arith
first_few z n (q ∷ qs) gs zero h = h
first_few z n (q ∷ qs) gs (suc m) h = first_few z (n + 1) qs gs m h

-- and so it has after every history
pub history_grants : (z : Shape) (ts : Terms) (es : List Event) (c : Core) → History z ts es c
    → (m : ℕ) → m < length ts.quotas → (view_at c m).grants ≡ ts.grants
history_grants z ts [] c h m there =
    ap (λ (d : Core). (view_at d m).grants) h
    ∙ ap (λ (v : CoreView). v.grants)
    (first_at z 0 m ts.quotas ts.grants (record { makes = 0; adds = 0 }) there)
history_grants z ts (e ∷ es) c h m there =
    ap (λ (d : Core). (view_at d m).grants) h.2.1
    ∙ (grants_after z h.0 e.seat m e.act ∙ history_grants z ts es h.0 h.1 m there)
