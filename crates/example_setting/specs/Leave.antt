-- The law is kept where a seat leaves.
use Rattle.std.proofs.Common.{◌≡◌, ◌≢◌, ⊎_elim, ℕ, ◌<◌, List, length, get_or, sym, ap, subst, ◌∙◌, arith, None}
use Rattle.std.specs.Prelude.{Contains, slice_set}
use Rattle.std.proofs.lemmas.Bool.{cases_eq}
use Rattle.std.proofs.lemmas.List.{length-set}
use Rattle.std.proofs.lemmas.List.Elements.{Contains-append_left, Contains-append_right, Contains-append_cases}
use Rattle.cdrc.specs.plain_state.State.{Plain, slot_at}
use Rattle.cdrc.specs.plain_protocol.Laws.{KeptByLeave}
use Rattle.example_setting.specs.Views.{View, no_view, joined, view_at}
use Rattle.example_setting.specs.Setting.{WasStored, Holds, Setting}
use Rattle.example_setting.specs.Kept.{none_in, view_else, view_here}

module _ (views : List View) (j : ℕ) (low : 0 < length views) (there : j < length views)
    (other : j ≢ 0) where
  abbrev both : View
  both = joined (view_at views 0) (view_at views j)

  abbrev left : List View
  left = slice_set (slice_set views 0 both) j no_view

  left_root : view_at left 0 ≡ both
  left_root = view_else (slice_set views 0 both) j 0 no_view (λ e. other (sym e))
      ∙ view_here views 0 both low

  left_gone : view_at left j ≡ no_view
  left_gone = view_here (slice_set views 0 both) j no_view
      (let l = length-set views 0 both in omega arith)

  left_else : (m : ℕ) → m ≢ 0 → m ≢ j → view_at left m ≡ view_at views m
  left_else m a b = view_else (slice_set views 0 both) j m no_view b ∙ view_else views 0 m both a

  -- what was stored is among what seat 0 or another seat stored
  left_stored : (value : List ℕ) → WasStored views value → WasStored left value
  left_stored value was =
      let has : (m : ℕ) → was.0 ≡ m → Contains (view_at views m).stored value =
      λ m e. subst (λ k. Contains (view_at views k).stored value) e was.1 in
      let by_root : Contains both.stored value → WasStored left value =
      λ c. (0, subst (λ (z : View). Contains z.stored value) (sym left_root) c) in
      ⊎_elim
      (λ is. by_root (Contains-append_left (view_at views 0).stored (view_at views j).stored value
      (has 0 is)))
      (λ a. ⊎_elim
      (λ is. by_root (Contains-append_right (view_at views 0).stored (view_at views j).stored value
      (has j is)))
      (λ b. (
        was.0,
        subst (λ (z : View). Contains z.stored value) (sym (left_else was.0 a b)) was.1,
      ))
      (cases_eq was.0 j))
      (cases_eq was.0 0)

  -- what a seat has read then, a seat had read
  left_read : (n : ℕ) (value : List ℕ) → Contains (view_at left n).read value
      → (m : ℕ) × Contains (view_at views m).read value
  left_read n value has =
      let at : (m : ℕ) (w : View) → n ≡ m → view_at left m ≡ w → Contains w.read value =
      λ m w e is. subst (λ (z : View). Contains z.read value) (ap (view_at left) e ∙ is) has in
      ⊎_elim
      (λ is. ⊎_elim (λ c. (0, c)) (λ c. (j, c))
      (Contains-append_cases (view_at views 0).read (view_at views j).read value
      (at 0 both is left_root)))
      (λ a. ⊎_elim
      (λ is. absurd (none_in value (at j no_view is left_gone)))
      (λ b. (n, subst (λ (z : View). Contains z.read value) (left_else n a b) has))
      (cases_eq n j))
      (cases_eq n 0)

pub setting_leave : (cell : ℕ) → KeptByLeave (Setting cell) joined no_view
setting_leave cell p q j found views meets does =
    let c = meets.count in
    let l = does.0.0 in
    let m = does.1.2 in
    let low : 0 < length views = omega arith in
    let there : j < length views = omega arith in
    let still = left_stored views j low there does.1.1 in
    record {
      held = λ s holds.
          let was : Holds p cell s =
          ap (λ (z : Plain). get_or z.cells cell None) (sym does.1.8) ∙ holds in
          still _ (subst (WasStored views)
          (sym (ap (λ (z : Plain). (slot_at z s).payload) does.1.8)) (meets.law.held s was));
      read = λ n value has.
          let before = left_read views j low there does.1.1 n value has in
          still value (meets.law.read before.0 value before.1);
    }
