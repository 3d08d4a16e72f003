-- What a view tells: records that are listed as bound, and one text of each slot of which it tells.
use Rattle.std.specs.Prelude.{if◌then◌else◌}
use Rattle.std.proofs.Common.{◌≡◌, inl, inr, ⊎_elim, ℕ, Bool, true, false, List, [], ◌∷◌, refl, sym, subst, ◌∙◌, arith}
use Rattle.std.proofs.lemmas.Bool.Decides.{nat_tests}
use Rattle.plain_audit.specs.plain_state.declared.slot.SlotId.{SlotId}
use Rattle.plain_audit.specs.plain_state.Lists.{is_slot}
use Rattle.plain_audit.specs.plain_state.State.{Plain}
use Rattle.plain_audit.proofs.Below.plain_state_Kit.{slot_is}
use Rattle.cell_law.specs.directory_law.declared.view.Rope.{Rope}
use Rattle.cell_law.specs.directory_law.Cells.{Area}
use Rattle.cell_law.specs.directory_law.Payloads.{Text}
use Rattle.cell_law.specs.directory_law.Views.{In, rope}
use Rattle.record_counts.proofs.Below.directory_law_Notes.{each_in}
use Rattle.cell_law.specs.Law.{CellLaw}
use Rattle.cell_law.specs.declared.view.View.{View}
use Rattle.cell_law.specs.Views.{BoundIn, IsOpen, bound_in, view_at}
use Rattle.cell_law.proofs.Kit.{in_either}
use Rattle.cell_rest.specs.Kept.{TellsOfNow, told_by}
use Rattle.cell_rest.specs.Words.{text_for}

is_self : (s : SlotId) → is_slot s s ≡ true
is_self s = grind (arith, nat_tests)

is_same : (s x : SlotId) → is_slot s x ≡ true → x.0 ≡ s.0
is_same s x is = grind (arith, nat_tests)

rope_same : (s : SlotId) (e : Rope) → e.slot ≡ s → rope s e.life e.text ≡ e
rope_same s e a = λ i. record { slot = sym a i; life = e.life; text = e.text }

-- where some record is of a slot, the first such one has its text
pub text_found : (es : List Rope) (s : SlotId) (life : ℕ) (text : Text) → In (rope s life text) es
    → (l : ℕ) × In (rope s l (text_for es s)) es
unfolding text_for
text_found [] s life text i = absurd i
text_found (e ∷ es) s life text i =
    by_test (is_slot s e.slot) refl (text_found es s life text)
  where
    by_test : (b : Bool) → is_slot s e.slot ≡ b
        → (In (rope s life text) es → (l : ℕ) × In (rope s l (text_for es s)) es)
        → (l : ℕ) × In (rope s l (if b then e.text else text_for es s)) (e ∷ es)
    by_test true is rest =
        (e.life, inl (rope_same s e (slot_is e.slot s (is_same s e.slot is))))
    by_test false is rest = ⊎_elim
        (λ (same : rope s life text ≡ e).
        let yes : is_slot s e.slot ≡ true = subst (λ (r : Rope). is_slot s r.slot ≡ true) same
        (is_self s) in
        let wrong : false ≡ true = sym is ∙ yes in absurd cc)
        (λ (there : In (rope s life text) es). let r = rest there in (r.0, inr r.1))
        i

module _ (z : Area) (p : Plain) (views : List View) (law : CellLaw z p views) where
  -- what a view tells, some view lists as bound
  pub told_bound : (n : ℕ) (s : SlotId) (life : ℕ) (text : Text)
      → In (rope s life text) (told_by (view_at views n)) → BoundIn views s life text
  told_bound n s life text i =
      let v = view_at views n in ⊎_elim
      (λ (found : In (rope s life text) v.found).
      each_in (λ (e : Rope). BoundIn views e.slot e.life e.text) (rope s life text) v.found found
      (law.learnt n).found)
      (λ (listed : In (rope s life text) (bound_in v)). (n, listed))
      (in_either (rope s life text) v.found (bound_in v) i)

  pub told_now : IsOpen views → (n : ℕ) (s : SlotId) → TellsOfNow p (view_at views n) s
  told_now uncleared n s life text i =
      (law.stands uncleared s life text (told_bound n s life text i)).3
