-- One level of a change: from the patterns of a subtree to those of the node over it.
use Rattle.std.proofs.Common.{◌≡◌, ℕ, suc, ◌<◌, ◌≤◌, refl, ap, sym, ◌∙◌, subst, arith}
use Rattle.std.specs.Prelude.{max, ◌^◌, Option, Some, None}
use Rattle.map_law.specs.plain_state.declared.slot.SlotId.{SlotId}
use Rattle.map_trees.specs.declared.change.Change.{Change}
use Rattle.map_trees.specs.Trees.{Tree, node, Balanced, height}
use Rattle.map_trees.specs.Balance.{altered, glue, join}
use Rattle.map_trees.proofs.Changing.{shaped_parts}
use Rattle.map_law.specs.Patterns.{Fits, Pattern, branch, filled, null}
use Rattle.map_law.specs.Plans.{height_of, joins}
use Rattle.map_law.proofs.Plans.{height_is, joins_is}
use Rattle.version_making.specs.Building.{capped, put_over}
use Rattle.version_making.specs.Joining.{IsLow}
use Rattle.version_changes.specs.Showing.{ShowsTop}
use Rattle.version_changes.specs.Changing.{Alters}
use Rattle.version_changes.specs.Values.{value_of}
use Rattle.version_changes.proofs.Altered.{altered_near, answer_here, left_is, put_here_is, put_null_is, right_is, take_here_is, take_lowers, take_null_is}
use Rattle.version_changes.proofs.Shown.{even_is, joins_top, low_is}

-- what a join promises of a changed subtree and one beside it
abbrev pub Planned : (Pattern → Option Pattern) → Pattern → Pattern → Pattern → Type 0
Planned plan changed whole joined =
    (suc (height_of whole) < height_of changed → ShowsTop changed) → IsLow changed → IsLow whole
    → plan whole ≡ Some joined

module _ (a d h key : ℕ) (change : Change) (answer : Option ℕ) where
  pub left_level : (before after r joined : Pattern) → key < a → Alters key change answer before after
      → Planned (λ b. joins a d after b) after r joined
      → Alters key change answer (branch a d h before r) joined
  left_level before after r joined less alters planned trees fits shaped low =
      let bal = shaped.1 in let b0 = bal.0 in let b1 = bal.1 in let b2 = bal.2 in
      let parts = shaped_parts a d h (filled trees before) (filled trees r) shaped in
      let hb = height_is trees before fits.0 in let hr = height_is trees r fits.1 in
      let ih = alters trees fits.0 parts.0 (omega (arith, b0, low)) in
      let near = altered_near key change (filled trees before) parts.0 in
      let nl = near.low in let nh = near.high in
      let he : height (filled trees after) ≡ height (altered key change (filled trees before)) =
      ap height ih.altered in
      let ha = height_is trees after ih.fits in
      let balanced : Balanced (filled trees after) = subst Balanced (sym ih.altered) near.balanced in
      let e : joins a d after r ≡ Some joined =
      planned (λ (up : suc (height_of r) < height_of after). ih.top (omega (arith, up, hb, hr, b1)))
      (low_is trees after ih.fits balanced (omega (arith, ha, he, nh, b0, low)))
      (low_is trees r fits.1 bal.4 (omega (arith, hr, b0, low))) in
      let ji = joins_is trees a d after r joined ih.fits fits.1 e in
      let is = left_is key a d h (filled trees before) (filled trees r) shaped change less in record {
        fits = ji.1;
        altered = ji.0
            ∙ (ap (λ (t : Tree). join a d t (filled trees r)) ih.altered ∙ sym is.0);
        answered = ih.answered ∙ sym is.1;
        top = λ (high : h < height_of joined).
            joins_top a d (max (height_of before) (height_of r)) after r joined e
            (even_is trees after ih.fits balanced) (even_is trees r fits.1 bal.4)
            (λ (up : max (height_of before) (height_of r) < height_of after).
            ih.top (omega (arith, up)))
            (λ (up : max (height_of before) (height_of r) < height_of r). absurd (omega (arith, up)))
            (omega (arith, high, b0, hb, hr));
      }

  pub right_level : (before after l joined : Pattern) → a < key → Alters key change answer before after
      → Planned (λ b. joins a d b after) after l joined
      → Alters key change answer (branch a d h l before) joined
  right_level before after l joined less alters planned trees fits shaped low =
      let bal = shaped.1 in let b0 = bal.0 in let b1 = bal.1 in let b2 = bal.2 in
      let parts = shaped_parts a d h (filled trees l) (filled trees before) shaped in
      let hb = height_is trees before fits.1 in let hl = height_is trees l fits.0 in
      let ih = alters trees fits.1 parts.1 (omega (arith, b0, low)) in
      let near = altered_near key change (filled trees before) parts.1 in
      let nl = near.low in let nh = near.high in
      let he : height (filled trees after) ≡ height (altered key change (filled trees before)) =
      ap height ih.altered in
      let ha = height_is trees after ih.fits in
      let balanced : Balanced (filled trees after) = subst Balanced (sym ih.altered) near.balanced in
      let e : joins a d l after ≡ Some joined =
      planned (λ (up : suc (height_of l) < height_of after). ih.top (omega (arith, up, hb, hl, b2)))
      (low_is trees after ih.fits balanced (omega (arith, ha, he, nh, b0, low)))
      (low_is trees l fits.0 bal.3 (omega (arith, hl, b0, low))) in
      let ji = joins_is trees a d l after joined fits.0 ih.fits e in
      let is = right_is key a d h (filled trees l) (filled trees before) shaped change less in record {
        fits = ji.1;
        altered = ji.0
            ∙ (ap (λ (t : Tree). join a d (filled trees l) t) ih.altered ∙ sym is.0);
        answered = ih.answered ∙ sym is.1;
        top = λ (high : h < height_of joined).
            joins_top a d (max (height_of l) (height_of before)) l after joined e
            (even_is trees l fits.0 bal.3) (even_is trees after ih.fits balanced)
            (λ (up : max (height_of l) (height_of before) < height_of l). absurd (omega (arith, up)))
            (λ (up : max (height_of l) (height_of before) < height_of after).
            ih.top (omega (arith, up)))
            (omega (arith, high, b0, hb, hl));
      }

word_height : (h : ℕ) → h < 2 ^ 62 → capped h ≡ h
word_height h low = omega (arith, low)

-- THE NODE of the key
pub here_put : (a d h v : ℕ) (change : Change) (l r : Pattern) → value_of change (Some d) ≡ Some v
    → Alters a change (Some d) (branch a d h l r) (put_over a v l r)
here_put a d h v change l r value trees fits shaped low =
    let b0 = shaped.1.0 in
    let hl = height_is trees l fits.0 in let hr = height_is trees r fits.1 in
    let same : suc (max (height_of l) (height_of r)) ≡ h = omega (arith, b0, hl, hr) in
    let word : capped (suc (max (height_of l) (height_of r))) ≡ h =
    word_height (suc (max (height_of l) (height_of r))) (omega (arith, same, low)) ∙ same in record {
      fits = fits;
      altered = ap (λ (z : ℕ). node a v z (filled trees l) (filled trees r)) word
          ∙ sym (put_here_is a d h (filled trees l) (filled trees r) shaped change v value);
      answered = answer_here a d h (filled trees l) (filled trees r) shaped;
      top = λ (high : h < capped (suc (max (height_of l) (height_of r)))). absurd
          (omega (arith, high, word));
    }

pub here_take : (a d h : ℕ) (change : Change) (l r glued : Pattern) → value_of change (Some d) ≡ None
    → ((trees : SlotId → Tree) → Fits trees l → Fits trees r → Balanced (filled trees l)
    → Balanced (filled trees r) → height_of l ≤ suc (height_of r) → height_of r ≤ suc (height_of l)
    → height_of l < 2 ^ 62 → height_of r < 2 ^ 62
    → Fits trees glued × (filled trees glued ≡ glue (filled trees l) (filled trees r)))
    → Alters a change (Some d) (branch a d h l r) glued
here_take a d h change l r glued value is trees fits shaped low =
    let b0 = shaped.1.0 in let b1 = shaped.1.1 in let b2 = shaped.1.2 in
    let hl = height_is trees l fits.0 in let hr = height_is trees r fits.1 in
    let g = is trees fits.0 fits.1 shaped.1.3 shaped.1.4 (omega (arith, b1, hl, hr))
    (omega (arith, b2, hl, hr)) (omega (arith, b0, hl, low)) (omega (arith, b0, hr, low)) in
    let whole : filled trees glued ≡ altered a change (node a d h (filled trees l) (filled trees r)) =
    g.1 ∙ sym (take_here_is a d h (filled trees l) (filled trees r) shaped change value) in
    let hg = height_is trees glued g.0 in
    let he : height (filled trees glued)
    ≡ height (altered a change (node a d h (filled trees l) (filled trees r))) = ap height whole in
    let lower = take_lowers a change (Some d) value (node a d h (filled trees l) (filled trees r)) shaped in
    record {
      fits = g.0;
      altered = whole;
      answered = answer_here a d h (filled trees l) (filled trees r) shaped;
      top = λ (high : h < height_of glued). absurd (omega (arith, high, hg, he, lower));
    }

-- NULL
pub null_put : (key v : ℕ) (change : Change) → value_of change None ≡ Some v
    → Alters key change None null (put_over key v null null)
null_put key v change value trees fits shaped low = record {
  fits = (tt, tt);
  altered = sym (put_null_is key change v value);
  answered = refl;
  top = λ high. (λ (less : 0 < 0). absurd (omega (arith, less)), λ (less : 0 < 0). absurd (omega (arith, less)));
}

pub null_take : (key : ℕ) (change : Change) → value_of change None ≡ None
    → Alters key change None null null
null_take key change value trees fits shaped low = record {
  fits = tt;
  altered = sym (take_null_is key change value);
  answered = refl;
  top = λ (high : 0 < 0). absurd (omega (arith, high));
}
