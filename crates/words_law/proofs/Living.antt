-- Of items that are alive, those in the slot of one of them are those with its word.
use Rattle.std.specs.Prelude.{cond, ◌==◌}
use Rattle.std.specs.Cmp.Lexicographic.{bytes_decides}
use Rattle.std.specs.List.{count_by}
use Rattle.std.specs.Str.{bytes_eq}
use Rattle.std.proofs.Common.{◌≡◌, ℕ, Bool, true, false, List, [], ◌∷◌, refl, sym, ap, ◌∙◌, arith}
use Rattle.std.proofs.lemmas.Bool.{eqb-true, eq-eqb}
use Rattle.std.proofs.lemmas.List.Sums.{sum_by-cons}
use Rattle.protocol_pairs.specs.plain_state.declared.slot.SlotId.{SlotId}
use Rattle.protocol_pairs.specs.plain_state.Lawful.{Lawful}
use Rattle.protocol_pairs.specs.plain_state.State.{Plain, slot_at}
use Rattle.queue_law.specs.declared.view.Item.{Item}
use Rattle.directory_law.specs.declared.view.Rope.{Rope}
use Rattle.directory_law.specs.declared.view.View.{View}
use Rattle.directory_law.specs.Cells.{Area}
use Rattle.directory_law.specs.Law.{DirectoryLaw}
use Rattle.directory_law.specs.Views.{Each}
use Rattle.words_law.specs.Law.{head_of}
use Rattle.words_law.specs.Texts.{AllPieces, IsAlive, IsLiving, all_kept, text_of_item, word_of_item, word_times, words_of}
use Rattle.words_law.proofs.Alive.{alive_word}

-- a slot has one life, so an item in it one word
same_word : (p : Plain) (kept : List Rope) (x y : Item) → IsAlive p x → IsAlive p y → x.slot ≡ y.slot
    → word_of_item kept y ≡ word_of_item kept x
same_word p kept x y a b same =
    let head : head_of y ≡ head_of x = λ i. record { 0 = sym same i } in
    let life : y.life ≡ x.life =
    sym b.life ∙ (ap (λ (s : SlotId). (slot_at p s).life) head ∙ a.life) in
    λ i. word_of_item kept (record { slot = sym same i; life = life i; payload = y.payload })

module _ (z : Area) (p : Plain) (views : List View) (lawful : Lawful p) (fit : AllPieces p)
    (law : DirectoryLaw z p views) (y : Item) (living : IsLiving p views y) where
  abbrev kept : List Rope
  kept = all_kept views

  slot_tells : (x : Item) → IsLiving p views x
      → (x.slot == y.slot) ≡ bytes_eq (word_of_item kept y) (word_of_item kept x)
  slot_tells x other = go (x.slot == y.slot) refl (bytes_eq (word_of_item kept y) (word_of_item kept x)) refl
    where
      go : (a : Bool) → (x.slot == y.slot) ≡ a → (b : Bool)
          → bytes_eq (word_of_item kept y) (word_of_item kept x) ≡ b → a ≡ b
      go true is true told = refl
      go false is false told = refl
      go true is false told =
          let same = same_word p kept x y other.alive living.alive (eqb-true x.slot y.slot is) in
          let yes = (bytes_decides (word_of_item kept y) (word_of_item kept x)).1 same in
          let wrong : true ≡ false = sym yes ∙ told in absurd cc
      go false is true told =
          let same = (bytes_decides (word_of_item kept y) (word_of_item kept x)).0 told in
          let slots = alive_word p lawful fit z views law x y (text_of_item kept x)
          (text_of_item kept y) other.alive living.alive other.text.has living.text.has (sym same) in
          let wrong : true ≡ false = sym (eq-eqb x.slot y.slot slots) ∙ is in absurd cc

  pub slots_counted : (xs : List Item) → Each (IsLiving p views) xs
      → count_by (λ (x : Item). x.slot == y.slot) xs ≡ word_times kept (word_of_item kept y) xs
  slots_counted [] each = refl
  slots_counted (x ∷ xs) each =
      let a = sum_by-cons (λ (v : Item). cond (v.slot == y.slot) 1 0) x xs in
      let b = sum_by-cons (λ (w : List ℕ). cond (bytes_eq (word_of_item kept y) w) 1 0)
      (word_of_item kept x) (words_of kept xs) in
      let c : ◌≡◌ {A = ℕ} (cond (x.slot == y.slot) 1 0)
      (cond (bytes_eq (word_of_item kept y) (word_of_item kept x)) 1 0) =
      ap (λ (t : Bool). cond {A = ℕ} t 1 0) (slot_tells x each.0) in
      let d = slots_counted xs each.1 in omega arith
