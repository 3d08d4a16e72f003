-- Each item that was pushed has a text: where a view of the queue changes, where one of the directory does, and where a
-- seat leaves.
use Rattle.std.proofs.Common.{◌≢◌, ◌⊎◌, ⊎_elim, ℕ, ◌<◌, List, length, set, refl, subst, ◌∙◌}
use Rattle.protocol_pairs.specs.plain_state.declared.slot.SlotId.{SlotId}
use Rattle.protocol_pairs.specs.plain_state.State.{Plain}
use Rattle.queue_law.specs.declared.view.Item.{Item}
use Rattle.queue_law.specs.declared.view.View.{View as QueueView}
use Rattle.queue_law.specs.Views as queue
use Rattle.queue_law.specs.Lists.{taken_items}
use Rattle.directory_law.specs.declared.view.Rope.{Rope}
use Rattle.directory_law.specs.declared.view.View.{View as DirectoryView}
use Rattle.directory_law.specs.Payloads.{Text}
use Rattle.directory_law.specs.Views.{KeptIn, In}
use Rattle.directory_law.specs.Views as directory
use Rattle.directory_law.specs.Cells.{Area}
use Rattle.directory_law.specs.Learnt.{Saw}
use Rattle.directory_law.specs.Law.{DirectoryLaw}
use Rattle.directory_law.proofs.Kept.{kept_set}
use Rattle.directory_law.proofs.Notes.{each_in}
use Rattle.words_law.specs.Law.{HasText, ItemsHaveTexts, WasPushed, head_of}
use Rattle.words_law.specs.Owned.{join_directories}
use Rattle.words_law.specs.Pushes.{SawHead, KeepsHead}
use Rattle.words_law.proofs.Noted.{noted_cases, noted_before, noted_after, taken_append}

-- a seat's view has pushed what it had, and what has a text
pub items_push : (qs : List QueueView) (ds : List DirectoryView) (n : ℕ) (w : QueueView)
    → n < length qs
    → ((x : Item) → In x (taken_items w.pushed)
    → In x (taken_items (queue.view_at qs n).pushed) ⊎ ((text : Text) × HasText ds x text))
    → ItemsHaveTexts qs ds → ItemsHaveTexts (set qs n w) ds
items_push qs ds n w low new items x was = ⊎_elim
    (λ (here : In x (taken_items w.pushed)). ⊎_elim
    (λ (old : In x (taken_items (queue.view_at qs n).pushed)). items x (n, old))
    (λ (text : (text : Text) × HasText ds x text). text)
    (new x here))
    (λ (old : WasPushed qs x). items x old)
    (noted_cases queue.first_view (λ (v : QueueView). taken_items v.pushed) qs n w x low was)

-- a seat's view keeps what it kept
pub items_keep : (qs : List QueueView) (ds : List DirectoryView) (n : ℕ) (w : DirectoryView)
    → n < length ds → ((e : Rope) → In e (directory.view_at ds n).kept → In e w.kept)
    → ItemsHaveTexts qs ds → ItemsHaveTexts qs (set ds n w)
items_keep qs ds n w low more items x was =
    let text = items x was in
    (text.0, kept_set ds n w (head_of x) x.life text.0 low more text.1)

pub items_leave : (qs : List QueueView) (ds : List DirectoryView) (j : ℕ) → j < length qs
    → j < length ds → j ≢ 0 → ItemsHaveTexts qs ds
    → ItemsHaveTexts
    (set (set qs 0 (queue.joined (queue.view_at qs 0) (queue.view_at qs j))) j queue.first_view)
    (set (set ds 0 (join_directories (directory.view_at ds 0) (directory.view_at ds j))) j
    directory.gone)
items_leave qs ds j low there other items x was =
    let old = noted_before queue.first_view (λ (v : QueueView). taken_items v.pushed) queue.joined
    refl (λ a b. taken_append a.pushed b.pushed) qs j low other x was in
    let text = items x old in (
      text.0,
      noted_after directory.gone (λ (v : DirectoryView). v.kept) join_directories refl
          (λ a b. refl) ds j there other (directory.rope (head_of x) x.life text.0) text.1,
    )

-- what a view saw in a cell, or keeps, has a text
pub saw_text : (z : Area) (p : Plain) (ds : List DirectoryView) (n : ℕ) (x : Item)
    → DirectoryLaw z p ds → SawHead (directory.view_at ds n) x → (text : Text) × HasText ds x text
saw_text z p ds n x law seen =
    let e = seen.0 in
    let at : Saw z p e = each_in (Saw z p) e (directory.view_at ds n).seen seen.1 (law.learnt n).seen in
    let o = law.cells e.cell e.slot at.0 at.1 in (
      o.text,
      subst (λ (s : SlotId). KeptIn ds s x.life o.text) seen.2
          (subst (λ (l : ℕ). KeptIn ds e.slot l o.text) (at.2 ∙ seen.3) o.kept),
    )

pub keeps_text : (ds : List DirectoryView) (n : ℕ) (x : Item)
    → KeepsHead (directory.view_at ds n) x → (text : Text) × HasText ds x text
keeps_text ds n x kept =
    let e = kept.0 in (
      e.text,
      subst (λ (s : SlotId). KeptIn ds s x.life e.text) kept.2
          (subst (λ (l : ℕ). KeptIn ds e.slot l e.text) kept.3 (n, kept.1)),
    )
