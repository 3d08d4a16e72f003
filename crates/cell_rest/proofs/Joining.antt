-- What views tell goes on to be told: by a view with more records, and by that of seat 0 where a seat leaves.
use Rattle.std.proofs.Common.{⊎_elim, List, ◌++◌}
use Rattle.plain_audit.specs.plain_state.declared.slot.SlotId.{SlotId}
use Rattle.record_counts.specs.cdrc_text.Fold.{File}
use Rattle.record_counts.proofs.Below.directory_law_Notes.{in_left, in_right}
use Rattle.record_counts.proofs.Joined.{files_both, files_more}
use Rattle.cell_law.specs.declared.view.View.{View}
use Rattle.cell_law.specs.directory_law.declared.view.Rope.{Rope}
use Rattle.cell_law.specs.directory_law.Views.{In, rope}
use Rattle.cell_law.specs.Views.{bound_in, joined}
use Rattle.cell_law.proofs.Kit.{in_either}
use Rattle.cell_rest.specs.Kept.{TellsFiles, TellsWord, told_by}

pub tells_more : (v w : View) → ((e : Rope) → In e (told_by v) → In e (told_by w))
    → (files : List File) (kept : List SlotId) → TellsFiles files kept v → TellsFiles files kept w
tells_more v w more = files_more (TellsWord v) (TellsWord w)
    (λ bytes s told. (told.0, told.1, told.2, more (rope s told.0 told.1) told.3))

module _ (v w : View) where
  joins_own : (e : Rope) → In e (told_by v) → In e (told_by (joined v w))
  joins_own e i = ⊎_elim
      (λ (found : In e v.found). in_left e (v.found ++ w.found) (bound_in (joined v w))
      (in_left e v.found w.found found))
      (λ (listed : In e (bound_in v)). in_right e (v.found ++ w.found) (bound_in (joined v w))
      (⊎_elim
      (λ (bound : In e v.bound). in_left e v.bound (v.joined ++ bound_in w) bound)
      (λ (old : In e v.joined). in_right e v.bound (v.joined ++ bound_in w)
      (in_left e v.joined (bound_in w) old))
      (in_either e v.bound v.joined listed)))
      (in_either e v.found (bound_in v) i)

  joins_other : (e : Rope) → In e (told_by w) → In e (told_by (joined v w))
  joins_other e i = ⊎_elim
      (λ (found : In e w.found). in_left e (v.found ++ w.found) (bound_in (joined v w))
      (in_right e v.found w.found found))
      (λ (listed : In e (bound_in w)). in_right e (v.found ++ w.found) (bound_in (joined v w))
      (in_right e v.bound (v.joined ++ bound_in w) (in_right e v.joined (bound_in w) listed)))
      (in_either e w.found (bound_in w) i)

  pub joined_stays : (files : List File) (kept : List SlotId) → TellsFiles files kept v
      → TellsFiles files kept (joined v w)
  joined_stays = tells_more v (joined v w) joins_own

  pub joined_comes : (files : List File) (kept : List SlotId) → TellsFiles files kept w
      → TellsFiles files kept (joined v w)
  joined_comes = tells_more w (joined v w) joins_other

pub tells_both : (v : View) (files others : List File) (kept more : List SlotId)
    → TellsFiles files kept v → TellsFiles others more v
    → TellsFiles (files ++ others) (kept ++ more) v
tells_both v = files_both (TellsWord v)
