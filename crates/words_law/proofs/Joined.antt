-- A seat leaves, and seat 0 has also what it read: seat 0 learns that first.
use Rattle.std.proofs.Common.{◌≡◌, ℕ, ◌<◌, List, ◌++◌, length, set, refl, subst, ◌∙◌, arith}
use Rattle.std.proofs.lemmas.List.{get_or-set_same, get_or-set_other, length-set, set-set}
use Rattle.protocol_pairs.specs.plain_state.State.{Plain}
use Rattle.protocol_pairs.specs.plain_protocol.Laws.{KeptByLeave}
use Rattle.directory_law.specs.declared.view.View.{View}
use Rattle.directory_law.specs.Views.{gone, joined, view_at}
use Rattle.directory_law.specs.Cells.{Area}
use Rattle.directory_law.specs.Learnt.{Running}
use Rattle.directory_law.specs.Law.{DirectoryLaw}
use Rattle.directory_law.proofs.Leave.{leave_keeps}
use Rattle.directory_law.proofs.Notes.{each_append}
use Rattle.directory_law.proofs.Turns.{law_knows}
use Rattle.words_law.specs.Owned.{join_directories}

-- a view that has read what another one has, too
abbrev with_ran : View → View → View
with_ran v w = record v { ran = v.ran ++ w.ran }

root_learns : (z : Area) (p : Plain) (views : List View) (j : ℕ) → 0 < length views
    → DirectoryLaw z p views
    → DirectoryLaw z p (set views 0 (with_ran (view_at views 0) (view_at views j)))
root_learns z p views j low law =
    let l = law.learnt 0 in
    law_knows z p views 0 (with_ran (view_at views 0) (view_at views j)) low refl refl refl
    (omega arith) (law.quota 0)
    (record {
      noted = l.noted;
      seen = l.seen;
      ended = l.ended;
      ran = each_append (Running p views) (view_at views 0).ran (view_at views j).ran l.ran
          (law.learnt j).ran;
      led = l.led;
    }) law

pub directory_leave : (z : Area) → KeptByLeave (DirectoryLaw z) join_directories gone
directory_leave z p q j found views meets does =
    let count = meets.count in
    let there = does.1.2 in
    let more = with_ran (view_at views 0) (view_at views j) in
    let learnt = set views 0 more in
    let root : view_at learnt 0 ≡ more = get_or-set_same views 0 more gone (omega arith) in
    let leaver : view_at learnt j ≡ view_at views j = get_or-set_other views 0 j more gone does.1.1 in
    let kept = leave_keeps z p q j found learnt
    (record {
      lawful = meets.lawful;
      count = length-set views 0 more ∙ meets.count;
      law = root_learns z p views j (omega arith) meets.law;
    }) does in
    subst (λ (l : List View). DirectoryLaw z q (set l j gone))
    (set-set views 0 more (joined more (view_at views j)))
    (subst (λ (v : View). DirectoryLaw z q (set (set learnt 0 (joined more v)) j gone)) leaver
    (subst (λ (v : View). DirectoryLaw z q (set (set learnt 0 (joined v (view_at learnt j))) j gone))
    root kept))
