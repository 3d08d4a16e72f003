use Rattle.std.proofs.Common.{⊎_elim, Bool, [], ◌∷◌, ◌++◌}
use Rattle.script_desk.specs.declared.handle.Handle.{Handle}
use Rattle.script_desk.specs.Faults.{IsMissing, need_of, place_needs, taken_by}
use Rattle.script_desk.specs.Handles.{is_strong, is_weak, is_snapshot, is_firm, is_any}
use Rattle.script_desk.proofs.Anys.{tests_one, either_second}
use Rattle.script_desk.proofs.names.NameTable.lacks_name.Goals as goal

pub returns-in-Copy : goal.returns-in-Copy
returns-in-Copy c =
    let one = λ (kind : Handle → Bool). tests_one (IsMissing c.args.self.now) c.is_missing-in-Copy.result (c.in-Copy.name, kind) c.is_missing-in-Copy.ensures in
    ⊎_elim (λ x. rw x.1 (one is_strong)) (⊎_elim (λ e. rw e (one is_strong)) (⊎_elim (λ x. rw x.1 (one is_strong))
    (⊎_elim (λ x. rw x.1 (one is_weak)) (⊎_elim (λ e. rw e (one is_weak)) (⊎_elim (λ x. rw x.1 (one is_weak))
    (⊎_elim (λ e. rw e (one is_snapshot)) (⊎_elim (λ x. rw x.1 (one is_snapshot))
    (⊎_elim (λ x. rw x.1 (one is_any)) (λ e. rw e (one is_any)))))))))) c.in-Copy.is

pub returns-else-lacks_owner : goal.returns-else-lacks_owner
returns-else-lacks_owner c =
    let P = IsMissing c.args.self.now in
    rw c.in-Put.is
    (either_second P c.lacks_owner.result c.is_missing.result (place_needs c.in-Put.place) ((c.in-Put.name, taken_by c.in-Put.place) ∷ [])
    c.if-lacks_owner.false c.lacks_owner.ensures (tests_one P c.is_missing.result (c.in-Put.name, taken_by c.in-Put.place) c.is_missing.ensures))

pub returns-else-lacks_owner-2 : goal.returns-else-lacks_owner-2
returns-else-lacks_owner-2 c =
    rw c.in-Replace.is
    (either_second (IsMissing c.args.self.now) c.lacks_owner-in-Replace.result c.lacks_either.result (place_needs c.in-Replace.place)
    (need_of c.in-Replace.old is_firm ++ need_of c.in-Replace.new is_strong) c.if-lacks_owner-2.false c.lacks_owner-in-Replace.ensures c.lacks_either.ensures)
