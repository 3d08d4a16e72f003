use Rattle.std.proofs.Common.{◌↔◌, subst, Bool, [], ◌∷◌, ◌++◌, IsTrue}
use Rattle.script_desk.specs.declared.handle.Handle.{Handle}
use Rattle.script_desk.specs.Faults.{Need, IsOther, need_of, place_needs, taken_by}
use Rattle.script_desk.specs.Handles.{is_firm, is_strong}
use Rattle.script_desk.proofs.Anys.{tests_one, either_second}
use Rattle.script_desk.proofs.names.NameTable.has_other_kind.Goals as goal

pub returns-else-has_weak_owner : goal.returns-else-has_weak_owner
returns-else-has_weak_owner c =
    let P : Need → Type 0 = IsOther c.args.self.now in
    let taken : IsTrue c.is_other.result ↔ P (c.in-Put.name, taken_by c.in-Put.place)
    = subst (λ (kind : Handle → Bool). IsTrue c.is_other.result ↔ IsOther c.args.self.now (c.in-Put.name, kind)) c.taken_by.ensures c.is_other.ensures in
    rw c.in-Put.is
    (either_second P c.has_weak_owner.result c.is_other.result (place_needs c.in-Put.place) ((c.in-Put.name, taken_by c.in-Put.place) ∷ [])
    c.if-has_weak_owner.false c.has_weak_owner.ensures (tests_one P c.is_other.result (c.in-Put.name, taken_by c.in-Put.place) taken))

pub returns-else-has_weak_owner-2 : goal.returns-else-has_weak_owner-2
returns-else-has_weak_owner-2 c =
    rw c.in-Replace.is
    (either_second (IsOther c.args.self.now) c.has_weak_owner-in-Replace.result c.has_other_pair.result (place_needs c.in-Replace.place)
    (need_of c.in-Replace.old is_firm ++ need_of c.in-Replace.new is_strong) c.if-has_weak_owner-2.false c.has_weak_owner-in-Replace.ensures c.has_other_pair.ensures)
