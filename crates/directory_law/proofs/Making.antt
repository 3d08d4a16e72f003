-- A make, of a slot of the directory or of another.
use Rattle.std.proofs.Common.{◌≡◌, ◌≢◌, ⊎_elim, ℕ, ◌+◌, ◌<◌, ◌≤◌, true, false, List, [], ◌∷◌, length, set, refl, ap, sym, ◌∙◌, subst, arith}
use Rattle.std.specs.Prelude.{Option, Some, None}
use Rattle.std.proofs.lemmas.List.{get_or-set_same, get_or-set_other}
use Rattle.std.proofs.lemmas.Bool.{cases_lt}
use Rattle.plain_protocol.specs.plain_state.declared.slot.PlainSlot.{PlainSlot}
use Rattle.plain_protocol.specs.plain_state.declared.slot.SlotId.{SlotId}
use Rattle.plain_protocol.specs.plain_state.declared.slot.Stage.TheVariants.{Blank, Live, Ended}
use Rattle.plain_protocol.specs.plain_state.State.{Plain, PlainSeat, new_slot, slot_at, stage_at}
use Rattle.plain_protocol.specs.plain_state.Lawful.{Lawful}
use Rattle.plain_protocol.specs.Calm.{IsMade}
use Rattle.directory_law.specs.Payloads.{Text, IsHead, IsOwn}
use Rattle.directory_law.specs.Views.{View, view_at, rope, total, fresh, keeps, KeptIn}
use Rattle.directory_law.specs.Chains.{Along, OwnSlot}
use Rattle.directory_law.specs.Cells.{Area, cell, LiveRecord, Stands}
use Rattle.directory_law.specs.Learnt.{Began, Built, Learnt}
use Rattle.directory_law.specs.Law.{IsChain, DirectoryLaw}
use Rattle.directory_law.proofs.Kit.{cases_id, number_other, none_some, cases_pair}
use Rattle.directory_law.proofs.Notes.{each_map}
use Rattle.directory_law.proofs.CellCounts.{same_set}
use Rattle.directory_law.proofs.Chains.{second_live, along_on}
use Rattle.directory_law.proofs.Moves.{Moves, links, built_moves, learnt_moves, cell_moves, last_moves, stands_moves}

abbrev pub made : PlainSlot → PlainSlot
made x = record x { stage = Live; marked = false; life = x.life + 1 }

abbrev pub after_make : Plain → List PlainSeat → SlotId → Plain
after_make p ss s = record p { seats = ss; slots = set p.slots s.0 (made (slot_at p s)) }

-- the views after a make of s: of all lives its new one alone may be noted more often, and it is where s is a head
pub record Made (p : Plain) (s : SlotId) (views after : List View) : Type 0 where
  pub same : (r : SlotId) (l : ℕ) → ((r ≡ s) × (l ≡ (slot_at p s).life + 1) → ⊥)
      → fresh after r l ≡ fresh views r l
  pub once : fresh after s ((slot_at p s).life + 1) ≤ 1
  pub head : IsHead (slot_at p s).payload → 0 < fresh after s ((slot_at p s).life + 1)
  pub keeps_same : (r : SlotId) (l : ℕ) → keeps after r l ≡ keeps views r l
  pub kept : (r : SlotId) (l : ℕ) (t : Text) → KeptIn views r l t → KeptIn after r l t
  pub used : total (λ v. v.used) views ≡ total (λ v. v.used) after
  pub quotas : total (λ v. v.quota) views ≡ total (λ v. v.quota) after
  pub quota : (n : ℕ) → (view_at after n).used ≤ (view_at after n).quota

module _ (z : Area) (p : Plain) (ss : List PlainSeat) (s : SlotId) (inside : s.0 < length p.slots)
    (blank : stage_at p s ≡ Blank) (lawful : Lawful p) (views after : List View)
    (mk : Made p s views after) (law : DirectoryLaw z p views) where
  q : Plain
  q = after_make p ss s

  here_slot : slot_at (after_make p ss s) s ≡ made (slot_at p s)
  here_slot = get_or-set_same p.slots s.0 (made (slot_at p s)) new_slot inside

  other_slot : (r : SlotId) → r ≢ s → slot_at (after_make p ss s) r ≡ slot_at p r
  other_slot r ne = get_or-set_other p.slots s.0 r.0 (made (slot_at p s)) new_slot
      (number_other r s ne)

  -- what holds of each other slot, and of the new one, holds of each
  at_slot : (P : SlotId → PlainSlot → Type 0) → P s (made (slot_at p s))
      → ((r : SlotId) → r ≢ s → P r (slot_at p r)) → (r : SlotId)
      → P r (slot_at (after_make p ss s) r)
  at_slot P new old r =
      ⊎_elim
      (λ (e : r ≡ s). subst (λ (k : SlotId). P k (slot_at (after_make p ss s) k)) (sym e)
      (subst (P s) (sym here_slot) new))
      (λ (ne : r ≢ s). subst (P r) (sym (other_slot r ne)) (old r ne))
      (cases_id r s)

  nulls : ((slot_at p s).first ≡ None) × ((slot_at p s).second ≡ None)
  nulls =
      let n = lawful.nulls s (
        (λ e. let f : Blank ≡ Live = sym blank ∙ e in cc),
        (λ e. let f : Blank ≡ Ended = sym blank ∙ e in cc),
      ) in
      (n.0, n.1)

  not_live : (x : SlotId) → stage_at p x ≡ Live → x ≢ s
  not_live x live e =
      let f : Live ≡ Blank = sym live ∙ (ap (λ (k : SlotId). stage_at p k) e ∙ blank) in cc

  payload_same : (r : SlotId) → (slot_at (after_make p ss s) r).payload ≡ (slot_at p r).payload
  payload_same = at_slot (λ r x. x.payload ≡ (slot_at p r).payload) refl (λ r ne. refl)

  second_same : (r : SlotId) → (slot_at (after_make p ss s) r).second ≡ (slot_at p r).second
  second_same = at_slot (λ r x. x.second ≡ (slot_at p r).second) refl (λ r ne. refl)

  -- a slot in a cell isn't the new one
  set_other : (c : ℕ) (r : SlotId) → c < z.cells → cell z p c ≡ Some r → r ≢ s
  set_other c r h is e = (law.cells c r h is).made.1 (ap (λ (k : SlotId). stage_at p k) e ∙ blank)

  -- the new life is kept by nobody, and each life is noted or kept once
  none_kept : keeps views s ((slot_at p s).life + 1) ≡ 0
  none_kept =
      ⊎_elim
      (λ (h : 0 < keeps views s ((slot_at p s).life + 1)).
      let g = law.lives s ((slot_at p s).life + 1) (omega arith) in absurd (omega arith))
      (λ h. omega arith)
      (cases_lt 0 (keeps views s ((slot_at p s).life + 1)))

  once_new : fresh after s ((slot_at p s).life + 1) + keeps after s ((slot_at p s).life + 1) ≤ 1
  once_new =
      let a = mk.once in let b = none_kept in
      let k = mk.keeps_same s ((slot_at p s).life + 1) in omega arith

  once_made : (r : SlotId) (l : ℕ) → fresh after r l + keeps after r l ≤ 1
  once_made r l =
      ⊎_elim
      (λ (b : (r ≡ s) × (l ≡ (slot_at p s).life + 1)).
      subst (λ (x : SlotId). fresh after x l + keeps after x l ≤ 1) (sym b.0)
      (subst (λ (y : ℕ). fresh after s y + keeps after s y ≤ 1) (sym b.1) once_new))
      (λ (differs : (r ≡ s) × (l ≡ (slot_at p s).life + 1) → ⊥).
      let a = mk.same r l differs in let b = mk.keeps_same r l in let c = law.once r l in
      omega arith)
      (cases_pair r s l ((slot_at p s).life + 1))

  begun_other : (r : SlotId) (l : ℕ) → Began p r l → (r ≡ s) × (l ≡ (slot_at p s).life + 1) → ⊥
  begun_other r l began b =
      let a : l ≤ (slot_at p s).life = subst (λ (k : SlotId). l ≤ (slot_at p k).life) b.0 began in
      let e = b.1 in omega arith

  moves : Moves z p (after_make p ss s) views after (λ r. ⊥)
  moves = record {
    lives = at_slot (λ r x. (slot_at p r).life ≤ x.life) (omega arith) (λ r ne. omega arith);
    live = at_slot (λ r x. x.life ≡ (slot_at p r).life → x.stage ≡ Live → stage_at p r ≡ Live)
        (λ life live. absurd (omega arith)) (λ r ne life live. live);
    payload = λ r live. payload_same r;
    second = λ r live own unchanged. second_same r;
    mark = at_slot (λ r x. x.life ≡ (slot_at p r).life → (slot_at p r).marked ≡ true
        → x.marked ≡ true) (λ life m. absurd (omega arith)) (λ r ne life m. m);
    cells = λ d r h is. is;
    held = λ d r h is.
        let x = other_slot r (set_other d r h is) in (
          subst (λ (y : PlainSlot). IsMade y.stage) (sym x) (law.cells d r h is).made,
          ap (λ (y : PlainSlot). y.payload) x,
          ap (λ (y : PlainSlot). y.life) x,
        );
    still = λ r none changed. changed;
    fewer = λ r l began. let a = mk.same r l (begun_other r l began) in omega arith;
    kept = mk.kept;
    once = once_made;
  }

  -- what is learnt stays
  pub learnt_made : (v : View) → Learnt z p views v → Learnt z (after_make p ss s) after v
  learnt_made v l =
      learnt_moves z p (after_make p ss s) views after (λ r. ⊥) moves lawful law v l v.noted
      (each_map (Built p) (Built (after_make p ss s))
      (λ e h. built_moves z p (after_make p ss s) views after (λ r. ⊥) moves lawful law e
      (λ life changed. changed) h) v.noted l.noted)

  -- the slot that was made stands alone
  pub built_new : IsOwn (slot_at p s).payload
      → Built (after_make p ss s) (rope s ((slot_at p s).life + 1) ((slot_at p s).payload ∷ []))
  built_new own = (
    (let a = ap (λ (y : PlainSlot). y.life) here_slot in omega arith),
    λ life live. (
      subst IsOwn (sym (payload_same s)) own,
      ([], ap (λ (t : List ℕ). t ∷ []) (sym (payload_same s)), second_same s ∙ nulls.1),
    ),
  )

  own_other : (r : SlotId) → r ≢ s → OwnSlot (after_make p ss s) r → OwnSlot p r
  own_other r ne o = record {
    made = subst (λ (y : PlainSlot). IsMade y.stage) (other_slot r ne) o.made;
    own = subst IsOwn (payload_same r) o.own;
  }

  -- a slot of the directory that leads on isn't the new one
  leads : (t r : SlotId) → OwnSlot (after_make p ss s) t
      → (slot_at (after_make p ss s) t).second ≡ Some r
      → OwnSlot p t × ((slot_at p t).second ≡ Some r)
  leads t r o at =
      let was : (slot_at p t).second ≡ Some r = sym (second_same t) ∙ at in
      let ne : t ≢ s = λ e. none_some r (sym nulls.1
      ∙ (ap (λ (k : SlotId). (slot_at p k).second) (sym e) ∙ was)) in
      (own_other t ne o, was)

  bound_made : (r : SlotId) → LiveRecord (after_make p ss s) after r
      → Stands z (after_make p ss s) r
  bound_made r live =
      ⊎_elim
      (λ (e : r ≡ s).
      let head : IsHead (slot_at p s).payload =
      subst IsHead (ap (λ (k : SlotId). (slot_at (after_make p ss s) k).payload) e
      ∙ payload_same s) live.head in
      let life : (slot_at (after_make p ss s) r).life ≡ (slot_at p s).life + 1 =
      ap (λ (k : SlotId). (slot_at (after_make p ss s) k).life) e
      ∙ ap (λ (y : PlainSlot). y.life) here_slot in
      let none : fresh after s ((slot_at p s).life + 1) ≡ 0 =
      subst (λ (k : SlotId). fresh after k ((slot_at p s).life + 1) ≡ 0) e
      (subst (λ (l : ℕ). fresh after r l ≡ 0) life live.bound) in
      let m = mk.head head in absurd (omega arith))
      (λ (ne : r ≢ s).
      let x = other_slot r ne in
      law.bound r (record {
        stage = subst (λ (y : PlainSlot). y.stage ≡ Live) x live.stage;
        mark = subst (λ (y : PlainSlot). y.marked ≡ false) x live.mark;
        head = subst IsHead (payload_same r) live.head;
        bound = sym (mk.same r (slot_at p r).life (λ b. ne b.0))
            ∙ subst (λ (y : PlainSlot). fresh after r y.life ≡ 0) x live.bound;
      }))
      (cases_id r s)

  shape_made : (r : SlotId) → OwnSlot (after_make p ss s) r
      → IsChain (after_make p ss s) (slot_at (after_make p ss s) r)
  shape_made r o =
      ⊎_elim
      (λ (e : r ≡ s).
      let at : slot_at (after_make p ss s) r ≡ made (slot_at p s) =
      ap (λ (k : SlotId). slot_at (after_make p ss s) k) e ∙ here_slot in (
        ap (λ (y : PlainSlot). y.first) at ∙ nulls.0,
        ([], ap (λ (y : PlainSlot). y.second) at ∙ nulls.1),
      ))
      (λ (ne : r ≢ s).
      let b = own_other r ne o in
      let h = law.shape r b in
      let chain = along_on p (after_make p ss s)
      (links z p (after_make p ss s) views after (λ r. ⊥) moves lawful law) r b h.1.0 h.1.1 in (
        ap (λ (y : PlainSlot). y.first) (other_slot r ne) ∙ h.0,
        (
          h.1.0,
          subst (λ (w : Option SlotId). Along (after_make p ss s) w h.1.0)
              (sym (second_same r)) chain,
        ),
      ))
      (cases_id r s)

  loose_made : (t r : SlotId) → OwnSlot (after_make p ss s) t
      → (slot_at (after_make p ss s) t).second ≡ Some r
      → fresh after r (slot_at (after_make p ss s) r).life ≡ 0
  loose_made t r o at =
      let l = leads t r o at in
      let ne = not_live r (second_live p t r lawful l.1) in
      subst (λ (y : PlainSlot). fresh after r y.life ≡ 0) (sym (other_slot r ne))
      (mk.same r (slot_at p r).life (λ b. ne b.0) ∙ law.loose t r l.0 l.1)

  lives_made : (r : SlotId) (l : ℕ) → 0 < fresh after r l + keeps after r l
      → Began (after_make p ss s) r l
  lives_made r l h =
      let more = moves.lives r in
      ⊎_elim
      (λ (b : (r ≡ s) × (l ≡ (slot_at p s).life + 1)).
      let life : (slot_at (after_make p ss s) r).life ≡ (slot_at p s).life + 1 =
      ap (λ (k : SlotId). (slot_at (after_make p ss s) k).life) b.0
      ∙ ap (λ (y : PlainSlot). y.life) here_slot in
      let e = b.1 in omega arith)
      (λ (differs : (r ≡ s) × (l ≡ (slot_at p s).life + 1) → ⊥).
      let a = mk.same r l differs in let b = mk.keeps_same r l in
      let g = law.lives r l (omega arith) in omega arith)
      (cases_pair r s l ((slot_at p s).life + 1))

  pub law_made : ((m : ℕ) → Learnt z (after_make p ss s) after (view_at after m))
      → DirectoryLaw z (after_make p ss s) after
  law_made learnt = record {
    cells = cell_moves z p (after_make p ss s) views after (λ r. ⊥) moves lawful law;
    last = last_moves z p (after_make p ss s) views after (λ r. ⊥) moves lawful law;
    bound = bound_made;
    few =
        let e = mk.used in
        let g = same_set z p (after_make p ss s) z.cells (λ d h. refl) in
        let f = law.few in omega arith;
    quotas = let e = mk.quotas in let f = law.quotas in omega arith;
    quota = mk.quota;
    shape = shape_made;
    single = λ a b r oa ob ata atb. let la = leads a r oa ata in let lb = leads b r ob atb in
        law.single a b r la.0 lb.0 la.1 lb.1;
    loose = loose_made;
    lives = lives_made;
    once = once_made;
    stands = λ r l h. stands_moves z p (after_make p ss s) views after (λ r. ⊥) moves lawful law r l
        (let a = mk.keeps_same r l in omega arith);
    learnt = learnt;
  }
