-- A link: the slot that was made last, which stands nowhere, leads to a part that stands nowhere.
use Rattle.std.proofs.Common.{◌≡◌, ◌≢◌, ⊎_elim, ℕ, ◌<◌, ◌≤◌, List, ◌∷◌, length, set, refl, ap, sym, ◌∙◌, subst, arith}
use Rattle.std.specs.Prelude.{Option, Some}
use Rattle.std.proofs.lemmas.List.{get_or-set_same, get_or-set_other}
use Rattle.plain_protocol.specs.plain_state.declared.slot.PlainSlot.{PlainSlot}
use Rattle.plain_protocol.specs.plain_state.declared.slot.SlotId.{SlotId}
use Rattle.plain_protocol.specs.plain_state.declared.slot.Stage.TheVariants.{Live}
use Rattle.plain_protocol.specs.plain_state.State.{Plain, PlainSeat, new_slot, slot_at, stage_at}
use Rattle.plain_protocol.specs.plain_state.Lawful.{Lawful}
use Rattle.plain_protocol.specs.Calm.{IsMade}
use Rattle.directory_law.specs.Payloads.{Text, IsHead, IsPart, IsOwn}
use Rattle.directory_law.specs.Views.{Rope, View, view_at, rope, total, fresh, keeps, KeptIn, Each}
use Rattle.directory_law.specs.Chains.{Along, Reads, OwnSlot}
use Rattle.directory_law.specs.Cells.{Area, LiveRecord, Stands}
use Rattle.directory_law.specs.Learnt.{Built, Learnt}
use Rattle.directory_law.specs.Law.{IsChain, DirectoryLaw}
use Rattle.directory_law.proofs.Kit.{cases_id, number_other, some_same}
use Rattle.directory_law.proofs.CellCounts.{same_set}
use Rattle.directory_law.proofs.Chains.{Pointed, part_own, along_on}
use Rattle.directory_law.proofs.Moves.{Moves, links, along_slot, built_moves, learnt_moves, cell_moves, last_moves, stands_moves}

abbrev pub leads_to : SlotId → PlainSlot → PlainSlot
leads_to r x = record x { second = Some r }

abbrev pub after_link : Plain → List PlainSeat → SlotId → SlotId → Plain
after_link p ss s r = record p { seats = ss; slots = set p.slots s.0 (leads_to r (slot_at p s)) }

head_not_part : (t : List ℕ) → IsHead t → IsPart t → ⊥
head_not_part t h k = let a = h.1 in omega arith

-- the views after a link of s to r: that life of r is noted no more, and all else is as it was
pub record Relinked (p : Plain) (s r : SlotId) (views after : List View) : Type 0 where
  pub apart : r ≢ s
  pub was_noted : 0 < fresh views s (slot_at p s).life
  pub part_noted : 0 < fresh views r (slot_at p r).life
  pub no_more : fresh after r (slot_at p r).life ≡ 0
  pub fewer : (x : SlotId) (l : ℕ) → fresh after x l ≤ fresh views x l
  pub fresh_other : (x : SlotId) (l : ℕ) → ((x ≡ r) × (l ≡ (slot_at p r).life) → ⊥)
      → fresh after x l ≡ fresh views x l
  pub keeps_same : (x : SlotId) (l : ℕ) → keeps after x l ≡ keeps views x l
  pub kept : (x : SlotId) (l : ℕ) (t : Text) → KeptIn views x l t → KeptIn after x l t
  pub used : total (λ v. v.used) after ≡ total (λ v. v.used) views
  pub quotas : total (λ v. v.quota) after ≡ total (λ v. v.quota) views
  pub quota : (n : ℕ) → (view_at after n).used ≤ (view_at after n).quota

-- s and r are live slots of the directory, and the text is read from r
module _ (z : Area) (p : Plain) (ss : List PlainSeat) (s r : SlotId) (text : Text)
    (views after : List View) (inside : s.0 < length p.slots) (lawful : Lawful p)
    (law : DirectoryLaw z p views) (relinked : Relinked p s r views after)
    (own : IsOwn (slot_at p s).payload) (live_r : stage_at p r ≡ Live)
    (part : IsPart (slot_at p r).payload) (reads_r : Reads p r text) where
  here_slot : slot_at (after_link p ss s r) s ≡ leads_to r (slot_at p s)
  here_slot = get_or-set_same p.slots s.0 (leads_to r (slot_at p s)) new_slot inside

  other_slot : (x : SlotId) → x ≢ s → slot_at (after_link p ss s r) x ≡ slot_at p x
  other_slot x ne = get_or-set_other p.slots s.0 x.0 (leads_to r (slot_at p s)) new_slot
      (number_other x s ne)

  at_slot : (P : SlotId → PlainSlot → Type 0) → P s (leads_to r (slot_at p s))
      → ((x : SlotId) → x ≢ s → P x (slot_at p x)) → (x : SlotId)
      → P x (slot_at (after_link p ss s r) x)
  at_slot P new old x =
      ⊎_elim
      (λ (e : x ≡ s). subst (λ (k : SlotId). P k (slot_at (after_link p ss s r) k)) (sym e)
      (subst (P s) (sym here_slot) new))
      (λ (ne : x ≢ s). subst (P x) (sym (other_slot x ne)) (old x ne))
      (cases_id x s)

  -- all but field 1 of s is as it was
  stage_same : (x : SlotId) → stage_at (after_link p ss s r) x ≡ stage_at p x
  stage_same = at_slot (λ x y. y.stage ≡ (slot_at p x).stage) refl (λ x ne. refl)

  life_same : (x : SlotId) → (slot_at (after_link p ss s r) x).life ≡ (slot_at p x).life
  life_same = at_slot (λ x y. y.life ≡ (slot_at p x).life) refl (λ x ne. refl)

  mark_same : (x : SlotId) → (slot_at (after_link p ss s r) x).marked ≡ (slot_at p x).marked
  mark_same = at_slot (λ x y. y.marked ≡ (slot_at p x).marked) refl (λ x ne. refl)

  payload_same : (x : SlotId) → (slot_at (after_link p ss s r) x).payload ≡ (slot_at p x).payload
  payload_same = at_slot (λ x y. y.payload ≡ (slot_at p x).payload) refl (λ x ne. refl)

  first_same : (x : SlotId) → (slot_at (after_link p ss s r) x).first ≡ (slot_at p x).first
  first_same = at_slot (λ x y. y.first ≡ (slot_at p x).first) refl (λ x ne. refl)

  second_same : (x : SlotId) → x ≢ s
      → (slot_at (after_link p ss s r) x).second ≡ (slot_at p x).second
  second_same x ne = ap (λ (y : PlainSlot). y.second) (other_slot x ne)

  second_new : (slot_at (after_link p ss s r) s).second ≡ Some r
  second_new = ap (λ (y : PlainSlot). y.second) here_slot

  made_same : (x : SlotId) → IsMade (stage_at p x) → IsMade (stage_at (after_link p ss s r) x)
  made_same x made = subst IsMade (sym (stage_same x)) made

  own_back : (x : SlotId) → OwnSlot (after_link p ss s r) x → OwnSlot p x
  own_back x o = record {
    made = subst IsMade (stage_same x) o.made;
    own =
        subst IsOwn (payload_same x) o.own;
  }

  noted_not : (x : SlotId) → fresh views x (slot_at p x).life ≡ 0 → x ≡ s → ⊥
  noted_not x none e =
      let b : fresh views s (slot_at p s).life ≡ 0 =
      subst (λ (k : SlotId). fresh views k (slot_at p k).life ≡ 0) e none in
      let c = relinked.was_noted in omega arith

  moves : Moves z p (after_link p ss s r) views after (λ x. x ≡ s)
  moves = record {
    lives = λ x. let e = life_same x in omega arith;
    live = λ x life now. sym (stage_same x) ∙ now;
    payload = λ x now. payload_same x;
    second = λ x now of_own ne. second_same x ne;
    mark = λ x life m. mark_same x ∙ m;
    cells = λ d x h is. is;
    held = λ d x h is. (made_same x (law.cells d x h is).made, payload_same x, life_same x);
    still = noted_not;
    fewer = λ x l began. relinked.fewer x l;
    kept = relinked.kept;
    once = λ x l.
        let a = relinked.fewer x l in
        let b = relinked.keeps_same x l in
        let c = law.once x l in
        omega arith;
  }

  unpointed_r : Pointed p r → ⊥
  unpointed_r pt = let a = law.loose pt.0 r pt.1 pt.2 in let c = relinked.part_noted in omega arith

  -- the chain from s
  along_new : Along (after_link p ss s r) (Some r) text
  along_new =
      let of_own = part_own (slot_at p r).payload part in
      let tail = along_slot z p (after_link p ss s r) views after (λ x. x ≡ s) moves lawful law r
      live_r of_own relinked.apart reads_r.0 reads_r.2 in
      subst (Along (after_link p ss s r) (Some r)) (sym reads_r.1)
      (r, refl, payload_same r, part, tail)

  pub built_new : Built (after_link p ss s r)
      (rope s (slot_at p s).life ((slot_at p s).payload ∷ text))
  built_new = (
    (let a = life_same s in omega arith),
    λ life l. (
      subst IsOwn (sym (payload_same s)) own,
      (
        text,
        ap (λ (y : List ℕ). y ∷ text) (sym (payload_same s)),
        subst (λ (y : Option SlotId). Along (after_link p ss s r) y text) (sym second_new)
            along_new,
      ),
    ),
  )

  -- notes of a slot other than s in its life
  pub built_other : (e : Rope) → ((e.slot ≡ s) × (e.life ≡ (slot_at p s).life) → ⊥) → Built p e
      → Built (after_link p ss s r) e
  built_other e differs h =
      built_moves z p (after_link p ss s r) views after (λ x. x ≡ s) moves lawful law e
      (λ life is. differs (is, sym life ∙ ap (λ (k : SlotId). (slot_at p k).life) is)) h

  pub learnt_other : (v : View) → Learnt z p views v → (fs : List Rope)
      → Each (Built (after_link p ss s r)) fs
      → Learnt z (after_link p ss s r) after (record v { noted = fs })
  learnt_other = learnt_moves z p (after_link p ss s r) views after (λ x. x ≡ s) moves lawful law

  -- what s leads to is r alone
  new_is : (t x : SlotId) → t ≡ s → (slot_at (after_link p ss s r) t).second ≡ Some x → x ≡ r
  new_is t x e at = some_same x r (sym (sym second_new
      ∙ (ap (λ (k : SlotId). (slot_at (after_link p ss s r) k).second) (sym e) ∙ at)))

  single_link : (a b x : SlotId) → OwnSlot (after_link p ss s r) a → OwnSlot (after_link p ss s r) b
      → (slot_at (after_link p ss s r) a).second ≡ Some x
      → (slot_at (after_link p ss s r) b).second ≡ Some x → a ≡ b
  single_link a b x oa ob ata atb =
      ⊎_elim
      (λ (ea : a ≡ s).
      ⊎_elim
      (λ (eb : b ≡ s). ea ∙ sym eb)
      (λ (nb : b ≢ s). absurd (unpointed_r (
        b,
        own_back b ob,
        sym (second_same b nb)
            ∙ (atb ∙ ap Some (new_is a x ea ata)),
      )))
      (cases_id b s))
      (λ (na : a ≢ s).
      ⊎_elim
      (λ (eb : b ≡ s). absurd (unpointed_r (
        a,
        own_back a oa,
        sym (second_same a na)
            ∙ (ata ∙ ap Some (new_is b x eb atb)),
      )))
      (λ (nb : b ≢ s). law.single a b x (own_back a oa) (own_back b ob)
      (sym (second_same a na) ∙ ata) (sym (second_same b nb) ∙ atb))
      (cases_id b s))
      (cases_id a s)

  loose_link : (t x : SlotId) → OwnSlot (after_link p ss s r) t
      → (slot_at (after_link p ss s r) t).second ≡ Some x
      → fresh after x (slot_at (after_link p ss s r) x).life ≡ 0
  loose_link t x o at =
      subst (λ (l : ℕ). fresh after x l ≡ 0) (sym (life_same x))
      (⊎_elim
      (λ (e : t ≡ s). subst (λ (k : SlotId). fresh after k (slot_at p k).life ≡ 0)
      (sym (new_is t x e at)) relinked.no_more)
      (λ (ne : t ≢ s).
      let a = law.loose t x (own_back t o) (sym (second_same t ne) ∙ at) in
      let b = relinked.fewer x (slot_at p x).life in omega arith)
      (cases_id t s))

  shape_link : (x : SlotId) → OwnSlot (after_link p ss s r) x
      → IsChain (after_link p ss s r) (slot_at (after_link p ss s r) x)
  shape_link x o =
      let b = own_back x o in
      let h = law.shape x b in (
        first_same x ∙ h.0,
        ⊎_elim
            (λ (e : x ≡ s). (
              text,
              subst (λ (y : Option SlotId). Along (after_link p ss s r) y text)
                  (sym second_new ∙ ap (λ (k : SlotId). (slot_at (after_link p ss s r) k).second)
                  (sym e))
                  along_new,
            ))
            (λ (ne : x ≢ s).
            let chain = along_on p (after_link p ss s r)
            (links z p (after_link p ss s r) views after (λ x. x ≡ s) moves lawful law) x b h.1.0
            h.1.1 in (
              h.1.0,
              subst (λ (y : Option SlotId). Along (after_link p ss s r) y h.1.0)
                  (sym (second_same x ne)) chain,
            ))
            (cases_id x s),
      )

  bound_link : (x : SlotId) → LiveRecord (after_link p ss s r) after x
      → Stands z (after_link p ss s r) x
  bound_link x l =
      let head : IsHead (slot_at p x).payload = subst IsHead (payload_same x) l.head in
      let ne : x ≢ r = λ e. head_not_part (slot_at p r).payload
      (subst (λ (k : SlotId). IsHead (slot_at p k).payload) e head) part in
      law.bound x (record {
        stage = sym (stage_same x) ∙ l.stage;
        mark = sym (mark_same x) ∙ l.mark;
        head = head;
        bound = sym (relinked.fresh_other x (slot_at p x).life (λ b. ne b.0))
            ∙ subst (λ (y : ℕ). fresh after x y ≡ 0) (life_same x) l.bound;
      })

  pub law_linked : ((n : ℕ) → Learnt z (after_link p ss s r) after (view_at after n))
      → DirectoryLaw z (after_link p ss s r) after
  law_linked learnt = record {
    cells = cell_moves z p (after_link p ss s r) views after (λ x. x ≡ s) moves lawful law;
    last = last_moves z p (after_link p ss s r) views after (λ x. x ≡ s) moves lawful law;
    bound = bound_link;
    few =
        let e = relinked.used in
        let g = same_set z p (after_link p ss s r) z.cells (λ d h. refl) in
        let f = law.few in omega arith;
    quotas = let e = relinked.quotas in let f = law.quotas in omega arith;
    quota = relinked.quota;
    shape = shape_link;
    single = single_link;
    loose = loose_link;
    lives = λ x l h.
        let a = relinked.fewer x l in
        let b = relinked.keeps_same x l in
        let c = law.lives x l (omega arith) in
        let d = life_same x in omega arith;
    once = moves.once;
    stands = λ x l h.
        stands_moves z p (after_link p ss s r) views after (λ x. x ≡ s) moves lawful law x l
        (let a = relinked.keeps_same x l in omega arith);
    learnt = learnt;
  }
