-- The deeds that begin to read a text and read on keep the law.
use Rattle.std.proofs.Common.{◌≡◌, ◌≢◌, ◌⊎◌, inl, inr, ⊎_elim, ℕ, ◌+◌, ◌<◌, ◌≤◌, Bool, true, false, List, [], ◌∷◌, ◌++◌, length, set, refl, ap, sym, ◌∙◌, subst, arith}
use Rattle.std.specs.Prelude.{if◌then◌else◌, ◌==◌, Some}
use Rattle.plain_protocol.specs.plain_state.declared.act.PlainAct.{PlainAct}
use Rattle.plain_protocol.specs.plain_state.declared.act.PlainAct.TheVariants as act
use Rattle.plain_protocol.specs.plain_state.declared.slot.PlainSlot.{PlainSlot}
use Rattle.plain_protocol.specs.plain_state.declared.slot.SlotId.{SlotId}
use Rattle.plain_protocol.specs.plain_state.declared.slot.Stage.{Stage}
use Rattle.plain_protocol.specs.plain_state.declared.slot.Stage.TheVariants.{Free, Blank, Live, Ended, Husk}
use Rattle.plain_protocol.specs.plain_state.State.{Plain, slot_at, stage_at}
use Rattle.plain_protocol.specs.plain_state.Lawful.{Lawful}
use Rattle.plain_protocol.specs.plain_state.Steps.{Does}
use Rattle.plain_protocol.specs.Laws.{Keeps}
use Rattle.plain_protocol.specs.Owns.{OwnPart, own_part}
use Rattle.directory_law.specs.Payloads.{Text, IsText}
use Rattle.directory_law.specs.Views.{Seen, Ran, View, gone, view_at, note, fresh, KeptIn}
use Rattle.directory_law.specs.Chains.{Along, Reads}
use Rattle.directory_law.specs.Cells.{Area, cell}
use Rattle.directory_law.specs.Learnt.{Saw, Running}
use Rattle.directory_law.specs.Law.{DirectoryLaw, IsBound}
use Rattle.directory_law.proofs.Kit.{false≢true}
use Rattle.directory_law.proofs.Notes.{each_in}
use Rattle.directory_law.proofs.Chains.{begins_own, rest_of}
use Rattle.directory_law.proofs.Moves.{kept_beside}
use Rattle.directory_law.proofs.Foreign.{calmly}
use Rattle.directory_law.proofs.Turns.{law_knows}
use Rattle.directory_law.specs.Steps.{life_in, payload_in, slot_in}
use Rattle.directory_law.specs.Lessons.{spent, HasSeen, UpgradeReady, starts_at, upgrade_next, UpgradeTells, first_ran}

-- the text of a slot in a cell may be read from its head on
pub reads_from : (z : Area) (p : Plain) (views : List View) (c : ℕ) (s : SlotId) (l : ℕ)
    (head : List ℕ)
    → DirectoryLaw z p views → c < z.cells → cell z p c ≡ Some s → (slot_at p s).life ≡ l
    → (slot_at p s).payload ≡ head
    → Running p views (record { slot = s; life = l; before = head ∷ []; now = s; now_life = l })
reads_from z p views c s l head law inside is life payload =
    let o = law.cells c s inside is in
    let b = o.begins in
    let text : o.text ≡ head ∷ b.0 = b.1 ∙ ap (λ (t : List ℕ). t ∷ b.0) payload in
    let kept = subst (λ (x : ℕ). KeptIn views s x (head ∷ b.0)) life
    (subst (KeptIn views s (slot_at p s).life) text o.kept) in
    let none = subst (λ (x : ℕ). fresh views s x ≡ 0) life
    (kept_beside z p views c s law inside is) in (
      b.0,
      kept,
      (omega arith),
      none,
      λ li live.
          let r = o.reads live in
          let e : r.0 ≡ b.0 = ap rest_of (sym r.1 ∙ b.1) in
          (begins_own p s o.text o.is b, subst (Along p (slot_at p s).second) e r.2),
    )

live_or_not : (g : Stage) → (g ≡ Live) ⊎ (g ≢ Live)
live_or_not Free = inr (λ (e : Free ≡ Live). cc)
live_or_not Blank = inr (λ (e : Blank ≡ Live). cc)
live_or_not Live = inl refl
live_or_not Ended = inr (λ (e : Ended ≡ Live). cc)
live_or_not Husk = inr (λ (e : Husk ≡ Live). cc)

unmarked_live : (p : Plain) (s : SlotId) → Lawful p → (slot_at p s).marked ≡ false → stage_at p s ≡ Live
unmarked_live p s lawful mark =
    ⊎_elim
    (λ (live : stage_at p s ≡ Live). live)
    (λ (dead : stage_at p s ≢ Live). absurd (false≢true (sym mark ∙ lawful.marks s dead)))
    (live_or_not (stage_at p s))

-- a slot in a cell without a zero mark is the live record of its text
pub unmarked_bound : (z : Area) (p : Plain) (views : List View) (c : ℕ) (s : SlotId) (head : List ℕ)
    → Lawful p → DirectoryLaw z p views → c < z.cells → cell z p c ≡ Some s
    → (slot_at p s).payload ≡ head → (slot_at p s).marked ≡ false
    → (tail : Text) × IsText (head ∷ tail) × IsBound z p (head ∷ tail) s
unmarked_bound z p views c s head lawful law inside is payload mark =
    let o = law.cells c s inside is in
    let b = o.begins in
    let text : o.text ≡ head ∷ b.0 = b.1 ∙ ap (λ (t : List ℕ). t ∷ b.0) payload in
    let live = unmarked_live p s lawful mark in
    let reads = subst (Reads p s) text (o.reads live) in (
      b.0,
      subst IsText text o.is,
      record { stands = (c, inside, is); stage = live; mark = mark; reads = reads },
    )

-- UPGRADE
longer : (e : Ran) (es : List Ran) → es ≡ e ∷ es → ⊥
longer e es same = let a = ap length same in omega arith

first_is : (e f : Ran) (es : List Ran) → e ∷ es ≡ f ∷ es → e ≡ f
first_is e f es same = ap first_ran same

upgraded : Bool → OwnPart → View → SlotId → ℕ → View
upgraded spends own v s found =
    if found == 0
    then record v { used = v.used + spent spends; ran = starts_at own s ∷ v.ran }
    else record v { ended = note s (life_in own s) ∷ v.ended }

module _ (z : Area) (p q : Plain) (views : List View) (n : ℕ) (here : n < length views) (s : SlotId)
    (spends : Bool)
    (lawful : Lawful p) (law : DirectoryLaw z p views) (law_q : DirectoryLaw z q views)
    (same : slot_at q s ≡ slot_at p s)
    (seen : HasSeen (own_part p n) (view_at views n) s)
    (spare : (view_at views n).used + spent spends ≤ (view_at views n).quota) where
  e : Seen
  e = record {
    cell = seen.0;
    slot = s;
    life = life_in (own_part p n) s;
    head =
        payload_in (own_part p n) s;
  }

  saw : Saw z p e
  unfolding e
  saw = each_in (Saw z p) (record {
    cell = seen.0;
    slot = s;
    life = life_in (own_part p n) s;
    head =
        payload_in (own_part p n) s;
  }) (view_at views n).seen seen.1 (law.learnt n).seen

  saw_q : Saw z q e
  unfolding e
  saw_q = each_in (Saw z q) (record {
    cell = seen.0;
    slot = s;
    life = life_in (own_part p n) s;
    head = payload_in (own_part p n) s;
  }) (view_at views n).seen seen.1 (law_q.learnt n).seen

  law_upgrades : (found : ℕ) → (found ≡ 0) ⊎ ((found ≡ 1) × ((slot_at p s).marked ≡ true))
      → DirectoryLaw z q (set views n (upgraded spends (own_part p n) (view_at views n) s found))
  unfolding e upgraded
  law_upgrades found (inl up) =
      let l = law_q.learnt n in
      let w : View = record (view_at views n) {
        used = (view_at views n).used + spent spends;
        ran =
            starts_at (own_part p n) s ∷ (view_at views n).ran;
      } in
      let run = reads_from z q views seen.0 s (life_in (own_part p n) s)
      (payload_in (own_part p n) s) law_q saw_q.0 saw_q.1 saw_q.2 saw_q.3 in
      rw up (law_knows z q views n w here refl refl refl (omega arith) spare
      (record {
        noted = l.noted;
        seen = l.seen;
        ended = l.ended;
        ran = (run, l.ran);
        led =
            l.led;
      }) law_q)
  law_upgrades found (inr dead) =
      let l = law_q.learnt n in
      let w : View = record (view_at views n) {
        ended =
            note s (life_in (own_part p n) s) ∷ (view_at views n).ended;
      } in
      let life = saw_q.2 in
      let mark : (slot_at q s).marked ≡ true = ap (λ (x : PlainSlot). x.marked) same ∙ dead.1 in
      rw dead.0 (law_knows z q views n w here refl refl refl (omega arith) (law_q.quota n)
      (record {
        noted = l.noted;
        seen = l.seen;
        ended = (((omega arith), λ at. mark), l.ended);
        ran = l.ran;
        led = l.led;
      }) law_q)

  upgrade_tells : (found : ℕ) → ((found ≡ 0) × ((slot_at p s).marked ≡ false)) ⊎ (found ≡ 1)
      → UpgradeTells z p q n (view_at views n)
      (upgraded spends (own_part p n) (view_at views n) s found)
  unfolding e upgraded
  upgrade_tells found (inl up) f ran =
      let is : starts_at (own_part p n) s ∷ (view_at views n).ran ≡ f ∷ (view_at views n).ran =
      sym (rw up.0 refl) ∙ ran in
      subst (λ (x : Ran). (tail : Text) × IsText (x.before ++ tail)
      × IsBound z p (x.before ++ tail) x.slot)
      (first_is (starts_at (own_part p n) s) f (view_at views n).ran is)
      (unmarked_bound z p views seen.0 s (payload_in (own_part p n) s) lawful law saw.0 saw.1 saw.3 up.1)
  upgrade_tells found (inr dead) f ran =
      absurd (longer f (view_at views n).ran (sym (rw dead refl) ∙ ran))

pub upgrade_keeps : (z : Area) (spends : Bool)
    → Keeps (DirectoryLaw z) gone (UpgradeReady spends) (upgrade_next spends) (UpgradeTells z)
unfolding upgraded
upgrade_keeps z spends p q views n step found meets here ready does =
    let s : SlotId = ready.slot in
    let d = subst (λ (a : PlainAct). Does p n a found q) ready.act_is does in
    let law_q = calmly z p q n (act.Add s) found views meets tt d in
    let slots : slot_at q s ≡ slot_at p s = ⊎_elim (λ up. ap (λ (x : Plain). slot_at x s) up.2)
    (λ dead. ap (λ (x : Plain). slot_at x s) dead.2) d.1.1 in
    let a = law_upgrades z p q views n here s spends meets.lawful meets.law law_q slots ready.seen ready.spare
    found (⊎_elim (λ up. inl up.0) (λ dead. inr (dead.0, dead.1)) d.1.1) in
    let b = upgrade_tells z p q views n here s spends meets.lawful meets.law law_q slots ready.seen ready.spare
    found (⊎_elim (λ up. inl (up.0, up.1)) (λ dead. inr dead.0) d.1.1) in
    let own = own_part p n in
    let at : s ≡ slot_in step = sym (ap slot_in ready.act_is) in
    subst (λ (x : SlotId). DirectoryLaw z q (set views n
    (upgraded spends own (view_at views n) x found))
    × UpgradeTells z p q n (view_at views n) (upgraded spends own (view_at views n) x found)) at
    (a, b)
