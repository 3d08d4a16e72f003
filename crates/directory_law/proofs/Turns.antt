-- What becomes of the law where views change alone.
use Rattle.std.proofs.Common.{◌≡◌, ℕ, ◌+◌, ◌<◌, ◌≤◌, List, ◌++◌, length, set, sum, ap, sym, ◌∙◌, subst, arith}
use Rattle.std.specs.Prelude.{Some}
use Rattle.std.proofs.lemmas.List.{set-get_or}
use Rattle.plain_protocol.specs.plain_state.declared.slot.SlotId.{SlotId}
use Rattle.plain_protocol.specs.plain_state.State.{Plain, slot_at}
use Rattle.directory_law.specs.Payloads.{Text}
use Rattle.directory_law.specs.Views.{Ran, Led, View, gone, view_at, times_of, total, fresh, keeps, KeptIn, In}
use Rattle.directory_law.specs.Cells.{Area, cell, on, SetCell, LiveRecord}
use Rattle.directory_law.specs.Learnt.{Running, Leads, Learnt}
use Rattle.directory_law.specs.Law.{granted, LastOnWalk, DirectoryLaw}
use Rattle.directory_law.proofs.Kit.{total_set, at_view}
use Rattle.directory_law.proofs.Notes.{each_map}
use Rattle.directory_law.proofs.Kept.{same_text, kept_set}

-- no life is noted more often, all that is kept is kept, and no intern is given back
pub record Turned (views after : List View) : Type 0 where
  pub fewer : (s : SlotId) (l : ℕ) → fresh after s l ≤ fresh views s l
  pub keeps_same : (s : SlotId) (l : ℕ) → keeps after s l ≡ keeps views s l
  pub kept : (s : SlotId) (l : ℕ) (t : Text) → KeptIn views s l t → KeptIn after s l t
  pub used : total (λ v. v.used) views ≤ total (λ v. v.used) after

module _ (z : Area) (p : Plain) (views after : List View) (turned : Turned views after)
    (law : DirectoryLaw z p views) where
  cell_turned : (c : ℕ) (s : SlotId) → c < z.cells → cell z p c ≡ Some s → SetCell z p after c s
  cell_turned c s h is =
      let o = law.cells c s h is in
      record {
        made = o.made;
        text = o.text;
        kept = turned.kept s (slot_at p s).life o.text o.kept;
        is = o.is;
        begins = o.begins;
        reads = o.reads;
        way = o.way;
      }

  kept_before : (c : ℕ) (s : SlotId) (text : Text) → c < z.cells → cell z p c ≡ Some s
      → KeptIn after s (slot_at p s).life text → KeptIn views s (slot_at p s).life text
  kept_before c s text h is kept =
      let o = law.cells c s h is in
      let was = turned.kept s (slot_at p s).life o.text o.kept in
      let a = turned.keeps_same s (slot_at p s).life in
      let b = law.once s (slot_at p s).life in
      let e : o.text ≡ text = same_text after s (slot_at p s).life o.text text (omega arith) was
      kept in
      subst (KeptIn views s (slot_at p s).life) e o.kept

  none_turned : (s : SlotId) (l : ℕ) → fresh views s l ≡ 0 → fresh after s l ≡ 0
  none_turned s l none = let b = turned.fewer s l in omega arith

  pub running_turned : (e : Ran) → Running p views e → Running p after e
  running_turned e h = (
    h.0,
    turned.kept e.slot e.life (e.before ++ h.0) h.1,
    h.2,
    none_turned e.now e.now_life h.3,
    h.4,
  )

  leads_turned : (e : Led) → Leads p views e → Leads p after e
  leads_turned e h = (h.0, none_turned e.slot e.life h.1, h.2)

  pub learnt_turned : (v : View) → Learnt z p views v → Learnt z p after v
  learnt_turned v l = record {
    noted = l.noted;
    seen = l.seen;
    ended = l.ended;
    ran = each_map (Running p views) (Running p after) running_turned v.ran l.ran;
    led = each_map (Leads p views) (Leads p after) leads_turned v.led l.led;
  }

  last_turned : LastOnWalk z p after
  last_turned k j s r text lt inside isk isj keptk keptj =
      law.last k j s r text lt inside isk isj
      (kept_before (on z text k) s text (omega arith) isk keptk)
      (kept_before (on z text j) r text (omega arith) isj keptj)

  pub law_turned : ((s : SlotId) → LiveRecord p after s → LiveRecord p views s)
      → total (λ v. v.quota) after ≤ sum z.interns + granted z p
      → ((n : ℕ) → (view_at after n).used ≤ (view_at after n).quota)
      → ((n : ℕ) → Learnt z p after (view_at after n)) → DirectoryLaw z p after
  law_turned live quotas quota learnt = record {
    cells = cell_turned;
    last = last_turned;
    bound = λ s l. law.bound s (live s l);
    few = let e = turned.used in let f = law.few in omega arith;
    quotas = quotas;
    quota = quota;
    shape = law.shape;
    single = law.single;
    loose = λ t s o at. none_turned s (slot_at p s).life (law.loose t s o at);
    lives = λ s l h. law.lives s l (let a = turned.fewer s l in let b = turned.keeps_same s l in
        omega arith);
    once = λ s l.
        let a = turned.fewer s l in
        let b = turned.keeps_same s l in
        let c = law.once s l in omega arith;
    stands = λ s l h. law.stands s l (let a = turned.keeps_same s l in omega arith);
    learnt = learnt;
  }

-- one view changes, and all but notes and what is learnt is as it was
pub turned_set : (views : List View) (n : ℕ) (w : View) → n < length views
    → ((s : SlotId) (l : ℕ) → times_of s l w.noted ≤ times_of s l (view_at views n).noted)
    → w.kept ≡ (view_at views n).kept → (view_at views n).used ≤ w.used
    → Turned views (set views n w)
turned_set views n w here noted kept used = record {
  fewer = λ s l.
      let e = total_set (λ (v : View). times_of s l v.noted) views n w here in
      let f = noted s l in omega arith;
  keeps_same = λ s l.
      let e = total_set (λ (v : View). times_of s l v.kept) views n w here in
      let f : times_of s l w.kept ≡ times_of s l (view_at views n).kept = ap (times_of s l) kept in
      omega arith;
  kept = λ s l t k. kept_set views n w s l t here (λ e i. subst (In e) (sym kept) i) k;
  used = let e = total_set (λ (v : View). v.used) views n w here in omega arith;
}

-- seat n has learnt more, used more interns, or has more of them
pub law_learns : (z : Area) (p : Plain) (views : List View) (n : ℕ) (w : View) → n < length views
    → w.noted ≡ (view_at views n).noted → w.kept ≡ (view_at views n).kept
    → total (λ v. v.quota) (set views n w) ≤ sum z.interns + granted z p
    → (view_at views n).used ≤ w.used → w.used ≤ w.quota
    → Learnt z p views w → DirectoryLaw z p views → DirectoryLaw z p (set views n w)
law_learns z p views n w here noted kept quotas more spare learnt law =
    law_turned z p views (set views n w) turned law
    (λ s live. record {
      stage = live.stage;
      mark = live.mark;
      head = live.head;
      bound =
          sym (same s (slot_at p s).life) ∙ live.bound;
    })
    quotas
    (at_view views n w (λ v. v.used ≤ v.quota) here spare (λ m other. law.quota m))
    (at_view views n w (Learnt z p (set views n w)) here
    (learnt_turned z p views (set views n w) turned law w learnt)
    (λ m other. learnt_turned z p views (set views n w) turned law (view_at views m)
    (law.learnt m)))
  where
    same_noted : (s : SlotId) (l : ℕ) → times_of s l w.noted ≡ times_of s l (view_at views n).noted
    same_noted s l = ap (times_of s l) noted

    same : (s : SlotId) (l : ℕ) → fresh (set views n w) s l ≡ fresh views s l
    same s l =
        let e = total_set (λ (v : View). times_of s l v.noted) views n w here in
        let f = same_noted s l in omega arith

    turned : Turned views (set views n w)
    turned = turned_set views n w here (λ s l. let f = same_noted s l in omega arith) kept more

-- the same, with the quota as it was
pub law_knows : (z : Area) (p : Plain) (views : List View) (n : ℕ) (w : View) → n < length views
    → w.noted ≡ (view_at views n).noted → w.kept ≡ (view_at views n).kept
    → w.quota ≡ (view_at views n).quota → (view_at views n).used ≤ w.used → w.used ≤ w.quota
    → Learnt z p views w → DirectoryLaw z p views → DirectoryLaw z p (set views n w)
law_knows z p views n w here noted kept quota more spare learnt law =
    law_learns z p views n w here noted kept
    (let e = total_set (λ (v : View). v.quota) views n w here in let f = law.quotas in omega arith)
    more spare learnt law

-- no view changes
pub same_law : (z : Area) (p : Plain) (views : List View) (n : ℕ) → DirectoryLaw z p views
    → DirectoryLaw z p (set views n (view_at views n))
same_law z p views n law = subst (DirectoryLaw z p) (sym (set-get_or views n gone)) law
