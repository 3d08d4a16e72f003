-- What the law says to callers.
use Rattle.std.proofs.Common.{◌≡◌, ◌≢◌, ⊎_elim, ℕ, zero, suc, ◌+◌, ◌<◌, ◌≤◌, List, [], ◌∷◌, length, set, take, sum, refl, ap, sym, ◌∙◌, subst, arith}
use Rattle.std.specs.Prelude.{Some, None}
use Rattle.std.proofs.lemmas.List.Sums.{sum_by-cons}
use Rattle.std.proofs.lemmas.Bool.{cases_eq, cases_lt}
use Rattle.plain_protocol.specs.plain_state.declared.slot.SlotId.{SlotId}
use Rattle.plain_protocol.specs.plain_state.declared.slot.Stage.TheVariants.{Live}
use Rattle.plain_protocol.specs.plain_state.State.{Plain, slot_at, stage_at}
use Rattle.plain_protocol.specs.plain_state.Lawful.{Lawful}
use Rattle.directory_law.specs.Payloads.{Text, IsText}
use Rattle.directory_law.specs.Views.{View, view_at, total, keeps, KeptIn}
use Rattle.directory_law.specs.Chains.{Along, Reads, OwnSlot}
use Rattle.directory_law.specs.Cells.{Area, cell, on, IsOnWay, LiveRecord, Stands}
use Rattle.directory_law.specs.Learnt.{Running}
use Rattle.directory_law.specs.Law.{DirectoryLaw, IsBound, NoneBound}
use Rattle.directory_law.proofs.Kit.{some_same, none_some, false≢true}
use Rattle.directory_law.proofs.Kept.{kept_counts, same_text}
use Rattle.directory_law.proofs.CellCounts.{all_set}
use Rattle.directory_law.proofs.Chains.{second_live, pointed_part, pointed_own, along_same, reads_same, begins_head}
use Rattle.directory_law.proofs.Moves.{kept_beside}
use Rattle.directory_law.specs.Walks.{Walked}
use Rattle.directory_law.proofs.Walks.{covers, walked_passed}
use Rattle.directory_law.proofs.Ends.{short_text}
use Rattle.directory_law.proofs.Reading.{reads_from}
use Rattle.directory_law.specs.Promises.{StandsAt, IsSetCell, OneRecord, WithinInterns, Reaches, PartsStandOnce, NoLive, IsKept, at_head, begins_at}
use Rattle.directory_law.proofs.Turns.{law_knows}

pub set_cell : (z : Area) (p : Plain) (views : List View) → DirectoryLaw z p views
    → (c : ℕ) (s : SlotId)
    → c < z.cells → cell z p c ≡ Some s → IsSetCell z p views c s
set_cell z p views law c s inside is =
    let o = law.cells c s inside is in
    let once = law.once s (slot_at p s).life in
    record {
      made = o.made;
      head = begins_head p s o.text o.is o.begins;
      text = o.text;
      kept = o.kept;
      one = λ t k. same_text views s (slot_at p s).life t o.text (omega arith) k o.kept;
      way = o.way;
      live = o.reads;
      short = λ h.
          let b = o.begins in
          b.1 ∙ short_text (slot_at p s).payload b.0 (subst IsText b.1 o.is) h;
    }

-- a live record stands in a cell of its text
stands_at : (z : Area) (p : Plain) (views : List View) (s : SlotId) (text : Text)
    → DirectoryLaw z p views
    → LiveRecord p views s → Reads p s text → StandsAt z p views s text
stands_at z p views s text law live reads =
    let b = law.bound s live in
    let o = law.cells b.0 s b.1 b.2 in
    let same : o.text ≡ text = reads_same p s o.text text (o.reads live.stage) reads in (
      b.0,
      b.1,
      b.2,
      subst (KeptIn views s (slot_at p s).life) same o.kept,
      subst (λ (t : Text). IsOnWay z p t b.0) same o.way,
    )

-- of two cells of one text, the earlier one on the walk has a slot with the zero mark
not_both : (z : Area) (p : Plain) (views : List View) (s r : SlotId) (text : Text) (k j : ℕ)
    → DirectoryLaw z p views
    → LiveRecord p views s → k < j → j < z.cells → cell z p (on z text k) ≡ Some s
    → cell z p (on z text j) ≡ Some r
    → KeptIn views s (slot_at p s).life text → KeptIn views r (slot_at p r).life text → ⊥
not_both z p views s r text k j law live lt inside isk isj keptk keptj =
    false≢true (sym live.mark ∙ law.last k j s r text lt inside isk isj keptk keptj)

-- so a text has at most one
unique : (z : Area) (p : Plain) (views : List View) (s r : SlotId) (text : Text)
    → DirectoryLaw z p views
    → LiveRecord p views s → LiveRecord p views r → Reads p s text → Reads p r text → s ≡ r
unique z p views s r text law a b reads_a reads_b =
    let x = stands_at z p views s text law a reads_a in
    let y = stands_at z p views r text law b reads_b in
    let wx = x.4 in
    let wy = y.4 in
    let at_x : cell z p (on z text wx.0) ≡ Some s = ap (λ (c : ℕ). cell z p c) (sym wx.2) ∙ x.2 in
    let at_y : cell z p (on z text wy.0) ≡ Some r = ap (λ (c : ℕ). cell z p c) (sym wy.2) ∙ y.2 in
    ⊎_elim
    (λ (e : wx.0 ≡ wy.0). some_same s r (sym at_x
    ∙ (ap (λ (k : ℕ). cell z p (on z text k)) e ∙ at_y)))
    (λ (ne : wx.0 ≢ wy.0).
    ⊎_elim
    (λ (lt : wx.0 < wy.0). absurd (not_both z p views s r text wx.0 wy.0 law a lt wy.1 at_x at_y x.3
    y.3))
    (λ (ge : wy.0 ≤ wx.0). absurd (not_both z p views r s text wy.0 wx.0 law b (omega arith) wx.1
    at_y at_x y.3 x.3))
    (cases_lt wx.0 wy.0))
    (cases_eq wx.0 wy.0)

pub one_record : (z : Area) (p : Plain) (views : List View) → DirectoryLaw z p views
    → OneRecord z p views
one_record z p views law = record {
  stands = λ s text live reads. stands_at z p views s text law live reads;
  one = λ s r text a b reads_a reads_b. unique z p views s r text law a b reads_a reads_b;
  last = law.last;
}

used_le : (vs : List View) → ((k : ℕ) → (view_at vs k).used ≤ (view_at vs k).quota)
    → total (λ v. v.used) vs ≤ total (λ v. v.quota) vs
unfolding total
used_le [] le = omega arith
used_le (v ∷ vs) le =
    let a = sum_by-cons (λ (w : View). w.used) v vs in
    let b = sum_by-cons (λ (w : View). w.quota) v vs in
    let c : v.used ≤ v.quota = le 0 in
    let i = used_le vs (λ k. le (suc k)) in omega arith

used_lt : (vs : List View) (m : ℕ) → m < length vs → (view_at vs m).used < (view_at vs m).quota
    → ((k : ℕ) → (view_at vs k).used ≤ (view_at vs k).quota)
    → total (λ v. v.used) vs < total (λ v. v.quota) vs
unfolding total
used_lt [] m h lt le = absurd (omega arith)
used_lt (v ∷ vs) zero h lt le =
    let a = sum_by-cons (λ (w : View). w.used) v vs in
    let b = sum_by-cons (λ (w : View). w.quota) v vs in
    let i = used_le vs (λ k. le (suc k)) in omega arith
used_lt (v ∷ vs) (suc m) h lt le =
    let a = sum_by-cons (λ (w : View). w.used) v vs in
    let b = sum_by-cons (λ (w : View). w.quota) v vs in
    let c : v.used ≤ v.quota = le 0 in
    let i = used_lt vs m (omega arith) lt (λ k. le (suc k)) in omega arith

pub within_interns : (z : Area) (p : Plain) (views : List View) → DirectoryLaw z p views
    → WithinInterns z p views
within_interns z p views law = record {
  cells = law.few;
  used = let a = used_le views law.quota in let b = law.quotas in omega arith;
}

granted_most : (grants : List ℕ) (n : ℕ) → sum (take n grants) ≤ sum grants
granted_most grants zero = omega arith
granted_most [] (suc n) = omega arith
granted_most (x ∷ xs) (suc n) =
    let a : sum (x ∷ take n xs) ≡ x + sum (take n xs) = sum_by-cons (λ (k : ℕ). k) x (take n xs) in
    let b : sum (x ∷ xs) ≡ x + sum xs = sum_by-cons (λ (k : ℕ). k) x xs in
    let i = granted_most xs n in omega arith

-- a seat that has an intern left can't have walked over all cells
pub never_full : (z : Area) (p : Plain) (views : List View) (n : ℕ) (text : Text)
    → sum z.interns + sum z.grants ≤ z.cells → DirectoryLaw z p views → n < length views
    → (view_at views n).used < (view_at views n).quota → Walked z (view_at views n) text z.cells → ⊥
never_full z p views n text fits law here spare walked =
    let passed = walked_passed z p views law (view_at views n) text z.cells (law.learnt n) walked in
    let set_at : (d : ℕ) → d < z.cells → cell z p d ≢ None = λ d h null.
    let k = covers z text d h in
    let o = passed k.0 k.1 in
    none_some o.slot (sym null ∙ (ap (λ (x : ℕ). cell z p x) (sym k.2) ∙ o.is)) in
    let a = all_set z p z.cells set_at in
    let b = used_lt views n here spare law.quota in
    let f = law.few in let g = law.quotas in let m = granted_most z.grants p.tickets in omega arith

-- what is left of a chain after some slots
shorter : (z : Area) (p : Plain) (views : List View) → Lawful p → DirectoryLaw z p views
    → (n : ℕ) (s t : SlotId)
    → OwnSlot p s → (ts : Text) → Along p (slot_at p s).second ts → Reaches p s t n
    → (us : Text) × Along p (slot_at p t).second us × (length us < length ts)
shorter z p views lawful law zero s t own [] h r = absurd (none_some t (sym h ∙ r))
shorter z p views lawful law zero s t own (u ∷ us) h r =
    let e : h.0 ≡ t = some_same h.0 t (sym h.1 ∙ r) in
    (us, subst (λ (x : SlotId). Along p (slot_at p x).second us) e h.4, omega arith)
shorter z p views lawful law (suc n) s t own [] h r = absurd (none_some r.0 (sym h ∙ r.1))
shorter z p views lawful law (suc n) s t own (u ∷ us) h r =
    let e : h.0 ≡ r.0 = some_same h.0 r.0 (sym h.1 ∙ r.1) in
    let next = pointed_own z p views r.0 lawful law (s, own, r.1) in
    let rest = subst (λ (x : SlotId). Along p (slot_at p x).second us) e h.4 in
    let i = shorter z p views lawful law n r.0 t next us rest r.2 in
    let l = i.2 in (i.0, i.1, omega arith)

no_cycle : (z : Area) (p : Plain) (views : List View) → Lawful p → DirectoryLaw z p views
    → (s : SlotId) (n : ℕ)
    → OwnSlot p s → Reaches p s s n → ⊥
no_cycle z p views lawful law s n own r =
    let h = (law.shape s own).1 in
    let i = shorter z p views lawful law n s s own h.0 h.1 r in
    let e : i.0 ≡ h.0 = along_same p (slot_at p s).second i.0 h.0 i.1 h.1 in
    let l = ap (λ (x : Text). length x) e in let k = i.2 in omega arith

pub parts_stand_once : (z : Area) (p : Plain) (views : List View) → Lawful p
    → DirectoryLaw z p views
    → PartsStandOnce z p
parts_stand_once z p views lawful law = record {
  first = λ t o. (law.shape t o).0;
  second = λ t s o at. (
    pointed_own z p views s lawful law (t, o, at),
    pointed_part z p views s law (t, o, at),
    second_live p t s lawful at,
  );
  once = λ t u s ot ou a b. law.single t u s ot ou a b;
  in_no_cell = λ c s inside is part.
      let o = law.cells c s inside is in
      let a = (begins_head p s o.text o.is o.begins).1 in omega arith;
  acyclic = λ s n o r. no_cycle z p views lawful law s n o r;
}

-- a slot that stands in a cell, lives and has no zero mark is the live record of its text
pub bound_live : (z : Area) (p : Plain) (views : List View) → DirectoryLaw z p views
    → (text : Text) (s : SlotId)
    → IsBound z p text s → LiveRecord p views s
bound_live z p views law text s b =
    let c = b.stands in
    let o = law.cells c.0 s c.1 c.2 in
    record {
      stage = b.stage;
      mark = b.mark;
      head = begins_head p s o.text o.is o.begins;
      bound = kept_beside z p views c.0 s law c.1 c.2;
    }

-- where no cell holds one, the text has no live record
pub none_live : (z : Area) (p : Plain) (views : List View) → DirectoryLaw z p views → (text : Text)
    → NoneBound z p text → NoLive p views text
none_live z p views law text none s live reads =
    none s (record {
      stands = law.bound s live;
      stage = live.stage;
      mark = live.mark;
      reads =
          reads;
    })

-- each life is kept at most once
pub kept_once : (z : Area) (p : Plain) (views : List View) → DirectoryLaw z p views
    → (s : SlotId) (l : ℕ)
    → keeps views s l ≤ 1
kept_once z p views law s l = let a = law.once s l in omega arith

-- what is kept stands in a cell, in that life
pub kept_stands : (z : Area) (p : Plain) (views : List View) → DirectoryLaw z p views
    → (s : SlotId) (l : ℕ)
    → 0 < keeps views s l → Stands z p s × ((slot_at p s).life ≡ l)
kept_stands z p views law s l kept = let b = law.stands s l kept in ((b.0, b.1, b.2), b.3)

-- a kept head has its text as long as it lives
pub kept_reads : (z : Area) (p : Plain) (views : List View) → DirectoryLaw z p views
    → (s : SlotId) (text : Text)
    → KeptIn views s (slot_at p s).life text → stage_at p s ≡ Live → Reads p s text × IsText text
kept_reads z p views law s text kept live =
    let b = law.stands s (slot_at p s).life (kept_counts views s (slot_at p s).life text kept) in
    let o = law.cells b.0 s b.1 b.2 in
    let once = law.once s (slot_at p s).life in
    let same : o.text ≡ text = same_text views s (slot_at p s).life o.text text (omega arith) o.kept
    kept in
    (subst (Reads p s) same (o.reads live), subst IsText same o.is)

-- and may be read from its head on
pub kept_runs : (z : Area) (p : Plain) (views : List View) → DirectoryLaw z p views → (s : SlotId)
    → IsKept p views s
    → Running p views (at_head p s)
kept_runs z p views law s kept =
    let b = law.stands s (slot_at p s).life kept in
    reads_from z p views b.0 s (slot_at p s).life (slot_at p s).payload law b.1 b.2 refl refl

-- so a seat that knows it may begin
pub law_begins : (z : Area) (p : Plain) (views : List View) (n : ℕ) → DirectoryLaw z p views
    → n < length views
    → (s : SlotId) → IsKept p views s
    → DirectoryLaw z p (set views n (begins_at p s (view_at views n)))
law_begins z p views n law here s kept =
    let l = law.learnt n in
    let run = kept_runs z p views law s kept in
    law_knows z p views n (begins_at p s (view_at views n)) here refl refl refl (omega arith)
    (law.quota n)
    (record { noted = l.noted; seen = l.seen; ended = l.ended; ran = (run, l.ran); led = l.led })
    law
