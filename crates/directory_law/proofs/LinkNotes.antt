-- The seat that links a slot to a part notes the slot with the part's text, and the part no more.
use Rattle.std.proofs.Common.{◌≡◌, ◌≢◌, ⊎_elim, ℕ, ◌+◌, ◌<◌, ◌≤◌, List, [], ◌∷◌, length, set, refl, ap, ◌∙◌, subst, arith}
use Rattle.std.proofs.lemmas.List.{get_or_past}
use Rattle.std.proofs.lemmas.Bool.{cases_lt}
use Rattle.plain_protocol.specs.plain_state.declared.slot.SlotId.{SlotId}
use Rattle.plain_protocol.specs.plain_state.declared.slot.Stage.TheVariants.{Live}
use Rattle.plain_protocol.specs.plain_state.State.{Plain, PlainSeat, slot_at, stage_at}
use Rattle.plain_protocol.specs.plain_state.Lawful.{Lawful}
use Rattle.directory_law.specs.Payloads.{Text, IsPart, IsOwn}
use Rattle.directory_law.specs.Views.{Rope, View, gone, view_at, rope, one_of, times_of, fresh, In, Each, without}
use Rattle.directory_law.specs.Cells.{Area}
use Rattle.directory_law.specs.Learnt.{Built, Learnt}
use Rattle.directory_law.specs.Law.{DirectoryLaw}
use Rattle.directory_law.proofs.Kit.{total_set, total_at, total_both, at_view}
use Rattle.directory_law.proofs.Notes.{none_of, cons_of, one_same, without_none, without_other, without_fewer, each_without, each_known, each_in, in_times}
use Rattle.directory_law.proofs.Kept.{kept_set}
use Rattle.directory_law.proofs.Linking.{after_link, Relinked, built_new, built_other, learnt_other, law_linked}

-- a view that has a note is there
noting : (views : List View) (n : ℕ) (e : Rope) → In e (view_at views n).noted → n < length views
noting views n e i =
    ⊎_elim
    (λ (h : n < length views). h)
    (λ past. absurd (subst (λ (v : View). In e v.noted) (get_or_past views n gone past) i))
    (cases_lt n (length views))

-- s was noted last, and r is noted with its text
module _ (z : Area) (p : Plain) (s r : SlotId) (text : Text) (es : List Rope) (views : List View)
    (n : ℕ) (here : n < length views) (law : DirectoryLaw z p views)
    (noted : (view_at views n).noted ≡ rope s (slot_at p s).life ((slot_at p s).payload ∷ []) ∷ es)
    (noted_r : In (rope r (slot_at p r).life text) es) where
  before : Rope
  before = rope s (slot_at p s).life ((slot_at p s).payload ∷ [])

  w : View
  w = record (view_at views n) {
    noted = rope s (slot_at p s).life ((slot_at p s).payload ∷ text) ∷ without r (slot_at p r).life
        es;
  }

  after : List View
  after = set views n w

  -- how often a life is noted in the view, before and after
  before_is : (x : SlotId) (l : ℕ)
      → times_of x l (view_at views n).noted ≡ one_of x l before + times_of x l es
  unfolding before
  before_is x l = ap (times_of x l) noted ∙ cons_of x l
      (rope s (slot_at p s).life ((slot_at p s).payload ∷ [])) es

  after_is : (x : SlotId) (l : ℕ)
      → times_of x l w.noted ≡ one_of x l before + times_of x l (without r (slot_at p r).life es)
  unfolding w before one_of
  after_is x l = cons_of x l (rope s (slot_at p s).life ((slot_at p s).payload ∷ text))
      (without r (slot_at p r).life es)

  counted : (x : SlotId) (l : ℕ)
      → fresh after x l + times_of x l es ≡ fresh views x l + times_of x l
      (without r (slot_at p r).life es)
  unfolding after
  counted x l =
      let e = total_set (λ (v : View). times_of x l v.noted) views n w here in
      let a = before_is x l in let b = after_is x l in omega arith

  fewer : (x : SlotId) (l : ℕ) → fresh after x l ≤ fresh views x l
  fewer x l =
      let c = counted x l in
      let d = without_fewer r (slot_at p r).life x l es in
      omega arith

  others_same : (x : SlotId) (l : ℕ) → ((x ≡ r) × (l ≡ (slot_at p r).life) → ⊥)
      → fresh after x l ≡ fresh views x l
  others_same x l differs =
      let c = counted x l in
      let d = without_other r (slot_at p r).life x l es differs in omega arith

  count_r : 0 < times_of r (slot_at p r).life es
  count_r = in_times r (slot_at p r).life (rope r (slot_at p r).life text) es refl refl noted_r

  count_s : one_of s (slot_at p s).life before ≡ 1
  unfolding before
  count_s = one_same s (slot_at p s).life (rope s (slot_at p s).life ((slot_at p s).payload ∷ []))
      refl refl

  fresh_r : 0 < fresh views r (slot_at p r).life
  fresh_r =
      let a = before_is r (slot_at p r).life in let b = count_r in
      let c = total_at (λ (v : View). times_of r (slot_at p r).life v.noted) views n here in
      omega arith

  fresh_s : 0 < fresh views s (slot_at p s).life
  fresh_s =
      let a = before_is s (slot_at p s).life in let b = count_s in
      let c = total_at (λ (v : View). times_of s (slot_at p s).life v.noted) views n here in
      omega arith

  none_r : fresh after r (slot_at p r).life ≡ 0
  none_r =
      let c = counted r (slot_at p r).life in let d = without_none r (slot_at p r).life es in
      let a = count_r in let o = law.once r (slot_at p r).life in omega arith

  -- each life is noted once: the two are two slots, and no other note is of s in its life
  apart : r ≢ s
  apart e =
      let a = before_is s (slot_at p s).life in
      let b = count_s in
      let c : 0 < times_of s (slot_at p s).life es =
      subst (λ (k : SlotId). 0 < times_of k (slot_at p k).life es) e count_r in
      let d = total_at (λ (v : View). times_of s (slot_at p s).life v.noted) views n here in
      let o = law.once s (slot_at p s).life in omega arith

  not_es : (e : Rope) → In e es → (e.slot ≡ s) × (e.life ≡ (slot_at p s).life) → ⊥
  not_es e i b =
      let a = before_is s (slot_at p s).life in
      let c = count_s in
      let t = in_times s (slot_at p s).life e es b.0 b.1 i in
      let d = total_at (λ (v : View). times_of s (slot_at p s).life v.noted) views n here in
      let o = law.once s (slot_at p s).life in omega arith

  not_others : (m : ℕ) (e : Rope) → m ≢ n → In e (view_at views m).noted
      → (e.slot ≡ s) × (e.life ≡ (slot_at p s).life) → ⊥
  not_others m e ne i b =
      let hm = noting views m e i in
      let a = before_is s (slot_at p s).life in
      let c = count_s in
      let t = in_times s (slot_at p s).life e (view_at views m).noted b.0 b.1 i in
      let d = total_both (λ (v : View). times_of s (slot_at p s).life v.noted) views n m
      (none_of s (slot_at p s).life) here hm ne in
      let o = law.once s (slot_at p s).life in omega arith

  relinked : Relinked p s r views after
  unfolding after w
  relinked = record {
    apart = apart;
    was_noted = fresh_s;
    part_noted = fresh_r;
    no_more = none_r;
    fewer = fewer;
    fresh_other = others_same;
    keeps_same = λ x l. let e = total_set (λ (v : View). times_of x l v.kept) views n w here in
        omega arith;
    kept = λ x l t k. kept_set views n w x l t here (λ e i. i) k;
    used = let e = total_set (λ (v : View). v.used) views n w here in omega arith;
    quotas = let e = total_set (λ (v : View). v.quota) views n w here in omega arith;
    quota = at_view views n w (λ v. v.used ≤ v.quota) here (law.quota n) (λ m ne. law.quota m);
  }

  pub law_relinked : (ss : List PlainSeat) → s.0 < length p.slots → Lawful p
      → IsOwn (slot_at p s).payload
      → stage_at p r ≡ Live → IsPart (slot_at p r).payload
      → DirectoryLaw z (after_link p ss s r)
      (set views n (record (view_at views n) {
        noted =
            rope s (slot_at p s).life ((slot_at p s).payload ∷ text) ∷ without r (slot_at p r).life es;
      }))
  unfolding after w
  law_relinked ss inside lawful own live_r part =
      let q : Plain = after_link p ss s r in
      let k = subst (Each (Built p)) noted (law.learnt n).noted in
      let reads_r = ((each_in (Built p) (rope r (slot_at p r).life text) es noted_r k.1).1 refl
      live_r).1 in
      let learnt = learnt_other z p ss s r text views after inside lawful law relinked own live_r
      part reads_r in
      let other = built_other z p ss s r text views after inside lawful law relinked own live_r part
      reads_r in
      let new = built_new z p ss s r text views after inside lawful law relinked own live_r part
      reads_r in
      let rest = each_known (Built p) (Built q) es (λ e i h. other e (not_es e i) h) k.1 in
      law_linked z p ss s r text views after inside lawful law relinked own live_r part reads_r
      (at_view views n w (Learnt z q after) here
      (learnt (view_at views n) (law.learnt n)
      (rope s (slot_at p s).life ((slot_at p s).payload ∷ text) ∷ without r (slot_at p r).life
      es)
      (new, each_without (Built q) r (slot_at p r).life es rest))
      (λ m ne.
      learnt (view_at views m) (law.learnt m) (view_at views m).noted
      (each_known (Built p) (Built q) (view_at views m).noted
      (λ e i h. other e (not_others m e ne i) h) (law.learnt m).noted)))
