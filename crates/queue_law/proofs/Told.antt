-- What lessons tell: why nothing is there to pop, and why a place has changed.
use Rattle.std.proofs.Common.{◌≡◌, ◌≢◌, ⊎_elim, ℕ, zero, suc, ◌+◌, ◌<◌, true, false, List, length, ap, sym, ◌∙◌, subst, arith}
use Rattle.std.proofs.lemmas.Bool.{cases_lt}
use Rattle.plain_protocol.specs.plain_state.State.{Plain, seat_at, no_payload}
use Rattle.plain_protocol.specs.plain_state.Lawful.{Lawful}
use Rattle.plain_protocol.specs.plain_state.Steps.{Does}
use Rattle.plain_protocol.specs.plain_state.declared.act.EventPlace.TheVariants.{Cell}
use Rattle.plain_protocol.specs.plain_state.declared.act.PlainAct.{PlainAct}
use Rattle.plain_protocol.specs.plain_state.declared.act.PlainAct.TheVariants as act
use Rattle.plain_protocol.specs.Owns.{OwnPart, own_part}
use Rattle.queue_law.specs.Words.{slot_at, cell_at, Live, held_times, life_in, id, first_of, second_of}
use Rattle.queue_law.specs.Views.{View, view_at}
use Rattle.queue_law.specs.Chain.{Ends, sent, TailAt}
use Rattle.queue_law.specs.Law.{QueueLaw}
use Rattle.queue_law.specs.Writes.{Quiet}
use Rattle.queue_law.specs.Lessons.{LearnReady, learn_next, NextReady, next_next, PassedReady, passed_next, ItemReady, item_next, EndedReady, ended_next, AttachReady, attach_next, NothingLinked, CellTells, NextTells, EndedTells, PassedTells, ItemTells, AttachTells}
use Rattle.queue_law.proofs.Effects.{calm_quiet}
use Rattle.queue_law.proofs.Chain.{the_head, leads_passed, leads_some, same_node}
use Rattle.queue_law.proofs.ChainCalm.{calm_chain}
use Rattle.queue_law.proofs.ChainGrows.{was}
use Rattle.queue_law.proofs.Seen.{seen_here, before_here, before_present}
use Rattle.queue_law.proofs.Lessons.{reads_calm, reads_found}
use Rattle.queue_law.proofs.Whole.{Tells}

-- the seat holds a node that it saw
module _ (u : Ends) (p q : Plain) (views : List View) (n : ℕ) (v : View) (lawful : Lawful p)
    (law : QueueLaw u p views) (at : view_at views n ≡ v) (w : Quiet p q) where
  -- where nothing is linked behind a node that the head cell held, that one is the head's
  pub next_told : (node found : ℕ) → 0 < held_times node (seat_at p n) → v.eyes.node ≡ node + 1
      → life_in (own_part p n) node ≡ v.eyes.life → found ≡ (slot_at p node).first
      → v.eyes.was_head ≡ true → v.attached ≡ true → found ≡ 0 → NothingLinked u q
  next_told node found held seen life is head attached null =
      let h = law.0 in let ts = law.1 in let t = law.2 in
      let c = law.3.chain in
      let s = seen_here u p views n v node h ts t lawful law.3 at held seen life in
      let low = s.0.1.inside in
      let before = s.0.1.was_head head in
      let some_head = law.3.known.attached n (ap (λ (y : View). y.attached) at ∙ attached) in
      let at_head = the_head u p h (length ts) t c some_head in
      let k = at_head.inside in
      let field : (slot_at p (sent h s.0.0).node).first ≡ 0 =
      ap (λ z. (slot_at p z).first) s.1 ∙ (sym is ∙ null) in
      let same : s.0.0 ≡ length ts =
      ⊎_elim
      (λ below.
      let l = (leads_passed u p h (length ts) t c s.0.0 below (omega arith) s.2).0 in
      absurd (omega arith))
      (λ le. omega arith) (cases_lt s.0.0 (length ts)) in
      let after = calm_chain u p q h (length ts) t c w in
      let here = (the_head u q h (length ts) t after (λ z. some_head (sym (w.cells u.head) ∙ z))).is in (
        (sent h (length ts)).node,
        w.cells u.head ∙ at_head.holds,
        w.first _ here.0 ∙ subst (λ z. (slot_at p (sent h z).node).first ≡ 0) same field,
      )

  -- where the next node has no item, the head has gone on
  pub item_told : (old node found : ℕ) → v.attached ≡ true → 0 < held_times old (seat_at p n)
      → v.eyes.node ≡ old + 1 → life_in (own_part p n) old ≡ v.eyes.life → v.eyes.following ≡ node + 1
      → found ≡ (slot_at p node).second → found ≡ 0 → cell_at q u.head ≢ v.eyes.node
  item_told old node found attached held seen life following is none cell =
      let h = law.0 in let ts = law.1 in let t = law.2 in
      let c = law.3.chain in
      let s = seen_here u p views n v old h ts t lawful law.3 at held seen life in
      let i = s.0.0 in
      let next = s.0.1.next (λ z. omega arith) in
      let some_head = law.3.known.attached n (ap (λ (y : View). y.attached) at ∙ attached) in
      let a = the_head u p h (length ts) t c some_head in
      let is_cell : cell_at p u.head ≡ v.eyes.node = sym (w.cells u.head) ∙ cell in
      let x = a.holds in
      let y = s.1 in
      let same = same_node u p h (length ts) t c i (length ts) s.0.1.inside a.inside s.2 a.is
      (omega arith) in
      let item = (a.items (i + 1) (omega arith) next.0).0 in
      let slot : (sent h (i + 1)).node ≡ node = let z = next.1 in omega arith in
      let field = ap (λ z. (slot_at p z).second) slot in
      absurd (omega arith)

-- what the head cell or the tail cell holds is a node
pub head_told : (u : Ends) (p q : Plain) (views : List View) → QueueLaw u p views → Quiet p q → (s : ℕ)
    → cell_at p u.head ≡ s + 1 → (slot_at q s).payload ≡ no_payload
head_told u p q views law w s is =
    let h = law.0 in let ts = law.1 in let t = law.2 in
    let a = the_head u p h (length ts) t law.3.chain (λ z. omega arith) in
    let same : (sent h (length ts)).node ≡ s = let x = a.holds in omega arith in
    w.payload s (subst (Live p) same a.is.0) ∙ (ap (λ z. (slot_at p z).payload) (sym same) ∙ a.is.2)

pub tail_told : (u : Ends) (p q : Plain) (views : List View) → QueueLaw u p views → Quiet p q → (s : ℕ)
    → cell_at p u.tail ≡ s + 1 → (slot_at q s).payload ≡ no_payload
tail_told u p q views law w s is =
    let h = law.0 in let t = law.2 in
    let b : TailAt u p h t = ⊎_elim (λ z. let y = z.0 in absurd (omega arith)) (λ x. x) law.3.chain.tail in
    let same : (sent h t).node ≡ s = let x = b.holds in omega arith in
    w.payload s (subst (Live p) same b.is.0) ∙ (ap (λ z. (slot_at p z).payload) (sym same) ∙ b.is.2)

pub learn_head_tells : (u : Ends) → Tells u (LearnReady u.head) (learn_next true) (CellTells u.head)
learn_head_tells u p q views n v step found lawful law at r d =
    head_told u p q views law (calm_quiet p q n step found lawful (reads_calm (Cell u.head) step r) d)

pub learn_tail_tells : (u : Ends) → Tells u (LearnReady u.tail) (learn_next false) (CellTells u.tail)
learn_tail_tells u p q views n v step found lawful law at r d =
    tail_told u p q views law (calm_quiet p q n step found lawful (reads_calm (Cell u.tail) step r) d)

-- what follows a node that was seen is a node
module _ (u : Ends) (p q : Plain) (views : List View) (n : ℕ) (v : View) (lawful : Lawful p)
    (law : QueueLaw u p views) (at : view_at views n ≡ v) (w : Quiet p q) where
  pub following_told : (node found : ℕ) → 0 < held_times node (seat_at p n) → v.eyes.node ≡ node + 1
      → life_in (own_part p n) node ≡ v.eyes.life → found ≡ (slot_at p node).first → (s : ℕ)
      → found ≡ s + 1 → (slot_at q s).payload ≡ no_payload
  following_told node found held seen life is s some_node =
      let h = law.0 in let ts = law.1 in let t = law.2 in
      let c = law.3.chain in
      let x = seen_here u p views n v node h ts t lawful law.3 at held seen life in
      let i = x.0.0 in
      let field : (slot_at p (sent h i).node).first ≡ s + 1 =
      ap (λ z. (slot_at p z).first) x.1 ∙ (sym is ∙ some_node) in
      let more : i + 1 < length h =
      ⊎_elim
      (λ z. z)
      (λ past. let low = x.0.1.inside in let e = c.ends i (omega arith) x.2 in absurd (omega arith))
      (cases_lt (i + 1) (length h)) in
      let l = leads_some u p h (length ts) t c i more x.2 (λ z. omega arith) in
      let same : (sent h (i + 1)).node ≡ s = let y = l.0 in omega arith in
      w.payload s (subst (Live p) same l.1.0) ∙ (ap (λ z. (slot_at p z).payload) (sym same) ∙ l.1.2)

pub next_tells : (u : Ends) → Tells u NextReady next_next (NextTells u)
next_tells u p q views n v step found lawful law at r d =
    let f = reads_found p q n found (first_of r.node) step r.reads d in
    let w = calm_quiet p q n step found lawful (reads_calm (first_of r.node) step r.reads) d in
    record {
      none = next_told u p q views n v lawful law at w r.node found r.held r.seen r.seen_life f.0;
      node = following_told u p q views n v lawful law at w r.node found r.held r.seen r.seen_life f.0;
    }

pub ended_tells : (u : Ends) → Tells u (EndedReady u) ended_next EndedTells
ended_tells u p q views n v step found lawful law at r d s is live =
    let h = law.0 in let ts = law.1 in let t = law.2 in
    let st : Does p n (act.Add (id r.before)) found q = subst (λ a. Does p n a found q) r.act_is d in
    let w = calm_quiet p q n (act.Add (id r.before)) found lawful tt st in
    let same : s ≡ r.before = let x = r.at_before in omega arith in
    let lv : Live p r.before = subst (Live p) same live in
    let b = before_here u p views n v r.before r.node h ts t lawful law.3 at r.held r.seen r.seen_life r.at_before
    r.form in
    let pr = before_present u p views n v r.before r.node h ts t lawful law.3 at r.held r.seen r.seen_life
    r.at_before r.form lv in
    w.payload s live ∙ (ap (λ z. (slot_at p z).payload) (same ∙ sym b.2) ∙ pr.2)

-- where the tail has gone past a node that is there, the tail cell holds another one
pub passed_tells : (u : Ends) → Tells u (PassedReady u) passed_next (PassedTells u)
passed_tells u p q views n v step found lawful law at r d cell =
    let h = law.0 in let ts = law.1 in let t = law.2 in
    let c = law.3.chain in
    let seen = r.seen in
    let s = seen_here u p views n v r.old h ts t lawful law.3 at r.held seen r.seen_life in
    let past = s.0.1.passed r.passed in
    ⊎_elim
    (λ null. let x = null.0 in absurd (omega arith))
    (λ b.
    let x = b.holds in
    let y = s.1 in
    let same = same_node u p h (length ts) t c s.0.0 t s.0.1.inside b.inside s.2 b.is (omega arith) in
    absurd (omega arith))
    c.tail

pub item_tells : (u : Ends) → Tells u ItemReady item_next (ItemTells u)
item_tells u p q views n v step found lawful law at r d none =
    let f = reads_found p q n found (second_of r.node) step r.reads d in
    let w = calm_quiet p q n step found lawful (reads_calm (second_of r.node) step r.reads) d in
    item_told u p q views n v lawful law at w r.old r.node found r.attached r.held r.seen r.seen_life
    r.following f.0 none

attach_told : (u : Ends) (p q : Plain) (n found : ℕ) (v : View) (own after : OwnPart) (step : PlainAct)
    → q ≡ p → found ≡ cell_at p u.head → (v.attached ≡ true → cell_at p u.head ≢ 0)
    → AttachTells u p q n v (attach_next own after v step found)
attach_told u p q n zero v own after step same is was attached none =
    was attached (sym (ap (λ z. cell_at z u.head) same) ∙ none)
attach_told u p q n (suc s) v own after step same is was attached none =
    let x = sym (ap (λ z. cell_at z u.head) same) ∙ none in absurd (omega arith)

pub attach_tells : (u : Ends) → Tells u (AttachReady u) attach_next (AttachTells u)
attach_tells u p q views n v step found lawful law at r d =
    let s : Does p n (act.Look (Cell u.head)) found q = subst (λ a. Does p n a found q) r d in
    attach_told u p q n found v (own_part p n) (own_part q n) step s.1.2 s.1.1
    (λ a. law.3.known.attached n (ap (λ (y : View). y.attached) at ∙ a))
