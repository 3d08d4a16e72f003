-- What a look or a check finds and leaves; looks at cells keep the law, and tell where a walk ends.
use Rattle.std.proofs.Common.{◌≡◌, ⊎_elim, ℕ, zero, suc, ◌+◌, ◌-◌, ◌<◌, ◌≤◌, List, length, get_or, set, sum, refl, ap, sym, ◌∙◌, subst, arith}
use Rattle.std.specs.Prelude.{Option, Some, None}
use Rattle.std.proofs.lemmas.List.{get_or-set_same}
use Rattle.plain_protocol.specs.plain_state.declared.act.EventPlace.{EventPlace}
use Rattle.plain_protocol.specs.plain_state.declared.act.EventPlace.TheVariants.{WeakCell}
use Rattle.plain_protocol.specs.plain_state.declared.act.PlainAct.{PlainAct}
use Rattle.plain_protocol.specs.plain_state.declared.act.PlainAct.TheVariants as act
use Rattle.plain_protocol.specs.plain_state.declared.slot.SlotId.{SlotId}
use Rattle.plain_protocol.specs.plain_state.State.{Plain, slot_at}
use Rattle.plain_protocol.specs.plain_state.Places.{content}
use Rattle.plain_protocol.specs.plain_state.Lawful.{Lawful}
use Rattle.plain_protocol.specs.plain_state.Steps.{Does, word_of}
use Rattle.plain_protocol.specs.Acts.{IsCalm}
use Rattle.plain_protocol.specs.Laws.{Keeps}
use Rattle.plain_protocol.specs.Owns.{Object, own_part}
use Rattle.plain_protocol.proofs.Calm.{calm_leaves}
use Rattle.directory_law.specs.Payloads.{IsHead}
use Rattle.directory_law.specs.Views.{Seen, View, gone, view_at, In}
use Rattle.directory_law.specs.Cells.{Area, cell}
use Rattle.directory_law.specs.Learnt.{Saw, Learnt}
use Rattle.directory_law.specs.Law.{DirectoryLaw}
use Rattle.directory_law.proofs.Kit.{number_same}
use Rattle.directory_law.proofs.Notes.{each_in}
use Rattle.directory_law.proofs.Chains.{begins_head}
use Rattle.directory_law.proofs.Quiet.{calmed_quiet}
use Rattle.directory_law.proofs.Foreign.{calmly}
use Rattle.directory_law.proofs.Gives.{never_full}
use Rattle.directory_law.proofs.Walks.{walks_tell}
use Rattle.directory_law.specs.Steps.{id, slot_of, LooksAt, place_of, weak_index, Stays}
use Rattle.directory_law.proofs.Owns.{object_is}
use Rattle.directory_law.specs.Lessons.{LookReady, look_next, LookTells, SeeReady, sees, see_next, SeeTells}
use Rattle.directory_law.proofs.Turns.{law_knows, same_law}

-- it finds what the place holds, and leaves every slot and every cell
pub record Looked (p q : Plain) (at : EventPlace) (step : PlainAct) (found : ℕ) : Type 0 where
  pub calm : IsCalm step
  pub found_is : found ≡ word_of (content p at)
  pub slots : (s : SlotId) → slot_at q s ≡ slot_at p s
  pub weak_cells : q.weak_cells ≡ p.weak_cells
  pub place : place_of step ≡ at

pub looked : (p q : Plain) (n : ℕ) (at : EventPlace) (step : PlainAct) (found : ℕ) → LooksAt at step
    → Does p n step found q → Looked p q at step found
looked p q n at step found looks does =
    ⊎_elim
    (λ (e : step ≡ act.Look at).
    let d = subst (λ (a : PlainAct). Does p n a found q) e does in
    record {
      calm = subst IsCalm (sym e) tt;
      found_is = d.1.1;
      slots = λ s. ap (λ (x : Plain). slot_at x s) d.1.2;
      weak_cells = ap (λ (x : Plain). x.weak_cells) d.1.2;
      place = ap place_of e;
    })
    (λ check.
    let d = subst (λ (a : PlainAct). Does p n a found q) check.1 does in
    record {
      calm = subst IsCalm (sym check.1) tt;
      found_is = d.1.1;
      slots = λ s. ⊎_elim (λ (e : q ≡ p). ap (λ (x : Plain). slot_at x s) e)
          (λ taken. ap (λ (x : Plain). slot_at x s) taken.2.2) d.1.2;
      weak_cells = ⊎_elim (λ (e : q ≡ p). ap (λ (x : Plain). x.weak_cells) e)
          (λ taken. ap (λ (x : Plain). x.weak_cells) taken.2.2) d.1.2;
      place = ap place_of check.1;
    })
    looks

-- a word tells the slot
pub word_slot : (found : ℕ) (place : Option SlotId) → found ≡ word_of place → place ≡ slot_of found
word_slot zero None e = refl
word_slot zero (Some x) e = absurd (omega arith)
word_slot (suc s) None e = absurd (omega arith)
word_slot (suc s) (Some x) e = ap Some (number_same x (id s) (omega arith))

pub calm_stays : (z : Area) (p q : Plain) (n : ℕ) (step : PlainAct) (found : ℕ) → Lawful p
    → IsCalm step
    → Does p n step found q → Stays z p q
calm_stays z p q n step found lawful calm does c s h is =
    (calmed_quiet z p q (calm_leaves p q n step found lawful calm does)).cells c h ∙ is

-- LOOK
pub look_keeps : (z : Area) → sum z.interns + sum z.grants ≤ z.cells
    → Keeps (DirectoryLaw z) gone LookReady look_next (LookTells z)
look_keeps z fits p q views n step found meets here ready does =
    let calm : IsCalm step = subst IsCalm (sym ready.1) tt in (
      same_law z q views n (calmly z p q n step found views meets calm does),
      (
        calm_stays z p q n step found meets.lawful calm does,
        walks_tell z p views meets.law (view_at views n) (meets.law.learnt n),
        λ text spare walked. never_full z p views n text fits meets.law here spare walked,
      ),
    )

-- SEE
seen_head : (z : Area) (p : Plain) (views : List View) (v : View) (e : Seen)
    → DirectoryLaw z p views
    → Learnt z p views v → In e v.seen → IsHead e.head
seen_head z p views v e law l i =
    let saw = each_in (Saw z p) e v.seen i l.seen in
    let o = law.cells e.cell e.slot saw.0 saw.1 in
    subst IsHead saw.3 (begins_head p e.slot o.text o.is o.begins)

learnt_set : (z : Area) (p : Plain) (views : List View) (n : ℕ) (w : View) → n < length views
    → DirectoryLaw z p (set views n w) → Learnt z p (set views n w) w
learnt_set z p views n w here law =
    subst (Learnt z p (set views n w)) (get_or-set_same views n w gone here) (law.learnt n)

-- a head is noted as seen, if the seat has it
law_sees : (z : Area) (q : Plain) (views : List View) (n c : ℕ) (s : SlotId) (x : Option Object)
    → n < length views
    → DirectoryLaw z q views → c < z.cells → cell z q c ≡ Some s → (own_part q n).objects s ≡ x
    → DirectoryLaw z q (set views n (sees c s x (view_at views n)))
law_sees z q views n c s None here law inside is has = same_law z q views n law
law_sees z q views n c s (Some o) here law inside is has =
    let l = law.learnt n in
    let at = object_is q n s o has in
    law_knows z q views n (sees c s (Some o) (view_at views n)) here refl refl refl (omega arith)
    (law.quota n)
    (record {
      noted = l.noted;
      seen = (
        (
          inside,
          is,
          ap (λ (y : Object). y.life) (sym at),
          ap (λ (y : Object). y.payload) (sym at),
        ),
        l.seen,
      );
      ended = l.ended;
      ran = l.ran;
      led = l.led;
    }) law

law_see : (z : Area) (p q : Plain) (views : List View) (n c : ℕ) (step : PlainAct) (found : ℕ)
    → n < length views
    → DirectoryLaw z q views → c < z.cells → Looked p q (WeakCell (z.first + c)) step found
    → DirectoryLaw z q (set views n (see_next z (own_part p n) (own_part q n) (view_at views n) step
    found))
law_see z p q views n c step zero here law inside look = same_law z q views n law
law_see z p q views n c step (suc s) here law inside look =
    let index : weak_index (place_of step) - z.first ≡ c =
    ap (λ (i : ℕ). i - z.first) (ap weak_index look.place)
    ∙ (let e : z.first + c - z.first ≡ c = omega arith in e) in
    let was : cell z p c ≡ Some (id s) = word_slot (suc s) (cell z p c) look.found_is in
    let is : cell z q c ≡ Some (id s) =
    ap (λ (xs : List (Option SlotId)). get_or xs (z.first + c) None) look.weak_cells ∙ was in
    subst (λ (k : ℕ). DirectoryLaw z q (set views n
    (sees k (id s) ((own_part q n).objects (id s)) (view_at views n)))) (sym index)
    (law_sees z q views n c (id s) ((own_part q n).objects (id s)) here law inside is refl)

pub see_keeps : (z : Area) → Keeps (DirectoryLaw z) gone (SeeReady z) (see_next z) (SeeTells z)
see_keeps z p q views n step found meets here ready does =
    let look = looked p q n (WeakCell (z.first + ready.cell)) step found ready.looks does in
    let law_q = calmly z p q n step found views meets look.calm does in
    let w : View = see_next z (own_part p n) (own_part q n) (view_at views n) step found in
    let law = law_see z p q views n ready.cell step found here law_q ready.inside look in (
      law,
      (
        calm_stays z p q n step found meets.lawful look.calm does,
        walks_tell z p views meets.law (view_at views n) (meets.law.learnt n),
        λ e i. seen_head z q (set views n w) w e law (learnt_set z q views n w here law) i,
      ),
    )
