-- A seat that popped a head may begin to read it.
use Rattle.std.proofs.Common.{◌≡◌, ⊎_elim, ℕ, ◌+◌, ◌-◌, inl, refl, ◌<◌, false, List, [], ◌∷◌, ◌++◌, length, get_or, set, sym, ap, subst, ◌∙◌, arith}
use Rattle.std.proofs.lemmas.List.{length-map, length-set}
use Rattle.protocol_pairs.specs.plain_state.declared.act.EventPlace.TheVariants.{Field}
use Rattle.protocol_pairs.specs.plain_state.declared.act.PlainAct.{PlainAct}
use Rattle.protocol_pairs.specs.plain_state.declared.slot.SlotId.{SlotId}
use Rattle.protocol_pairs.specs.plain_state.State.{Plain, slot_at, seat_at}
use Rattle.protocol_pairs.specs.plain_state.Places.{HoldsStrongly}
use Rattle.protocol_pairs.specs.plain_state.Lawful.{Lawful}
use Rattle.protocol_pairs.specs.plain_protocol.Acts.{IsCalm}
use Rattle.protocol_pairs.specs.plain_protocol.Laws.{Keeps}
use Rattle.protocol_pairs.specs.plain_protocol.Owns.{OwnPart, own_part}
use Rattle.queue_law.specs.declared.view.Item.{Item}
use Rattle.queue_law.specs.declared.view.View.{View as QueueView}
use Rattle.queue_law.specs.Chain.{Ends}
use Rattle.queue_law.specs.Lists.{taken_items}
use Rattle.queue_law.specs.Pops.{popped_item, popped_view}
use Rattle.queue_law.specs.Law.{WholeLaw}
use Rattle.directory_law.specs.declared.view.Ran.{Ran}
use Rattle.directory_law.specs.declared.view.View.{View as DirectoryView}
use Rattle.directory_law.specs.Payloads.{Text, IsText}
use Rattle.directory_law.specs.Views.{KeptIn, In}
use Rattle.directory_law.specs.Views as directory
use Rattle.directory_law.specs.Cells.{Area}
use Rattle.directory_law.specs.Law.{DirectoryLaw, IsBound}
use Rattle.directory_law.specs.Promises.{IsKept, at_head, begins_at}
use Rattle.directory_law.specs.Steps.{LooksAt, id, life_in, payload_in, place_of}
use Rattle.directory_law.specs.Lessons.{ReadReady, UpgradeTells, first_ran, starts_at}
use Rattle.directory_law.proofs.Gives.{law_begins}
use Rattle.directory_law.proofs.Kept.{kept_counts}
use Rattle.directory_law.proofs.Notes.{in_right}
use Rattle.directory_law.proofs.Owns.{has_strongly, life_at, payload_at, strongly_live}
use Rattle.directory_law.proofs.Reading.{unmarked_bound}
use Rattle.words_law.specs.Views.{View, gone, queues, directories}
use Rattle.words_law.specs.Law.{Gone, WordsLaw}
use Rattle.words_law.specs.Reading.{HasPopped, BeginReady, BeginTells, begin_next, field_slot}
use Rattle.words_law.proofs.Noted.{taken_append}
use Rattle.words_law.proofs.GoneSeats.{gone_set}
use Rattle.words_law.proofs.Law.{words_calm}
use Rattle.words_law.proofs.Parts.{directory_at, directory_here, items_kept, queue_at, queue_same}
use Rattle.words_law.proofs.Popped.{popped_was_pushed}

looks_calm : (s : SlotId) (step : PlainAct) → LooksAt (Field s 1) step → IsCalm step
looks_calm s step looks = ⊎_elim (λ e. subst IsCalm (sym e) tt) (λ e. subst IsCalm (sym e.1) tt) looks

looks_slot : (s : SlotId) (step : PlainAct) → LooksAt (Field s 1) step
    → field_slot (place_of step) ≡ s
looks_slot s step looks =
    ⊎_elim (λ e. ap (λ (a : PlainAct). field_slot (place_of a)) e)
    (λ e. ap (λ (a : PlainAct). field_slot (place_of a)) e.1) looks

-- what a view of the directory is once it begins to read s
begun : OwnPart → SlotId → DirectoryView → DirectoryView
begun own s v = record v { ran = starts_at own s ∷ v.ran }

ran_at : SlotId → ℕ → List ℕ → Ran
ran_at s l payload = record { slot = s; life = l; before = payload ∷ []; now = s; now_life = l }

module _ (u : Ends) (z : Area) (p : Plain) (views : List View) (n : ℕ) (low : n < length views)
    (there : n < length p.seats) (here : (seat_at p n).left ≡ false) (lawful : Lawful p)
    (law : WordsLaw u z p views) (s : SlotId)
    (held : HoldsStrongly (seat_at p n) s)
    (popped : HasPopped (own_part p n) (get_or views n gone).0 s) where
  abbrev ds : List DirectoryView
  ds = directories views

  life : life_in (own_part p n) s ≡ (slot_at p s).life
  life = life_at p n s (has_strongly (seat_at p n) s held)

  payload : payload_in (own_part p n) s ≡ (slot_at p s).payload
  payload = payload_at p n s (has_strongly (seat_at p n) s held)

  -- the slot is kept, in the life that it is in
  kept : IsKept p ds s
  kept =
      let x : Item = record { slot = s.0; life = life_in (own_part p n) s; payload = popped.0 } in
      let was = popped_was_pushed u p (queues views) law.both.0.0 x
      (n, subst (λ (v : QueueView). In x (taken_items v.popped)) (sym (queue_at views n)) popped.1) in
      let text = law.items x was in
      kept_counts ds s (slot_at p s).life text.0
      (subst (λ (l : ℕ). KeptIn ds s l text.0) life text.1)

  begins_same : begins_at p s (directory.view_at ds n)
      ≡ begun (own_part p n) s (get_or views n gone).1
  unfolding begun ran_at
  begins_same =
      let head : at_head p s ≡ starts_at (own_part p n) s =
      ap (λ (l : ℕ). ran_at s l (slot_at p s).payload) (sym life)
      ∙ ap (ran_at s (life_in (own_part p n) s)) (sym payload) in
      ap (λ (v : DirectoryView). record v { ran = at_head p s ∷ v.ran }) (directory_at views n)
      ∙ ap (λ (e : Ran). record (get_or views n gone).1 { ran = e ∷ (get_or views n gone).1.ran }) head

  begins : WordsLaw u z p
      (set views n ((get_or views n gone).0, begun (own_part p n) s (get_or views n gone).1))
  unfolding begun
  begins = record {
    both = (
      subst (WholeLaw u p) (sym (queue_same views n (begun (own_part p n) s (get_or views n gone).1)))
          law.both.0,
      subst (DirectoryLaw z p)
          (sym (directory_here views n (begun (own_part p n) s (get_or views n gone).1)))
          (subst (λ (v : DirectoryView). DirectoryLaw z p (set ds n v)) begins_same
          (law_begins z p ds n law.both.1
          (let l = length-map views (λ (v : View). v.1) in omega arith) s kept)),
    );
    items = items_kept views n (begun (own_part p n) s (get_or views n gone).1) low (λ e i. i) law.items;
    left = subst (Gone p)
        (sym (directory_here views n (begun (own_part p n) s (get_or views n gone).1)))
        (gone_set p n ds (begun (own_part p n) s (get_or views n gone).1) there here law.left);
  }

  tells : (q : Plain) → UpgradeTells z p q n (get_or views n gone).1
      (begun (own_part p n) s (get_or views n gone).1)
  unfolding begun
  tells q f ran =
      let is : starts_at (own_part p n) s ≡ f = ap first_ran ran in
      let at = law.both.1.stands s (slot_at p s).life kept in
      subst (λ (e : Ran). (tail : Text) × IsText (e.before ++ tail)
      × IsBound z p (e.before ++ tail) e.slot) is
      (unmarked_bound z p ds at.0 s (payload_in (own_part p n) s) lawful law.both.1 at.1 at.2
      (sym payload) (strongly_live p n s lawful there held).1)

pub begin_keeps : (u : Ends) (z : Area)
    → Keeps (WordsLaw u z) gone BeginReady begin_next (BeginTells z)
unfolding begun
begin_keeps u z p q views n step found meets low ready does =
    let s : SlotId = ready.slot in
    let v = get_or views n gone in
    let at : s ≡ field_slot (place_of step) = sym (looks_slot s step ready.looks) in
    let w : View = (v.0, begun (own_part p n) s v.1) in
    let law = begins u z p views n low does.0.0 does.0.1 meets.lawful meets.law s ready.held ready.popped in
    let kept = words_calm u z p q n step found (set views n w)
    (record {
      lawful = meets.lawful;
      count = length-set views n w ∙ meets.count;
      law = law;
    }) (looks_calm s step ready.looks) does in
    subst (λ (x : SlotId). WordsLaw u z q (set views n (v.0, begun (own_part p n) x v.1))
    × UpgradeTells z p q n v.1 (begun (own_part p n) x v.1)) at
    (kept, tells u z p views n low does.0.0 does.0.1 meets.lawful meets.law s ready.held ready.popped q)

-- IN TURN. The item that was taken may be read, while the seat has it in the same life
pub taken_popped : (own later : OwnPart) (v : QueueView) (item : ℕ) → v.eyes.found ≡ item + 1
    → life_in later (id item) ≡ life_in own (id item) → HasPopped later (popped_view own v) (id item)
taken_popped own later v item found same =
    let is : v.eyes.found - 1 ≡ item = omega arith in
    let x : ℕ → Item = λ s. record {
      slot = s;
      life = life_in own (id s);
      payload = payload_in own (id s);
    } in
    let last : In (x (v.eyes.found - 1)) (taken_items (popped_view own v).popped) =
    subst (In (x (v.eyes.found - 1)))
    (sym (taken_append v.popped (record { item = popped_item own v; taker = v.number } ∷ [])))
    (in_right (x (v.eyes.found - 1)) (taken_items v.popped) (popped_item own v ∷ []) (inl refl)) in
    let here = subst (λ (s : ℕ). In (x s) (taken_items (popped_view own v).popped)) is last in (
      payload_in own (id item),
      subst (λ (l : ℕ). In (record { slot = item; life = l; payload = payload_in own (id item) })
          (taken_items (popped_view own v).popped)) (sym same) here,
    )

-- and what was begun is read on, while the seat holds it in the same life
pub begun_reads_on : (own after later : OwnPart) (v : View) (step next : PlainAct) (found : ℕ)
    (s : SlotId) → LooksAt (Field s 1) step → LooksAt (Field s 1) next
    → HoldsStrongly later.seat s → life_in later s ≡ life_in own s
    → ReadReady later (begin_next own after v step found).1 next
begun_reads_on own after later v step next found s looks looks_next held same =
    let at : s ≡ field_slot (place_of step) = sym (looks_slot s step looks) in
    subst (λ (x : SlotId). ReadReady later (record v.1 { ran = starts_at own x ∷ v.1.ran }) next) at
    (record {
      earlier = v.1.ran;
      ran = refl;
      looks = looks_next;
      held = held;
      life = same;
    })
