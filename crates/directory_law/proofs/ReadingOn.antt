-- The deeds that look at field 1 of the slot that was read last keep the law.
use Rattle.std.proofs.Common.{◌≡◌, inl, ℕ, zero, suc, ◌<◌, List, [], ◌∷◌, ◌++◌, length, set, refl, ap, sym, ◌∙◌, subst, arith, append_assoc}
use Rattle.std.specs.Prelude.{Option, Some, None}
use Rattle.plain_protocol.specs.plain_state.declared.act.EventPlace.TheVariants.{Field}
use Rattle.plain_protocol.specs.plain_state.declared.act.PlainAct.{PlainAct}
use Rattle.plain_protocol.specs.plain_state.declared.slot.PlainSlot.{PlainSlot}
use Rattle.plain_protocol.specs.plain_state.declared.slot.SlotId.{SlotId}
use Rattle.plain_protocol.specs.plain_state.declared.slot.Stage.TheVariants.{Live}
use Rattle.plain_protocol.specs.plain_state.State.{Plain, seat_at, slot_at, stage_at}
use Rattle.plain_protocol.specs.plain_state.Steps.{Does}
use Rattle.plain_protocol.specs.Laws.{Keeps, Meets}
use Rattle.plain_protocol.specs.Owns.{Object, own_part}
use Rattle.directory_law.specs.Payloads.{Text, IsPart, IsOwn, IsText}
use Rattle.directory_law.specs.Views.{Ran, Led, View, gone, view_at, KeptIn, In}
use Rattle.directory_law.specs.Chains.{Along}
use Rattle.directory_law.specs.Cells.{Area}
use Rattle.directory_law.specs.Learnt.{Running, Leads}
use Rattle.directory_law.specs.Law.{DirectoryLaw}
use Rattle.directory_law.proofs.Kit.{some_same, none_some}
use Rattle.directory_law.proofs.Notes.{each_in}
use Rattle.directory_law.proofs.Chains.{live_own, part_own}
use Rattle.directory_law.proofs.Foreign.{calmly}
use Rattle.directory_law.proofs.Turns.{law_knows, same_law}
use Rattle.directory_law.specs.Steps.{id, slot_of}
use Rattle.directory_law.proofs.Owns.{life_at, object_is, has_strongly, strongly_live}
use Rattle.directory_law.specs.Lessons.{first_ran, ReadReady, leads, lead_next, reads_part, read_next, ReadTells}
use Rattle.directory_law.proofs.Ends.{append_none, kept_is}
use Rattle.directory_law.proofs.Looks.{Looked, looked, word_slot}

-- one slot more is read
run_on : (z : Area) (q : Plain) (views : List View) (e : Ran) (r : SlotId) → DirectoryLaw z q views
    → Running q views e
    → (slot_at q e.now).life ≡ e.now_life → stage_at q e.now ≡ Live
    → (slot_at q e.now).second ≡ Some r
    → Running q views (record e {
      before = e.before ++ (slot_at q r).payload ∷ [];
      now = r;
      now_life = (slot_at q r).life;
    })
run_on z q views e r law h life live second = go h.0 h.1 (h.4 life live)
  where
    go : (rest : Text) → KeptIn views e.slot e.life (e.before ++ rest)
        → IsOwn (slot_at q e.now).payload × Along q (slot_at q e.now).second rest
        → Running q views (record e {
          before = e.before ++ (slot_at q r).payload ∷ [];
          now = r;
          now_life = (slot_at q r).life;
        })
    go [] kept b = absurd (none_some r (sym b.1 ∙ second))
    go (t ∷ ts) kept b =
        let a = b.1 in
        let x : a.0 ≡ r = some_same a.0 r (sym a.1 ∙ second) in
        let pay : t ≡ (slot_at q r).payload =
        sym a.2 ∙ ap (λ (y : SlotId). (slot_at q y).payload) x in
        let text : e.before ++ (t ∷ ts) ≡ (e.before ++ (slot_at q r).payload ∷ []) ++ ts =
        ap (λ (y : List ℕ). e.before ++ (y ∷ ts)) pay
        ∙ sym (append_assoc e.before ((slot_at q r).payload ∷ []) ts) in (
          ts,
          subst (KeptIn views e.slot e.life) text kept,
          (omega arith),
          law.loose e.now r (live_own q e.now live b.0) second,
          λ li l. (
            part_own (slot_at q r).payload (subst IsPart pay a.3),
            subst (λ (y : SlotId). Along q (slot_at q y).second ts) x a.4,
          ),
        )

-- the slot that was read last, in the life in which it was read
module _ (z : Area) (p q : Plain) (views : List View) (n : ℕ) (step : PlainAct) (found : ℕ)
    (meets : Meets (DirectoryLaw z) p views) (here : n < length views)
    (ready : ReadReady (own_part p n) (view_at views n) step) (does : Does p n step found q) where
  e : Ran
  e = first_ran (view_at views n).ran

  law : DirectoryLaw z p views
  law = meets.law

  look : Looked p q (Field e.now 1) step found
  unfolding e
  look = looked p q n (Field (first_ran (view_at views n).ran).now 1) step found ready.looks does

  law_q : DirectoryLaw z q views
  law_q = calmly z p q n step found views meets look.calm does

  in_ran : In e (view_at views n).ran
  unfolding e
  in_ran = subst (In (first_ran (view_at views n).ran)) (sym ready.ran) (inl refl)

  run : Running p views e
  run = each_in (Running p views) e (view_at views n).ran in_ran (law.learnt n).ran

  run_q : Running q views e
  run_q = each_in (Running q views) e (view_at views n).ran in_ran (law_q.learnt n).ran

  live : stage_at p e.now ≡ Live
  unfolding e
  live = (strongly_live p n (first_ran (view_at views n).ran).now meets.lawful does.0.0
      ready.held).0

  live_q : stage_at q e.now ≡ Live
  live_q = ap (λ (x : PlainSlot). x.stage) (look.slots e.now) ∙ live

  life : (slot_at p e.now).life ≡ e.now_life
  unfolding e
  life = sym (life_at p n (first_ran (view_at views n).ran).now
      (has_strongly (seat_at p n) (first_ran (view_at views n).ran).now ready.held)) ∙ ready.life

  life_q : (slot_at q e.now).life ≡ e.now_life
  life_q = ap (λ (x : PlainSlot). x.life) (look.slots e.now) ∙ life

  second : (slot_at p e.now).second ≡ slot_of found
  second = word_slot found (slot_at p e.now).second look.found_is

  second_q : (slot_at q e.now).second ≡ slot_of found
  second_q = ap (λ (x : PlainSlot). x.second) (look.slots e.now) ∙ second

  -- what the field was seen to hold, it holds
  led_tells : (d : Led) → In d (view_at views n).led → d.slot ≡ e.now → d.life ≡ e.now_life
      → (slot_at p d.slot).second ≡ d.next
  led_tells d i slot of_life =
      let lead = each_in (Leads p views) d (view_at views n).led i (law.learnt n).led in
      let same_life : (slot_at p d.slot).life ≡ d.life =
      ap (λ (x : SlotId). (slot_at p x).life) slot ∙ (life ∙ sym of_life) in
      (lead.2 same_life (ap (λ (x : SlotId). stage_at p x) slot ∙ live)).1

  -- where it is null, the whole text was read
  whole_tells : (slot_at p e.now).second ≡ None → IsText e.before
  whole_tells null = go run.0 run.1 (subst (λ (w : Option SlotId). Along p w run.0) null
      (run.4 life live).1)
    where
      go : (rest : Text) → KeptIn views e.slot e.life (e.before ++ rest) → Along p None rest
          → IsText e.before
      go [] kept a = subst IsText (append_none e.before)
          (kept_is z p views e.slot e.life (e.before ++ []) law kept)
      go (t ∷ ts) kept a = absurd (none_some a.0 a.1)

  tells : (w : View) → ReadTells p q n (view_at views n) w
  unfolding e
  tells w = record { led = led_tells; whole = whole_tells }

  -- LEAD
  law_leads : DirectoryLaw z q (set views n
      (record (view_at views n) { led = leads e found ∷ (view_at views n).led }))
  law_leads =
      let l = law_q.learnt n in
      let b = run_q.4 life_q live_q in
      law_knows z q views n (record (view_at views n) {
        led =
            leads e found ∷ (view_at views n).led;
      }) here refl refl refl (omega arith) (law_q.quota n)
      (record {
        noted = l.noted;
        seen = l.seen;
        ended = l.ended;
        ran = l.ran;
        led =
            ((run_q.2, run_q.3, λ a c. (b.0, second_q)), l.led);
      })
      law_q

  lead_law : DirectoryLaw z q
      (set views n (lead_next (own_part p n) (own_part q n) (view_at views n) step found))
  unfolding e
  lead_law = law_leads

  -- READ ON
  law_reads : (r : SlotId) (x : Option Object) → (slot_at q e.now).second ≡ Some r
      → (own_part q n).objects r ≡ x
      → DirectoryLaw z q (set views n (reads_part r x (view_at views n)))
  unfolding e
  law_reads r None at has = same_law z q views n law_q
  law_reads r (Some o) at has =
      let l = law_q.learnt n in
      let is = object_is q n r o has in
      let more = run_on z q views e r law_q run_q life_q live_q at in
      let told = subst (λ (y : Object). Running q views
      (record e { before = e.before ++ y.payload ∷ []; now = r; now_life = y.life })) (sym is)
      more in
      law_knows z q views n (reads_part r (Some o) (view_at views n)) here refl refl refl
      (omega arith) (law_q.quota n)
      (record { noted = l.noted; seen = l.seen; ended = l.ended; ran = (told, l.ran); led = l.led })
      law_q

  read_law : (k : ℕ) → (slot_at q e.now).second ≡ slot_of k
      → DirectoryLaw z q (set views n (read_next (own_part p n) (own_part q n) (view_at views n)
      step k))
  read_law zero at = same_law z q views n law_q
  read_law (suc s) at = law_reads (id s) ((own_part q n).objects (id s)) at refl

  read_on_law : DirectoryLaw z q
      (set views n (read_next (own_part p n) (own_part q n) (view_at views n) step found))
  read_on_law = read_law found second_q

pub lead_keeps : (z : Area) → Keeps (DirectoryLaw z) gone ReadReady lead_next ReadTells
lead_keeps z p q views n step found meets here ready does = (
  lead_law z p q views n step found meets here ready does,
  tells z p q views n step found meets here ready does
      (lead_next (own_part p n) (own_part q n) (view_at views n) step found),
)

pub read_keeps : (z : Area) → Keeps (DirectoryLaw z) gone ReadReady read_next ReadTells
read_keeps z p q views n step found meets here ready does = (
  read_on_law z p q views n step found meets here ready does,
  tells z p q views n step found meets here ready does
      (read_next (own_part p n) (own_part q n) (view_at views n) step found),
)
