-- The deeds that answer a head, forget what has ended, and draw a ticket keep the law.
use Rattle.std.proofs.Common.{◌≡◌, ◌⊎◌, inl, inr, ⊎_elim, ℕ, ◌+◌, ◌<◌, ◌≤◌, Bool, false, List, [], ◌∷◌, ◌++◌, length, set, refl, ap, sym, ◌∙◌, subst, arith}
use Rattle.plain_protocol.specs.plain_state.declared.act.PlainAct.{PlainAct}
use Rattle.plain_protocol.specs.plain_state.declared.slot.SlotId.{SlotId}
use Rattle.plain_protocol.specs.plain_state.declared.slot.Stage.TheVariants.{Live}
use Rattle.plain_protocol.specs.plain_state.State.{Plain, PlainSeat, seat_at, slot_at, stage_at}
use Rattle.plain_protocol.specs.plain_state.Steps.{Does}
use Rattle.plain_protocol.specs.Laws.{Keeps}
use Rattle.plain_protocol.specs.Owns.{own_part}
use Rattle.directory_law.specs.Payloads.{Text, IsText}
use Rattle.directory_law.specs.Views.{Note, Rope, Ran, View, gone, view_at, note, times_of, KeptIn, In, Each, without}
use Rattle.directory_law.specs.Chains.{Reads}
use Rattle.directory_law.specs.Cells.{Area, LiveRecord}
use Rattle.directory_law.specs.Learnt.{Built, Saw, Past, Running, Learnt}
use Rattle.directory_law.specs.Law.{DirectoryLaw, IsBound}
use Rattle.directory_law.proofs.Kit.{false≢true, total_set, at_view, cases_pair}
use Rattle.directory_law.proofs.Notes.{without_other, without_fewer, each_without, each_in}
use Rattle.directory_law.proofs.Kept.{same_text}
use Rattle.directory_law.proofs.Quiet.{law_quiet}
use Rattle.directory_law.proofs.Foreign.{calmly, granted_next, ticket_quiet}
use Rattle.directory_law.proofs.Turns.{Turned, turned_set, learnt_turned, law_turned, law_learns, law_knows}
use Rattle.directory_law.specs.Steps.{payload_in}
use Rattle.directory_law.proofs.Owns.{owned_live}
use Rattle.directory_law.specs.Lessons.{first_ran, AnswerReady, answer_next, AnswerTells, ForgetReady, without_ended, forget_next, ForgetTells, DrawReady, drawn, draw_next, DrawTells}
use Rattle.directory_law.proofs.Ends.{append_none, text_ends}
use Rattle.directory_law.proofs.Looks.{calm_stays}

-- ANSWER
module _ (z : Area) (p : Plain) (views : List View) (n : ℕ) (law : DirectoryLaw z p views) (e : Ran)
    (in_ran : In e (view_at views n).ran) (head : List ℕ) (c : ℕ)
    (seen : In (record { cell = c; slot = e.slot; life = e.life; head = head })
    (view_at views n).seen)
    (whole : IsText e.before) where
  saw : Saw z p (record { cell = c; slot = e.slot; life = e.life; head = head })
  saw = each_in (Saw z p) (record { cell = c; slot = e.slot; life = e.life; head = head })
      (view_at views n).seen seen (law.learnt n).seen

  -- the cell keeps the text that was read to its end
  pub whole_bound : (stage_at p e.slot ≡ Live) × ((slot_at p e.slot).marked ≡ false)
      → IsBound z p e.before e.slot
  whole_bound live =
      let o = law.cells c e.slot saw.0 saw.1 in
      let run = each_in (Running p views) e (view_at views n).ran in_ran (law.learnt n).ran in
      let kept = subst (λ (x : ℕ). KeptIn views e.slot x (e.before ++ run.0)) (sym saw.2) run.1 in
      let once = law.once e.slot (slot_at p e.slot).life in
      let same : o.text ≡ e.before ++ run.0 =
      same_text views e.slot (slot_at p e.slot).life o.text (e.before ++ run.0) (omega arith)
      o.kept kept in
      let nil : run.0 ≡ [] = text_ends e.before run.0 whole (subst IsText same o.is) in
      let is : o.text ≡ e.before = same ∙ (ap (λ (t : Text). e.before ++ t) nil
      ∙ append_none e.before) in
      record {
        stands = (c, saw.0, saw.1);
        stage = live.0;
        mark = live.1;
        reads =
            subst (Reads p e.slot) is (o.reads live.0);
      }

pub answer_keeps : (z : Area) (spends : Bool)
    → Keeps (DirectoryLaw z) gone (AnswerReady spends) (answer_next spends) (AnswerTells z)
answer_keeps z spends p q views n step found meets here ready does =
    let e : Ran = first_ran (view_at views n).ran in
    let law_q = calmly z p q n step found views meets ready.calm does in
    let l = law_q.learnt n in
    let live = owned_live p n e.slot meets.lawful does.0.0 ready.owned in
    let in_ran = subst (In e) (sym ready.ran) (inl refl) in
    let seen = subst (λ (x : ℕ). In (record {
      cell = ready.seen.0;
      slot = e.slot;
      life = x;
      head =
          payload_in (own_part p n) e.slot;
    }) (view_at views n).seen) (sym ready.life) ready.seen.1 in (
      law_knows z q views n (answer_next spends (own_part p n) (own_part q n) (view_at views n) step
          found) here refl refl refl (omega arith) ready.spare
          (record { noted = l.noted; seen = l.seen; ended = l.ended; ran = l.ran; led = l.led })
          law_q,
      whole_bound z p views n meets.law e in_ran (payload_in (own_part p n) e.slot) ready.seen.0
          seen
          ready.whole live,
    )

-- FORGET
ended_fewer : (ns : List Note) (es : List Rope) (s : SlotId) (l : ℕ)
    → times_of s l (without_ended ns es) ≤ times_of s l es
ended_fewer [] es s l = omega arith
ended_fewer (e ∷ ns) es s l =
    let a = ended_fewer ns (without e.slot e.life es) s l in
    let b = without_fewer e.slot e.life s l es in omega arith

-- a life that is noted less often was seen to have ended
ended_same : (ns : List Note) (es : List Rope) (s : SlotId) (l : ℕ)
    → (times_of s l (without_ended ns es) ≡ times_of s l es) ⊎ In (note s l) ns
ended_same [] es s l = inl refl
ended_same (e ∷ ns) es s l =
    ⊎_elim
    (λ (b : (s ≡ e.slot) × (l ≡ e.life)).
    inr (inl (ap (λ (x : SlotId). note x l) b.0 ∙ ap (note e.slot) b.1)))
    (λ (differs : (s ≡ e.slot) × (l ≡ e.life) → ⊥).
    ⊎_elim
    (λ (same : times_of s l (without_ended ns (without e.slot e.life es)) ≡ times_of s l
    (without e.slot e.life es)).
    inl (same ∙ without_other e.slot e.life s l es differs))
    (λ (i : In (note s l) ns). inr (inr i))
    (ended_same ns (without e.slot e.life es) s l))
    (cases_pair s e.slot l e.life)

each_unended : (P : Rope → Type 0) (ns : List Note) (es : List Rope) → Each P es
    → Each P (without_ended ns es)
each_unended P [] es h = h
each_unended P (e ∷ ns) es h =
    each_unended P ns (without e.slot e.life es) (each_without P e.slot e.life es h)

module _ (z : Area) (q : Plain) (views : List View) (n : ℕ) (here : n < length views)
    (law : DirectoryLaw z q views) where
  w : View
  w = record (view_at views n) {
    noted =
        without_ended (view_at views n).ended (view_at views n).noted;
  }

  turned : Turned views (set views n w)
  unfolding w
  turned = turned_set views n w here
      (λ s l. ended_fewer (view_at views n).ended (view_at views n).noted s l) refl (omega arith)

  live_before : (s : SlotId) → LiveRecord q (set views n w) s → LiveRecord q views s
  unfolding w
  live_before s live = record {
    stage = live.stage;
    mark = live.mark;
    head = live.head;
    bound = ⊎_elim
        (λ same.
        let e = total_set (λ (v : View). times_of s (slot_at q s).life v.noted) views n w here in
        let b = live.bound in omega arith)
        (λ (i : In (note s (slot_at q s).life) (view_at views n).ended).
        let past = each_in (Past q) (note s (slot_at q s).life) (view_at views n).ended i
        (law.learnt n).ended in
        absurd (false≢true (sym live.mark ∙ past.1 refl)))
        (ended_same (view_at views n).ended (view_at views n).noted s (slot_at q s).life);
  }

  learnt_forgets : Learnt z q (set views n w) w
  unfolding w
  learnt_forgets =
      let l = learnt_turned z q views (set views n w) turned law (view_at views n) (law.learnt n) in
      record {
        noted = each_unended (Built q) (view_at views n).ended (view_at views n).noted l.noted;
        seen = l.seen;
        ended = l.ended;
        ran = l.ran;
        led = l.led;
      }

  pub law_forgets : DirectoryLaw z q
      (set views n (record (view_at views n) {
        noted =
            without_ended (view_at views n).ended (view_at views n).noted;
      }))
  unfolding w
  law_forgets =
      law_turned z q views (set views n w) turned law live_before
      (let e = total_set (λ (v : View). v.quota) views n w here in let f = law.quotas in
      omega arith)
      (at_view views n w (λ v. v.used ≤ v.quota) here (law.quota n) (λ m other. law.quota m))
      (at_view views n w (Learnt z q (set views n w)) here learnt_forgets
      (λ m other. learnt_turned z q views (set views n w) turned law (view_at views m)
      (law.learnt m)))

pub forget_keeps : (z : Area) → Keeps (DirectoryLaw z) gone ForgetReady forget_next (ForgetTells z)
forget_keeps z p q views n step found meets here ready does = (
  law_forgets z q views n here (calmly z p q n step found views meets ready does),
  calm_stays z p q n step found meets.lawful ready does,
)

-- DRAW
pub draw_keeps : (z : Area) → Keeps (DirectoryLaw z) gone DrawReady (draw_next z) (DrawTells z)
draw_keeps z p q views n step found meets here ready does =
    let d = subst (λ (a : PlainAct). Does p n a found q) ready does in
    let ss : List PlainSeat = set p.seats n (record (seat_at p n) {
      adds =
          (seat_at p n).adds + 1;
    }) in
    let r : Plain = record p { seats = ss; tickets = p.tickets + 1 } in
    let law_r = law_quiet z p r (ticket_quiet z p ss) meets.lawful views meets.law in
    let l = law_r.learnt n in
    let w : View = drawn z (view_at views n) p.tickets in
    let told : draw_next z (own_part p n) (own_part q n) (view_at views n) step found ≡ w =
    ap (drawn z (view_at views n)) d.1.0 in
    let law_w : DirectoryLaw z r (set views n w) = law_learns z r views n w here refl refl
    (let e = total_set (λ (v : View). v.quota) views n w here in let b = meets.law.quotas in
    let g = granted_next z.grants p.tickets in omega arith)
    (omega arith) (let b = meets.law.quota n in omega arith)
    (record { noted = l.noted; seen = l.seen; ended = l.ended; ran = l.ran; led = l.led })
    law_r in (
      subst (λ (x : Plain). DirectoryLaw z x (set views n (drawn z (view_at views n) found)))
          (sym d.1.1)
          (subst (λ (v : View). DirectoryLaw z r (set views n v)) (sym told) law_w),
      told,
    )
