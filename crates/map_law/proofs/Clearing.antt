-- The last look, which tells of the map, and the clearing of the root cell keep the law.
use Rattle.std.proofs.Common.{◌≡◌, ◌≢◌, ⊎_elim, ℕ, true, set, refl, ap, sym, ◌∙◌, subst, arith}
use Rattle.std.specs.Prelude.{None, sum_by}
use Rattle.std.proofs.lemmas.List.{get_or-set_same}
use Rattle.std.proofs.lemmas.Bool.{cases_eq, false≢true}
use Rattle.plain_protocol.specs.plain_state.declared.act.EventPlace.TheVariants.{Cell}
use Rattle.plain_protocol.specs.plain_state.declared.act.PlainAct.{PlainAct}
use Rattle.plain_protocol.specs.plain_state.declared.act.PlainAct.TheVariants as act
use Rattle.plain_protocol.specs.plain_state.State.{Plain}
use Rattle.plain_protocol.specs.plain_state.Steps.{Does}
use Rattle.plain_protocol.specs.Laws.{Keeps}
use Rattle.map_trees.specs.Trees.{leaf}
use Rattle.map_law.specs.Views.{View, gone, view_at}
use Rattle.map_law.specs.Nodes.{root}
use Rattle.map_law.specs.Law.{MapLaw}
use Rattle.map_law.specs.Publishing.{ClearReady, clear_next}
use Rattle.map_law.specs.Lessons.{AnswerTells, AnswerReady}
use Rattle.map_law.proofs.Kit.{none_some, view_here, view_else, total_set}
use Rattle.map_law.proofs.Left.{does_left}
use Rattle.map_law.proofs.Others.{calm_keeps}
use Rattle.map_law.proofs.Whole.{not_gone, set_reads}
use Rattle.map_law.proofs.Spelling.{tells}
use Rattle.map_law.proofs.Lessons.{same_view}
use Rattle.map_law.proofs.Alone.{alone_at}
use Rattle.map_law.proofs.Orders.{kept_same}
use Rattle.map_law.proofs.Turned.{turned_law}
use Rattle.map_law.specs.Lessons.{answer_next, AnswerTells}
use Rattle.map_law.specs.Publishing.{ClearTells}
use Rattle.map_law.proofs.Others.{calm_map}
use Rattle.plain_protocol.specs.Acts.{IsCalm}

-- THE LAST LOOK: it tells what the root cell's map is, as far as the seat has read it
pub answer_keeps : (c : ℕ) → Keeps (MapLaw c) gone (AnswerReady c) answer_next (AnswerTells c)
answer_keeps c p q views n step found meets low ready does =
    let calm = subst IsCalm (sym ready.is) tt in (
      same_view c q views n (calm_keeps c p q n step found views meets calm does),
      (refl, calm_map c p q n step found views meets calm does, tells c p views n meets.lawful meets.law),
    )

-- THE CLEARING, by seat 0 alone
pub clear_keeps : (c : ℕ) → Keeps (MapLaw c) gone (ClearReady c) clear_next (ClearTells c)
clear_keeps c p q views n step found meets low ready does =
    let d = subst (λ (a : PlainAct). Does p n a found q) ready.is does in
    let law = meets.law in
    let w : View = record (view_at views n) { cleared = true } in
    let alone = alone_at p n ready.whole ready.alone in
    let slots = ap (λ (z : Plain). z.slots) d.1.2.2 in
    let cell : root q c ≡ None = ap (λ (z : Plain). root z c) d.1.2.2 ∙ get_or-set_same p.cells c None None d.1.0 in
    let left = does_left p q n (act.Replace (Cell c) None) found (λ j z. absurd cc) d in
    let at : view_at (set views n w) 0 ≡ w = ap (view_at (set views n w)) (sym alone.0) ∙ view_here views n w low in
    let others : (m : ℕ) → m ≢ 0 → view_at (set views n w) m ≡ gone =
    λ m ne. view_else views n m w (λ e. ne (e ∙ alone.0)) ∙ law.left m (alone.2 m ne) in
    let o = law.orders in (
      turned_law c p q views n w meets.lawful law low slots left refl refl refl refl leaf cell (tt, tt)
          (λ s e. absurd (none_some s (sym cell ∙ e)))
          (λ k h. set_reads (λ (x : View). x.number) views n w low refl k
          ∙ law.number k (sym (set_reads (λ (x : View). x.here) views n w low refl k) ∙ h))
          (record {
            all = o.all;
            kept = kept_same o.all views n w o.kept low refl refl;
            many = λ f. let t = total_set (λ (x : View). sum_by f x.entries) views n w low in let a = o.many f in
                omega arith;
            answers = o.answers;
            ends = λ e. absurd (false≢true (sym e ∙ ap (λ (x : View). x.cleared) at));
          })
          (λ m g. ⊎_elim
          (λ (e : m ≡ 0). absurd (not_gone (view_at views n) ready.here (ap (view_at views) (alone.0 ∙ sym e) ∙ g)))
          (λ ne. others m ne) (cases_eq m 0))
          (λ e m ne. others m ne),
      cell,
    )
