-- What a load of the head cell or the tail cell tells an attached seat.
use Rattle.std.proofs.Common.{◌≡◌, ◌≢◌, ⊎_elim, ℕ, true, false, arith}
use Rattle.queue_protocol.specs.plain_state.State.{Plain}
use Rattle.queue_protocol.specs.plain_protocol.Laws.{Keeps}
use Rattle.queue_protocol.specs.queue_law.declared.view.View.{View}
use Rattle.queue_protocol.specs.queue_law.Chain.{Ends}
use Rattle.queue_protocol.specs.queue_law.Law.{WholeLaw}
use Rattle.queue_protocol.specs.queue_law.Lessons.{CellTells, LearnReady, learn_next}
use Rattle.queue_protocol.specs.queue_law.Views.{first_view}
use Rattle.queue_protocol.specs.queue_law.Words.{cell_at}
use Rattle.queue_protocol.proofs.Below.queue_law_Deeds as deeds

-- what the cell held is a node; and where the seat is attached, the cell wasn't null
abbrev pub NodeTells : ℕ → Plain → Plain → ℕ → View → View → Type 0
NodeTells c p q n v w = CellTells c p q n v w × (v.attached ≡ true → cell_at p c ≢ 0)

abbrev pub HeadTells : Ends → Plain → Plain → ℕ → View → View → Type 0
HeadTells u = NodeTells u.head

abbrev pub TailTells : Ends → Plain → Plain → ℕ → View → View → Type 0
TailTells u = NodeTells u.tail

module _ (u : Ends) (apart : u.head ≢ u.tail) where
  pub head_keeps :
      Keeps (WholeLaw u) first_view (LearnReady u.head) (learn_next true) (HeadTells u)
  head_keeps p q views n step found meets at able does =
      let kept = deeds.learn_head u apart p q views n step found meets at able does in
      (kept.0, (kept.1, λ attached. meets.law.0.3.known.attached n attached))

  pub tail_keeps :
      Keeps (WholeLaw u) first_view (LearnReady u.tail) (learn_next false) (TailTells u)
  tail_keeps p q views n step found meets at able does =
      let kept = deeds.learn_tail u apart p q views n step found meets at able does in (
        kept.0,
        (
          kept.1,
          λ attached null. ⊎_elim
              (λ both. meets.law.0.3.known.attached n attached both.1)
              (λ there. let holds = there.holds in absurd (omega arith))
              meets.law.0.3.chain.tail,
        ),
      )
