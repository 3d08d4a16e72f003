-- All deeds, as a protocol asks for them.
use Rattle.std.proofs.Common.{◌≢◌, ⊎_elim, ℕ, true, false, sym, ◌∙◌}
use Rattle.plain_protocol.specs.plain_state.declared.act.EventPlace.{EventPlace}
use Rattle.plain_protocol.specs.plain_state.declared.act.PlainAct.{PlainAct}
use Rattle.plain_protocol.specs.plain_state.declared.act.PlainAct.TheVariants as act
use Rattle.queue_law.specs.Views.{first_view}
use Rattle.queue_law.specs.Chain.{Ends}
use Rattle.queue_law.specs.Law.{WholeLaw}
use Rattle.queue_law.specs.Nodes.{MakeReady, make_next, CarryReady, carry_next, BackReady, back_next}
use Rattle.queue_law.specs.Pushes.{LinkReady, link_next, AdvanceReady, advance_next, ExchangeReady, exchange_next, LandReady, land_next, HelpReady, help_next}
use Rattle.queue_law.specs.Pops.{TakeReady, take_next, EmptyReady, empty_next}
use Rattle.queue_law.specs.Lessons.{Reads, LearnReady, learn_next, NextReady, next_next, AheadReady, ahead_next, PassedReady, passed_next, ItemReady, item_next, BeforeReady, before_next, EndedReady, ended_next, SetReady, set_next, AttachReady, attach_next, CellTells, NextTells, EndedTells, PassedTells, ItemTells, AttachTells, TellsNothing}
use Rattle.queue_law.specs.Opening.{LayTailReady, lay_tail_next, LayHeadReady, lay_head_next, ShutHeadReady, shut_head_next, ShutTailReady, shut_tail_next}
use Rattle.plain_protocol.specs.Laws as laws
use Rattle.queue_law.proofs.Exchange.{exchange_deed}
use Rattle.queue_law.proofs.Link.{link_deed}
use Rattle.queue_law.proofs.Advance.{advance_deed}
use Rattle.queue_law.proofs.Land.{land_deed, help_deed}
use Rattle.queue_law.proofs.Take.{take_deed}
use Rattle.queue_law.proofs.Fields.{carry_deed, back_deed, empty_deed}
use Rattle.queue_law.proofs.Lessons.{learn_head_deed, learn_tail_deed, next_deed, ahead_deed, passed_deed, item_deed, attach_deed}
use Rattle.queue_law.proofs.Before.{before_deed, ended_deed, set_deed}
use Rattle.queue_law.proofs.Make.{make_deed}
use Rattle.queue_law.proofs.Lays.{lay_tail_deed, lay_head_deed}
use Rattle.queue_law.proofs.Whole.{whole_told, whole_deed, whole_shut}
use Rattle.queue_law.proofs.Told.{learn_head_tells, learn_tail_tells, next_tells, ended_tells, passed_tells, item_tells, attach_tells}
use Rattle.queue_law.proofs.Shut.{shut_head_deed, shut_tail_deed}

reads_no_leave : (at : EventPlace) (step : PlainAct) → Reads at step → (j : ℕ) → step ≢ act.Leave j
reads_no_leave at step r j e = ⊎_elim (λ l. let z = sym l ∙ e in absurd cc)
    (λ l. let z = sym l.1 ∙ e in absurd cc) r

module _ (u : Ends) (cells : u.head ≢ u.tail) where
  pub make : laws.Keeps (WholeLaw u) first_view MakeReady make_next TellsNothing
  make =
      whole_deed u MakeReady make_next
      (λ own v step r j e. let z = sym r.act_is ∙ e in absurd cc)
      (make_deed u)

  pub carry : laws.Keeps (WholeLaw u) first_view CarryReady carry_next TellsNothing
  carry =
      whole_deed u CarryReady carry_next
      (λ own v step r j e. let z = sym r.act_is ∙ e in absurd cc)
      (carry_deed u)

  pub back : laws.Keeps (WholeLaw u) first_view BackReady back_next TellsNothing
  back =
      whole_deed u BackReady back_next
      (λ own v step r j e. let z = sym r.act_is ∙ e in absurd cc)
      (back_deed u)

  pub link : laws.Keeps (WholeLaw u) first_view (LinkReady u) link_next TellsNothing
  link =
      whole_deed u (LinkReady u) link_next
      (λ own v step r j e. let z = sym r.act_is ∙ e in absurd cc)
      (link_deed u)

  pub advance : laws.Keeps (WholeLaw u) first_view (AdvanceReady u) advance_next TellsNothing
  advance =
      whole_deed u (AdvanceReady u) advance_next
      (λ own v step r j e. let z = sym r.act_is ∙ e in absurd cc)
      (advance_deed u cells)

  pub exchange : laws.Keeps (WholeLaw u) first_view (ExchangeReady u) exchange_next TellsNothing
  exchange =
      whole_deed u (ExchangeReady u) exchange_next
      (λ own v step r j e. let z = sym r.act_is ∙ e in absurd cc)
      (exchange_deed u cells)

  pub land : laws.Keeps (WholeLaw u) first_view LandReady land_next TellsNothing
  land =
      whole_deed u LandReady land_next
      (λ own v step r j e. let z = sym r.act_is ∙ e in absurd cc)
      (land_deed u)

  pub help : laws.Keeps (WholeLaw u) first_view (HelpReady u) help_next TellsNothing
  help =
      whole_deed u (HelpReady u) help_next
      (λ own v step r j e. let z = sym r.act_is ∙ e in absurd cc)
      (help_deed u)

  pub take : laws.Keeps (WholeLaw u) first_view (TakeReady u) take_next TellsNothing
  take =
      whole_deed u (TakeReady u) take_next
      (λ own v step r j e. let z = sym r.act_is ∙ e in absurd cc)
      (take_deed u cells)

  pub empty : laws.Keeps (WholeLaw u) first_view EmptyReady empty_next TellsNothing
  empty =
      whole_deed u EmptyReady empty_next
      (λ own v step r j e. let z = sym r.act_is ∙ e in absurd cc)
      (empty_deed u)

  pub ended : laws.Keeps (WholeLaw u) first_view (EndedReady u) ended_next EndedTells
  ended =
      whole_told u (EndedReady u) ended_next EndedTells
      (λ own v step r j e. let z = sym r.act_is ∙ e in absurd cc) (ended_deed u) (ended_tells u)

  pub lay_tail : laws.Keeps (WholeLaw u) first_view (LayTailReady u) lay_tail_next TellsNothing
  lay_tail =
      whole_deed u (LayTailReady u) lay_tail_next
      (λ own v step r j e. let z = sym r.act_is ∙ e in absurd cc)
      (lay_tail_deed u cells)

  pub lay_head : laws.Keeps (WholeLaw u) first_view (LayHeadReady u) lay_head_next TellsNothing
  lay_head =
      whole_deed u (LayHeadReady u) lay_head_next
      (λ own v step r j e. let z = sym r.act_is ∙ e in absurd cc)
      (lay_head_deed u cells)

  pub learn_head : laws.Keeps (WholeLaw u) first_view (LearnReady u.head) (learn_next true) (CellTells u.head)
  learn_head =
      whole_told u (LearnReady u.head) (learn_next true) (CellTells u.head)
      (λ own v step r j e. reads_no_leave _ step r j e) (learn_head_deed u) (learn_head_tells u)

  pub learn_tail : laws.Keeps (WholeLaw u) first_view (LearnReady u.tail) (learn_next false) (CellTells u.tail)
  learn_tail =
      whole_told u (LearnReady u.tail) (learn_next false) (CellTells u.tail)
      (λ own v step r j e. reads_no_leave _ step r j e) (learn_tail_deed u) (learn_tail_tells u)

  pub next : laws.Keeps (WholeLaw u) first_view NextReady next_next (NextTells u)
  next =
      whole_told u NextReady next_next (NextTells u)
      (λ own v step r j e. reads_no_leave _ step r.reads j e)
      (next_deed u) (next_tells u)

  pub ahead : laws.Keeps (WholeLaw u) first_view (AheadReady u) ahead_next TellsNothing
  ahead =
      whole_deed u (AheadReady u) ahead_next
      (λ own v step r j e. reads_no_leave _ step r.reads j e)
      (ahead_deed u)

  pub passed : laws.Keeps (WholeLaw u) first_view (PassedReady u) passed_next (PassedTells u)
  passed =
      whole_told u (PassedReady u) passed_next (PassedTells u)
      (λ own v step r j e. reads_no_leave _ step r.reads j e)
      (passed_deed u) (passed_tells u)

  pub item : laws.Keeps (WholeLaw u) first_view ItemReady item_next (ItemTells u)
  item =
      whole_told u ItemReady item_next (ItemTells u)
      (λ own v step r j e. reads_no_leave _ step r.reads j e)
      (item_deed u) (item_tells u)

  pub before : laws.Keeps (WholeLaw u) first_view (BeforeReady u) before_next TellsNothing
  before =
      whole_deed u (BeforeReady u) before_next
      (λ own v step r j e. reads_no_leave _ step r.reads j e)
      (before_deed u)

  pub is_set : laws.Keeps (WholeLaw u) first_view (SetReady u) set_next TellsNothing
  is_set =
      whole_deed u (SetReady u) set_next
      (λ own v step r j e. reads_no_leave _ step r.reads j e)
      (set_deed u)

  pub attach : laws.Keeps (WholeLaw u) first_view (AttachReady u) attach_next (AttachTells u)
  attach =
      whole_told u (AttachReady u) attach_next (AttachTells u)
      (λ own v step r j e. let z = sym r ∙ e in absurd cc)
      (attach_deed u) (attach_tells u)

  pub shut_head : laws.Keeps (WholeLaw u) first_view (ShutHeadReady u) (shut_head_next u) TellsNothing
  shut_head = whole_shut u (ShutHeadReady u) (shut_head_next u) (shut_head_deed u cells)

  pub shut_tail : laws.Keeps (WholeLaw u) first_view (ShutTailReady u) shut_tail_next TellsNothing
  shut_tail = whole_shut u (ShutTailReady u) shut_tail_next (shut_tail_deed u cells)
