-- Each deed keeps the law, at every step for which it is ready.
use Rattle.std.proofs.Common.{⊎_elim, ℕ, List, sym, subst}
use Rattle.std.specs.Prelude.{slice_set}
use Rattle.cdrc.specs.plain_state.declared.act.PlainAct.{PlainAct}
use Rattle.cdrc.specs.plain_state.Places.{content}
use Rattle.cdrc.specs.plain_state.State.{Plain}
use Rattle.cdrc.specs.plain_state.Steps.{Does}
use Rattle.cdrc.specs.plain_protocol.Acts.{IsCalm}
use Rattle.cdrc.specs.plain_protocol.Laws.{Keeps}
use Rattle.cdrc.specs.plain_protocol.Owns.{OwnPart, own_part}
use Rattle.example_stack.specs.Views.{View, no_view, view_at}
use Rattle.example_stack.specs.Stack.{Stack}
use Rattle.example_stack.specs.Deeds.{LinkReady, MakeReady, PopReady, PushReady, SeeReady, SeeTells, TellsNothing, pop_next, push_next, same_next, see_next}
use Rattle.std.proofs.lemmas.List.{set-get_or}
use Rattle.cdrc.proofs.Below.protocol_pairs_Notes.{noted_here}
use Rattle.example_stack.specs.Kept.{stack_calm}
use Rattle.example_stack.specs.Makes.{found_in, links, makes, pops, pushes, sees}

-- the law with the view that a deed tells, at this step
abbrev After : (OwnPart → OwnPart → View → PlainAct → ℕ → View) → ℕ → (List ℕ → Type 0)
    → Plain → Plain → List View → ℕ → ℕ → PlainAct → Type 0
After next cell kind p q views n found step =
    Stack cell kind q
    (slice_set views n (next (own_part p n) (own_part q n) (view_at views n) step found))

module _ (cell : ℕ) (kind : List ℕ → Type 0) where
  pub make_keeps : Keeps (Stack cell kind) no_view MakeReady same_next TellsNothing
  make_keeps p q views n step found meets low is does = (
    makes cell kind p q views n found meets low is.0
        (subst (λ a. Does p n a found q) is.1 does),
    tt,
  )

  pub link_keeps : Keeps (Stack cell kind) no_view LinkReady same_next TellsNothing
  link_keeps p q views n step found meets low is does = (
    ⊎_elim
        (λ calm. subst (Stack cell kind q) (sym (set-get_or views n no_view))
        (stack_calm cell kind p q n step found views meets calm does))
        (λ link. links cell kind p q views n found meets low link.0 link.1 link.3
        (subst (λ a. Does p n a found q) link.2 does))
        is,
    tt,
  )

  pub push_keeps : Keeps (Stack cell kind) no_view (PushReady cell kind) push_next TellsNothing
  push_keeps p q views n step found meets low is does = (
    subst (After push_next cell kind p q views n found) (sym is.2)
        (pushes cell kind p q views n found meets low is.0 is.1 is.3
        (subst (λ a. Does p n a found q) is.2 does)),
    tt,
  )

  pub pop_keeps : Keeps (Stack cell kind) no_view (PopReady cell) pop_next TellsNothing
  pop_keeps p q views n step found meets low is does = (
    subst (After pop_next cell kind p q views n found) (sym is.2)
        (pops cell kind p q views n found meets low is.0 is.1 is.3
        (subst (λ a. Does p n a found q) is.2 does)),
    tt,
  )

  pub see_keeps : Keeps (Stack cell kind) no_view (SeeReady cell kind) see_next (SeeTells kind)
  see_keeps p q views n step found meets low is does = (
    kept,
    λ value has. kept.nodes value (kept.seen value
        (noted_here no_view (λ (z : View). z.seen) views n _ low value has)),
  )
    where
      kept : After see_next cell kind p q views n found step
      kept = ⊎_elim
          (λ look. let d = subst (λ a. Does p n a found q) look does in
          sees cell kind p q views n found meets low step (subst IsCalm (sym look) tt) does
          (content p is.0) (found_in cell kind p q views n found meets low is.0 is.1) found d.1.1)
          (λ check. let d = subst (λ a. Does p n a found q) check.1 does in
          sees cell kind p q views n found meets low step (subst IsCalm (sym check.1) tt) does
          (content p is.0) (found_in cell kind p q views n found meets low is.0 is.1) found d.1.1)
          is.2
