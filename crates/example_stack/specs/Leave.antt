-- The law is kept where a seat leaves.
use Rattle.std.proofs.Common.{◌≡◌, ℕ, ◌<◌, List, length, refl, sym, ap, subst, arith}
use Rattle.cdrc.specs.plain_state.State.{Plain}
use Rattle.cdrc.specs.plain_protocol.Laws.{KeptByLeave}
use Rattle.cdrc.proofs.Below.protocol_pairs_Notes.{noted_after, noted_before}
use Rattle.example_stack.specs.Views.{View, joined, no_view}
use Rattle.example_stack.specs.Stack.{Stack}

-- a state whose cells and slots are the same
with_parts : (cell : ℕ) (kind : List ℕ → Type 0) (p q : Plain) (views : List View)
    → q.cells ≡ p.cells → q.slots ≡ p.slots → Stack cell kind p views → Stack cell kind q views
with_parts cell kind p q views cells slots law =
    subst (λ l. Stack cell kind (record q { slots = l }) views) (sym slots)
    (subst (λ l. Stack cell kind (record q { cells = l; slots = p.slots }) views) (sym cells)
    (record { top = law.top; below = law.below; nodes = law.nodes; seen = law.seen; popped = law.popped }))

pub stack_leave : (cell : ℕ) (kind : List ℕ → Type 0)
    → KeptByLeave (Stack cell kind) joined no_view
stack_leave cell kind p q j found views meets does =
    let c = meets.count in
    let m = does.1.2 in
    let there : j < length views = omega arith in
    let still = noted_after no_view (λ (z : View). z.pushed) joined refl (λ a b. refl) views j
    there does.1.1 in
    let was = noted_before no_view (λ (z : View). z.pushed) joined refl (λ a b. refl) views j
    there does.1.1 in
    let saw = noted_before no_view (λ (z : View). z.seen) joined refl (λ a b. refl) views j
    there does.1.1 in
    let popped = noted_before no_view (λ (z : View). z.popped) joined refl (λ a b. refl) views j
    there does.1.1 in
    with_parts cell kind p q _ (ap (λ (z : Plain). z.cells) does.1.8)
    (ap (λ (z : Plain). z.slots) does.1.8)
    (record {
      top = λ s is. still _ (meets.law.top s is);
      below = λ x s node is. still _ (meets.law.below x s node is);
      nodes = λ value now. meets.law.nodes value (was value now);
      seen = λ value now. still value (meets.law.seen value (saw value now));
      popped = λ value now. still value (meets.law.popped value (popped value now));
    })
