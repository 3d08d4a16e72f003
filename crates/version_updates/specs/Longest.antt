-- The deed of a look that tells besides how long the ways are which a seat has read.
use Rattle.std.proofs.Common.{ℕ, suc, ◌≤◌, List, ap, arith}
use Rattle.std.specs.Prelude.{Option, Some, max}
use Rattle.map_law.specs.plain_state.Lawful.{Lawful}
use Rattle.map_law.specs.plain_state.State.{Plain}
use Rattle.map_law.specs.plain_protocol.Laws.{Keeps}
use Rattle.map_law.specs.plain_protocol.Owns.{own_part}
use Rattle.map_trees.specs.Trees.{Balanced, Tree, depth, height, leaf, node}
use Rattle.map_law.specs.declared.view.Kid.{Kid}
use Rattle.map_law.specs.declared.view.View.{View}
use Rattle.map_law.specs.Views.{gone, view_at}
use Rattle.map_law.specs.Nodes.{root}
use Rattle.map_law.specs.Law.{MapLaw}
use Rattle.map_law.specs.Lessons.{AnswerReady, AnswerTells, answer_next}
use Rattle.map_law.specs.Patterns.{IsKid, Pattern, Spells, branch, filled, hole, null}
use Rattle.map_law.specs.Plans.{height_of}
use Rattle.map_law.proofs.Clearing.{answer_keeps}
use Rattle.map_law.proofs.Frame.{root_live}
use Rattle.map_law.proofs.Plans.{height_is}
use Rattle.map_law.proofs.Spelling.{grown, kid_holds, spelt, spelt_fits}

-- how many nodes the longest way down has that a pattern shows; a hole stands for one
abbrev pub longest : Pattern → ℕ
longest null = 0
longest (hole s h) = 1
longest (branch k v h l r) = suc (max (longest l) (longest r))

-- where the seat has the root that stands in the cell, its notes spell no way from it on that is longer than its height
-- tells
abbrev pub NoneIsLonger : ℕ → Plain → ℕ → View → Type 0
NoneIsLonger c p n v =
    (k : Option Kid) (pat : Pattern) → IsKid (own_part p n) (root p c) k → Spells v k pat
    → longest pat ≤ height_of pat

abbrev pub StillTells : ℕ → Plain → Plain → ℕ → View → View → Type 0
StillTells c p q n v w = AnswerTells c p q n v w × NoneIsLonger c p n v

depth_high : (t : Tree) → Balanced t → depth t ≤ height t
depth_high leaf even = omega arith
depth_high (node a d h l r) even =
    let x = depth_high l even.3 in let y = depth_high r even.4 in let e = even.0 in
    omega (arith, x, y, e)

-- a tree has a node for each that the pattern shows
longest_deep : (p : Plain) (m : ℕ) (pat : Pattern)
    → longest pat ≤ depth (filled (λ s. grown p (suc m) (Some s)) pat)
longest_deep p m null = omega arith
longest_deep p m (hole s h) = omega arith
longest_deep p m (branch k v h l r) =
    let x = longest_deep p m l in let y = longest_deep p m r in omega (arith, x, y)

none_longer : (c : ℕ) (p : Plain) (views : List View) (n : ℕ) → Lawful p → MapLaw c p views
    → NoneIsLonger c p n (view_at views n)
none_longer c p views n lawful law k pat is spells =
    let m : ℕ = suc (depth law.tree) in
    let held = kid_holds p n (root p c) k is in
    let same = spelt c p views n lawful law m pat k (root p c) law.tree spells held
    (λ s at. root_live p lawful c s at) law.is (omega arith) in
    let fits = spelt_fits c p views n lawful law m pat k (root p c) law.tree spells held
    (λ s at. root_live p lawful c s at) law.is (omega arith) in
    let long = longest_deep p (depth law.tree) pat in
    let deep = ap depth same in
    let high = ap height same in
    let most = depth_high law.tree law.shaped.1 in
    let tells = height_is (λ s. grown p m (Some s)) pat fits in
    omega (arith, long, deep, high, most, tells)

pub still_keeps : (c : ℕ) → Keeps (MapLaw c) gone (AnswerReady c) answer_next (StillTells c)
still_keeps c p q views n step found meets low ready does =
    let kept = answer_keeps c p q views n step found meets low ready does in
    (kept.0, (kept.1, none_longer c p views n meets.lawful meets.law))
