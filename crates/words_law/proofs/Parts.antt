-- The queue and the directory as parts: a step that is free for the one keeps the whole law.
use Rattle.std.proofs.Common.{◌≡◌, ◌≢◌, ◌⊎◌, inl, inr, ⊎_elim, ℕ, ◌<◌, List, [], ◌∷◌, ◌++◌, length, get_or, set, refl, sym, ap, subst, ◌∙◌, arith}
use Rattle.std.proofs.lemmas.List.{length-map, map-set, set-get_or}
use Rattle.std.proofs.Math.ListN.{get_or-map}
use Rattle.protocol_pairs.specs.plain_state.declared.act.PlainAct.{PlainAct}
use Rattle.protocol_pairs.specs.plain_state.declared.act.PlainAct.TheVariants as act
use Rattle.protocol_pairs.specs.plain_state.State.{Plain}
use Rattle.protocol_pairs.specs.plain_protocol.Acts.{Owned}
use Rattle.protocol_pairs.specs.plain_protocol.Owns.{OwnPart, own_part}
use Rattle.protocol_pairs.specs.Parts.{HasPart, KeepsRest}
use Rattle.protocol_pairs.specs.Sides.{left_rest, right_rest}
use Rattle.protocol_pairs.specs.Spared.{IsSpared}
use Rattle.queue_law.specs.declared.view.Item.{Item}
use Rattle.queue_law.specs.declared.view.Taken.{Taken}
use Rattle.queue_law.specs.declared.view.View.{View as QueueView}
use Rattle.queue_law.specs.Views as queue
use Rattle.queue_law.specs.Chain.{Ends}
use Rattle.queue_law.specs.Lists.{taken_items}
use Rattle.queue_law.specs.Law.{WholeLaw}
use Rattle.queue_law.specs.Owned as queue_owned
use Rattle.queue_law.proofs.Left.{does_left}
use Rattle.queue_law.proofs.Whole.{whole_foreign}
use Rattle.directory_law.specs.declared.view.Rope.{Rope}
use Rattle.directory_law.specs.declared.view.View.{View as DirectoryView}
use Rattle.directory_law.specs.Payloads.{Text}
use Rattle.directory_law.specs.Views.{In, rope}
use Rattle.directory_law.specs.Views as directory
use Rattle.directory_law.specs.Cells.{Area}
use Rattle.directory_law.specs.Steps.{life_in}
use Rattle.directory_law.specs.Lessons.{HasSeen}
use Rattle.directory_law.specs.Law.{DirectoryLaw}
use Rattle.directory_law.specs.Owned as directory_owned
use Rattle.directory_law.proofs.Foreign.{foreign_keeps}
use Rattle.words_law.specs.Views.{View, gone, queues, directories}
use Rattle.words_law.specs.Law.{Gone, HasText, ItemsHaveTexts, WordsLaw, head_of}
use Rattle.words_law.specs.Pushes.{KeepsAll, KeepsHead, MayPush, PushesBound, SawAll, SawHead}
use Rattle.words_law.proofs.Noted.{in_cases, taken_append}
use Rattle.words_law.proofs.GoneSeats.{gone_same, gone_set}
use Rattle.words_law.proofs.Items.{items_keep, items_push, keeps_text, saw_text}
use Rattle.words_law.proofs.Law.{meets_both}

pub queue_has : (u : Ends) (z : Area) → HasPart (WordsLaw u z) (WholeLaw u) (λ v. v.0)
queue_has u z p views law = law.both.0

pub directory_has : (u : Ends) (z : Area) → HasPart (WordsLaw u z) (DirectoryLaw z) (λ v. v.1)
directory_has u z p views law = law.both.1

-- a spared step is no leave
no_leave : (owned : Owned) (own : OwnPart) (step : PlainAct) → IsSpared owned own step
    → (j : ℕ) → step ≢ act.Leave j
no_leave owned own step spared j e = subst (IsSpared owned own) e spared

-- what is read off all views, where one part of one view changes
module _ (views : List View) (n : ℕ) where
  abbrev old : View
  old = get_or views n gone

  queue_here : (w : QueueView) → queues (set views n (w, old.1)) ≡ set (queues views) n w
  queue_here w = map-set (λ (v : View). v.0) views n (w, old.1)

  directory_same : (w : QueueView) → directories (set views n (w, old.1)) ≡ directories views
  directory_same w =
      map-set (λ (v : View). v.1) views n (w, old.1)
      ∙ (ap (set (directories views) n) (sym (get_or-map (λ (v : View). v.1) views n gone))
      ∙ set-get_or (directories views) n directory.gone)

  pub directory_here : (w : DirectoryView)
      → directories (set views n (old.0, w)) ≡ set (directories views) n w
  directory_here w = map-set (λ (v : View). v.1) views n (old.0, w)

  pub queue_same : (w : DirectoryView) → queues (set views n (old.0, w)) ≡ queues views
  queue_same w =
      map-set (λ (v : View). v.0) views n (old.0, w)
      ∙ (ap (set (queues views) n) (sym (get_or-map (λ (v : View). v.0) views n gone))
      ∙ set-get_or (queues views) n queue.first_view)

  pub queue_at : queue.view_at (queues views) n ≡ old.0
  queue_at = get_or-map (λ (v : View). v.0) views n gone

  pub directory_at : directory.view_at (directories views) n ≡ old.1
  directory_at = get_or-map (λ (v : View). v.1) views n gone

-- what a seat may push has a text
may_text : (u : Ends) (z : Area) (p : Plain) (views : List View) (n : ℕ) (x : Item)
    → WordsLaw u z p views → MayPush (get_or views n gone) x
    → (text : Text) × HasText (directories views) x text
may_text u z p views n x law may =
    let ds = directories views in
    let at = sym (directory_at views n) in
    ⊎_elim
    (λ saw. saw_text z p ds n x law.both.1
    (subst (λ (v : DirectoryView). SawHead v x) at saw))
    (λ kept. keeps_text ds n x
    (subst (λ (v : DirectoryView). KeepsHead v x) at kept))
    may

pub queue_rest : (u : Ends) (z : Area)
    → KeepsRest (WordsLaw u z) (WholeLaw u) (λ v. v.0) gone (λ v w. (w, v.1))
    (IsSpared (directory_owned.owns z)) PushesBound
queue_rest u z p q views n step found w meets low free does bound kept =
    let law = meets.law in
    let qs = queues views in
    let ds = directories views in
    let v = get_or views n gone in
    let long = length-map views (λ (x : View). x.0) in
    let stay = no_leave (directory_owned.owns z) (own_part p n) step free in
    let new : (x : Item) → In x (taken_items w.pushed)
    → In x (taken_items (queue.view_at qs n).pushed) ⊎ ((text : Text) × HasText ds x text) =
    λ x here. ⊎_elim
    (λ old. inl (subst (λ (y : QueueView). In x (taken_items y.pushed)) (sym (queue_at views n)) old))
    (λ may. inr (may_text u z p views n x law may))
    (bound x here) in
    record {
      both = left_rest (WholeLaw u) (DirectoryLaw z) queue.first_view directory.gone
          (directory_owned.owns z) (foreign_keeps z) p q views n step found w
          (meets_both u z p views meets) low free does tt kept;
      items = subst (λ (l : List QueueView). ItemsHaveTexts l (directories (set views n (w, v.1))))
          (sym (queue_here views n w))
          (subst (λ (l : List DirectoryView). ItemsHaveTexts (set qs n w) l)
          (sym (directory_same views n w))
          (items_push qs ds n w (omega arith) new law.items));
      left = subst (Gone q) (sym (directory_same views n w))
          (gone_same p q ds (does_left p q n step found stay does) law.left);
    }

-- a view of the directory that keeps all, in its place
pub items_kept : (views : List View) (n : ℕ) (w : DirectoryView) → n < length views
    → KeepsAll (get_or views n gone) w → ItemsHaveTexts (queues views) (directories views)
    → let after = set views n ((get_or views n gone).0, w) in
    ItemsHaveTexts (queues after) (directories after)
items_kept views n w low more items =
    let qs = queues views in
    let ds = directories views in
    let v = get_or views n gone in
    let long = length-map views (λ (x : View). x.1) in
    let keeps : (e : Rope) → In e (directory.view_at ds n).kept → In e w.kept =
    λ e here. more e
    (subst (λ (y : DirectoryView). In e y.kept) (directory_at views n) here) in
    subst (λ (l : List QueueView). ItemsHaveTexts l (directories (set views n (v.0, w))))
    (sym (queue_same views n w))
    (subst (ItemsHaveTexts qs) (sym (directory_here views n w))
    (items_keep qs ds n w (omega arith) keeps items))

pub directory_rest : (u : Ends) (z : Area)
    → KeepsRest (WordsLaw u z) (DirectoryLaw z) (λ v. v.1) gone (λ v w. (v.0, w))
    (IsSpared (queue_owned.owns u)) KeepsAll
directory_rest u z p q views n step found w meets low free does more kept =
    let law = meets.law in
    let ds = directories views in
    let stay = no_leave (queue_owned.owns u) (own_part p n) step free in
    record {
      both = right_rest (WholeLaw u) (DirectoryLaw z) queue.first_view directory.gone
          (queue_owned.owns u) (whole_foreign u) p q views n step found w
          (meets_both u z p views meets) low free does tt kept;
      items = items_kept views n w low more law.items;
      left = subst (Gone q) (sym (directory_here views n w))
          (gone_same p q (set ds n w) (does_left p q n step found stay does)
          (gone_set p n ds w does.0.0 does.0.1 law.left));
    }

-- WHAT SUITS. Nothing is pushed, or one item that the seat may push
pub none_suits : (v : View) (w : QueueView) → w.pushed ≡ v.0.pushed → PushesBound v w
none_suits v w same x here = inl (subst (λ (l : List Taken). In x (taken_items l)) same here)

pub push_suits : (v : View) (w : QueueView) (e : Taken) → w.pushed ≡ v.0.pushed ++ e ∷ []
    → MayPush v e.item → PushesBound v w
push_suits v w e more may x here = ⊎_elim
    (λ old. inl old)
    (λ new. inr (⊎_elim (λ is. subst (MayPush v) (sym is) may) (λ none. absurd none) new))
    (in_cases x (taken_items v.0.pushed) (e.item ∷ [])
    (subst (In x) (taken_append v.0.pushed (e ∷ []))
    (subst (λ (l : List Taken). In x (taken_items l)) more here)))

-- what a seat may push stays so where the directory's view forgets nothing
pub may_push_stays : (v : View) (w : DirectoryView) (x : Item) → SawAll v w → KeepsAll v w
    → MayPush v x → MayPush (v.0, w) x
may_push_stays v w x saw kept may = ⊎_elim
    (λ s. inl (s.0, saw s.0 s.1, s.2, s.3))
    (λ k. inr (k.0, kept k.0 k.1, k.2, k.3))
    may

-- a head that the seat has seen in a cell, in the life in which it has it
pub seen_may_push : (own : OwnPart) (v : View) (x : Item) → HasSeen own v.1 (head_of x)
    → x.life ≡ life_in own (head_of x) → MayPush v x
seen_may_push own v x seen life = inl (_, seen.1, refl, sym life)

-- and one that it bound
pub bound_may_push : (v : View) (x : Item) (text : Text)
    → In (rope (head_of x) x.life text) v.1.kept → MayPush v x
bound_may_push v x text kept = inr (rope (head_of x) x.life text, kept, refl, refl)
