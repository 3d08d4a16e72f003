-- The law holds at the start, and is kept by calm and by foreign steps and where a seat leaves.
use Rattle.std.specs.List.{range_with_len}
use Rattle.std.proofs.Common.{◌≡◌, ◌≢◌, ⊎_elim, ℕ, List, [], get_or, set, map, refl, sym, ap, subst, ◌∙◌, arith}
use Rattle.std.proofs.lemmas.List.{get_or_past, length-map, map-set}
use Rattle.std.proofs.lemmas.List.FromFn.{length-map-range_with_len, get_or-map-range_with_len}
use Rattle.std.proofs.Math.ListN.{get_or-map}
use Rattle.std.proofs.lemmas.Bool.{cases_lt}
use Rattle.protocol_pairs.specs.plain_state.declared.act.PlainAct.{PlainAct}
use Rattle.protocol_pairs.specs.plain_state.declared.act.PlainAct.TheVariants as act
use Rattle.protocol_pairs.specs.plain_state.State.{Plain}
use Rattle.protocol_pairs.specs.plain_state.Steps.{Does}
use Rattle.protocol_pairs.specs.plain_protocol.Acts.{IsCalm, IsForeign}
use Rattle.protocol_pairs.specs.plain_protocol.Laws.{Meets, Starts, KeptByCalm, KeptByForeign, KeptByLeave}
use Rattle.protocol_pairs.specs.Parts.{Both}
use Rattle.protocol_pairs.specs.Both.{both_start, both_calm, both_foreign, both_leave}
use Rattle.queue_law.specs.declared.view.Taken.{Taken}
use Rattle.queue_law.specs.declared.view.View.{View as QueueView}
use Rattle.queue_law.specs.Views.{view_of}
use Rattle.queue_law.specs.Views as queue
use Rattle.queue_law.specs.Chain.{Ends}
use Rattle.queue_law.specs.Lists.{taken_items}
use Rattle.queue_law.specs.Law.{WholeLaw}
use Rattle.queue_law.specs.Owned as queue_owned
use Rattle.queue_law.proofs.Left.{does_left}
use Rattle.queue_law.proofs.Whole.{whole_calm, whole_foreign, whole_leave, whole_start}
use Rattle.directory_law.specs.declared.view.View.{View as DirectoryView}
use Rattle.directory_law.specs.Views.{In}
use Rattle.directory_law.specs.Views as directory
use Rattle.directory_law.specs.Cells.{Area}
use Rattle.directory_law.specs.Law.{DirectoryLaw}
use Rattle.directory_law.specs.Owned as directory_owned
use Rattle.directory_law.proofs.Start.{starts}
use Rattle.directory_law.proofs.Quiet.{calm_keeps}
use Rattle.directory_law.proofs.Foreign.{foreign_keeps}
use Rattle.words_law.specs.Views.{View, gone, queues, directories}
use Rattle.words_law.specs.Law.{WordsLaw, ItemsHaveTexts, Gone}
use Rattle.words_law.specs.Owned.{owns, first_view, join_directories, joined}
use Rattle.words_law.proofs.Joined.{directory_leave}
use Rattle.words_law.proofs.Items.{items_leave}
use Rattle.words_law.proofs.GoneSeats.{gone_leave, gone_same, gone_start}

pub meets_both : (u : Ends) (z : Area) (p : Plain) (views : List View)
    → Meets (WordsLaw u z) p views → Meets (Both (WholeLaw u) (DirectoryLaw z)) p views
meets_both u z p views meets =
    record { lawful = meets.lawful; count = meets.count; law = meets.law.both }

-- a step that keeps both laws with all views as they were, and isn't a leave
pub stays : (u : Ends) (z : Area) (p q : Plain) (n : ℕ) (step : PlainAct) (found : ℕ)
    (views : List View) → WordsLaw u z p views → ((j : ℕ) → step ≢ act.Leave j)
    → Does p n step found q → Both (WholeLaw u) (DirectoryLaw z) q views → WordsLaw u z q views
stays u z p q n step found views law stay does kept = record {
  both = kept;
  items = law.items;
  left = gone_same p q (directories views) (does_left p q n step found stay does) law.left;
}

pub words_calm : (u : Ends) (z : Area) → KeptByCalm (WordsLaw u z)
words_calm u z p q n step found views meets calm does =
    stays u z p q n step found views meets.law (λ j e. subst IsCalm e calm) does
    (both_calm (WholeLaw u) (DirectoryLaw z) (whole_calm u) (calm_keeps z) p q n step found views
    (meets_both u z p views meets) calm does)

pub words_foreign : (u : Ends) (z : Area) → KeptByForeign (WordsLaw u z) (owns u z)
words_foreign u z p q n step found views meets foreign does =
    stays u z p q n step found views meets.law (λ j e. subst (IsForeign (owns u z) p) e foreign) does
    (both_foreign (WholeLaw u) (DirectoryLaw z) (queue_owned.owns u) (directory_owned.owns z)
    (whole_foreign u) (foreign_keeps z) p q n step found views (meets_both u z p views meets) foreign
    does)

-- LEAVE
module _ {W : Type 0} (f : View → W) (join : W → W → W)
    (each : (v w : View) → f (joined v w) ≡ join (f v) (f w)) (views : List View) (j : ℕ) where
  -- what is read off the views after a leave
  left_lists : map f (set (set views 0 (joined (get_or views 0 gone) (get_or views j gone))) j gone)
      ≡ set (set (map f views) 0 (join (get_or (map f views) 0 (f gone))
      (get_or (map f views) j (f gone)))) j (f gone)
  left_lists =
      let one = joined (get_or views 0 gone) (get_or views j gone) in
      let root = get_or-map f views 0 gone in
      let leaver = get_or-map f views j gone in
      map-set f (set views 0 one) j gone
      ∙ ap (λ (l : List W). set l j (f gone))
      (map-set f views 0 one ∙ ap (set (map f views) 0)
      (each (get_or views 0 gone) (get_or views j gone)
      ∙ (ap (λ (v : W). join v (f (get_or views j gone))) (sym root)
      ∙ ap (λ (v : W). join (get_or (map f views) 0 (f gone)) v) (sym leaver))))

pub words_leave : (u : Ends) (z : Area) → KeptByLeave (WordsLaw u z) joined gone
words_leave u z p q j found views meets does =
    let law = meets.law in
    let count = meets.count in
    let there = does.1.2 in
    let qs = queues views in
    let ds = directories views in
    let lq = length-map views (λ (v : View). v.0) in
    let ld = length-map views (λ (v : View). v.1) in
    let eq = left_lists (λ (v : View). v.0) queue.joined (λ v w. refl) views j in
    let ed = left_lists (λ (v : View). v.1) join_directories (λ v w. refl) views j in
    let one = joined (get_or views 0 gone) (get_or views j gone) in
    let after = set (set views 0 one) j gone in
    record {
      both = both_leave (WholeLaw u) (DirectoryLaw z) queue.joined join_directories queue.first_view
          directory.gone (whole_leave u) (directory_leave z) p q j found views
          (meets_both u z p views meets) does;
      items = subst (λ (l : List QueueView). ItemsHaveTexts l (directories after)) (sym eq)
          (subst (λ (l : List DirectoryView). ItemsHaveTexts
          (set (set qs 0 (queue.joined (queue.view_at qs 0) (queue.view_at qs j))) j
          queue.first_view) l) (sym ed)
          (items_leave qs ds j (omega arith) (omega arith) does.1.1 law.items));
      left = subst (Gone q) (sym ed) (gone_leave p q j found ds (omega arith) does law.left);
    }

-- START: nothing was pushed
none_pushed : (u : Ends) (z : Area) (seats : ℕ) (n : ℕ)
    → (queue.view_at (queues (map (first_view u z) (range_with_len 0 seats))) n).pushed ≡ []
none_pushed u z seats n =
    let views = map (first_view u z) (range_with_len 0 seats) in
    let long = length-map-range_with_len (first_view u z) 0 seats in
    ap (λ (v : QueueView). v.pushed) (get_or-map (λ (v : View). v.0) views n gone)
    ∙ ⊎_elim
    (λ low. ap (λ (v : View). v.0.pushed)
    (get_or-map-range_with_len (first_view u z) 0 seats n n gone low (omega arith)))
    (λ past. ap (λ (v : View). v.0.pushed) (get_or_past views n gone (omega arith)))
    (cases_lt n seats)

pub words_start : (u : Ends) (z : Area) → Starts (WordsLaw u z) (first_view u z)
words_start u z seats slots cells weak_cells =
    let views = map (first_view u z) (range_with_len 0 seats) in
    let long = length-map-range_with_len (first_view u z) 0 seats in
    let ld = length-map views (λ (v : View). v.1) in
    record {
      both = both_start (WholeLaw u) (DirectoryLaw z) (view_of u.form) (directory_owned.first_view z)
          (whole_start u) (starts z) seats slots cells weak_cells;
      items = λ x was. absurd (subst (λ (l : List Taken). In x (taken_items l))
          (none_pushed u z seats was.0) was.1);
      left = gone_start seats slots cells weak_cells (directories views) (omega arith);
    }
