-- The steps of a scan, one after another, up to the last.
use Rattle.std.proofs.Common.{◌≡◌, ℕ, ◌+◌, ◌<◌, ◌≤◌, Bool, true, false, List, [], ◌∷◌, ◌++◌, inr, length, length-append, ap, sym, ◌∙◌, subst, arith}
use Rattle.std.specs.Prelude.{if◌then◌else◌}
use Rattle.std.proofs.lemmas.List.{map-append}
use Rattle.std.proofs.lemmas.Bool.Decides.{nat_tests}
use Rattle.core_promises.specs.core_events.declared.act.Act.TheVariants as act
use Rattle.core_promises.specs.core_events.declared.outcome.Outcome.{Outcome}
use Rattle.core_promises.specs.core_events.declared.outcome.Outcome.TheVariants as outcome
use Rattle.core_promises.specs.core_events.declared.shape.Shape.{Shape}
use Rattle.core_promises.specs.core_events.declared.view.CoreView.{CoreView}
use Rattle.core_promises.specs.core_events.declared.view.Move.{Move}
use Rattle.core_promises.specs.core_events.declared.view.Phase.TheVariants as phase
use Rattle.plain_state.specs.Ejection.{ejected, kept, ripened}
use Rattle.core_promises.specs.core_events.Steps.{IsIdle, all_seen, answer, is_last, moved}
use Rattle.core_promises.specs.core_events.Words.{announcements}
use Rattle.plain_state.proofs.Ejections.{split_length}
use Rattle.core_promises.proofs.Below.announce_slots_Staying.{few_kept}
use Rattle.acquire_retire.specs.Calls.{IsSameView, Steps, same_view}
use Rattle.acquire_retire.specs.Collecting.{Goes, Reads, Splits, move, read_by, scanned_by}
use Rattle.acquire_retire.specs.Domains.{DomainState}
use Rattle.acquire_retire.specs.Seats.{SeatState}
use Rattle.acquire_retire.proofs.Collects.{goes_append, goes_by, is_idle_after}

pub not_last : (z : Shape) (v : CoreView) → length v.seen + 1 < announcements z → is_last z v ≡ false
not_last z v more = grind (arith, nat_tests)

pub comes_last : (z : Shape) (v : CoreView) → length v.seen + 1 ≡ announcements z → is_last z v ≡ true
comes_last z v all = grind (arith, nat_tests)

-- what the seat has and answers after a word that isn't the last
abbrev read_one : ℕ → CoreView → CoreView × Outcome
read_one w v = (
  record v {
    phase = phase.Scan;
    seen = v.seen ++ w ∷ [];
    trail = v.trail ++ move act.Scan (outcome.Word w) ∷ [];
  },
  outcome.Word w,
)

-- and after the last one
abbrev read_last : ℕ → CoreView → CoreView × Outcome
read_last w v =
    let o = outcome.Split w (length (kept v.retired (all_seen w v)))
    (length (ejected v.retired (all_seen w v))) in (
      record v {
        phase = phase.Idle;
        seen = [];
        retired = kept v.retired (all_seen w v);
        owed = ejected v.retired (all_seen w v);
        ripe = ripened v.ripe v.dying (all_seen w v);
        trail = v.trail ++ move act.Scan o ∷ [];
      },
      o,
    )

scan_is : (z : Shape) (w : ℕ) (v : CoreView) (b : Bool) → is_last z v ≡ b
    → (moved z act.Scan w v, answer z act.Scan w v) ≡ (if b then read_last w v else read_one w v)
scan_is z w v true is = rw is
scan_is z w v false is = rw is

-- the outcome of the last word, and how many entries that leaves
record LastRead {V : Type 0} (b c : SeatState V) (o : Outcome) : Type 0 where
  pub word : ℕ
  pub go : ℕ
  pub answers : o ≡ outcome.Split word (length c.view.core.retired) go
  pub owed : length c.view.core.owed ≡ go
  pub retired : length c.view.core.retired + go ≡ length b.view.core.retired
  pub few : length c.view.core.retired ≤ length b.view.core.seen + 1
  pub phase : c.view.core.phase ≡ phase.Idle

module _ {P V : Type 0} {fits : List ℕ → Type 0} (d : DomainState P) where
  pub reads_more : (seen : List ℕ) (a b c : SeatState V) (o : Outcome) → Reads fits d seen a b
      → length seen + 1 < announcements d.shape → (step : Steps fits d same_view IsSameView act.Scan b c o)
      → Reads fits d (seen ++ step.word ∷ []) a c
  reads_more seen a b c o before more step =
      let w = step.word in
      let v = b.view.core in
      let reads = before.reads in
      let len : length v.seen ≡ length seen = ap length reads in
      let is = scan_is d.shape w v false (not_last d.shape v (omega arith)) in
      let core = step.told.core ∙ ap (λ (x : CoreView × Outcome). x.0) is in
      let answers = step.answers ∙ ap (λ (x : CoreView × Outcome). x.1) is in
      let one = goes_by d act.Scan (outcome.Word w) b c tt o answers step in
      record {
        goes =
            subst (λ (ms : List Move). Goes fits d ms a c)
            (sym (map-append (λ w. move act.Scan (outcome.Word w)) seen (w ∷ [])))
            (goes_append d (read_by seen) (move act.Scan (outcome.Word w) ∷ []) a b c before.goes
            one);
        reads =
            ap (λ (v : CoreView). v.seen) core ∙ ap (λ (xs : List ℕ). xs ++ w ∷ []) reads;
        may = inr (ap (λ (v : CoreView). v.phase) core);
        retired = ap (λ (v : CoreView). v.retired) core ∙ before.retired;
      }

  scan_ends : (b c : SeatState V) (o : Outcome) → is_last d.shape b.view.core ≡ true
      → Steps fits d same_view IsSameView act.Scan b c o → LastRead b c o
  scan_ends b c o last step =
      let w = step.word in
      let v = b.view.core in
      let is = scan_is d.shape w v true last in
      let core = step.told.core ∙ ap (λ (x : CoreView × Outcome). x.0) is in
      let answers = step.answers ∙ ap (λ (x : CoreView × Outcome). x.1) is in
      let stay = ap (λ (v : CoreView). length v.retired) core in
      let owed = ap (λ (v : CoreView). length v.owed) core in
      let go = length (ejected v.retired (all_seen w v)) in
      let split = split_length v.retired (all_seen w v) in
      let few = few_kept v.retired (v.seen ++ w ∷ []) in
      let more = length-append v.seen (w ∷ []) in
      record {
        word = w;
        go = go;
        answers = answers ∙ ap (λ n. outcome.Split w n go) (sym stay);
        owed = owed;
        retired = omega arith;
        few = omega arith;
        phase = ap (λ (v : CoreView). v.phase) core;
      }

  -- the seat has read all words but one, and then the last
  pub splits_by : (seen : List ℕ) (a b c : SeatState V) (o : Outcome) → IsIdle a.view.core
      → length seen + 1 ≡ announcements d.shape → Reads fits d seen a b
      → Steps fits d same_view IsSameView act.Scan b c o
      → (word stay go : ℕ) → o ≡ outcome.Split word stay go → Splits fits d a c go
  splits_by seen a b c o idle all before step word stay go is =
      let reads = before.reads in
      let len : length b.view.core.seen ≡ length seen = ap length reads in
      let ends = scan_ends b c o (comes_last d.shape b.view.core (omega arith)) step in
      let same : ends.go ≡ go = cc (ends.answers, is) in
      let o' = outcome.Split ends.word (length c.view.core.retired) ends.go in
      let goes = goes_append d (read_by seen) (move act.Scan o' ∷ []) a b c before.goes
      (goes_by d act.Scan o' b c tt o ends.answers step) in
      let had = ap length before.retired in
      let split = ends.retired in
      record {
        seen = seen;
        last = ends.word;
        all = all;
        goes =
            subst (λ n. Goes fits d (scanned_by seen ends.word (length c.view.core.retired) n) a c) same
            goes;
        idle = is_idle_after d (read_by seen ++ move act.Scan o' ∷ []) a c idle goes ends.phase;
        owed = ends.owed ∙ same;
        retired = omega arith;
        few = let most = ends.few in omega arith;
      }
