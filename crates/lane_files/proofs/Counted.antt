-- One piece more of a file.
use Rattle.std.proofs.Common.{◌≡◌, inl, ℕ, ◌+◌, ◌<◌, ◌≤◌, Bool, true, false, List, [], ◌∷◌, ◌++◌, refl, sym, ap, subst, ◌∙◌, arith, append_assoc}
use Rattle.std.specs.Prelude.{cond, length, nat_lt}
use Rattle.std.proofs.lemmas.Bool.{ltb-true}
use Rattle.std.proofs.lemmas.List.{append-nil, length-append, map-append}
use Rattle.control_word.specs.plain_state.declared.slot.SlotId.{SlotId}
use Rattle.control_word.specs.plain_state.Lists.{times}
use Rattle.control_word.proofs.Below.core_law_Kit.{times_append, times_none}
use Rattle.control_word.specs.counted_handles.Handles.{Handle}
use Rattle.control_word.specs.acquire_retire.Domains.{DomainState}
use Rattle.control_word.specs.acquire_retire.Seats.{SeatState}
use Rattle.words_protocol.specs.declared.law.WordsLaw.{WordsLaw}
use Rattle.words_protocol.specs.words_law.Views.{View}
use Rattle.lane_files.specs.Passed.{Takes, UsesInterns}
use Rattle.lane_files.proofs.PiecesCounted.{counts_then, tallies_then, takes_none}
use Rattle.lane_files.proofs.SeatsKept.{owns_as, owns_none, owns_then, uses_none, uses_then}
use Rattle.lane_files.specs.lane_work.declared.lane.Lane.{Lane}
use Rattle.lane_files.specs.Counting.{CountsFile, IsWhyStopped, KeepsRecords}
use Rattle.lane_files.specs.declared.refusal.FileError.{FileError}
use Rattle.lane_files.specs.declared.refusal.FileError.TheVariants as refused
use Rattle.lane_files.specs.Keeping.{has, slots_of}
use Rattle.lane_files.specs.Next.{CountsNext}
use Rattle.lane_files.proofs.Making.{makes_more, makes_none}
use Rattle.lane_files.proofs.Records.{keeps_more, keeps_none, marks_more}

-- pushes and pops after others
pub takes_after : (us ws : List (List ℕ)) (m n : ℕ) (u v w : View) (r s t : List (List ℕ × ℕ))
    → Takes us m u v r s → Takes ws n v w s t → Takes (us ++ ws) (m + n) u w r t
takes_after us ws m n u v w r s t first second = record {
  words = first.words ++ second.words;
  number = let a = first.number in let b = second.number in
      let c = length-append first.words second.words in omega arith;
  counts = counts_then us first.words ws second.words u v w first.counts second.counts;
  tallies = tallies_then first.words second.words r s t first.tallies second.tallies;
}

-- nothing is counted yet
counts_nothing : (a : SeatState View) (before after : Lane) → after.tally ≡ before.tally
    → after.keeper.kept.items ≡ before.keeper.kept.items → CountsFile [] a a before after
counts_nothing a before after tally kept = record {
  taken = 0;
  most = omega arith;
  takes = subst (λ t. Takes [] 0 a.view.client a.view.client before.tally t) (sym tally)
      (takes_none a.view.client before.tally);
  more = [];
  kept = kept ∙ sym (append-nil before.keeper.kept.items);
  records = keeps_none a;
  owns = owns_as (a.view.core.owned ++ []) a a (owns_none a)
      (λ x. ap (times x) (sym (append-nil a.view.core.owned)));
  interns = uses_none a.view.client a.view.client refl;
  makes = let n = makes_none in omega arith;
  scans = omega arith;
}

-- so many words are counted, and the marks are those of what is kept
abbrev pub IsCounted : List (List ℕ) → SeatState View → SeatState View → Lane → Lane → Type 0
IsCounted words old new before after =
    (done : CountsFile words old new before after)
    × ((s : SlotId) → has after.keeper s ≡ nat_lt 0 (times s (slots_of done.more)))

pub counted_none : (a : SeatState View) (before after : Lane) → after.tally ≡ before.tally
    → after.keeper.kept.items ≡ before.keeper.kept.items
    → ((s : SlotId) → has after.keeper s ≡ false) → IsCounted [] a a before after
unfolding counts_nothing
counted_none a before after tally kept none =
    (counts_nothing a before after tally kept, λ s. none s ∙ sym (ap (nat_lt 0) (times_none s)))

at_most : (one : Bool) → cond one 1 0 ≤ 1
at_most true = omega arith
at_most false = omega arith

module _ (ws : List (List ℕ)) (w : List ℕ) (a b c : SeatState View) (la lb lc : Lane)
    (so_far : CountsFile ws a b la lb) (next : CountsNext w b c lb lc)
    (marks : (s : SlotId) → has lb.keeper s ≡ nat_lt 0 (times s (slots_of so_far.more))) where
  abbrev all_more : List Handle
  all_more = so_far.more ++ next.more

  all_slots : slots_of all_more ≡ slots_of so_far.more ++ slots_of next.more
  all_slots = map-append (λ (h : Handle). h.slot) so_far.more next.more

  had : (x : SlotId) → times x a.view.core.owned + times x (slots_of so_far.more)
      ≡ times x b.view.core.owned
  had x = let p = so_far.owns.strongly x in
      let q = times_append x a.view.core.owned (slots_of so_far.more) in omega arith

  has_now : (x : SlotId) → times x b.view.core.owned + times x (slots_of next.more)
      ≡ times x c.view.core.owned
  has_now x = let p = next.owns.strongly x in
      let q = times_append x b.view.core.owned (slots_of next.more) in omega arith

  counts_more : CountsFile (ws ++ w ∷ []) a c la lc
  counts_more = record {
    taken = so_far.taken + cond next.one 1 0;
    most = let l = length-append ws (w ∷ []) in let m = so_far.most in let o = at_most next.one in
        omega arith;
    takes = takes_after ws (w ∷ []) so_far.taken (cond next.one 1 0) a.view.client b.view.client
        c.view.client la.tally lb.tally lc.tally so_far.takes next.takes;
    more = all_more;
    kept = next.kept ∙ ap (λ hs. hs ++ next.more) so_far.kept
        ∙ append_assoc la.keeper.kept.items so_far.more next.more;
    records = subst (λ ss. KeepsRecords (ws ++ w ∷ []) ss c) (sym all_slots)
        (keeps_more ws w (slots_of so_far.more) next.handle next.more b c so_far.records
        next.takes.counts.more
        (λ s some. next.owns.knows s
        (let p = had s in omega (arith, some)) (let p = had s in let q = has_now s in omega (arith, some)))
        next.knows (has lb.keeper next.handle.slot) next.is (marks next.handle.slot));
    owns = owns_as (a.view.core.owned ++ slots_of all_more) a c
        (owns_then a b c so_far.owns next.owns (λ x. inl (let p = had x in omega arith)))
        (λ x. let p = had x in let q = times_append x b.view.core.owned (slots_of next.more) in
        let r = ap (times x) (ap (λ ss. a.view.core.owned ++ ss) all_slots) in
        let u = times_append x a.view.core.owned (slots_of so_far.more ++ slots_of next.more) in
        let v = times_append x (slots_of so_far.more) (slots_of next.more) in omega arith);
    interns = subst (λ n. UsesInterns n a.view.client c.view.client)
        (sym (length-append ws (w ∷ [])))
        (uses_then (length ws) 1 a.view.client b.view.client c.view.client so_far.interns next.interns);
    makes = let m = makes_more ws w in let f = so_far.makes in let n = next.makes in omega arith;
    scans = let l = length-append ws (w ∷ []) in let f = so_far.scans in let n = next.scans in
        omega arith;
  }

  marks_on : (s : SlotId) → has lc.keeper s ≡ nat_lt 0 (times s (slots_of all_more))
  marks_on s = subst (λ ss. has lc.keeper s ≡ nat_lt 0 (times s ss)) (sym all_slots)
      (marks_more ws w (slots_of so_far.more) next.handle next.more b c so_far.records
      next.takes.counts.more
      (λ t some. next.owns.knows t
      (let p = had t in omega (arith, some)) (let p = had t in let q = has_now t in omega (arith, some)))
      next.knows (has lb.keeper next.handle.slot) next.is (marks next.handle.slot)
      (has lb.keeper s) (has lc.keeper s) s (marks s) (next.marks s))

  pub counts_on : IsCounted (ws ++ w ∷ []) a c la lc
  unfolding counts_more
  counts_on = (counts_more, marks_on)

-- the same of a lane that has begun a piece
pub begun : (w : List ℕ) (b c : SeatState View) (lane : Lane) (turn : ℕ) (lc : Lane)
    → CountsNext w b c (record lane { turn = turn }) lc → CountsNext w b c lane lc
begun w b c lane turn lc next = record {
  one = next.one;
  takes = next.takes;
  handle = next.handle;
  knows = next.knows;
  more = next.more;
  is = next.is;
  kept = next.kept;
  marks = next.marks;
  owns = next.owns;
  interns = next.interns;
  makes = next.makes;
  scans = next.scans;
}

pub stopped_begun : (fits : List ℕ → Type 0) (d : DomainState WordsLaw) (w : List ℕ) (error : FileError)
    (b c : SeatState View) (lane : Lane) (turn : ℕ) (lc : Lane)
    → IsWhyStopped fits d w error b c (record lane { turn = turn }) lc
    → IsWhyStopped fits d w error b c lane lc
stopped_begun fits d w (refused.Piece error) b c lane turn lc why = why
stopped_begun fits d w refused.OutOfMemory b c lane turn lc why = why

-- what is marked is owned
pub held_by : (ws : List (List ℕ)) (a b : SeatState View) (la lb : Lane)
    (so_far : CountsFile ws a b la lb)
    → ((s : SlotId) → has lb.keeper s ≡ nat_lt 0 (times s (slots_of so_far.more)))
    → (s : SlotId) → has lb.keeper s ≡ true → 0 < times s b.view.core.owned
held_by ws a b la lb so_far marks s is =
    let some = ltb-true 0 (times s (slots_of so_far.more)) (sym (marks s) ∙ is) in
    let p = so_far.owns.strongly s in
    let q = times_append s a.view.core.owned (slots_of so_far.more) in omega (arith, some)
