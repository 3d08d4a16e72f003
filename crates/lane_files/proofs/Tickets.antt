-- Files of tickets, one after the other.
use Rattle.std.proofs.Common.{◌≡◌, ℕ, ◌+◌, ◌<◌, ◌≤◌, Bool, true, false, List, [], ◌∷◌, ◌++◌, refl, sym, ap, subst, ◌∙◌, arith, append_assoc}
use Rattle.std.specs.Prelude.{cond, length, map}
use Rattle.std.specs.List.{filter}
use Rattle.std.proofs.lemmas.List.{append-nil, length-append, map-append}
use Rattle.std.proofs.lemmas.List.Concat.{flat_map-append}
use Rattle.std.proofs.lemmas.List.Elements.{filter-append}
use Rattle.control_word.specs.plain_state.declared.slot.SlotId.{SlotId}
use Rattle.control_word.specs.plain_state.Lists.{times}
use Rattle.control_word.proofs.Below.core_law_Kit.{times_append}
use Rattle.control_word.specs.counted_handles.Handles.{Handle}
use Rattle.control_word.specs.domain_rule.Views.{object_in}
use Rattle.control_word.specs.acquire_retire.Domains.{DomainState}
use Rattle.control_word.specs.acquire_retire.Seats.{SeatState}
use Rattle.words_protocol.specs.declared.law.WordsLaw.{WordsLaw}
use Rattle.words_protocol.specs.words_law.Known.{ForgetsNothing}
use Rattle.words_protocol.specs.words_law.Views.{View}
use Rattle.lane_files.specs.Passed.{Takes}
use Rattle.lane_files.specs.lane_work.declared.lane.Lane.{Lane}
use Rattle.lane_files.specs.lane_work.declared.work.Work.{Work}
use Rattle.lane_files.specs.declared.refusal.FileError.{FileError}
use Rattle.lane_files.specs.Counting.{CountsFile, KeepsRecords, StopsInFile}
use Rattle.lane_files.specs.Keeping.{slots_of}
use Rattle.lane_files.specs.Lanes.{CountsTickets, KeepsFiles, OwnsAfter}
use Rattle.lane_files.specs.Makes.{makes_for}
use Rattle.lane_files.specs.Scans.{scans_of}
use Rattle.lane_files.specs.Work.{is_last, kept_files, words_of, words_of_all}
use Rattle.lane_files.proofs.Counted.{takes_after}
use Rattle.lane_files.proofs.Drawn.{after_as, after_then}
use Rattle.lane_files.proofs.Making.{makes_both}
use Rattle.lane_files.proofs.Records.{knows_each_on}

-- KEPT FILES, whose objects the seat has all the time
pub keeps_records_on : (words : List (List ℕ)) (kept : List SlotId) (a b : SeatState View)
    → ForgetsNothing a.view.client.1 b.view.client.1
    → ((s : SlotId) → 0 < times s kept → object_in b.view s ≡ object_in a.view s)
    → KeepsRecords words kept a → KeepsRecords words kept b
keeps_records_on words kept a b more same keeps = record {
  slots = keeps.slots;
  knows = knows_each_on words keeps.slots a b more
      (λ s some. same s (let o = keeps.once s some in omega arith)) keeps.knows;
  once = keeps.once;
  only = keeps.only;
}

pub keeps_files_on : (files : List (List (List ℕ))) (kept : List SlotId) (a b : SeatState View)
    → ForgetsNothing a.view.client.1 b.view.client.1
    → ((s : SlotId) → 0 < times s kept → object_in b.view s ≡ object_in a.view s)
    → KeepsFiles files kept a → KeepsFiles files kept b
keeps_files_on [] kept a b more same keeps = keeps
keeps_files_on (words ∷ files) kept a b more same (first, others, records, rest, is) = (
  first,
  others,
  keeps_records_on words first a b more
      (λ s some. same s (let p = ap (times s) is in let q = times_append s first others in
      omega (arith, some))) records,
  keeps_files_on files others a b more
      (λ s some. same s (let p = ap (times s) is in let q = times_append s first others in
      omega (arith, some))) rest,
  is,
)

pub keeps_files_both : (files more : List (List (List ℕ))) (kept others : List SlotId)
    (seat : SeatState View) → KeepsFiles files kept seat → KeepsFiles more others seat
    → KeepsFiles (files ++ more) (kept ++ others) seat
keeps_files_both [] more kept others seat first second =
    subst (λ ss. KeepsFiles more ss seat) (ap (λ ss. ss ++ others) (sym first)) second
keeps_files_both (words ∷ files) more kept others seat (own, rest, records, keeps, is) second = (
  own,
  rest ++ others,
  records,
  keeps_files_both files more rest others seat keeps second,
  ap (λ ss. ss ++ others) is ∙ append_assoc own rest others,
)

-- TICKETS
pub words_both : (work : Work) (ts us : List ℕ)
    → words_of_all work (ts ++ us) ≡ words_of_all work ts ++ words_of_all work us
unfolding words_of_all
words_both work ts us = flat_map-append (words_of work) ts us

files_both : (work : Work) (ts us : List ℕ)
    → kept_files work (ts ++ us) ≡ kept_files work ts ++ kept_files work us
files_both work ts us =
    ap (map (words_of work)) (filter-append (is_last work) ts us)
    ∙ map-append (words_of work) (filter (is_last work) ts) (filter (is_last work) us)

words_none : (work : Work) → words_of_all work [] ≡ []
unfolding words_of_all
words_none work = refl

pub words_one : (work : Work) (t : ℕ) → words_of_all work (t ∷ []) ≡ words_of work t
unfolding words_of_all
words_one work t = append-nil (words_of work t)

-- no ticket
pub tickets_none : (work : Work) (a b : SeatState View) (lane : Lane)
    → Takes [] 0 a.view.client b.view.client lane.tally lane.tally
    → OwnsAfter a.view.core.owned a b → b.view.core.makes ≡ a.view.core.makes
    → CountsTickets work [] a b lane lane
tickets_none work a b lane takes owns makes = record {
  taken = 0;
  most = omega arith;
  takes = subst (λ ws. Takes ws 0 a.view.client b.view.client lane.tally lane.tally)
      (sym (words_none work)) takes;
  more = [];
  kept = sym (append-nil lane.keeper.kept.items);
  records = refl;
  owns = after_as (a.view.core.owned ++ []) a b owns
      (λ x. ap (times x) (sym (append-nil a.view.core.owned)));
  makes = omega (arith, makes);
  scans = let e = ap length (words_none work) in let s = owns.scans in omega arith;
}

-- one file, whose records are kept
module _ (work : Work) (t : ℕ) (a b c : SeatState View) (la lb lc : Lane)
    (counts : CountsFile (words_of work t) a b la lb) where
  files_of : (x : Bool) → is_last work t ≡ x
      → kept_files work (t ∷ []) ≡ cond x (words_of work t ∷ []) []
  files_of x is = ap (λ (b : Bool). map (words_of work) (cond b (t ∷ []) [])) is ∙ mapped x
    where
      mapped : (y : Bool)
          → map (words_of work) (cond y (t ∷ []) []) ≡ cond y (words_of work t ∷ []) []
      mapped true = refl
      mapped false = refl

  takes_one : Takes (words_of_all work (t ∷ [])) counts.taken a.view.client b.view.client la.tally
      lb.tally
  takes_one = subst (λ ws. Takes ws counts.taken a.view.client b.view.client la.tally lb.tally)
      (sym (words_one work t)) counts.takes

  most_one : counts.taken ≤ length (words_of_all work (t ∷ []))
  most_one = let m = counts.most in let e = ap length (words_one work t) in omega arith

  makes_one : b.view.core.makes ≤ a.view.core.makes + makes_for (words_of_all work (t ∷ []))
  makes_one = let m = counts.makes in let e = ap makes_for (words_one work t) in omega arith

  scans_one : scans_of a + length (words_of_all work (t ∷ [])) ≤ scans_of b
  scans_one = let s = counts.scans in let e = ap length (words_one work t) in omega arith

  pub ticket_kept : OwnsAfter (a.view.core.owned ++ slots_of counts.more) a b
      → is_last work t ≡ true → CountsTickets work (t ∷ []) a b la lb
  ticket_kept owns is = record {
    taken = counts.taken;
    most = most_one;
    takes = takes_one;
    more = counts.more;
    kept = counts.kept;
    records = subst (λ fs. KeepsFiles fs (slots_of counts.more) b) (sym (files_of true is))
        (slots_of counts.more, [], counts.records, refl, sym (append-nil (slots_of counts.more)));
    owns = owns;
    makes = makes_one;
    scans = scans_one;
  }

  pub ticket_given : OwnsAfter a.view.core.owned a c → is_last work t ≡ false
      → c.view.client ≡ b.view.client → lc.tally ≡ lb.tally
      → lc.keeper.kept.items ≡ la.keeper.kept.items
      → c.view.core.makes ≡ b.view.core.makes → scans_of b ≤ scans_of c
      → CountsTickets work (t ∷ []) a c la lc
  ticket_given owns is view tally kept makes scans = record {
    taken = counts.taken;
    most = most_one;
    takes = subst (λ ts. Takes (words_of_all work (t ∷ [])) counts.taken a.view.client c.view.client
        la.tally ts) (sym tally)
        (subst (λ (v : View). Takes (words_of_all work (t ∷ [])) counts.taken a.view.client v
        la.tally lb.tally) (sym view) takes_one);
    more = [];
    kept = kept ∙ sym (append-nil la.keeper.kept.items);
    records = subst (λ fs. KeepsFiles fs [] c) (sym (files_of false is)) refl;
    owns = after_as (a.view.core.owned ++ []) a c owns
        (λ x. ap (times x) (sym (append-nil a.view.core.owned)));
    makes = let m = makes_one in omega (arith, makes);
    scans = let s = scans_one in omega (arith, scans);
  }

-- one after the other
module _ (work : Work) (ts us : List ℕ) (a b c : SeatState View) (la lb lc : Lane)
    (first : CountsTickets work ts a b la lb) (second : CountsTickets work us b c lb lc) where
  had : (x : SlotId) → times x a.view.core.owned + times x (slots_of first.more)
      ≡ times x b.view.core.owned
  had x = let p = first.owns.strongly x in
      let q = times_append x a.view.core.owned (slots_of first.more) in omega arith

  has_now : (x : SlotId) → times x b.view.core.owned + times x (slots_of second.more)
      ≡ times x c.view.core.owned
  has_now x = let p = second.owns.strongly x in
      let q = times_append x b.view.core.owned (slots_of second.more) in omega arith

  abbrev all_more : List Handle
  all_more = first.more ++ second.more

  all_slots : slots_of all_more ≡ slots_of first.more ++ slots_of second.more
  all_slots = map-append (λ (h : Handle). h.slot) first.more second.more

  keeps : KeepsFiles (kept_files work ts ++ kept_files work us)
      (slots_of first.more ++ slots_of second.more) c
  keeps = keeps_files_both (kept_files work ts) (kept_files work us) (slots_of first.more)
      (slots_of second.more) c
      (keeps_files_on (kept_files work ts) (slots_of first.more) b c second.takes.counts.more
      (λ s some. second.owns.knows s (let p = had s in omega (arith, some))
      (let p = had s in let q = has_now s in omega (arith, some))) first.records)
      second.records

  pub tickets_then : CountsTickets work (ts ++ us) a c la lc
  tickets_then = record {
    taken = first.taken + second.taken;
    most = let p = ap length (words_both work ts us) in
        let q = length-append (words_of_all work ts) (words_of_all work us) in
        let m = first.most in let n = second.most in omega arith;
    takes = subst (λ ws. Takes ws (first.taken + second.taken) a.view.client c.view.client la.tally
        lc.tally) (sym (words_both work ts us))
        (takes_after (words_of_all work ts) (words_of_all work us) first.taken second.taken
        a.view.client b.view.client c.view.client la.tally lb.tally lc.tally first.takes second.takes);
    more = all_more;
    kept = second.kept ∙ ap (λ hs. hs ++ second.more) first.kept
        ∙ append_assoc la.keeper.kept.items first.more second.more;
    records = subst (λ ss. KeepsFiles (kept_files work (ts ++ us)) ss c) (sym all_slots)
        (subst (λ fs. KeepsFiles fs (slots_of first.more ++ slots_of second.more) c)
        (sym (files_both work ts us)) keeps);
    owns = after_as (a.view.core.owned ++ slots_of all_more) a c
        (after_then a b c first.owns second.owns (λ x. let p = had x in omega arith))
        (λ x. let p = had x in let q = times_append x b.view.core.owned (slots_of second.more) in
        let r = ap (times x) (ap (λ ss. a.view.core.owned ++ ss) all_slots) in
        let u = times_append x a.view.core.owned (slots_of first.more ++ slots_of second.more) in
        let v = times_append x (slots_of first.more) (slots_of second.more) in omega arith);
    makes = let m = first.makes in let n = second.makes in
        let e = ap makes_for (words_both work ts us) in
        let b = makes_both (words_of_all work ts) (words_of_all work us) in omega arith;
    scans = let p = ap length (words_both work ts us) in
        let q = length-append (words_of_all work ts) (words_of_all work us) in
        let m = first.scans in let n = second.scans in omega arith;
  }

-- a file by its words
pub stops_as : {fits : List ℕ → Type 0} {ws us : List (List ℕ)} (d : DomainState WordsLaw)
    (error : FileError) (a b : SeatState View) (la lb : Lane) → ws ≡ us
    → StopsInFile fits d ws error a b la lb → StopsInFile fits d us error a b la lb
stops_as {fits = fits} d error a b la lb same stops =
    subst (λ words. StopsInFile fits d words error a b la lb) same stops
