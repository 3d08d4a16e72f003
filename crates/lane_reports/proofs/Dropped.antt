-- References that are given up, the first one first.
use Rattle.std.proofs.Common.{◌≡◌, ◌+◌, ◌<◌, ◌≤◌, List, [], ◌∷◌, ◌++◌, length, refl, ap, sym, ◌∙◌, subst, arith}
use Rattle.std.proofs.lemmas.List.{map-append}
use Rattle.law_lesson.specs.plain_state.declared.slot.SlotId.{SlotId}
use Rattle.law_lesson.specs.plain_state.Lists.{times}
use Rattle.domain_audit.specs.core_events.declared.view.CoreView.{CoreView}
use Rattle.domain_audit.specs.core_events.Views.{without}
use Rattle.domain_audit.proofs.Below.core_law_Kit.{one_same, times_append, times_cons, times_none}
use Rattle.domain_audit.specs.counted_handles.Handles.{Handle}
use Rattle.domain_audit.specs.acquire_retire.Seats.{SeatState}
use Rattle.domain_audit.specs.domain_rule.Views.{IsAlone}
use Rattle.words_rest.specs.words_law.Views.{View}
use Rattle.lane_domain.specs.lane_files.Ready.{Owns}
use Rattle.lane_domain.specs.lane_files.Keeping.{GivesUp, slots_of}
use Rattle.lane_domain.proofs.Below.lane_files_Giving.{gives_next}

times_both : (x : SlotId) (xs ys : List Handle)
    → times x (slots_of (xs ++ ys)) ≡ times x (slots_of xs) + times x (slots_of ys)
times_both x xs ys =
    ap (times x) (map-append (λ (h : Handle). h.slot) xs ys)
    ∙ times_append x (slots_of xs) (slots_of ys)

module _ (all gone left rest : List Handle) (h : Handle) (is : gone ++ left ≡ all)
    (next : left ≡ h ∷ rest) (a b : SeatState View) (gives : GivesUp (slots_of gone) a b)
    (own : (s : SlotId) → times s (slots_of all) ≤ times s a.view.core.owned) where
  -- the next one is owned
  pub next_owned : 0 < times h.slot b.view.core.owned
  next_owned =
      let sum = ap (λ (hs : List Handle). times h.slot (slots_of hs)) (sym is) in
      let split = times_both h.slot gone left in
      let first = ap (λ (hs : List Handle). times h.slot (slots_of hs)) next in
      let cons = times_cons h.slot h.slot (slots_of rest) in
      let one = one_same h.slot h.slot refl in
      let most = own h.slot in let had = gives.strongly h.slot in
      omega (arith, sum, split, first, cons, one, most, had)

  -- and given up
  pub gives_more : (c : SeatState View) → Owns (without h.slot b.view.core.owned) b c
      → GivesUp (slots_of (gone ++ h ∷ [])) a c
  gives_more c drops =
      let more = gives_next h gone a b c gives next_owned drops in
      record {
        strongly = λ x.
            let p = more.strongly x in let q = times_both x gone (h ∷ []) in
            let r = times_cons x h.slot (slots_of gone) in let s = times_cons x h.slot [] in
            let n = times_none x in
            omega (arith, p, q, r, s, n);
        weakly = more.weakly;
        same = more.same;
        knows = more.knows;
        scans = more.scans;
      }

-- what a seat has beside its references is as it was
pub given_alone : (gone : List SlotId) (a b : SeatState View) → GivesUp gone a b
    → IsAlone a.view → IsAlone b.view
given_alone gone a b gives alone =
    subst (λ (v : CoreView). (v.seat ≡ 0) × (length v.left_seats + 1 ≡ v.shape.seats))
    (sym gives.same) alone
