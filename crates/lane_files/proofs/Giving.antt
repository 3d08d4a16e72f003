-- References that are given up.
use Rattle.std.proofs.Common.{◌≡◌, inl, inr, ℕ, ◌+◌, ◌<◌, ◌≤◌, List, [], ◌∷◌, ◌++◌, refl, ap, ◌∙◌, arith}
use Rattle.std.specs.Prelude.{drop, length}
use Rattle.std.proofs.lemmas.List.{drop-append-le, map-append}
use Rattle.control_word.specs.plain_state.declared.slot.SlotId.{SlotId}
use Rattle.control_word.specs.plain_state.Lists.{times}
use Rattle.control_word.specs.core_events.Views.{without}
use Rattle.control_word.proofs.Below.core_law_Kit.{one_same, times_append, times_cons, times_none, times_without}
use Rattle.control_word.specs.counted_handles.Handles.{Handle}
use Rattle.control_word.specs.acquire_retire.Seats.{SeatState}
use Rattle.words_protocol.specs.words_law.Views.{View}
use Rattle.lane_files.specs.Ready.{Owns}
use Rattle.lane_files.proofs.SeatsKept.{owns_then}
use Rattle.lane_files.specs.Keeping.{GivesUp, slots_of}

pub gives_none : (a : SeatState View) → GivesUp [] a a
gives_none a = record {
  strongly = λ x. let z = times_none x in omega arith;
  weakly = λ x. refl;
  same = refl;
  knows = λ x was is. refl;
  scans = omega arith;
}

-- what was owned, by what is left of it
gives_by : (os gone : List SlotId) (a b : SeatState View)
    → ((x : SlotId) → times x os + times x gone ≡ times x a.view.core.owned) → Owns os a b
    → GivesUp gone a b
gives_by os gone a b sum owns = record {
  strongly = λ x. let p = owns.strongly x in let q = sum x in omega arith;
  weakly = owns.weakly;
  same = owns.same;
  knows = owns.knows;
  scans = owns.scans;
}

owns_given : (os gone : List SlotId) (a b : SeatState View)
    → ((x : SlotId) → times x os + times x gone ≡ times x a.view.core.owned) → GivesUp gone a b
    → Owns os a b
owns_given os gone a b sum gives = record {
  strongly = λ x. let p = gives.strongly x in let q = sum x in omega arith;
  weakly = gives.weakly;
  same = gives.same;
  knows = gives.knows;
  scans = gives.scans;
}

-- one more, of those that are left
pub gives_next : (h : Handle) (gone : List Handle) (a b c : SeatState View)
    → GivesUp (slots_of gone) a b → 0 < times h.slot b.view.core.owned
    → Owns (without h.slot b.view.core.owned) b c → GivesUp (slots_of (h ∷ gone)) a c
gives_next h gone a b c first own second =
    gives_by (without h.slot b.view.core.owned) (slots_of (h ∷ gone)) a c
    (λ x. let p = first.strongly x in let q = times_cons x h.slot (slots_of gone) in
    let r = times_without x h.slot b.view.core.owned own in omega arith)
    (owns_then a b c
    (owns_given b.view.core.owned (slots_of gone) a b first.strongly first) second
    (λ x. let p = first.strongly x in inr
    (let q = second.strongly x in let r = times_without x h.slot b.view.core.owned own in omega arith)))

-- of the references behind the first ones, the last of the front is owned
module _ (first : ℕ) (all front : List Handle) (h : Handle) (gone : List Handle)
    (is : all ≡ front ++ h ∷ gone) (few : first ≤ length front) where
  rest : (x : SlotId)
      → times x (slots_of (drop first all))
      ≡ times x (slots_of (drop first front)) + times x (slots_of (h ∷ gone))
  rest x =
      ap (λ (hs : List Handle). times x (slots_of hs))
      (ap (drop first) is ∙ drop-append-le first front (h ∷ gone) few)
      ∙ ap (times x) (map-append (λ (k : Handle). k.slot) (drop first front) (h ∷ gone))
      ∙ times_append x (slots_of (drop first front)) (slots_of (h ∷ gone))

  pub owned_next : (a b : SeatState View) → GivesUp (slots_of gone) a b
      → times h.slot (slots_of (drop first all)) ≤ times h.slot a.view.core.owned
      → 0 < times h.slot b.view.core.owned
  owned_next a b gives more =
      let r = rest h.slot in let c = times_cons h.slot h.slot (slots_of gone) in
      let o = one_same h.slot h.slot refl in let g = gives.strongly h.slot in omega (arith, more)

-- what was gained, and given up again
pub given_back : (gone : List SlotId) (a b c : SeatState View)
    → Owns (a.view.core.owned ++ gone) a b → GivesUp gone b c → Owns a.view.core.owned a c
given_back gone a b c first gives =
    let sum : (x : SlotId) → times x a.view.core.owned + times x gone ≡ times x b.view.core.owned
    = λ x. let p = first.strongly x in let q = times_append x a.view.core.owned gone in omega arith in
    owns_then a b c first (owns_given a.view.core.owned gone b c sum gives)
    (λ x. inl (let p = sum x in omega arith))
