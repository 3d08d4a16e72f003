-- What the seat owns after one piece more.
use Rattle.std.proofs.Common.{◌≡◌, inl, ℕ, ◌<◌, Bool, true, false, List, [], ◌∷◌, ◌++◌, refl, ap, ◌∙◌, arith}
use Rattle.std.specs.Prelude.{cond}
use Rattle.control_word.specs.plain_state.declared.slot.SlotId.{SlotId}
use Rattle.control_word.specs.plain_state.Lists.{times}
use Rattle.control_word.specs.core_events.Views.{without}
use Rattle.control_word.specs.core_events.Counts.{one}
use Rattle.control_word.proofs.Below.core_law_Kit.{one_same, times_append, times_push, times_without}
use Rattle.control_word.specs.counted_handles.Handles.{Handle}
use Rattle.control_word.specs.acquire_retire.Seats.{SeatState}
use Rattle.weak_intern.specs.Knowing.{KnowsRecord}
use Rattle.words_protocol.specs.words_law.Views.{View}
use Rattle.lane_files.specs.Ready.{Owns}
use Rattle.lane_files.proofs.Copied.{knows_on}
use Rattle.lane_files.proofs.SeatsKept.{owns_as, owns_on, owns_then}
use Rattle.lane_files.proofs.Offered.{texts}
use Rattle.lane_files.specs.Keeping.{slots_of}
use Rattle.lane_files.proofs.Records.{times_if}

module _ (h : Handle) (os : List SlotId) (more : List Handle) (b m k c : SeatState View)
    (first : Owns (os ++ h.slot ∷ []) b m) (same : (x : SlotId) → times x os ≡ times x b.view.core.owned)
    (keeps : Owns (without h.slot m.view.core.owned ++ slots_of more) m k)
    (tidies : Owns k.view.core.owned k c) where
  has_one : 0 < times h.slot m.view.core.owned
  has_one =
      let p = first.strongly h.slot in let q = times_push h.slot h.slot os in
      let r = one_same h.slot h.slot refl in omega arith

  -- the references are those that it had before, and what is kept more
  as_before : (x : SlotId)
      → times x (without h.slot m.view.core.owned ++ slots_of more) ≡ times x (os ++ slots_of more)
  as_before x =
      let p = first.strongly x in let q = times_push x h.slot os in
      let w = times_without x h.slot m.view.core.owned has_one in
      let u = times_append x (without h.slot m.view.core.owned) (slots_of more) in
      let v = times_append x os (slots_of more) in omega arith

  pub owns_next : Owns (os ++ slots_of more) b c
  owns_next =
      owns_as (os ++ slots_of more) b c
      (owns_on (without h.slot m.view.core.owned ++ slots_of more) b k c
      (owns_then b m k first keeps
      (λ x. inl (let p = first.strongly x in let q = times_push x h.slot os in let r = same x in
      omega arith)))
      (λ x. let e = as_before x in let v = times_append x os (slots_of more) in let r = same x in
      omega arith)
      tidies)
      as_before

  module _ (has : Bool) (is_more : more ≡ cond has [] (h ∷ []))
      (held : has ≡ true → 0 < times h.slot b.view.core.owned) where
    still : 0 < times h.slot k.view.core.owned
    still = by_case has refl
      where
        by_case : (x : Bool) → has ≡ x → 0 < times h.slot k.view.core.owned
        by_case true is =
            let own = held is in let p = keeps.strongly h.slot in let e = as_before h.slot in
            let v = times_append h.slot os (slots_of more) in let r = same h.slot in
            omega (arith, own)
        by_case false is =
            let p = keeps.strongly h.slot in let e = as_before h.slot in
            let v = times_append h.slot os (slots_of more) in
            let q = ap (λ (hs : List Handle). times h.slot (slots_of hs)) is_more
            ∙ times_if has h h.slot ∙ ap (λ (x : Bool). cond x 0 (one h.slot h.slot)) is in
            let o = one_same h.slot h.slot refl in omega arith

    pub still_known : (w : List ℕ) → k.view.client ≡ m.view.client → c.view.client ≡ k.view.client
        → KnowsRecord texts w h.slot m → KnowsRecord texts w h.slot c
    still_known w same_keep same_tidy known = (
      known.0,
      known.1,
      knows_on h.slot known.0 k c same_tidy
          (tidies.knows h.slot (let s = still in omega (arith, s))
          (let s = still in let t = tidies.strongly h.slot in omega (arith, s)))
          (knows_on h.slot known.0 m k same_keep
          (keeps.knows h.slot (let s = has_one in omega (arith, s)) (let s = still in omega (arith, s)))
          known.2),
    )
