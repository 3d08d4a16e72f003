-- What lanes keep, in the lives in which one seat has all of it.
use Rattle.std.proofs.Common.{◌≡◌, ℕ, ◌<◌, List, [], ◌∷◌, ◌++◌, refl, sym, ap, subst, ◌∙◌, arith, append_assoc}
use Rattle.std.specs.Prelude.{map}
use Rattle.std.specs.List.{filter, flat_map}
use Rattle.std.proofs.lemmas.List.{map-append}
use Rattle.std.proofs.lemmas.List.Elements.{filter-append}
use Rattle.law_lesson.specs.plain_state.declared.slot.SlotId.{SlotId}
use Rattle.law_lesson.specs.plain_state.Lists.{times}
use Rattle.domain_audit.proofs.Below.core_law_Kit.{one_same, times_append, times_cons}
use Rattle.domain_audit.specs.counted_handles.Handles.{Handle}
use Rattle.domain_audit.specs.acquire_retire.Seats.{SeatState}
use Rattle.words_rest.specs.directory_law.declared.view.View.{View as DirectoryView}
use Rattle.ticket_shares.specs.Tickets.{together}
use Rattle.words_rest.specs.words_law.Views.{View}
use Rattle.lane_domain.specs.lane_files.lane_work.declared.work.Work.{Work}
use Rattle.lane_domain.specs.lane_files.Keeping.{slots_of}
use Rattle.lane_domain.specs.lane_files.Work.{is_last, kept_files, words_of}
use Rattle.lane_reports.specs.declared.done.Done.{Done}
use Rattle.lane_reports.specs.Deeds.{LaneDeeds}
use Rattle.lane_reports.specs.Gathering.{KeptAlike, TellsLanes, kept_by, shares_of}
use Rattle.lane_reports.specs.Kept.{lives_in}
use Rattle.words_rest.specs.Kept.{TellsEach, TellsFiles, TellsWord}

module _ (before after : SlotId → ℕ) (v : DirectoryView) where
  each_alike : (ws : List (List ℕ)) (ss : List SlotId)
      → ((s : SlotId) → 0 < times s ss → before s ≡ after s) → TellsEach before ws ss v
      → TellsEach after ws ss v
  each_alike [] [] same tells = tt
  each_alike [] (s ∷ ss) same tells = absurd tells
  each_alike (w ∷ ws) [] same tells = absurd tells
  each_alike (w ∷ ws) (s ∷ ss) same tells = (
    subst (TellsWord v w s)
        (same s (let p = times_cons s s ss in let o = one_same s s refl in omega arith)) tells.0,
    each_alike ws ss (λ t some. same t (let p = times_cons t s ss in omega (arith, some))) tells.1,
  )

  pub files_alike : (files : List (List (List ℕ))) (kept : List SlotId)
      → ((s : SlotId) → 0 < times s kept → before s ≡ after s) → TellsFiles before files kept v
      → TellsFiles after files kept v
  files_alike [] kept same tells = tells
  files_alike (words ∷ files) kept same (first, others, records, rest, is) = (
    first,
    others,
    record {
      slots = records.slots;
      tells = each_alike words records.slots
          (λ s some. same s (let o = records.once s some in let p = ap (times s) is in
          let q = times_append s first others in omega arith)) records.tells;
      once = records.once;
      only = records.only;
    },
    files_alike files others
        (λ s some. same s (let p = ap (times s) is in let q = times_append s first others in
        omega (arith, some))) rest,
    is,
  )

files_both : (lives : SlotId → ℕ) (v : DirectoryView) (files more : List (List (List ℕ)))
    (kept others : List SlotId) → TellsFiles lives files kept v → TellsFiles lives more others v
    → TellsFiles lives (files ++ more) (kept ++ others) v
files_both lives v [] more kept others first second =
    subst (λ ss. TellsFiles lives more ss v) (ap (λ ss. ss ++ others) (sym first)) second
files_both lives v (words ∷ files) more kept others (own, rest, records, tells, is) second = (
  own,
  rest ++ others,
  records,
  files_both lives v files more rest others tells second,
  ap (λ ss. ss ++ others) is ∙ append_assoc own rest others,
)

kept_both : (work : Work) (ts us : List ℕ)
    → kept_files work (ts ++ us) ≡ kept_files work ts ++ kept_files work us
kept_both work ts us =
    ap (map (words_of work)) (filter-append (is_last work) ts us)
    ∙ map-append (words_of work) (filter (is_last work) ts) (filter (is_last work) us)

pub all_alike : (work : Work) (lanes : List LaneDeeds) (done : List Done) (seat : SeatState View)
    → TellsLanes work lanes done seat.view.client.1 → KeptAlike done seat
    → TellsFiles (lives_in seat) (kept_files work (together (shares_of lanes)))
    (slots_of (flat_map kept_by done)) seat.view.client.1
all_alike work [] [] seat tells alike = refl
all_alike work [] (one ∷ done) seat tells alike = absurd tells
all_alike work (x ∷ xs) [] seat tells alike = absurd tells
all_alike work (x ∷ xs) (one ∷ done) seat tells alike =
    subst (λ fs. TellsFiles (lives_in seat) fs (slots_of (kept_by one ++ flat_map kept_by done))
    seat.view.client.1) (sym (kept_both work x.tickets (together (shares_of xs))))
    (subst (λ ss. TellsFiles (lives_in seat)
    (kept_files work x.tickets ++ kept_files work (together (shares_of xs))) ss seat.view.client.1)
    (sym (map-append (λ (h : Handle). h.slot) (kept_by one) (flat_map kept_by done)))
    (files_both (lives_in seat) seat.view.client.1 (kept_files work x.tickets)
    (kept_files work (together (shares_of xs))) (slots_of (kept_by one))
    (slots_of (flat_map kept_by done))
    (files_alike (lives_in one.seat) (lives_in seat) seat.view.client.1
    (kept_files work x.tickets) (slots_of (kept_by one)) alike.0 tells.0)
    (all_alike work xs done seat tells.1 alike.1)))
