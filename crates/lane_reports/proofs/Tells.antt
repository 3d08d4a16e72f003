-- What a seat knows of the records that it keeps, told by views of the directory.
use Rattle.std.proofs.Common.{◌≡◌, inl, inr, ⊎_elim, ℕ, List, [], ◌∷◌, ◌++◌, refl, arith, length}
use Rattle.law_lesson.specs.plain_state.declared.slot.SlotId.{SlotId}
use Rattle.domain_audit.specs.acquire_retire.Seats.{SeatState}
use Rattle.words_rest.specs.directory_law.declared.view.View.{View as DirectoryView}
use Rattle.words_rest.specs.directory_law.Payloads.{Text}
use Rattle.lane_domain.specs.weak_intern.Knowing.{Knows}
use Rattle.words_rest.specs.queue_law.declared.view.Item.{Item}
use Rattle.words_rest.specs.words_law.Known.{KnowsMore, KnowsText}
use Rattle.words_rest.specs.words_law.Views.{View}
use Rattle.words_rest.proofs.Below.words_law_Known.{knows_all_more, knows_more}
use Rattle.lane_domain.proofs.Below.lane_files_Offered.{texts}
use Rattle.lane_domain.specs.lane_files.lane_work.declared.work.Work.{Work}
use Rattle.lane_domain.specs.lane_files.Counting.{KeepsRecords, KnowsEach}
use Rattle.lane_domain.specs.lane_files.Keeping.{slots_of}
use Rattle.lane_domain.specs.lane_files.Lanes.{KeepsFiles}
use Rattle.lane_domain.specs.lane_files.Passed.{KnowsWords}
use Rattle.lane_domain.specs.lane_files.Work.{kept_files}
use Rattle.lane_reports.specs.declared.done.Done.{Done}
use Rattle.lane_reports.specs.Deeds.{LaneDeeds}
use Rattle.lane_reports.specs.Gathering.{KnowsPops, TellsLanes, kept_by}
use Rattle.lane_reports.specs.Kept.{lives_in}
use Rattle.words_rest.specs.Kept.{TellsEach, TellsFiles, TellsRecords, TellsWord}
use Rattle.words_rest.proofs.Below.record_counts_Joined.{files_more as told_more}

-- BY WHAT A SEAT KNOWS
pub tells_text : (s : SlotId) (text : Text) (seat : SeatState View) → Knows texts s text seat
    → KnowsText seat.view.client.1
    (record { slot = s.0; life = lives_in seat s; payload = [] }) text
tells_text s text seat knows = ⊎_elim
    (λ kept. inl kept)
    (λ (saw, ran, noted, slot, life, whole, is). inr (record {
      ran = ran;
      noted = noted;
      slot = slot;
      life = life;
      whole = whole;
      is = is;
    }))
    knows

tells_each : (ws : List (List ℕ)) (ss : List SlotId) (seat : SeatState View)
    → KnowsEach ws ss seat → TellsEach (lives_in seat) ws ss seat.view.client.1
tells_each [] [] seat known = tt
tells_each [] (s ∷ ss) seat known = absurd known
tells_each (w ∷ ws) [] seat known = absurd known
tells_each (w ∷ ws) (s ∷ ss) seat known = (
  (known.0.0, known.0.1, tells_text s known.0.0 seat known.0.2),
  tells_each ws ss seat known.1,
)

tells_records : (words : List (List ℕ)) (kept : List SlotId) (seat : SeatState View)
    → KeepsRecords words kept seat → TellsRecords (lives_in seat) words kept seat.view.client.1
tells_records words kept seat keeps = record {
  slots = keeps.slots;
  tells = tells_each words keeps.slots seat keeps.knows;
  once = keeps.once;
  only = keeps.only;
}

pub tells_files : (files : List (List (List ℕ))) (kept : List SlotId) (seat : SeatState View)
    → KeepsFiles files kept seat → TellsFiles (lives_in seat) files kept seat.view.client.1
tells_files [] kept seat keeps = keeps
tells_files (words ∷ files) kept seat (first, others, records, rest, is) =
    (first, others, tells_records words first seat records, tells_files files others seat rest, is)

-- A VIEW THAT KNOWS MORE
module _ (v w : DirectoryView) (more : KnowsMore v w) where
  pub files_more : (lives : SlotId → ℕ) (files : List (List (List ℕ))) (kept : List SlotId)
      → TellsFiles lives files kept v → TellsFiles lives files kept w
  files_more lives = told_more (λ bytes s. TellsWord v bytes s (lives s))
      (λ bytes s. TellsWord w bytes s (lives s))
      (λ bytes s told. (
        told.0,
        told.1,
        knows_more v w more (record { slot = s.0; life = lives s; payload = [] }) told.0 told.2,
      ))

  pub lanes_more : (work : Work) (xs : List LaneDeeds) (done : List Done)
      → TellsLanes work xs done v → TellsLanes work xs done w
  lanes_more work [] [] tells = tt
  lanes_more work [] (one ∷ done) tells = absurd tells
  lanes_more work (x ∷ xs) [] tells = absurd tells
  lanes_more work (x ∷ xs) (one ∷ done) tells = (
    files_more (lives_in one.seat) (kept_files work x.tickets) (slots_of (kept_by one)) tells.0,
    lanes_more work xs done tells.1,
  )

-- OF WHAT WAS POPPED, lane by lane
pub words_more : (v w : DirectoryView) → KnowsMore v w → (xs : List Item) (words : List (List ℕ))
    → KnowsWords v xs words → KnowsWords w xs words
words_more v w more xs words knows =
    (knows.0, knows_all_more v w more xs knows.0 knows.1, knows.2)

pub pops_more : (v w : DirectoryView) → KnowsMore v w → (xs : List LaneDeeds) → KnowsPops v xs
    → KnowsPops w xs
pops_more v w more [] all = tt
pops_more v w more (x ∷ xs) all =
    (words_more v w more x.pops x.words all.0, pops_more v w more xs all.1)

pub pops_push : (v : DirectoryView) (xs : List LaneDeeds) (x : LaneDeeds) → KnowsPops v xs
    → KnowsWords v x.pops x.words → KnowsPops v (xs ++ x ∷ [])
pops_push v [] x all it = (it, tt)
pops_push v (y ∷ xs) x all it = (all.0, pops_push v xs x all.1 it)

pub tells_push : (work : Work) (xs : List LaneDeeds) (x : LaneDeeds) (done : List Done) (one : Done)
    (v : DirectoryView) → TellsLanes work xs done v
    → TellsFiles (lives_in one.seat) (kept_files work x.tickets) (slots_of (kept_by one)) v
    → TellsLanes work (xs ++ x ∷ []) (done ++ one ∷ []) v
tells_push work [] x [] one v all it = (it, tt)
tells_push work [] x (other ∷ done) one v all it = absurd all
tells_push work (y ∷ xs) x [] one v all it = absurd all
tells_push work (y ∷ xs) x (other ∷ done) one v all it =
    (all.0, tells_push work xs x done one v all.1 it)

-- there are as many
pub as_many : (work : Work) (xs : List LaneDeeds) (done : List Done) (v : DirectoryView)
    → TellsLanes work xs done v → length xs ≡ length done
as_many work [] [] v all = refl
as_many work [] (other ∷ done) v all = absurd all
as_many work (y ∷ xs) [] v all = absurd all
as_many work (y ∷ xs) (other ∷ done) v all =
    let e = as_many work xs done v all.1 in omega arith
