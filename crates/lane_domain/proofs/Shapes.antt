-- The shape of the domain, its quotas and its grants are in their ranges.
use Rattle.std.proofs.Common.{◌≡◌, ℕ, ◌+◌, ◌*◌, ◌<◌, ◌≤◌, List, ◌∷◌, ap, subst, ◌∙◌, arith}
use Rattle.std.specs.Prelude.{length, replicate, sum}
use Rattle.std.proofs.lemmas.List.{length-replicate}
use Rattle.std.proofs.lemmas.List.Elements.{All-cons, All-replicate}
use Rattle.std.proofs.lemmas.List.Folds.{sum_by-replicate}
use Rattle.std.proofs.lemmas.List.Sums.{sum_by-cons}
use Rattle.lane_files.specs.plain_state.Limits.{most_slots}
use Rattle.lane_files.specs.core_events.declared.shape.Quota.{Quota}
use Rattle.lane_files.specs.core_events.declared.shape.Shape.{Shape}
use Rattle.lane_files.specs.core_events.declared.shape.ShapeField.{ShapeField}
use Rattle.lane_files.specs.core_events.declared.shape.ShapeField.TheVariants.{Seats, Slots, Cells, WeakCells, Batch, Quotas}
use Rattle.lane_files.specs.core_events.Runs.{AreTerms, IsQuota, IsShape}
use Rattle.lane_files.specs.core_functions.Fields.{IsFirstBad, IsInRange}
use Rattle.lane_files.specs.acquire_retire.Domains.{DomainState}
use Rattle.lane_files.specs.words_protocol.declared.law.WordsLaw.{WordsLaw}
use Rattle.lane_files.specs.claim_law.Claims.{makes_given}
use Rattle.lane_files.specs.cdrc_text.Fold.{File}
use Rattle.lane_files.specs.lane_work.declared.work.Work.{Work}
use Rattle.lane_files.specs.Work.{all_tickets}
use Rattle.lane_files.specs.queue_law.declared.view.Form.{Form}
use Rattle.lane_domain.specs.Opened.{IsDomainFor, cells_for, lane_quota, root_quota, shape_for, terms_for}
use Rattle.lane_domain.specs.Sizes.{IsWithinLimits, all_parts, all_pieces, by_ticket, interns_of, makes_of, slots_of_words, texts_in}
use Rattle.lane_domain.proofs.Below.lane_work_Sums.{is_sum, of_rounds, sum_of_both}

-- all interns, and all makes that tickets grant
pub interns_are : (work : Work) → sum (by_ticket (interns_of work) work)
    ≡ work.rounds * all_pieces work
interns_are work =
    is_sum (λ (f : File). length f) work (all_tickets work)
    ∙ of_rounds (λ (f : File). length f) work work.rounds

pub grants_are : (work : Work) → sum (by_ticket (makes_of work) work)
    ≡ work.rounds * (all_pieces work + all_parts work)
grants_are work =
    is_sum (λ (f : File). length f + slots_of_words f) work (all_tickets work)
    ∙ of_rounds (λ (f : File). length f + slots_of_words f) work work.rounds
    ∙ ap (λ n. work.rounds * n) (sum_of_both (λ (f : File). length f) slots_of_words (texts_in work))

-- all makes
pub makes_are : (work : Work) (lanes : ℕ)
    → makes_given (terms_for work lanes) ≡ work.rounds * (all_pieces work + all_parts work) + 2
makes_are work lanes =
    let first = sum_by-cons (λ (q : Quota). q.makes) root_quota (replicate lanes lane_quota) in
    let others = sum_by-replicate (λ (q : Quota). q.makes) lanes lane_quota in
    let grants = grants_are work in
    omega arith

module _ (work : Work) (within : IsWithinLimits work) (lanes slots : ℕ) (few : lanes ≤ 31)
    (some' : 1 ≤ slots) (most : slots ≤ most_slots) where
  pub in_shape : IsShape (shape_for work lanes slots)
  in_shape = let i = within.interns in (
    omega arith,
    omega arith,
    omega arith,
    omega arith,
    omega arith,
    omega arith,
    omega arith,
    omega arith,
  )

  pub in_terms : AreTerms (shape_for work lanes slots) (terms_for work lanes)
  in_terms = let g = grants_are work in let s = within.slots in (
    (let l = length-replicate lanes lane_quota in omega arith),
    All-cons IsQuota root_quota (replicate lanes lane_quota) (omega arith, omega arith)
        (All-replicate IsQuota lanes lane_quota (omega arith, omega arith)),
    omega arith,
  )

  in_range : (f : ShapeField) → IsInRange (shape_for work lanes slots) (terms_for work lanes) f
  in_range Seats = (in_shape.0, in_shape.1)
  in_range Slots = (in_shape.2, in_shape.3)
  in_range Cells = in_shape.4
  in_range WeakCells = in_shape.5
  in_range Batch = (in_shape.6, in_shape.7)
  in_range Quotas = in_terms

  pub none_bad : (f : ShapeField)
      → IsFirstBad (shape_for work lanes slots) (terms_for work lanes) f → ⊥
  none_bad f bad = bad.1 (in_range f)

  pub none_bad_by : (cells : ℕ) (quotas : List Quota) (grants : List ℕ) → cells ≡ cells_for work
      → quotas ≡ root_quota ∷ replicate lanes lane_quota → grants ≡ by_ticket (makes_of work) work
      → (f : ShapeField)
      → IsFirstBad (record (shape_for work lanes slots) { weak_cells = cells })
      (record { quotas = quotas; grants = grants }) f → ⊥
  none_bad_by cells quotas grants weak all granted f bad =
      none_bad f
      (subst (λ gs. IsFirstBad (shape_for work lanes slots)
      (record { quotas = root_quota ∷ replicate lanes lane_quota; grants = gs }) f) granted
      (subst (λ qs. IsFirstBad (shape_for work lanes slots)
      (record { quotas = qs; grants = grants }) f) all
      (subst (λ n. IsFirstBad (record (shape_for work lanes slots) { weak_cells = n })
      (record { quotas = quotas; grants = grants }) f) weak bad)))

-- a domain with fewer slots than makes
pub few_slots_in : (work : Work) (lanes slots : ℕ) (form : Form) (d : DomainState WordsLaw)
    → IsDomainFor work lanes slots form d → d.shape.slots < makes_given d.terms
    → slots < work.rounds * (all_pieces work + all_parts work) + 2
few_slots_in work lanes slots form d is few =
    let shape = ap (λ (z : Shape). z.slots) is.shape in let terms = ap makes_given is.terms in
    let all = makes_are work lanes in
    omega arith
