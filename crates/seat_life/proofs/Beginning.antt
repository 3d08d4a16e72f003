-- The seats of a domain that was just opened have done nothing.
use Rattle.std.proofs.Common.{◌≡◌, ◌∙◌, ℕ, suc, ◌+◌, ◌<◌, ◌≤◌, refl, sym, ap, subst, arith}
use Rattle.std.specs.Prelude.{replicate, slice_index_or, slice_set}
use Rattle.std.proofs.lemmas.List.{get_or-replicate, get_or-take}
use Rattle.domain_audit.specs.plain_state.Limits.{most_seats}
use Rattle.domain_audit.specs.core_events.declared.shape.Quota.{Quota}
use Rattle.domain_audit.specs.core_events.Runs.{IsShape}
use Rattle.domain_audit.specs.core_events.Steps.{HasRoom}
use Rattle.domain_audit.specs.domain_rule.Views.{quota_at}
use Rattle.domain_audit.proofs.Below.core_law_Each.{get_each, length_each}
use Rattle.domain_audit.specs.acquire_retire.Domains.{DomainState}
use Rattle.domain_audit.specs.acquire_retire.Openings.{begun_seat, opened_seats}
use Rattle.domain_audit.specs.acquire_retire.Seats.{SeatState}
use Rattle.domain_audit.specs.control_word.Resting.{IsAtRest}
use Rattle.slot_store.proofs.Below.control_word_Beginning.{all_at_rest}
use Rattle.seat_life.specs.Opening.{IsFresh, quotas_of}

abbrev none : Quota
none = record { makes = 0; adds = 0 }

-- the quotas of seat 0 and of the others
pub quota_first : (seats : ℕ) (root each : Quota) → 0 < seats
    → quota_at (quotas_of seats root each) 0 ≡ root
quota_first seats root each some =
    get_or-take seats (slice_set (replicate most_seats each) 0 root) 0 none some

pub quota_other : (seats k : ℕ) (root each : Quota) → seats ≤ 32 → k + 1 < seats
    → quota_at (quotas_of seats root each) (k + 1) ≡ each
quota_other seats k root each few low =
    let next : k + 1 ≡ suc k = omega arith in
    ap (λ (n : ℕ). quota_at (quotas_of seats root each) n) next
    ∙ get_or-take seats (slice_set (replicate most_seats each) 0 root) (suc k) none (omega arith)
    ∙ get_or-replicate 31 k each none (omega arith)

module _ {P V : Type 0} (first : ℕ → V) (d : DomainState P) (shape : IsShape d.shape) where
  pub fresh : (most : Quota) (k : ℕ) (other : SeatState V) → k < d.shape.seats
      → quota_at d.terms.quotas k ≡ most
      → IsFresh first d most k (slice_index_or (opened_seats first d) k other)
  fresh most k other low quota =
      let count = length_each 0 d.shape.seats (begun_seat first d) in
      let rests = all_at_rest first d shape k other (omega arith) in
      let at : 0 + k ≡ k = omega arith in
      let is = get_each 0 d.shape.seats k (begun_seat first d) other low
      ∙ ap (begun_seat first d) at in
      let rests' = subst (λ (s : SeatState V). IsAtRest d s × HasRoom s.view.core) is rests in
      subst (λ (s : SeatState V). IsFresh first d most k s) (sym is) record {
        free = record { rest = rests'.0; notes = refl; room = rests'.1 };
        number = refl;
        quota = quota;
        unused = (refl, refl);
        owns = (refl, refl);
        defers = (refl, refl);
        left = refl;
        client = refl;
      }
