-- The seats of a domain that was just opened.
use Rattle.std.specs.Prelude.{ℕ, ◌≡◌, [], List, replicate, slice_set, take}
use Rattle.domain_audit.specs.plain_state.Limits.{most_seats}
use Rattle.domain_audit.specs.core_events.declared.shape.Quota.{Quota}
use Rattle.domain_audit.specs.core_events.Views.{Terms}
use Rattle.domain_audit.specs.acquire_retire.Domains.{DomainState}
use Rattle.domain_audit.specs.acquire_retire.Seats.{SeatState}
use Rattle.seat_life.specs.Free.{IsFree, OwnsNothing}

-- the quotas of so many seats, at most 32: that of seat 0, and the same for each other one
abbrev pub quotas_of : ℕ → Quota → Quota → List Quota
quotas_of seats root each = take seats (slice_set (replicate most_seats each) 0 root)

abbrev pub terms_of : ℕ → Quota → Quota → Terms
terms_of seats root each = record { quotas = quotas_of seats root each; grants = [] }

-- Seat n of the domain, which has done nothing: it is free, owns nothing, has deferred and ended nothing, has its whole
-- quota, and its client's view is the first one. Nobody has left to it.
pub record IsFresh {P V : Type 0} (first : ℕ → V) (d : DomainState P) (most : Quota) (n : ℕ)
    (s : SeatState V) : Type 0 where
  pub free : IsFree d s
  pub number : s.view.core.seat ≡ n
  pub quota : s.view.core.quota ≡ most
  pub unused : (s.view.core.makes ≡ 0) × (s.view.core.adds ≡ 0)
  pub owns : OwnsNothing s.view.core
  pub defers : (s.view.core.retired ≡ []) × (s.view.core.dying ≡ [])
  pub left : s.view.core.left_seats ≡ []
  pub client : s.view.client ≡ first n
