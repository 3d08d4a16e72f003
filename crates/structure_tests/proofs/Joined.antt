-- What seat 0 has left of its interns once another seat has left.
use Rattle.std.proofs.Common.{◌≡◌, ◌≤◌, ◌+◌, ℕ, List, ap, arith, subst, sym, ◌∙◌}
use Rattle.part_calls.specs.acquire_retire.Domains.{DomainState}
use Rattle.part_calls.specs.acquire_retire.Seats.{SeatState}
use Rattle.weak_intern.specs.directory_law.declared.view.View.{View}
use Rattle.weak_intern.specs.directory_law.Views.{joined}
use Rattle.weak_intern.specs.directory_protocol.declared.law.DirectoryLaw.{DirectoryLaw}
use Rattle.hand_queues.specs.retiring_stores.Leaving.{Leaves}
use Rattle.part_calls.proofs.Below.retiring_stores_Afterwards.{scan_leaves}
use Rattle.structure_tests.specs.Texts.{HasLeft}

pub left_joined : (fits : List ℕ → Type 0) (d : DomainState DirectoryLaw)
    (root seat new : SeatState View) → Leaves fits d joined root seat new → HasLeft 0 root
    → HasLeft 0 seat → HasLeft 0 new
left_joined fits d root seat new leaves left more =
    let client : new.view.client ≡ joined root.view.client seat.view.client =
    (scan_leaves d leaves.mid new leaves.scans).client
    ∙ ap (λ v. v.client) leaves.took.view in
    subst (λ (v : View). v.used + 0 ≤ v.quota) (sym client) (omega (arith, left, more))
