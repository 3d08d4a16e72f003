-- A whole scan, and then a payment for each entry that went.
use Rattle.std.proofs.Common.{◌≡◌, ℕ, ◌*◌, ◌≤◌, List, [], ◌∷◌, ◌++◌, length, length-append, ap, sym, subst, arith}
use Rattle.std.specs.Prelude.{flat_map}
use Rattle.std.proofs.lemmas.List.{nil_from_length}
use Rattle.core_promises.specs.core_events.Words.{announcements}
use Rattle.acquire_retire.specs.declared.payment.Payment.{Payment}
use Rattle.acquire_retire.specs.declared.payment.Payment.TheVariants as payment
use Rattle.acquire_retire.specs.Collecting.{Collects, Goes, PaysFor, Splits, paid_by, scanned_by}
use Rattle.acquire_retire.specs.Domains.{DomainState}
use Rattle.acquire_retire.specs.Seats.{SeatState}
use Rattle.acquire_retire.proofs.Collects.{goes_append}

-- a payment is at most three moves
few_moves : (ps : List Payment) → length (flat_map paid_by ps) ≤ 3 * length ps
few_moves [] = omega arith
few_moves (p ∷ ps) =
    let l = length-append (paid_by p) (flat_map paid_by ps) in
    let rest = few_moves ps in
    let own = one p in omega arith
  where
    one : (q : Payment) → length (paid_by q) ≤ 3
    one payment.Left = omega arith
    one payment.Ended = omega arith
    one payment.Lost = omega arith
    one payment.Helped = omega arith
    one payment.NoHelp = omega arith
    one payment.Freed = omega arith

pub collects_by : {P V : Type 0} {fits : List ℕ → Type 0} (d : DomainState P) (a b c : SeatState V) (go ended : ℕ)
    → Splits fits d a b go → PaysFor fits d b c go ended
    → Collects fits d a c (record { scanned = announcements d.shape; ejected = go; ended = ended })
collects_by {fits = fits} d a b c go ended split paid =
    let payments = paid.0 in
    let pays = paid.1 in
    let all : length payments ≡ go = paid.2 in
    let stay = ap length pays.retired in
    let owed = pays.owed in
    let were = split.owed in
    let had = split.retired in
    let goes = goes_append d (scanned_by split.seen split.last (length b.view.core.retired) go)
    (flat_map paid_by payments) a b c split.goes pays.goes in
    record {
      seen = split.seen;
      last = split.last;
      payments = payments;
      all = split.all;
      goes =
          subst (λ (n : ℕ × ℕ). Goes fits d (scanned_by split.seen split.last n.0 n.1
          ++ flat_map paid_by payments) a c) (λ i. (sym stay i, sym all i)) goes;
      did =
          λ i. record {
            scanned = announcements d.shape;
            ejected = sym all i;
            ended = paid.3 i;
          };
      idle = pays.idle;
      owes_nothing = nil_from_length c.view.core.owed (omega arith);
      retired = omega arith;
      few = let most = split.few in omega arith;
      moves = let most = few_moves payments in omega arith;
    }
