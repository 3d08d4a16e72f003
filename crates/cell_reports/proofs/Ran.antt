-- Lanes that ran to their end.
use Rattle.std.proofs.Common.{◌≡◌, ℕ, zero, suc, ◌<◌, List, [], ◌∷◌, ◌++◌, refl, arith}
use Rattle.std.specs.Prelude.{length, slice_index_or}
use Rattle.cell_domain.specs.declared.ending.LaneEnd.{LaneEnd}
use Rattle.cell_gathering.specs.declared.done.Done.{Done}
use Rattle.cell_reports.specs.Parting.{AllRan, RanToEnd}

pub ran_push : (ends : List LaneEnd) (done : List Done) (ended : LaneEnd) (one : Done)
    → AllRan ends done → RanToEnd ended one → AllRan (ends ++ ended ∷ []) (done ++ one ∷ [])
ran_push [] [] ended one all last = (last, tt)
ran_push [] (x ∷ done) ended one all last = absurd all
ran_push (e ∷ ends) [] ended one all last = absurd all
ran_push (e ∷ ends) (x ∷ done) ended one all last =
    (all.0, ran_push ends done ended one all.1 last)

pub ran_many : (ends : List LaneEnd) (done : List Done) → AllRan ends done
    → length done ≡ length ends
ran_many [] [] all = omega arith
ran_many [] (x ∷ done) all = absurd all
ran_many (e ∷ ends) [] all = absurd all
ran_many (e ∷ ends) (x ∷ done) all = let more = ran_many ends done all.1 in omega arith

pub ran_at : (ends : List LaneEnd) (done : List Done) → AllRan ends done → (i : ℕ) (ended : LaneEnd)
    (one : Done) → i < length ends
    → RanToEnd (slice_index_or ends i ended) (slice_index_or done i one)
ran_at [] [] all i ended one less = absurd (omega (arith, less))
ran_at [] (x ∷ done) all i ended one less = absurd all
ran_at (e ∷ ends) [] all i ended one less = absurd all
ran_at (e ∷ ends) (x ∷ done) all zero ended one less = all.0
ran_at (e ∷ ends) (x ∷ done) all (suc i) ended one less =
    ran_at ends done all.1 i ended one (omega (arith, less))

pub at_front : {A : Type 0} (front back : List A) (x d : A)
    → slice_index_or (front ++ x ∷ back) (length front) d ≡ x
at_front [] back x d = refl
at_front (y ∷ front) back x d = at_front front back x d
