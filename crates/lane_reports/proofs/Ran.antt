-- Lanes that ran to their end.
use Rattle.std.proofs.Common.{◌≡◌, List, [], ◌∷◌, ◌++◌, arith}
use Rattle.std.specs.Prelude.{length}
use Rattle.lane_reports.specs.declared.done.Done.{Done}
use Rattle.lane_domain.specs.declared.ending.LaneEnd.{LaneEnd}
use Rattle.lane_reports.specs.Parting.{AllRan, RanToEnd}

pub ran_push : (ends : List LaneEnd) (done : List Done) (ended : LaneEnd) (one : Done)
    → AllRan ends done → RanToEnd ended one → AllRan (ends ++ ended ∷ []) (done ++ one ∷ [])
ran_push [] [] ended one all last = (last, tt)
ran_push [] (x ∷ done) ended one all last = absurd all
ran_push (e ∷ ends) [] ended one all last = absurd all
ran_push (e ∷ ends) (x ∷ done) ended one all last =
    (all.0, ran_push ends done ended one all.1 last)

pub ran_many : (ends : List LaneEnd) (done : List Done) → AllRan ends done
    → length done ≡ length ends
ran_many [] [] all = omega arith
ran_many [] (x ∷ done) all = absurd all
ran_many (e ∷ ends) [] all = absurd all
ran_many (e ∷ ends) (x ∷ done) all = let more = ran_many ends done all.1 in omega arith
