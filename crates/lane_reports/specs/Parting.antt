-- Which lanes ran to their end.
use Rattle.std.specs.Prelude.{◌≡◌, List, [], ◌∷◌, Ok}
use Rattle.lane_reports.specs.declared.done.Done.{Done}
use Rattle.lane_domain.specs.declared.ending.LaneEnd.{LaneEnd}

-- the lane ran to its end, and this is its seat, with what the lane has beside it
abbrev pub RanToEnd : LaneEnd → Done → Type 0
RanToEnd ended done =
    (ended.end ≡ Ok tt) × (done ≡ record { seat = ended.seat; lane = ended.lane })

-- all lanes did, and these are theirs, in order
abbrev pub AllRan : List LaneEnd → List Done → Type 0
AllRan [] [] = Unit {0}
AllRan [] (one ∷ done) = ⊥
AllRan (ended ∷ ends) [] = ⊥
AllRan (ended ∷ ends) (one ∷ done) = RanToEnd ended one × AllRan ends done
