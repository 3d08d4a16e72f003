use Rattle.plain_audit.specs.plain_state.Images.{free_image}
use Rattle.taken_audit.specs.Placed.{placed_image}
use Rattle.taken_audit.proofs.InPlace.{Done}
use Rattle.taken_audit.proofs.placing.place_images.Given as goal

abbrev pub invariant-loop-at : goal.invariant-loop-at
invariant-loop-at l = Done (placed_image l.taken) free_image l.fn.images l.at l.images
