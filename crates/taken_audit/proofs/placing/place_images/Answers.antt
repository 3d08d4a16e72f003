use Rattle.std.proofs.Common.{◌≡◌, length, arith}
use Rattle.plain_audit.specs.plain_state.Images.{free_image}
use Rattle.taken_audit.specs.Placed.{placed_image}
use Rattle.taken_audit.proofs.InPlace.{done_all}
use Rattle.taken_audit.proofs.placing.place_images.Goals as goal

pub returns : goal.returns
returns c =
    let past = c.loop-at-test.false in
    let size = c.loop-at.invariant.size in
    let most = c.loop-at.auto.at-end in
    let all : c.loop-at.at ≡ length c.loop-at.images = omega (arith, past, size, most) in
    done_all (placed_image c.args.taken.now) free_image c.args.images.now c.loop-at.images c.loop-at.at all
    c.loop-at.invariant
