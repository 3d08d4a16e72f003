use Rattle.std.proofs.Common.{◌≡◌, length, arith}
use Rattle.taken_audit.specs.Placed.{placed}
use Rattle.taken_audit.proofs.InPlace.{done_all}
use Rattle.taken_audit.proofs.placing.place_words.Goals as goal

pub returns : goal.returns
returns c =
    let past = c.loop-at-test.false in
    let size = c.loop-at.invariant.size in
    let most = c.loop-at.auto.at-end in
    let all : c.loop-at.at ≡ length c.loop-at.words = omega (arith, past, size, most) in
    done_all (placed c.args.taken.now) 0 c.args.words.now c.loop-at.words c.loop-at.at all
    c.loop-at.invariant
