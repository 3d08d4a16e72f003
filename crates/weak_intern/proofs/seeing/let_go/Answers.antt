use Rattle.weak_intern.proofs.LetGo.{let_go_client, let_go_core, let_go_knows, let_go_rests, may_release}
use Rattle.weak_intern.proofs.seeing.let_go.Goals as goal

pub release-requires-clause-may : goal.release-requires-clause-may
release-requires-clause-may g c =
    may_release c.args.domain.now c.args.seat.now c.args.sighted c.requires.rest c.requires.sighted

pub returns-clause-core : goal.returns-clause-core
returns-clause-core g c =
    let_go_core c.args.domain.now c.args.seat.now c.args.sighted c.requires.rest c.requires.sighted
    c.release.new.seat c.release.result c.release.ensures

pub returns-clause-client : goal.returns-clause-client
returns-clause-client g c =
    let_go_client c.args.domain.now c.args.seat.now c.args.sighted c.requires.rest c.requires.sighted
    c.release.new.seat c.release.result c.release.ensures

pub returns-clause-objects : goal.returns-clause-objects
returns-clause-objects g c =
    let_go_knows c.args.domain.now c.args.seat.now c.args.sighted c.requires.rest c.requires.sighted
    c.release.new.seat c.release.result c.release.ensures

pub returns-clause-rest : goal.returns-clause-rest
returns-clause-rest g c =
    let_go_rests c.args.domain.now c.args.seat.now c.args.sighted c.requires.rest c.requires.sighted
    c.release.new.seat c.release.result c.release.ensures
