use Rattle.domain_desk.proofs.Told.{sizes_told}
use Rattle.domain_desk.proofs.desk.DomainDesk.sizes.Goals as goal

pub returns : goal.returns
returns c = sizes_told _ _ c.self.view_is c.requires
