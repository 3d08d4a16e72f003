use Rattle.watch_law.proofs.promises.deliveries_have_one_observer.Goals as goal
use Rattle.watch_law.proofs.Gives.{field_given, address_holds, one_address}

pub returns : goal.returns
returns c = record { field = field_given; holds = address_holds; one = one_address }
