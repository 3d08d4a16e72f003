use Rattle.protocol_pairs.specs.Shares.{owned_of}
use Rattle.protocol_pairs.proofs.laws.foreign_steps_leave.Goals as goal
use Rattle.protocol_pairs.proofs.Leaves.{foreign_leaves, calm_is_foreign}

pub returns-clause-leave : goal.returns-clause-leave
returns-clause-leave g c of p q n step found lawful foreign does =
    foreign_leaves _ p q n step found lawful foreign does

pub returns-clause-calm : goal.returns-clause-calm
returns-clause-calm g c of p step calm =
    calm_is_foreign
    (owned_of (g.P.Protocol.owns_cell of) (g.P.Protocol.owns_weak_cell of)
    (g.P.Protocol.owns_payload of) (g.P.Protocol.owns_tickets of)) p step calm
