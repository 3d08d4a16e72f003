use Rattle.structure_tests.proofs.tidying.shut_and_settle.Goals as goal

pub shut-requires-clause-laid : goal.shut-requires-clause-laid
shut-requires-clause-laid g c =
    record { laid = c.requires.laid; attached = c.requires.ready.attached.attached }
