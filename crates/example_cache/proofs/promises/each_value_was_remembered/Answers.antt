use Rattle.example_cache.proofs.promises.each_value_was_remembered.Goals as goal

pub returns-clause-held : goal.returns-clause-held
returns-clause-held g c p views law s holds = (law.held s holds).1
