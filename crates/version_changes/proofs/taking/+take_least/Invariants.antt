use Rattle.version_changes.proofs.taking.+take_least.Given as goal

-- proposed from what the function passes where it calls itself
abbrev pub decreases-take_least : goal.decreases-take_least
decreases-take_least l = l.levels
