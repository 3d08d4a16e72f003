use Rattle.handle_tests.proofs.playing.+run_deep.Given as goal

abbrev pub decreases-run_deep : goal.decreases-run_deep
decreases-run_deep g l = l.depth
