use Rattle.plain_state.proofs.laws.steps_keep_sound.Goals as goal
use Rattle.plain_state.proofs.Start.{empty_sound}
use Rattle.plain_state.proofs.EveryStep.{step_sound}

pub returns-clause-start : goal.returns-clause-start
returns-clause-start c = empty_sound

pub returns-clause-step : goal.returns-clause-step
returns-clause-step c = step_sound
