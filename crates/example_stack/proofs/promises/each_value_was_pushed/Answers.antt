use Rattle.example_stack.proofs.Depths.{deep}
use Rattle.example_stack.proofs.promises.each_value_was_pushed.Goals as goal

pub returns-clause-held : goal.returns-clause-held
returns-clause-held g c p views lawful law depth s is =
    (deep c.args._stack.now.cell g.K.PayloadKind.fits p views lawful law depth s is).1
