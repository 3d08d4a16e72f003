use Rattle.std.proofs.Common.{All}
use Rattle.cell_rest.specs.cdrc_text.Fold.{File}
use Rattle.cell_rest.specs.cell_law.directory_law.Bytes.{AreBytes}
use Rattle.cell_gathering.specs.Shares.{tickets_of}
use Rattle.cell_gathering.proofs.Bytes.{no_bytes}
use Rattle.cell_gathering.proofs.Files.{each_kept, same_holders}
use Rattle.cell_gathering.proofs.Shares.{each_ticket}
use Rattle.cell_gathering.proofs.laws.gathered_files_are_those_of_work.Goals as goal

pub returns-clause-holders : goal.returns-clause-holders
returns-clause-holders c work lanes some any =
    same_holders work (tickets_of work lanes) some (each_ticket work lanes any)

pub returns-clause-bytes : goal.returns-clause-bytes
returns-clause-bytes c work lanes =
    each_kept work (tickets_of work lanes) (λ (words : File). All AreBytes words) no_bytes
