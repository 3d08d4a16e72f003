use Rattle.directory_law.proofs.Gives.{kept_once, kept_stands, kept_reads, kept_runs}
use Rattle.directory_law.proofs.promises.kept_texts_stay.Goals as goal

pub returns : goal.returns
returns c = record {
  once = kept_once;
  stands = kept_stands;
  reads = kept_reads;
  runs = kept_runs;
}
