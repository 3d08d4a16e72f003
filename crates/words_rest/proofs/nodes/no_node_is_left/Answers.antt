use Rattle.words_rest.proofs.NoNode.{no_node, no_node_audited, no_node_comes, no_node_reached, shut_null}
use Rattle.words_rest.proofs.nodes.no_node_is_left.Goals as goal

pub returns : goal.returns
returns c = record {
  items = no_node;
  reached = no_node_reached;
  audited = no_node_audited;
  stays = no_node_comes;
  shut = shut_null;
}
