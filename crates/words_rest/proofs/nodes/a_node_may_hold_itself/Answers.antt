use Rattle.words_rest.proofs.Ring.{ring}
use Rattle.words_rest.proofs.RingLaw.{ring_left, ring_views}
use Rattle.words_rest.proofs.nodes.a_node_may_hold_itself.Goals as goal

pub returns : goal.returns
returns c u z = (ring, ring_views u.form, ring_left u z)
