use Rattle.std.proofs.Common.{subst}
use Rattle.plain_store.specs.Heaps.{IsHeap}
use Rattle.plain_store.proofs.Gains.{kept_heap}
use Rattle.cdrc_plain.proofs.heap.PlainHeap.image.Goals as goal

pub returns-in_err-slot_images-clause-heap : goal.returns-in_err-slot_images-clause-heap
returns-in_err-slot_images-clause-heap g c = subst (IsHeap g.W.PayloadKind.fits) c.self.view_is (kept_heap g.W.PayloadKind.fits c.self.inside.store c.self.invariant.0 c.self.invariant.1)

pub returns-in_err-words-clause-heap : goal.returns-in_err-words-clause-heap
returns-in_err-words-clause-heap g c = subst (IsHeap g.W.PayloadKind.fits) c.self.view_is (kept_heap g.W.PayloadKind.fits c.self.inside.store c.self.invariant.0 c.self.invariant.1)

pub returns-in_err-words-2-clause-heap : goal.returns-in_err-words-2-clause-heap
returns-in_err-words-2-clause-heap g c = subst (IsHeap g.W.PayloadKind.fits) c.self.view_is (kept_heap g.W.PayloadKind.fits c.self.inside.store c.self.invariant.0 c.self.invariant.1)

pub returns-in_err-deferred_entries-clause-heap : goal.returns-in_err-deferred_entries-clause-heap
returns-in_err-deferred_entries-clause-heap g c = subst (IsHeap g.W.PayloadKind.fits) c.self.view_is (kept_heap g.W.PayloadKind.fits c.self.inside.store c.self.invariant.0 c.self.invariant.1)

pub returns-clause-heap : goal.returns-clause-heap
returns-clause-heap g c = subst (IsHeap g.W.PayloadKind.fits) c.self.view_is (kept_heap g.W.PayloadKind.fits c.self.inside.store c.self.invariant.0 c.self.invariant.1)
