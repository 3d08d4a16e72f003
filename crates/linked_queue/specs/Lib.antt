-- What callers cite of the crates below.
pub use Rattle.queue_protocol.specs.queue_law as queue_law
pub use Rattle.queue_protocol.specs as queue_protocol
-- Its own.
pub mod UnlessRipe
pub mod Attaching
pub mod Cells
pub mod Items
pub mod Queues
pub mod Leaving
pub mod Readings
pub mod Nodes
pub mod Seeing
pub mod Pops
pub mod Losses
pub mod Pushes
pub mod PushLosses
pub mod NotPushed
pub mod Shuts
pub mod Waits
