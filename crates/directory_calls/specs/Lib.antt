-- What callers cite of the crates below.
pub use Rattle.directory_protocol.specs.directory_law as directory_law
pub use Rattle.directory_protocol.specs as directory_protocol
-- Its own.
pub mod Steps
pub mod Learning
pub mod Directories
