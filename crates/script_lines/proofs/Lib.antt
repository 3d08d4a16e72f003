-- The lemmas that the contracts stand on.
pub mod Bytes
pub mod Commands
pub mod Forms
pub mod Places
pub mod Refusals
pub mod Shapes
pub mod Unique
