-- The lemmas that the contracts stand on.
pub mod Counts
pub mod Cutting
pub mod Fields
pub mod Listed
pub mod Reported
pub mod Runs
pub mod Scan
pub mod Sorting
pub mod Unique
pub mod Drawing
