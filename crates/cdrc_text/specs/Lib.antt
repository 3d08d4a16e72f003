pub mod Pieces
pub mod Fold
pub mod Refused
pub mod Report
pub mod Runs
pub mod Tally
pub mod Text
pub mod Generated
