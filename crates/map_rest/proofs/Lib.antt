pub mod Settled
pub mod Listed
pub mod Found
