-- The lemmas that the contracts stand on.
pub mod Leads
pub mod Ones
