-- The lemmas that the contracts stand on.
pub mod Quotas
pub mod Growing
pub mod Definite
