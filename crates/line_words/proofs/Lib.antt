-- The lemmas that the contracts stand on.
pub mod Cutting
pub mod Decimal
pub mod Joining
