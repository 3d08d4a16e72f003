pub mod Letters
pub mod Ready
pub mod Texts
