pub mod Below
pub mod Going
pub mod Learnt
pub mod Parts
