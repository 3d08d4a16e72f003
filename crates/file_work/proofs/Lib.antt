pub mod Below
pub mod Told
pub mod Sizes
pub mod Refusing
pub mod Named
pub mod Deciding
pub mod Answering
