pub mod Below
pub mod Serving
