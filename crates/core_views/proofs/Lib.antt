pub mod Below
pub mod Trails
