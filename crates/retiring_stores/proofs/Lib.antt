pub mod Below
pub mod Gathering
pub mod Rooming
pub mod Putting
pub mod Afterwards
pub mod Losing
pub mod Opened
