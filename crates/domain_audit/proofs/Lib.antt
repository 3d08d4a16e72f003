pub mod Below
pub mod OneSeat
pub mod Showing
pub mod Learning
pub mod AllCyclic
pub mod Wholes
