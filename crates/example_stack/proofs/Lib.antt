pub mod Depths
pub mod Knowing
pub mod Sights
pub mod NewNodes
pub mod Trails
pub mod Leavings
pub mod Framing
pub mod Takes
