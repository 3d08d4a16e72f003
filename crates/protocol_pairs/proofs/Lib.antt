pub mod Leaves
pub mod Held
pub mod Notes
pub mod Owning
pub mod Values
pub mod WeaklyHeld
