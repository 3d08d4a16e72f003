pub mod Below
pub mod FirstBad
pub mod FirstWords
pub mod Slots
pub mod Snapshots
pub mod NextGrants
pub mod Ripens
