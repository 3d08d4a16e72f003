pub mod Below
pub mod Made
pub mod Dropped
pub mod Linked
pub mod Noted
pub mod Before
pub mod Chained
