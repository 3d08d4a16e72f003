pub mod Announcements
pub mod Rows
pub mod Searches
