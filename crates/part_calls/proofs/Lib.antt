pub mod Below
pub mod Seen
pub mod SeenCalls
pub mod Beside
pub mod Readiness
