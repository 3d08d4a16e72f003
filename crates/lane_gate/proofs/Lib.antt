pub mod FirstEntry
pub mod Known
pub mod Streams
