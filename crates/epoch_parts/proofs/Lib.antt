mod FirstWords
pub mod Queues
