pub mod Queueing
