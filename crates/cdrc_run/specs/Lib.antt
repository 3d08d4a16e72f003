pub mod Statuses
pub mod Jobs
pub mod Refusals
pub mod Outputs
pub mod Ends
pub mod Closings
pub mod Processes
