pub mod Free
pub mod Ends
pub mod Numbers
