pub mod Trees
pub mod Maps
pub mod Balance
pub mod Counting
pub mod Promises
