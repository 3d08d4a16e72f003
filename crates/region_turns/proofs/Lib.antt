pub mod RegionCalls
pub mod StoreEvents
pub mod Trails
pub mod Visiting
