pub mod OneLine
pub mod OneOutput
pub mod SameBytes
pub mod Taking
