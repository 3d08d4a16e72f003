pub mod Below
pub mod StepFits
pub mod Calm
