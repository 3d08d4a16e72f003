pub mod Below
pub mod CounterSteps
