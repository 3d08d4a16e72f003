pub mod Below
pub mod WeakCalls
