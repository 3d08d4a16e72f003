pub mod Below
pub mod StoredNames
