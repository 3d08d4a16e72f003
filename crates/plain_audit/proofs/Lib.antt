pub mod Below
pub mod Numbers
pub mod Within
pub mod ImageNumbers
pub mod ImageLaws
pub mod Auditing
pub mod Fieldless
pub mod Once
