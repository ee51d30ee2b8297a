-- What private contracts alone cite.
pub mod Groups
pub mod Widths
