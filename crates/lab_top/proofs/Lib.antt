pub mod Settings
pub mod Pieces
pub mod Courses
pub mod Lending
pub mod Onward
pub mod Stores
pub mod Openings
pub mod Headlines
