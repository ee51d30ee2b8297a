pub mod Groups
pub mod Near
