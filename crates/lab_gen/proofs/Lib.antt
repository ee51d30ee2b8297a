pub mod Apart
pub mod MoreBoards
pub mod Plans
pub mod Texts
pub mod Told
