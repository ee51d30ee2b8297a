pub mod Asking
pub mod Frames
pub mod Grown
pub mod Find
pub mod Listed
pub mod ReadLemmas
pub mod Texts
pub mod Told
