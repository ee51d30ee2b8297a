-- Lemmas of repl_files.
pub mod Contents
pub mod Courses
pub mod LoadingLaws
pub mod OneEntry
pub mod Uses
pub mod Wanting
