-- What contracts of floor_core and of the crates above cite.
pub mod Events
pub mod Floor
pub mod Job
pub mod Result
pub mod Run
pub mod Sound
pub mod Turn
