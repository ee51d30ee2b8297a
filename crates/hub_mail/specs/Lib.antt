-- What contracts of hub_mail and of the crates above cite.
pub mod Boss
pub mod Inner
pub mod Pass
pub mod Posts
