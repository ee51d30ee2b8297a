-- What the contracts of this crate cite.
pub mod Immediate
pub mod Table
pub mod Means
pub mod Inner
