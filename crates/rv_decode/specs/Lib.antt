-- What the contracts of this crate cite.
pub mod SameOp
pub mod Immediate
pub mod Table
pub mod FixedBits
pub mod Means
pub mod Inner
