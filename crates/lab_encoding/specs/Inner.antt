-- What serves private contracts and proofs.
pub mod Fronts
pub mod Laws
pub mod Whole
