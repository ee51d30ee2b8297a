-- Lemmas of `rv_hart`.
pub mod Masks
