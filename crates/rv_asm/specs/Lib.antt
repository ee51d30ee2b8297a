-- What the contracts of this crate cite.
pub mod Encoded
pub mod Lines
pub mod Mnemonics
pub mod Numbers
pub mod Operands
pub mod Places
pub mod Program
pub mod Shapes
pub mod Texts
pub mod Inner
