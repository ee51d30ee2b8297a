-- What contracts of resc_read and of the crates above cite.
pub mod Words
pub mod Piece
pub mod Sorts
pub mod Variable
pub mod Arguments
pub mod Table
pub mod Line
pub mod Laws
pub mod Inner
