pub mod Digits
pub mod Parts
pub mod Printing
pub mod Rising
