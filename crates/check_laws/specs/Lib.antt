pub mod Standing
pub mod Checked
pub mod Coming
