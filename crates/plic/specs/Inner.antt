pub mod Best
pub mod There
