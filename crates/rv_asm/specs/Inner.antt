-- What only private contracts cite.
pub mod Fields
pub mod Parts
pub mod Reading
pub mod Saturated
pub mod Scan
