-- What only private contracts cite.
pub mod ByFields
pub mod StoreWidth
