-- What serves the model of a source.
pub mod Source
