-- What serves the model of a handle.
pub mod Handle
