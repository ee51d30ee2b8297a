-- What contracts of log_merge cite.
pub mod Merge
