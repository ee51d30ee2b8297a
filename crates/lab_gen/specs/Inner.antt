-- What serves private contracts of lab_gen.
pub mod Steps
