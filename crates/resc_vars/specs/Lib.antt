-- What contracts of resc_vars and of the crates above cite.
pub mod Cause
pub mod Form
pub mod Numbered
pub mod Items
pub mod Variables
pub mod Script
pub mod Bodies
pub mod Behind
pub mod Coming
pub mod Inner
