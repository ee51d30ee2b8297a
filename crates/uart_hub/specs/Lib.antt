-- What contracts of uart_hub and of the crates above cite.
pub mod Hub
pub mod Inner
