-- What contracts of probe_jobs and of the crates above cite.
pub mod Course
pub mod Next
pub mod Told
