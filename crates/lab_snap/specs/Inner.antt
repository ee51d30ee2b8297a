-- What serves private contracts and proofs.
pub mod Building
pub mod Decided
pub mod DecidedParts
pub mod DecidedState
pub mod MemoryLaws
pub mod Pages
pub mod PageTests
pub mod Parts
pub mod ReadsInto
pub mod ValidPlan
