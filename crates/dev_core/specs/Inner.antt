-- What only the contracts and proofs inside dev_core cite.
pub mod ByteRow
pub mod FrameRow
pub mod SameFrame
