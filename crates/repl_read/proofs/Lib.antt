-- Lemmas of repl_read.
pub mod BlankLemmas
pub mod CommentLaws
pub mod CommentLemmas
pub mod EntryLemmas
pub mod FaultLemmas
pub mod LengthLemmas
pub mod ListLemmas
pub mod ReturnLemmas
pub mod TokenLemmas
pub mod Utf8Lemmas
pub mod ValidLemmas
pub mod ValidLines
