-- Lemmas of script_laws.
pub mod ApartLemmas
pub mod StoreLemmas
pub mod StepLemmas
pub mod TranscriptLemmas
pub mod BeginLemmas
pub mod ScriptLemmas
pub mod RoomLemmas
pub mod PlaceLemmas
pub mod SameLemmas
pub mod BodyLemmas
