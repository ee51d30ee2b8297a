-- Lemmas of floor_core.
pub mod BoardLemmas
pub mod JobLemmas
pub mod MailLemmas
pub mod ResultLemmas
pub mod SoundLemmas
