-- Lemmas of ihex_load.
mod LineLemmas
mod CourseLemmas
mod LawLemmas
mod Examples
