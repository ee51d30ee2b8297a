-- Lemmas of probe_drive.
mod CourseLemmas
mod SlotLemmas
