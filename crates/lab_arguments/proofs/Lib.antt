-- Lemmas of lab_arguments.
mod SortLemmas
mod RowLemmas
mod Standing
mod TurnLemmas
mod AgreeLemmas
mod CommandLemmas
mod GivesLemmas
mod SpellingLemmas
mod TextLemmas
