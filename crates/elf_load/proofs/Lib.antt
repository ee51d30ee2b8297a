-- Lemmas of elf_load.
mod PartLemmas
mod LawLemmas
mod Examples
mod PieceLemmas
