mod FrameLemmas
mod ListLoops
mod TextLemmas
mod WholeLaws
