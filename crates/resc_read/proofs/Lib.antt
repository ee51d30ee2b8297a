mod PieceLemmas
mod LineLemmas
mod WholeLemmas
mod TableLemmas
mod HubLemmas
