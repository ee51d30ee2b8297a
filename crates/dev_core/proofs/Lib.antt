-- Lemmas of dev_core.
mod SameLemmas
mod RowLemmas
mod StockLemmas
