-- Lemmas of uart_hub.
pub mod HubLemmas
pub mod RankLemmas
