-- Lemmas of log_laws.
pub mod AgreementLemmas
pub mod LoadingLemmas
pub mod CommandLemmas
pub mod AlikeLemmas
pub mod OrderLemmas
pub mod JoinLemmas
pub mod CheckLemmas
pub mod DryLemmas
pub mod FileLemmas
