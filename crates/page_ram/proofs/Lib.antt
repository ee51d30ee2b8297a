pub mod ByteLemmas
pub mod DirectoryLemmas
pub mod MaybeBoxShares
pub mod MaybeBoxSteps
