-- What the judge's contracts say.
pub mod Judge
pub mod Tails
pub mod Runs
pub mod Ready
