pub mod Ledger
pub mod Places
pub mod Quotas
