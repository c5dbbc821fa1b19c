pub mod AllRead
pub mod CellQuotas
pub mod LeftDigests
