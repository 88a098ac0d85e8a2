pub mod ItemLaws
pub mod RowLaws
pub mod ReadLaws
pub mod Places
pub mod BoundLaws
