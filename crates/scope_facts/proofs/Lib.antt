pub mod BitLaws
pub mod Entries
pub mod FieldLaws
pub mod Rows
pub mod ThreadLaws
