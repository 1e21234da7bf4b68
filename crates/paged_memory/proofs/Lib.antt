pub mod RowPages
