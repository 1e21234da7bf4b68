pub mod BytesRead
pub mod BytesWritten
pub mod MapRows
pub mod Filled
pub mod OnePage
pub mod RowSets
pub mod WrittenBack
mod Lowest
pub mod Copied
mod Mapped
