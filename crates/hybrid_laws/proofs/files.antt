-- Files: how descriptions are counted, and what each operation does to them.
pub mod Descriptions
pub mod Operations
