pub mod NamedBits
