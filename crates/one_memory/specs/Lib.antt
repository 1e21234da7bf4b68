pub mod Below
pub mod Changing
pub mod Counts
pub mod Guests
pub mod Lacking
pub mod Loans
pub mod Pages
pub mod Views
