pub mod Guests
pub mod Loads
pub mod Order
pub mod Rooms
pub mod Top
