pub mod HeldLists
pub mod Numbers
pub mod Adds
pub mod Listings
