-- Laws of the listing.
pub mod Listings
