pub mod Donors
