pub mod Gifts
