pub mod DonationLaws
pub mod OrderLaws
