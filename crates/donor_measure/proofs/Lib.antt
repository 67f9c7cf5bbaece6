pub mod BucketLaws
pub mod MarkLaws
pub mod YardstickLaws
