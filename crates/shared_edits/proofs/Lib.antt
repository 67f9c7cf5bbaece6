pub mod FindLaws
pub mod KeepLaws
pub mod MakeLaws
pub mod PublishLaws
pub mod TableLaws
pub mod WalkLaws
