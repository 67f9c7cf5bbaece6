pub mod BothLaws
pub mod FieldLaws
pub mod FileLaws
pub mod JoinedLaws
pub mod KeyLaws
pub mod PartLaws
