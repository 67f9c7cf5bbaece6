pub mod SectionLaws
pub mod ValueLaws
