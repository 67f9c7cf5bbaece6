pub mod MakeParts
