pub mod ClassLaws
pub mod DueLaws
pub mod EndLaws
pub mod InputLaws
pub mod OneMade
pub mod RunLaws
pub mod WholeLaws
pub mod WrittenLaws
