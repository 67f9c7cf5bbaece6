-- What the proofs of this crate cite.
pub use Rattle.std.proofs.Common.{rules, ◌≡◌, ℕ, List, [], ◌∷◌, ◌++◌, ◌∙◌, ap, codes, map, max, refl, sym}
pub use Rattle.std.proofs.lemmas.Result.{on_ok_weaker}
pub use Rattle.std.specs.Fmt.{decimal}
pub use Rattle.page_markup.specs.Drafts.{followed}
pub use Rattle.page_markup.specs.OpenPages.{added, opened}
pub use Rattle.page_markup.specs.Trees.Content.{Element, Nothing, Words}
pub use Rattle.page_figures.proofs.PageLaws.{both, element}
