-- All names are apart exactly where those that are left are.
use Rattle.std.proofs.Common.{◌↔◌, drop}
use Rattle.command_words.specs.FileNames.{AreApart}
use Rattle.command_words.proofs.ApartLaws.{texts}
use Rattle.command_words.proofs.file_names.are_apart.Given as goal

abbrev pub invariant-loop-place : goal.invariant-loop-place
invariant-loop-place l = AreApart (texts l.names) ↔ AreApart (texts (drop l.place l.names))
