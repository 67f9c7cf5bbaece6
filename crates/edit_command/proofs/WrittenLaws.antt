-- The files of an edit have names of their own.
use Rattle.std.proofs.Common.{◌≢◌, ap, sym}
use Rattle.edit_release.specs.Edits.{Written}
use Rattle.command_words.specs.Asked.{EditAsked, names_in}
use Rattle.command_words.specs.FileNames.{AreApart, file_parts}
use Rattle.edit_command.specs.EditRun.{edit_files}
use Rattle.run_parts.proofs.CommandLaws.{HaveOwnNames}

pub own-names : (asked : EditAsked) (written : Written) → AreApart (names_in asked.names) → HaveOwnNames (edit_files asked written)
own-names asked written apart =
    let proof-reasons : asked.names.proof ≢ asked.names.reasons = λ e. apart.1.1.1.0.0 (ap file_parts (sym e)) in
    let proof-released : asked.names.proof ≢ asked.names.released = λ e. apart.1.1.0.1.0 (ap file_parts (sym e)) in
    let reasons-released : asked.names.reasons ≢ asked.names.released = λ e. apart.1.1.0.0 (ap file_parts (sym e)) in
    ((proof-reasons, (proof-released, tt)), ((reasons-released, tt), (tt, tt)))
