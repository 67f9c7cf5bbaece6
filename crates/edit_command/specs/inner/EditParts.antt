-- What an edit makes of a release.
use Rattle.std.specs.Prelude.{if◌then◌else◌, ℕ, List}
use Rattle.edit_release.specs.Releases.{written_in}
use Rattle.edit_release.specs.declared.release.Release.{Release}
use Rattle.command_words.specs.Asked.{EditAsked}
use Rattle.edit_command.specs.EditRun.{edit_files, edit_made}
use Rattle.run_parts.specs.Commands.{Made}
use Rattle.run_parts.specs.declared.status.Status.{Status}
use Rattle.run_parts.specs.declared.status.Status.TheVariants as status

-- the status of an edit that did all on the desk
abbrev pub edit_status : Release → Status
edit_status release = if release.whole then status.Done else status.SomeUnresolved

-- what is made of a release
abbrev pub release_made : EditAsked → Release → Made
release_made asked release = edit_made asked (edit_status release) (written_in release)

-- the files that an edit stores of a release, in order
abbrev pub release_files : EditAsked → Release → List (List ℕ × List ℕ)
release_files asked release = edit_files asked (written_in release)
