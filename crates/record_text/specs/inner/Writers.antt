-- csv's writer, before its first record. Private contracts alone cite this page.
use Rattle.std.specs.Prelude.{◌≡◌, ℕ, true, false, [], Vec}
use Rattle.std.specs.declared.alloc.Global.{Global}
use Rattle.csv.specs.Writing.{default_writer, fields_written, has_written, with_flexible, writer_pending, writer_setup, writer_under}
use Rattle.csv.specs.declared.writer.Writer.{Writer}

-- csv's writer was given nothing so far; it writes by its default settings, but for records that may differ in length
pub record IsUnused (writer : Writer (Vec ℕ Global)) : Type 0 where
  pub setup : writer_setup writer ≡ with_flexible default_writer true
  pub none_begun : fields_written writer ≡ 0
  pub none_shown : has_written writer ≡ false
  pub none_pending : writer_pending writer ≡ []
  pub none_under : (writer_under writer).items ≡ []
