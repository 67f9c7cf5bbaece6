use Rattle.std.specs.Prelude.{ℕ, List, codes}
use Rattle.edit_desk.specs.declared.words.WordsFault.{WordsFault}
use Rattle.edit_desk.specs.declared.words.WordsFault.TheVariants as words
use Rattle.bench_frame.specs.declared.fault.Fault.{Fault}
use Rattle.bench_frame.specs.declared.fault.Fault.TheVariants.{FileUnread, OutOfMemory, Overflow, Records, Rules, Unread, Usage}

-- What a bench tells of a fault.

-- the exit status
abbrev pub status_of : Fault → ℕ
status_of Usage = 2
status_of Rules = 3
status_of Records = 4
status_of Overflow = 4
status_of FileUnread = 5
status_of Unread = 5
status_of OutOfMemory = 7

-- what is printed, where this is the bench's usage
abbrev pub text_of : List ℕ → Fault → List ℕ
text_of usage Usage = usage
text_of usage Rules = codes "the rule file has no reading"
text_of usage Records = codes "the record file has no reading"
text_of usage Overflow = codes "a number of a combination is out of range"
text_of usage FileUnread = codes "the file could not be read"
text_of usage Unread = codes "a file could not be read"
text_of usage OutOfMemory = codes "out of memory"

-- the fault of a bench that has no words: words that are no texts are not in form
abbrev pub fault_of : WordsFault → Fault
fault_of words.NotText = Usage
fault_of words.OutOfMemory = OutOfMemory
