-- The lines of a script: which are skipped, and what others change in a header. RFC 1035 section 4.1.1.
use Rattle.std.specs.Prelude.{◌≡◌, ◌⊎◌, ℕ, ◌%◌, List, [], IsTrue, nat_eq, Ok, codes}
use Rattle.std.specs.List.{starts_with}
use Rattle.std.specs.Str.{IsAscii}
use Rattle.dns_code.specs.Header.{HeaderFields}
use Rattle.dns_item.specs.Questions.{QuestionItem}
use Rattle.dns_item.specs.QuestionTexts.{ReadsText}
use Rattle.dnsmsg_tool.specs.declared.line.Change.{Change}
use Rattle.dnsmsg_tool.specs.declared.line.Change.TheVariants.{Id, Opcode, Rcode, Flags}
use Rattle.dnsmsg_tool.specs.ScriptWords.{LineWords, IsNumberUpTo, spaced_words}

-- the header fields with a change applied
abbrev pub changed : HeaderFields → Change → HeaderFields
changed f (Id id) = record f { id = id }
changed f (Opcode code) = record f { opcode = code % 16 }
changed f (Rcode code) = record f { rcode = code }
changed f (Flags flags) = record f { qr = flags.qr; aa = flags.aa; tc = flags.tc; rd = flags.rd; ra = flags.ra; ad = flags.ad; cd = flags.cd }

-- a line that is skipped: an empty one, or one that is ASCII and begins with `#`
abbrev pub IsSkippedLine : List ℕ → Type 0
IsSkippedLine line = (line ≡ []) ⊎ (IsTrue (starts_with nat_eq line (codes "#")) × IsAscii line)

-- the name of a header field that has a number, the number's digits, and the change to it
abbrev pub IsNumberChange : List ℕ → List ℕ → Change → Type 0
IsNumberChange field digits (Id id) = (field ≡ codes "id") × IsNumberUpTo 65535 digits id
IsNumberChange field digits (Opcode code) = (field ≡ codes "opcode") × IsNumberUpTo 15 digits code
IsNumberChange field digits (Rcode code) = (field ≡ codes "rcode") × IsNumberUpTo 15 digits code
IsNumberChange field digits (Flags flags) = ⊥

-- words that a question is read from; other white space within them separates, too
abbrev pub AreQuestionWords : LineWords → QuestionItem → Type 0
AreQuestionWords words question = ReadsText (spaced_words words) (Ok question)
