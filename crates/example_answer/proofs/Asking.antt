-- When a record matches a question.
use Rattle.std.proofs.Common.{◌≡◌}
use Rattle.std.proofs.lemmas.Bool.Decides.{Decides-and, Decides-eqb}
use Rattle.std.specs.Bool.{Decides, one_answer}
use Rattle.std.specs.Prelude.{Bool, IsTrue, ◌↔◌, ◌==◌, ◌&&◌}
use Rattle.dns_message.specs.Names.{lowered, names_equal}
use Rattle.dns_message.specs.Questions.{QuestionItem}
use Rattle.dns_message.specs.Records.{RecordItem}
use Rattle.dns_message.proofs.CallerLemmas.{names_equal-Decides}
use Rattle.example_answer.specs.Answering.{is_asked}

-- the owner is equal, ignoring ASCII case, and type and class are
abbrev pub Asks : QuestionItem → RecordItem → Type 0
Asks asked x = ((lowered x.owner ≡ lowered asked.name) × (x.rtype ≡ asked.rtype)) × (x.class ≡ asked.class)

asks_decides : (asked : QuestionItem) (x : RecordItem) → Decides (is_asked asked x) (Asks asked x)
asks_decides asked x =
    Decides-and (names_equal x.owner asked.name && (x.rtype == asked.rtype)) (x.class == asked.class)
    (Decides-and (names_equal x.owner asked.name) (x.rtype == asked.rtype) (names_equal-Decides x.owner asked.name) (Decides-eqb x.rtype asked.rtype))
    (Decides-eqb x.class asked.class)

-- a test that decides this equals `is_asked`
pub same_test : (test : Bool) (asked : QuestionItem) (x : RecordItem) → (IsTrue test ↔ Asks asked x) → test ≡ is_asked asked x
same_test test asked x h = one_answer test (is_asked asked x) (h.0, h.1) (asks_decides asked x)
