-- When the questions of two readings are the same. RFC 1035 section 4.1.2.
use Rattle.std.specs.Prelude.{Bool, false, ◌&&◌, ◌==◌, List, Result, Ok, Err}
use Rattle.std.specs.Cmp.Lexicographic.{pointwise}
use Rattle.dns_name.specs.Names.{Fault}
use Rattle.dns_name.specs.NameOrders.{names_equal}
use Rattle.dns_item.specs.Questions.{QuestionItem}

-- whether two questions have equal names, ignoring ASCII case, equal types and equal classes
abbrev pub same_question : QuestionItem → QuestionItem → Bool
same_question x y = names_equal x.name y.name && (x.rtype == y.rtype) && (x.class == y.class)

-- whether two items are the same question; a fault is never the same
abbrev pub same_item : Result QuestionItem Fault → Result QuestionItem Fault → Bool
same_item (Ok x) (Ok y) = same_question x y
same_item (Ok x) (Err g) = false
same_item (Err f) y = false

-- whether two readings have no fault and the same questions in order
abbrev pub same_readings : List (Result QuestionItem Fault) → List (Result QuestionItem Fault) → Bool
same_readings = pointwise same_item
