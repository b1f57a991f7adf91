-- How questions compare, hash and clone, field by field, and their canonical order. RFC 1035 section 4.1.2, RFC 4034 section 6.
use Rattle.std.specs.Prelude.{◌≡◌, Bool, ◌++◌, ◌==◌}
use Rattle.std.specs.Hash.{HashWrites, u16}
use Rattle.std.specs.Ordering.{on, nat_cmp, then_cmp, eq_of_both}
use Rattle.std.specs.declared.cmp.Ordering.{Ordering}
use Rattle.dns_name.specs.Names.{Labels}
use Rattle.dns_name.specs.NameOrders.{composed_order}
use Rattle.dns_item.specs.Question.{qname_of, qtype_of, qclass_of}
use Rattle.dns_item.specs.declared.question.Question.{Question}

module _ {N : Type 0} where
  -- questions are equal if their names, types and classes are
  abbrev pub questions_equal : (N → N → Bool) → Question N → Question N → Bool
  questions_equal same_name = eq_of_both (on qname_of same_name) (eq_of_both (on qtype_of ◌==◌) (on qclass_of ◌==◌))

  -- the order of questions: by name, then by type, then by class
  abbrev pub question_order : (N → N → Ordering) → Question N → Question N → Ordering
  question_order name_order = then_cmp (on qname_of name_order) (then_cmp (on qtype_of nat_cmp) (on qclass_of nat_cmp))

  -- what a question feeds a hasher: name, type and class
  abbrev pub question_hash_input : (N → HashWrites) → Question N → HashWrites
  question_hash_input of_name q = of_name (qname_of q) ++ (u16 (qtype_of q) ++ u16 (qclass_of q))

  -- a clone of a question: the name is a clone, and type and class are the same
  pub record IsQuestionClone (IsNameClone : N → N → Type 0) (question clone : Question N) : Type 0 where
    pub qname : IsNameClone (qname_of question) (qname_of clone)
    pub qtype : qtype_of clone ≡ qtype_of question
    pub qclass : qclass_of clone ≡ qclass_of question

  -- The canonical order: by the octets of the uncompressed names, lowercased, then by type, then by class.
  abbrev pub canonical_question_order : (N → Labels) → Question N → Question N → Ordering
  canonical_question_order labels_of = then_cmp (on (λ q. labels_of (qname_of q)) composed_order) (then_cmp (on qtype_of nat_cmp) (on qclass_of nat_cmp))
