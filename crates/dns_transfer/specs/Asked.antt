-- What a query for a transfer asks for. RFC 5936 section 2.1, RFC 1995 section 3.
use Rattle.std.specs.Prelude.{ℕ}
use Rattle.dns_name.specs.Names.{Labels}
use Rattle.dns_name.specs.NameReading.{name_labels}
use Rattle.dns_item.specs.Questions.{QuestionItem}
use Rattle.dns_transfer.specs.declared.grammar.Request.{Request}
use Rattle.dns_transfer.specs.declared.grammar.Request.TheVariants.{Axfr, Ixfr}
use Rattle.dns_transfer.specs.declared.query.Query.{Query}

-- the name and the class of the zone, the ID of the query, and what is asked for
pub record Asked : Type 0 where
  pub zone : Labels
  pub class : ℕ
  pub id : ℕ
  pub request : Request

-- what a query asks for
abbrev pub asked_by : Query → Asked
asked_by query = record { zone = name_labels query.zone; class = query.class; id = query.id; request = query.request }

-- QTYPE: AXFR or IXFR
abbrev pub qtype_of : Request → ℕ
qtype_of Axfr = 252
qtype_of (Ixfr serial) = 251

-- the question of the query
abbrev pub question_of : Asked → QuestionItem
question_of asked = record { name = asked.zone; rtype = qtype_of asked.request; class = asked.class }
