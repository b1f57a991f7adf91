-- How many octets a query has, and that building one never fails.
use Rattle.std.proofs.Common.{◌≡◌, ◌<◌, ◌≤◌, length, length-append, arith, refl, false}
use Rattle.std.specs.Prelude.{ℕ, Some, Result, Ok, Err, IsOk, IsTrue}
use Rattle.dns_message.specs.Names.{IsName}
use Rattle.dns_message.proofs.CallerLemmas.{length-uncompressed, length-octets_of_fields}
use Rattle.dns_message.specs.Targets.{Plain, encode_name}
use Rattle.dns_message.specs.Headers.{HeaderFields}
use Rattle.dns_message.specs.Questions.{QuestionItem, encode_question}
use Rattle.dns_message.specs.Builders.{PushReturns, encode, most_entries, no_limit}
use Rattle.dns_message.specs.declared.builder.PushError.{PushError}
use Rattle.dns_message.specs.declared.builder.PushError.TheVariants as errors
use Rattle.example_resolve.specs.Queries.{asking}

-- the header section, the name and four octets
pub query_size : (header : HeaderFields) (asked : QuestionItem) → IsName asked.name → length (encode Plain (asking header asked)).octets ≤ 271
unfolding encode encode_question encode_name
query_size header asked is =
    let four = length-octets_of_fields header in
    let name = length-uncompressed asked.name in
    let few = is.short in
    simp length-append (omega (arith, four, name, few))

-- a push within capacity, limit and count succeeds
pub accepted : (r : Result (Unit {0}) PushError) (n limit count : ℕ) → n ≤ 512 → limit ≡ no_limit → count < most_entries → PushReturns (Some 512) false limit n count r → IsOk r
accepted (Ok _) n limit count small none few h = refl
accepted (Err errors.ShortBuf) n limit count small none few h = absurd (omega arith)
accepted (Err errors.OutOfMemory) n limit count small none few h = let grows : IsTrue false = h in absurd (cc)
accepted (Err errors.LimitExceeded) n limit count small none few h = let over = h.1 in absurd (omega arith)
accepted (Err errors.CountOverflow) n limit count small none few h = let full = h.2 in absurd (omega arith)
