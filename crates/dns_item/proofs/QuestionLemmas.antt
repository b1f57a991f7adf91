-- What parsing and skipping a question return.
use Rattle.std.proofs.Common.{◌≡◌, ℕ, ◌+◌, ◌<◌, ◌≤◌, List, length, arith, ap, sym, ◌∙◌, refl, subst}
use Rattle.std.specs.Int.{w16}
use Rattle.dns_name.specs.Names.{fault_of, Labels, NameAt}
use Rattle.dns_name.specs.ParsedName.{MovesPastName}
use Rattle.dns_name.specs.Parsers.{seen, offset, number_at, MovesTo}
use Rattle.dns_octets.specs.declared.error.ParseError.{ParseError}
use Rattle.dns_octets.specs.declared.error.ParseError.TheVariants.{ShortInput}
use Rattle.dns_name.specs.declared.parser.Parser.{Parser}
use Rattle.dns_item.specs.Questions.{QuestionItem, ReadsQuestion, QuestionFaultAt, QuestionSkipFaultAt}
use Rattle.dns_item.specs.AfterNames.FieldsFaultAt.{short as short_question}
use Rattle.dns_item.specs.AfterNames.FieldsSkipFaultAt.{short as unended_question}

-- too few octets follow a skipped name
pub unended : (old mid : Parser) (e : ParseError) → MovesPastName old mid → length (seen mid) < offset mid + 4 → e ≡ ShortInput → QuestionSkipFaultAt (seen old) (offset old) (fault_of e)
unended old mid e moves l is =
    let n : length (seen mid) ≡ length (seen old) = ap length moves.1.seen in
    subst (λ e. QuestionSkipFaultAt (seen old) (offset old) (fault_of e)) (sym is) (unended_question moves.0 (omega arith))

-- too few octets follow a parsed name
pub short : (old mid : Parser) (name : Labels) (n : ℕ) (e : ParseError) → NameAt (seen old) (offset old) name → MovesPastName old mid → n < offset mid + 4 → n ≡ length (seen mid) → e ≡ ShortInput
    → QuestionFaultAt (seen old) (offset old) (fault_of e)
short old mid name n e encoded moves l long is =
    let k : length (seen mid) ≡ length (seen old) = ap length moves.1.seen in
    subst (λ e. QuestionFaultAt (seen old) (offset old) (fault_of e)) (sym is) (short_question encoded moves.0 (omega arith))

-- the numbers after a parsed name are the type and the class
pub reads_fields : (old mid after new : Parser) (x : QuestionItem) → NameAt (seen old) (offset old) x.name → MovesPastName old mid
    → MovesTo mid after (offset mid + 2) → x.rtype ≡ number_at w16 (seen mid) (offset mid)
    → offset after + 2 ≤ length (seen after) → MovesTo after new (offset after + 2) → x.class ≡ number_at w16 (seen after) (offset after)
    → ReadsQuestion (seen old) (offset old) (offset new) x × MovesTo old new (offset new)
reads_fields old mid after new x encoded moves first rtype long second class =
    let there : seen after ≡ seen old = first.seen ∙ moves.1.seen in
    let n : length (seen after) ≡ length (seen old) = ap length there in
    let p = first.offset in
    let q = second.offset in (
      record {
        skips = record { name_end = offset mid; name_ends = moves.0; end = omega arith; within = omega arith };
        name = encoded;
        rtype = rtype ∙ ap (λ (b : List ℕ). number_at w16 b (offset mid)) moves.1.seen;
        class = class ∙ ap (λ (b : List ℕ). number_at w16 b (offset after)) there ∙ ap (number_at w16 (seen old)) p;
      },
      record { input = second.input ∙ first.input ∙ moves.1.input; seen = second.seen ∙ there; offset = refl },
    )
