use Rattle.std.proofs.Common.{◌≡◌, ◌∙◌, ◌∷◌, List, map, ℕ, ap, sym}
use Rattle.std.specs.Prelude.{Result, Ok, Err}
use Rattle.dns_name.specs.Names.{Fault}
use Rattle.dns_name.specs.Parsers.{offset}
use Rattle.dns_octets.specs.declared.error.ParseError.{ParseError}
use Rattle.dns_item.specs.Items.{RecordEntry}
use Rattle.dns_item.specs.ParsedRecord.{parsed_entry}
use Rattle.dns_read.specs.RecordSection.{octets_of, position, to_come}
use Rattle.dns_read.specs.RecordsFrom.{records_from, in_octets, records_in}
use Rattle.dns_read.specs.Skipping.{items_left}
use Rattle.dns_read.proofs.CursorLemmas.{nothing_left, gives_entry, gives_fault}
use Rattle.dns_read.proofs.theory.RecordsFromLemmas.{records_from_are_read}
use Rattle.dns_read.proofs.record_section.RecordSection.next.Goals as goal

-- what is left, with the octets that it is read from
left_in : (b : List ℕ) (p : ℕ) (left : Result ℕ ParseError) (xs : List (Result RecordEntry Fault)) → items_left (λ n. records_from b n p) left ≡ xs
    → items_left (λ n. records_in b n p) left ≡ map (in_octets b) xs
unfolding records_in
left_in b p (Ok n) xs e = ap (map (in_octets b)) e
left_in b p (Err error) xs e = ap (map (in_octets b)) e

pub returns-in_err-left-clause-steps : goal.returns-in_err-left-clause-steps
returns-in_err-left-clause-steps c =
    let old = c.args.self.now in
    let none = left_in (octets_of old) (position old) (to_come old) _
    (nothing_left (records_from_are_read (octets_of old)) (position old) (to_come old) c.in_ok-ok.field-0 c.in_ok-ok.ensures.value c.in_err-left.ensures) in
    rw c.from_residual-in_err-left.ensures (none, none)

pub returns-in-Ok-clause-steps : goal.returns-in-Ok-clause-steps
unfolding records_in
returns-in-Ok-clause-steps c =
    let old = c.args.self.now in
    let new = c.parse_record_cached.new.parser in
    let reads = c.in-Ok.ensures.parses in
    let entry = parsed_entry c.in-Ok.record in
    left_in (octets_of old) (position old) (to_come old) _
    (gives_entry (records_from_are_read (octets_of old)) (position old) (to_come old) _ c.in_ok-ok.ensures.value _ (offset new) _ c.in_ok-left.ensures reads.0)
    ∙ (λ i. Ok (record { octets = sym reads.2.seen i; entry = entry }) ∷ records_in (sym reads.1.seen i) c.in_ok-left.left (offset new))

pub returns-in-Err-clause-steps : goal.returns-in-Err-clause-steps
returns-in-Err-clause-steps c =
    let old = c.args.self.now in
    left_in (octets_of old) (position old) (to_come old) _
    (gives_fault (records_from_are_read (octets_of old)) (position old) (to_come old) _ c.in_ok-ok.ensures.value _ _ c.in_ok-left.ensures c.in-Err.ensures.parses.0)

pub invariant_of-self-clause-met : goal.invariant_of-self-clause-met
invariant_of-self-clause-met c = rw c.in-Ok.ensures.parses.1.seen c.parse_record_cached.ensures.cached

pub invariant_of-self-in-Err-clause-met : goal.invariant_of-self-in-Err-clause-met
invariant_of-self-in-Err-clause-met c = rw c.in-Err.ensures.parses.1 c.parse_record_cached.ensures.cached
