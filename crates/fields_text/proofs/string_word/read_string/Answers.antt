use Rattle.std.proofs.Common.{◌≡◌, [], ◌∷◌, ◌++◌, ℕ, List, length, Some, sym, subst, arith}
use Rattle.std.proofs.lemmas.Grind.{common_steps}
use Rattle.fields_text.specs.declared.text_error.TextError.TheVariants.{OutOfMemory}
use Rattle.fields_text.specs.Strings.{octet_at, unquoted}
use Rattle.fields_text.proofs.StringSteps.{IsRead, all_read, failed_full, failed_reads, octet_read}
use Rattle.fields_text.proofs.string_word.read_string.Goals as goal

pub octets-preserved : goal.octets-preserved
octets-preserved c =
    let whole : List ℕ = unquoted c.args.word.now in
    let split : octet_at c.octets.left.now ≡ Some (c.in-Some.octet, c.in-Some.after.now) = cc c.in-Some.ensures in
    let items : c.push.new.self.items ≡ c.octets.octets.items ++ c.in-Some.octet ∷ [] = grind (arith, common_steps) in
    let step = octet_read whole c.octets.octets.items c.octets.left.now c.in-Some.after.now c.in-Some.octet c.octets.invariant split in
    subst (λ (octets : List ℕ). IsRead whole octets c.in-Some.after.now) (sym items) step

pub returns-then-is_err-clause-reads : goal.returns-then-is_err-clause-reads
returns-then-is_err-clause-reads c =
    let split : octet_at c.octets.left.now ≡ Some (c.in-Some.octet, c.in-Some.after.now) = cc c.in-Some.ensures in
    failed_reads (unquoted c.args.word.now) c.octets.octets.items c.octets.left.now c.in-Some.after.now c.in-Some.octet c.failure.result c.octets.invariant split c.failure.ensures

pub returns-then-is_err-clause-full : goal.returns-then-is_err-clause-full
returns-then-is_err-clause-full c = λ is.
    let split : octet_at c.octets.left.now ≡ Some (c.in-Some.octet, c.in-Some.after.now) = cc c.in-Some.ensures in
    let out : c.failure.result ≡ OutOfMemory = cc is in
    failed_full (unquoted c.args.word.now) c.octets.octets.items c.octets.left.now c.in-Some.after.now c.in-Some.octet c.failure.result c.octets.invariant split c.failure.ensures out

pub returns-clause-reads : goal.returns-clause-reads
returns-clause-reads c =
    let none : length c.octets.left.now ≡ 0 = grind (arith, common_steps) in
    all_read (unquoted c.args.word.now) c.octets.octets.items c.octets.left.now c.octets.invariant none
