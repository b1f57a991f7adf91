use Rattle.std.proofs.Common.{◌≡◌, ◌∙◌, ◌<◌, ap, sym, length, subst, List, map, arith}
use Rattle.std.proofs.lemmas.Grind.{common_steps}
use Rattle.std.proofs.lemmas.List.{length-map, length-reverse, nil_from_length}
use Rattle.std.proofs.lemmas.Result.{err_from_is_err_and}
use Rattle.dns_target.specs.FingerprintIndex.{FingerprintEntries, FingerprintEntry, AreHashed, all_hashed_of, hashed_of, table_entries_at}
use Rattle.dns_target.specs.declared.fingerprint_index.Fingerprint.{Fingerprint}
use Rattle.dns_target.proofs.fingerprint_index.FingerprintIndexSuffixIndex.copy.Goals as goal

as_many : (entries : List Fingerprint) → length (all_hashed_of entries) ≡ length entries
as_many entries = length-reverse (map hashed_of entries) ∙ length-map entries hashed_of

pub returns-then-is_empty-clause-table_entries : goal.returns-then-is_empty-clause-table_entries
returns-then-is_empty-clause-table_entries c =
    let none : length c.self.inside.entries.items ≡ 0 = grind (arith, common_steps) in
    ap table_entries_at (c.new.ensures ∙ sym (ap all_hashed_of (nil_from_length c.self.inside.entries.items none)) ∙ ap (λ (t : FingerprintEntries). t.suffixes) c.self.view_is)

pub returns-then-is_empty-clause-is_of : goal.returns-then-is_empty-clause-is_of
returns-then-is_empty-clause-is_of c = λ b hashed.
    let none : length c.self.inside.entries.items ≡ 0 = grind (arith, common_steps) in
    let same = c.new.ensures ∙ sym (ap all_hashed_of (nil_from_length c.self.inside.entries.items none)) ∙ ap (λ (t : FingerprintEntries). t.suffixes) c.self.view_is in
    subst (λ (suffixes : List FingerprintEntry). AreHashed b suffixes) (sym same) hashed

pub returns-in_err-clone-clause-full : goal.returns-in_err-clone-clause-full
returns-in_err-clone-clause-full c =
    let p = err_from_is_err_and c.from_residual.result c.from_residual.ensures.1 in
    let some : 0 < length c.self.inside.entries.items = grind (arith, common_steps) in
    let size = as_many c.self.inside.entries.items in
    let view = ap (λ (t : FingerprintEntries). length t.suffixes) c.self.view_is in
    rw p.1 (omega (arith, some, size, view))

pub returns-in_err-clone-2-clause-full : goal.returns-in_err-clone-2-clause-full
returns-in_err-clone-2-clause-full c =
    let p = err_from_is_err_and c.from_residual-in_err-clone-2.result c.from_residual-in_err-clone-2.ensures.1 in
    let some : 0 < length c.self.inside.entries.items = grind (arith, common_steps) in
    let size = as_many c.self.inside.entries.items in
    let view = ap (λ (t : FingerprintEntries). length t.suffixes) c.self.view_is in
    rw p.1 (omega (arith, some, size, view))
