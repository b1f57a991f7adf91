use Rattle.std.proofs.Common.{◌≡◌, ◌∙◌, ◌++◌, List, ℕ, refl, sym, ap, subst, inl, inr}
use Rattle.std.proofs.lemmas.Bool.{false≢true}
use Rattle.fields_table.specs.OwnedData.{owned_parts_of}
use Rattle.fields_table.specs.UncompressedData.{IsUncompressedData}
use Rattle.fields_text.specs.Reading.{HasValue}
use Rattle.fields_records.proofs.rdata.copy_rdata.Goals as goal

pub returns-then-not-are_rdata : goal.returns-then-not-are_rdata
returns-then-not-are_rdata c = inr (refl, λ parts is. false≢true (sym c.if-not-are_rdata.true ∙ c.are_rdata.ensures.1 (parts, is)))

pub returns-in-Err : goal.returns-in-Err
returns-in-Err c = inl (c.in-Err.ensures.err, c.are_rdata.ensures.0 c.if-not-are_rdata.false)

pub rdata_of-requires : goal.rdata_of-requires
rdata_of-requires c =
    let whole : c.push_octets.new.octets.items ≡ c.args.octets.now = c.in_default.ensures.ok ∙ ap (λ (xs : List ℕ). xs ++ c.args.octets.now) c.new-copy.ensures.items in
    subst (λ (octets : List ℕ). HasValue (IsUncompressedData c.args.rtype octets)) (sym whole) (c.are_rdata.ensures.0 c.if-not-are_rdata.false)

pub returns : goal.returns
returns c =
    let whole : c.push_octets.new.octets.items ≡ c.args.octets.now = c.in_default.ensures.ok ∙ ap (λ (xs : List ℕ). xs ++ c.args.octets.now) c.new-copy.ensures.items in
    (c.rdata_of.ensures.rtype, subst (λ (octets : List ℕ). IsUncompressedData c.args.rtype octets (owned_parts_of c.rdata_of.result)) whole c.rdata_of.ensures.rdata)
