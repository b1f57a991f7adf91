use Rattle.std.proofs.Common.{◌∙◌, ℕ, List, refl, sym, subst}
use Rattle.std.proofs.lemmas.Bool.{false≢true}
use Rattle.fields_table.specs.UncompressedData.{IsUncompressedData}
use Rattle.fields_text.specs.Reading.{HasValue}
use Rattle.fields_records.proofs.rdata.read_rdata.Goals as goal

pub returns-then-not-are_rdata : goal.returns-then-not-are_rdata
returns-then-not-are_rdata c = (
  refl,
  λ parts is.
      false≢true (sym c.if-not-are_rdata.true
      ∙ c.are_rdata.ensures.1 (subst (λ (octets : List ℕ). HasValue (IsUncompressedData c.args.rtype octets)) (sym c.as_slice.ensures.value) (parts, is))),
)

pub rdata_of-requires : goal.rdata_of-requires
rdata_of-requires c =
    subst (λ (octets : List ℕ). HasValue (IsUncompressedData c.args.rtype octets)) c.as_slice.ensures.value (c.are_rdata.ensures.0 c.if-not-are_rdata.false)

pub returns : goal.returns
returns c = (c.rdata_of.ensures.rtype, c.rdata_of.ensures.rdata)
