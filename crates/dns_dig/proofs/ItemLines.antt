-- Whether a record has a line in its section.
use Rattle.std.proofs.Common.{◌≡◌, true, false, [], ◌∷◌, ap}
use Rattle.std.specs.Prelude.{Ok, if◌then◌else◌}
use Rattle.dns_item.specs.ParsedRecord.{EncodedRecord}
use Rattle.dns_read.specs.declared.section.Section.{Section}
use Rattle.dns_dig.specs.Records.{record_line}
use Rattle.dns_dig.specs.Sections.{is_elsewhere, item_lines}

module _ (section : Section) (x : EncodedRecord) where
  -- A record that is printed elsewhere has none.
  pub elsewhere_none : is_elsewhere section x ≡ true → item_lines section (Ok x) ≡ []
  elsewhere_none is = ap (λ b. if b then [] else record_line x ∷ []) is

  -- Any other has one.
  pub here_one : is_elsewhere section x ≡ false → item_lines section (Ok x) ≡ record_line x ∷ []
  here_one is = ap (λ b. if b then [] else record_line x ∷ []) is
