-- Whether a record prints as an OPT record.
use Rattle.std.proofs.Common.{◌≡◌, ◌&&◌, Bool, true, false, [], ap, sym}
use Rattle.std.specs.Prelude.{if◌then◌else◌}
use Rattle.dns_edns.specs.OptionsOf.{are_options}
use Rattle.dns_item.specs.ParsedRecord.{EncodedRecord}
use Rattle.dns_lines.specs.ZoneLines.{rdata_octets}
use Rattle.dns_dig.specs.Opt.{is_of_root, is_opt, opt_text}

module _ (x : EncodedRecord) where
  chosen : (root options : Bool) → is_of_root x ≡ root → are_options (rdata_octets x) ≡ options → (if root && options then opt_text x else []) ≡ (if is_opt x then opt_text x else [])
  chosen root options r o = sym (λ i. if r i && o i then opt_text x else [])

  -- It doesn't if it isn't OPT of the root,
  pub no_opt : is_of_root x ≡ false → [] ≡ (if is_opt x then opt_text x else [])
  no_opt r = sym (ap (λ (b : Bool). if b && are_options (rdata_octets x) then opt_text x else []) r)

  -- or if its RDATA isn't options,
  pub no_options : is_of_root x ≡ true → are_options (rdata_octets x) ≡ false → [] ≡ (if is_opt x then opt_text x else [])
  no_options r o = chosen true false r o

  -- and else it does.
  pub with_options : is_of_root x ≡ true → are_options (rdata_octets x) ≡ true → opt_text x ≡ (if is_opt x then opt_text x else [])
  with_options r o = chosen true true r o
