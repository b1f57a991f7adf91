-- The rules of a page's style for the colours of rows.
use Rattle.std.proofs.Common.{refl, codes}
use Rattle.std.specs.Prelude.{IsTrue, ◌++◌}
use Rattle.dnsview_rows.specs.declared.row.RowKind.TheVariants as kinds
use Rattle.dnsview_rows.specs.declared.row.RowField.{RowField}
use Rattle.dnsview_rows.specs.declared.row.RowField.TheVariants as fields
use Rattle.dnsview_tool.specs.Heads.{has_part, ColoursAreNamed, ColoursHaveRules}
use Rattle.dnsview_tool.specs.Pages.{field_letter}
use Rattle.dnsview_tool.specs.declared.html.TheConstants.{LEGEND, STYLE}

rule_h : IsTrue (has_part (codes ".h") STYLE.now)
rule_h = refl

named_h : IsTrue (has_part (codes "<span class=\"h\">") LEGEND.now)
named_h = refl

rule_n : IsTrue (has_part (codes ".n") STYLE.now)
rule_n = refl

named_n : IsTrue (has_part (codes "<span class=\"n\">") LEGEND.now)
named_n = refl

rule_p : IsTrue (has_part (codes ".p") STYLE.now)
rule_p = refl

named_p : IsTrue (has_part (codes "<span class=\"p\">") LEGEND.now)
named_p = refl

rule_k : IsTrue (has_part (codes ".k") STYLE.now)
rule_k = refl

named_k : IsTrue (has_part (codes "<span class=\"k\">") LEGEND.now)
named_k = refl

rule_d : IsTrue (has_part (codes ".d") STYLE.now)
rule_d = refl

named_d : IsTrue (has_part (codes "<span class=\"d\">") LEGEND.now)
named_d = refl

rule_o : IsTrue (has_part (codes ".o") STYLE.now)
rule_o = refl

named_o : IsTrue (has_part (codes "<span class=\"o\">") LEGEND.now)
named_o = refl

rule_f : IsTrue (has_part (codes ".f") STYLE.now)
rule_f = refl

named_f : IsTrue (has_part (codes "<span class=\"f\">") LEGEND.now)
named_f = refl

field_ruled : (field : RowField) → IsTrue (has_part (codes "." ++ field_letter field) STYLE.now)
field_ruled fields.Id = rule_h
field_ruled fields.Flags = rule_h
field_ruled (fields.Count _) = rule_h
field_ruled (fields.Item _ _) = rule_d
field_ruled (fields.Label _) = rule_n
field_ruled (fields.Root _ _) = rule_n
field_ruled (fields.Pointer _ _) = rule_p
field_ruled fields.Type = rule_k
field_ruled fields.Class = rule_k
field_ruled fields.Ttl = rule_k
field_ruled fields.RdLength = rule_k
field_ruled fields.Data = rule_d
field_ruled (fields.Named _ _) = rule_d
field_ruled fields.Text = rule_d
field_ruled fields.PayloadSize = rule_o
field_ruled fields.ExtendedRcode = rule_o
field_ruled fields.Version = rule_o
field_ruled fields.OptFlags = rule_o
field_ruled fields.OptionCode = rule_o
field_ruled (fields.OptionLength _) = rule_o
field_ruled (fields.OptionData _) = rule_o

field_named : (field : RowField) → IsTrue (has_part (codes "<span class=\"" ++ field_letter field ++ codes "\">") LEGEND.now)
field_named fields.Id = named_h
field_named fields.Flags = named_h
field_named (fields.Count _) = named_h
field_named (fields.Item _ _) = named_d
field_named (fields.Label _) = named_n
field_named (fields.Root _ _) = named_n
field_named (fields.Pointer _ _) = named_p
field_named fields.Type = named_k
field_named fields.Class = named_k
field_named fields.Ttl = named_k
field_named fields.RdLength = named_k
field_named fields.Data = named_d
field_named (fields.Named _ _) = named_d
field_named fields.Text = named_d
field_named fields.PayloadSize = named_o
field_named fields.ExtendedRcode = named_o
field_named fields.Version = named_o
field_named fields.OptFlags = named_o
field_named fields.OptionCode = named_o
field_named (fields.OptionLength _) = named_o
field_named (fields.OptionData _) = named_o

-- The style has a rule for the class of each row's colour.
pub colours_ruled : ColoursHaveRules
colours_ruled (kinds.Field field) = field_ruled field
colours_ruled kinds.ShortHeader = rule_f
colours_ruled (kinds.Fault _) = rule_f
colours_ruled kinds.Unread = rule_f

-- The legend names each colour.
pub colours_named : ColoursAreNamed
colours_named (kinds.Field field) = field_named field
colours_named kinds.ShortHeader = named_f
colours_named (kinds.Fault _) = named_f
colours_named kinds.Unread = named_f
