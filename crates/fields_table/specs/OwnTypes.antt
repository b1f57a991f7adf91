-- RDATA of a record type of one's own, which is a list of fields.
use Rattle.std.specs.Prelude.{List, IsSomeAnd}
use Rattle.std.proofs.Common.{refl}
use Rattle.std.proofs.lemmas.Bool.{eq-eqb}
use Rattle.dns_name.specs.Parsers.{seen, offset}
use Rattle.dns_wire.specs.Parts.{Part}
use Rattle.dns_data.specs.Layout.{Layout, IsLaidOut}
use Rattle.dns_data.specs.RecordData.{only}
use Rattle.fields_table.specs.EncodedData.{data_is_there}
use Rattle.fields_table.specs.FieldData.{parts_at}
use Rattle.fields_table.specs.LaidOut.{laid_out}
use Rattle.fields_table.specs.Layouts.{rdata_layout}
use Rattle.fields_table.specs.Table.{kinds_in}
use Rattle.fields_table.specs.declared.own.DataOf.{DataOf}
use Rattle.fields_table.specs.declared.own.RecordFields.{Ghosts}

-- its parts
abbrev pub own_parts_of : {T : Type 0} {g : Ghosts T} → DataOf T g → List Part
own_parts_of {g = g} d = parts_at (kinds_in g.defined) d.parser

-- they have the layout of the type
pub own_laid_out : {T : Type 0} {g : Ghosts T} (d : DataOf T g)
    → IsSomeAnd (only g.number (rdata_layout (kinds_in g.defined)) g.number) (λ (l : Layout). IsLaidOut l (own_parts_of d))
own_laid_out {g = g} d =
    let h = data_is_there _ _ _ d.encoded in
    rw (eq-eqb g.number g.number refl)
    (d.short, laid_out (seen d.parser) (kinds_in g.defined) (offset d.parser) h.0 (own_parts_of d) h.1)
