-- A name that is printed with a final dot.
use Rattle.dns_name.specs.Names.{Labels}
use Rattle.dns_name.specs.ParsedName.{labels}
use Rattle.dns_name.specs.declared.name_print.DisplayWithDot.{DisplayWithDot}

-- The labels of the name.
abbrev pub dotted_labels : DisplayWithDot → Labels
dotted_labels it = labels it.name
