use Rattle.std.proofs.Common.{◌≡◌, ◌∙◌, ◌++◌, ◌∷◌, [], ap, arith}
use Rattle.dns_name.specs.Parsers.{offset}
use Rattle.dns_code.specs.HeaderSection.{header_size}
use Rattle.dnsview_rows.specs.Fields.{field_row}
use Rattle.dnsview_rows.specs.Walks.{at}
use Rattle.dnsview_rows.proofs.Tilings.{counted_after, marked_after}
use Rattle.dnsview_rows.proofs.walk.Walk.mark.Goals as goal

pub returns-clause-comes : goal.returns-clause-comes
returns-clause-comes c =
    let rows = c.args.self.now.rows.items in
    let start = at c.args.self.now in
    let end = offset c.args.after in
    let field = c.args.field in
    let row = c.field-row.ensures ∙ ap (λ n. field_row n c.pos-2.result field) c.pos.ensures ∙ ap (λ n. field_row start n field) c.pos-2.ensures in
    let pushed : c.push.new.self.items ≡ rows ++ field_row start end field ∷ [] = c.in-Ok.ensures.items ∙ ap (λ row. rows ++ row ∷ []) row in
    let counted = counted_after rows c.push.new.self.items start end field pushed in
    record {
      marked = marked_after rows c.push.new.self.items header_size start end field pushed c.requires.marked c.requires.is_field c.requires.order;
      input = c.requires.input;
      more = omega arith;
      most = omega arith;
    }
