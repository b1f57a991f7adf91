use Rattle.std.proofs.Common.{◌∙◌, Bool, ℕ, ap, sym}
use Rattle.std.specs.Prelude.{if◌then◌else◌}
use Rattle.dnsview_rows.specs.Rows.{row_octets}
use Rattle.dnsview_tool.specs.Pages.{escaped, escaped_within, words_limit}
use Rattle.dnsview_tool.proofs.Appended.{printed_same}
use Rattle.dnsview_tool.proofs.html.print_words.Goals as goal

pub returns-then-limits_words : goal.returns-then-limits_words
returns-then-limits_words g c =
    let words = c.args.words.now in
    let octets = row_octets c.args.message.now c.args.row.now in
    let limit = c.words_limit.ensures ∙ ap words_limit c.octets_of.ensures in
    let limited = sym c.if-limits_words.true ∙ c.limits_words.ensures in
    printed_same _ _ _ _ c.print_within.result
    (ap (λ (n : ℕ). escaped_within n words) limit ∙ ap (λ (b : Bool). if b then escaped_within (words_limit octets) words else escaped words) limited)
    c.print_within.ensures

pub returns : goal.returns
returns g c =
    let words = c.args.words.now in
    let octets = row_octets c.args.message.now c.args.row.now in
    let limited = sym c.if-limits_words.false ∙ c.limits_words.ensures in
    printed_same _ _ _ _ c.print_escaped.result (ap (λ (b : Bool). if b then escaped_within (words_limit octets) words else escaped words) limited) c.print_escaped.ensures
