use Rattle.std.proofs.Common.{◌∙◌, ap, sym, [], List, length, arith}
use Rattle.std.specs.Option.{option_map_or}
use Rattle.std.specs.Prelude.{Option, is_some}
use Rattle.dns_edns.specs.Options.{OptionItem, encode_options}
use Rattle.dns_edns.specs.OptionsOf.{options_of}
use Rattle.dns_edns.proofs.theory.OptionsLemmas.{options_of-nil}
use Rattle.dns_edns_builder.proofs.theory.OptBuilderLemmas.{nothing_yet}
use Rattle.dns_edns_builder.proofs.builder.OptBuilder.new.Goals as goal

pub invariant_of-result : goal.invariant_of-result
invariant_of-result c =
    let e = ap options_of c.new.ensures.items ∙ options_of-nil in
    record {
      listed = ap (λ (o : Option (List OptionItem)). is_some o) e;
      whole = ap (λ (o : Option (List OptionItem)). encode_options (option_map_or (λ (xs : List OptionItem). xs) o [])) e ∙ sym c.new.ensures.items;
      short = omega (arith, ap length c.new.ensures.items);
    }

pub returns : goal.returns
returns c = nothing_yet c.args.header _ _ _ (omega arith) (omega arith) c.new.ensures.items
