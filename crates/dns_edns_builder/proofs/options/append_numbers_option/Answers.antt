use Rattle.std.proofs.Common.{◌≡◌, ◌∙◌, ap, sym, ℕ, ◌*◌, List, ◌++◌, length, append_assoc, arith}
use Rattle.std.specs.Int.{to_be_bytes, w16}
use Rattle.std.specs.List.{flat_map}
use Rattle.std.proofs.lemmas.List.{take_all}
use Rattle.dns_edns_builder.proofs.OptionListLemmas.{numbers_length}
use Rattle.dns_edns_builder.proofs.options.append_numbers_option.Goals as goal

-- code and length, followed by numbers of two octets each
with_head : (head octets : List ℕ) (ns : List ℕ) (b : List ℕ) (code : ℕ) → head ≡ b ++ (to_be_bytes w16 code ++ to_be_bytes w16 (length ns * 2))
    → octets ≡ head ++ flat_map (to_be_bytes w16) ns → octets ≡ b ++ (to_be_bytes w16 code ++ to_be_bytes w16 (length (flat_map (to_be_bytes w16) ns)) ++ flat_map (to_be_bytes w16) ns)
with_head head octets ns b code is all =
    all
    ∙ ap (λ (xs : List ℕ). xs ++ flat_map (to_be_bytes w16) ns) is
    ∙ append_assoc b _ _
    ∙ ap (λ (n : ℕ). b ++ (to_be_bytes w16 code ++ to_be_bytes w16 n ++ flat_map (to_be_bytes w16) ns)) (sym (numbers_length ns))

pub returns : goal.returns
returns c =
    let whole = take_all c.loop-number.number-index c.args.numbers.now (omega arith) in
    record {
      ok = with_head _ _ _ _ _ c.in_ok-begin_option.ensures.head (c.loop-number.invariant.items ∙ ap (λ (ns : List ℕ). c.begin_option.new.list.items ++ flat_map (to_be_bytes w16) ns) whole);
      err = tt;
      outcome = omega (arith, numbers_length c.args.numbers.now, c.in_ok-begin_option.ensures.outcome);
      full = λ reported. absurd (cc reported);
    }
