use Rattle.std.proofs.Common.{◌≡◌, ◌<◌, ◌∙◌, length, refl, sym, subst, inr, arith}
use Rattle.std.proofs.lemmas.Grind.{common_steps}
use Rattle.std.proofs.lemmas.Bool.{false≢true}
use Rattle.std.specs.Prelude.{ℕ, List}
use Rattle.fields_text.specs.Octets.{IsBase64}
use Rattle.fields_text.specs.ReadOctets.{RepresentsSome}
use Rattle.fields_text.proofs.Base64Words.{word_takes_memory}
use Rattle.fields_text.proofs.HexWords.{empty_is_base64}
use Rattle.fields_text.proofs.octets_word.read_base64.Goals as goal

pub returns-then-is_empty-clause-reads : goal.returns-then-is_empty-clause-reads
returns-then-is_empty-clause-reads c =
    let none : length c.args.word.now ≡ 0 = grind (arith, common_steps) in
    empty_is_base64 c.args.word.now c.new.result.items none c.new.ensures.items

-- whether octets are represented by a word or by its octets
same_word : (a b : List ℕ) → a ≡ b → RepresentsSome (IsBase64 a) → RepresentsSome (IsBase64 b)
same_word a b same = subst (λ (word : List ℕ). RepresentsSome (IsBase64 word)) same

pub returns-then-is_base64-clause-full : goal.returns-then-is_base64-clause-full
returns-then-is_base64-clause-full c =
    let some : 0 < length c.args.word.now = grind (arith, common_steps) in
    λ is. word_takes_memory c.args.word.now (λ i. let fits = c.type_inv.word i in omega arith) some
    (same_word _ _ c.as_bytes-in-Err-OutOfMemory.ensures.value (c.is_base64.ensures.0 c.if-is_base64.true))

pub returns-else-is_base64-clause-reads : goal.returns-else-is_base64-clause-reads
returns-else-is_base64-clause-reads c =
    inr (refl, λ octets is. false≢true (sym c.if-is_base64.false ∙ c.is_base64.ensures.1 (same_word _ _ (sym c.as_bytes-in-Err-OutOfMemory.ensures.value) (octets, is))))
