use Rattle.std.proofs.Common.{◌≡◌, ◌∙◌, ◌≢◌, ℕ, false, List, codes, sym}
use Rattle.std.specs.Prelude.{bytes_eq}
use Rattle.std.proofs.lemmas.Bool.{false≢true}
use Rattle.std.proofs.lemmas.Slice.Eq.{bytes_eq-Decides}
use Rattle.fields_plain.proofs.SaltLemmas.{salt_read}
use Rattle.fields_plain.proofs.salt.read_salt.Goals as goal

not_hyphen : (word : List ℕ) → bytes_eq word (codes "-") ≡ false → word ≢ codes "-"
not_hyphen word other e = false≢true (sym other ∙ (bytes_eq-Decides word (codes "-")).1 e)

pub returns : goal.returns
returns c =
    salt_read c.args.word.now c.read_counted_hex.result (not_hyphen c.args.word.now (sym c.eq.ensures ∙ c.if-eq.false)) c.read_counted_hex.ensures
