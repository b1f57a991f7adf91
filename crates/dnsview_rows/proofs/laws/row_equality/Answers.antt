use Rattle.std.proofs.Common.{ℕ, ◌≡◌, ◌==◌, rules, refl, subst}
use Rattle.std.specs.Prelude.{IsTrue}
use Rattle.std.proofs.lemmas.Bool.{false≢true}
use Rattle.std.specs.Cmp.Lexicographic.{bytes_decides}
use Rattle.dnsview_rows.specs.declared.row.RowFault.TheVariants as faults
use Rattle.dnsview_rows.specs.declared.row.RowField.{RowField}
use Rattle.dnsview_rows.specs.declared.row.RowField.TheVariants.{Id, Flags, Count, Item, Label, Root, Pointer, Named, «Type», Class, Ttl, RdLength, Data, Text}
use Rattle.dnsview_rows.specs.declared.row.RowField.TheVariants.{PayloadSize, ExtendedRcode, Version, OptFlags, OptionCode, OptionLength, OptionData}
use Rattle.dnsview_rows.specs.declared.row.RowKind.TheVariants as kinds
use Rattle.dnsview_rows.proofs.RowsDecided.{both, with_number, row_decided}
use Rattle.dnsview_rows.proofs.laws.row_equality.Goals as goal

-- the place of a field's variant
abbrev variant : RowField → ℕ
variant Id = 0
variant Flags = 1
variant (Count _) = 2
variant (Item _ _) = 3
variant (Label _) = 4
variant (Root _ _) = 5
variant (Pointer _ _) = 6
variant «Type» = 7
variant Class = 8
variant Ttl = 9
variant RdLength = 10
variant Data = 11
variant (Named _ _) = 12
variant Text = 13
variant PayloadSize = 14
variant ExtendedRcode = 15
variant Version = 16
variant OptFlags = 17
variant OptionCode = 18
variant (OptionLength _) = 19
variant (OptionData _) = 20

-- fields of different variants are not the same: where they were, their places would be
differ : (a b : RowField) → a ≡ b → IsTrue (variant a == variant a) → IsTrue (variant a == variant b)
differ a b e h = let P : RowField → Type 0 = λ v. IsTrue (variant a == variant v) in subst P e h

pub returns-clause-field : goal.returns-clause-field
returns-clause-field c Id Id = (λ _. refl, λ _. refl)
returns-clause-field c Flags Flags = (λ _. refl, λ _. refl)
returns-clause-field c (Count x) (Count y) = search rules
returns-clause-field c (Item x m) (Item y n) = search rules
returns-clause-field c (Label x) (Label y) = search rules
returns-clause-field c (Root x m) (Root y n) = with_number _ m n (search rules)
returns-clause-field c (Pointer x m) (Pointer y n) = with_number _ m n (search rules)
returns-clause-field c «Type» «Type» = (λ _. refl, λ _. refl)
returns-clause-field c Class Class = (λ _. refl, λ _. refl)
returns-clause-field c Ttl Ttl = (λ _. refl, λ _. refl)
returns-clause-field c RdLength RdLength = (λ _. refl, λ _. refl)
returns-clause-field c Data Data = (λ _. refl, λ _. refl)
returns-clause-field c (Named x j) (Named y k) = both _ _ (bytes_decides x.now y.now) (search rules)
returns-clause-field c Text Text = (λ _. refl, λ _. refl)
returns-clause-field c PayloadSize PayloadSize = (λ _. refl, λ _. refl)
returns-clause-field c ExtendedRcode ExtendedRcode = (λ _. refl, λ _. refl)
returns-clause-field c Version Version = (λ _. refl, λ _. refl)
returns-clause-field c OptFlags OptFlags = (λ _. refl, λ _. refl)
returns-clause-field c OptionCode OptionCode = (λ _. refl, λ _. refl)
returns-clause-field c (OptionLength x) (OptionLength y) = search rules
returns-clause-field c (OptionData x) (OptionData y) = search rules
returns-clause-field c a b = (λ e. absurd (false≢true e), λ e. differ a b e refl)

pub returns-clause-fault : goal.returns-clause-fault
returns-clause-fault c (faults.Short x) (faults.Short y) = returns-clause-field c x y
returns-clause-fault c x y = search rules

pub returns-clause-kind : goal.returns-clause-kind
returns-clause-kind c (kinds.Field x) (kinds.Field y) = returns-clause-field c x y
returns-clause-kind c (kinds.Fault x) (kinds.Fault y) = returns-clause-fault c x y
returns-clause-kind c kinds.ShortHeader kinds.ShortHeader = (λ _. refl, λ _. refl)
returns-clause-kind c kinds.Unread kinds.Unread = (λ _. refl, λ _. refl)
returns-clause-kind c x y = (λ e. absurd (false≢true e), λ e. cc)

pub returns-clause-row : goal.returns-clause-row
returns-clause-row c x y = row_decided _ x y (returns-clause-kind c x.kind y.kind)
